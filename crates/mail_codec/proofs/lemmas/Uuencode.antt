-- Uuencoded text by its lines, and a line by its groups.
use Rattle.std.proofs.Common.{◌≡◌, ℕ, zero, suc, ◌+◌, ◌-◌, ◌<◌, ◌≤◌, min, Bool, true, false, cond, List, [], ◌∷◌, ◌++◌, length, take, drop, refl, sym, ap, ◌∙◌, arith, inl, inr, append-nil, append_assoc, None, Some}
use Rattle.std.specs.Prelude.{◌&&◌, nat_lt, codes, Option}
use Rattle.std.specs.Char.{is_ascii_whitespace}
use Rattle.std.specs.List.{flat_map, list_all, position_or_len}
use Rattle.std.specs.Option.{option_map}
use Rattle.std.proofs.lemmas.Bool.{and_parts, cases_lt}
use Rattle.std.proofs.lemmas.Bool.Decides.{nat_tests}
use Rattle.std.proofs.lemmas.List.{drop-drop, drop_all, take_all, length-drop, length-take-le}
use Rattle.std.proofs.lemmas.List.Splits.{slice_split_none, slice_split_first}
use Rattle.std.proofs.lemmas.List.Sums.{fails_before_first}
use Rattle.mail_codec.specs.Places.{begins, first_place, has_prefix, place_from}
use Rattle.mail_codec.specs.Uuencode.{File, after_line, begin_from, begins_file, bytes_of, data_bytes, data_length, data_lines, ends_file, file_at, file_of, first_bytes, first_file, is_data, is_letter, is_lf, line_at, line_bytes, lines_length, lines_of, mode_end, name_end, name_start, needed, value_at}
use Rattle.mail_codec.proofs.lemmas.Places.{first_place-begins}

-- ---- a group of a line

-- the first bytes, and then those of the letters after four
pub bytes_of-more : (left : ℕ) (rest : List ℕ) → 0 < left
    → bytes_of left rest ≡ take (min left 3) (first_bytes rest) ++ bytes_of (left - min left 3) (drop 4 rest)
unfolding first_bytes
bytes_of-more zero rest some = absurd (omega arith)
bytes_of-more (suc zero) rest some = refl
bytes_of-more (suc (suc zero)) rest some = refl
bytes_of-more (suc (suc (suc left))) rest some =
    let three : min (suc (suc (suc left))) 3 ≡ 3 = omega arith in
    let fewer : suc (suc (suc left)) - 3 ≡ left = omega arith in
    sym (ap (λ (n : ℕ). take n (first_bytes rest) ++ bytes_of (suc (suc (suc left)) - n) (drop 4 rest)) three ∙ ap (λ (n : ℕ). take 3 (first_bytes rest) ++ bytes_of n (drop 4 rest)) fewer)

pub group_step : (left len : ℕ) (rest old new all : List ℕ) → 0 < left → len ≡ min left 3 → new ≡ old ++ take len (first_bytes rest)
    → old ++ bytes_of left rest ≡ all → new ++ bytes_of (left - len) (drop 4 rest) ≡ all
group_step left len rest old new all some len_is new_is is =
    ap (λ (x : List ℕ). x ++ bytes_of (left - len) (drop 4 rest)) new_is
    ∙ append_assoc old (take len (first_bytes rest)) (bytes_of (left - len) (drop 4 rest))
    ∙ ap (λ (n : ℕ). old ++ (take n (first_bytes rest) ++ bytes_of (left - n) (drop 4 rest))) len_is
    ∙ ap (λ (x : List ℕ). old ++ x) (sym (bytes_of-more left rest some))
    ∙ is

pub group_end : (left : ℕ) (rest bytes all : List ℕ) → left ≡ 0 → bytes ++ bytes_of left rest ≡ all → bytes ≡ all
group_end left rest bytes all none is =
    sym (append-nil bytes) ∙ ap (λ (n : ℕ). bytes ++ bytes_of n rest) (sym none) ∙ is

-- as many bytes as are asked for
bytes_of-length : (count : ℕ) (text : List ℕ) → length (bytes_of count text) ≡ count
unfolding first_bytes
bytes_of-length zero text = refl
bytes_of-length (suc zero) text = refl
bytes_of-length (suc (suc zero)) text = refl
bytes_of-length (suc (suc (suc count))) text = ap (λ (n : ℕ). suc (suc (suc n))) (bytes_of-length count (drop 4 text))

-- ---- a line

pub line_bytes-length : (line : List ℕ) → length (line_bytes line) ≡ value_at line 0
unfolding line_bytes
line_bytes-length line = bytes_of-length (value_at line 0) (drop 1 line)

pub line_bytes-is : (line letters : List ℕ) (count : ℕ) → letters ≡ drop 1 line → count ≡ value_at line 0 → bytes_of count letters ≡ line_bytes line
unfolding line_bytes
line_bytes-is line letters count letters_are count_is = ap (bytes_of count) letters_are ∙ ap (λ (n : ℕ). bytes_of n (drop 1 line)) count_is

pub is_data-is : (line letters : List ℕ) (n : ℕ) → letters ≡ take n line → n ≡ needed line → list_all is_letter letters ≡ is_data line
unfolding is_data
is_data-is line letters n letters_are n_is = ap (list_all is_letter) letters_are ∙ ap (λ (n : ℕ). list_all is_letter (take n line)) n_is

pub begins_file-no : (line : List ℕ) → has_prefix (codes "begin ") line ≡ false → false ≡ begins_file line
unfolding begins_file
begins_file-no line fails = sym (ap (λ b. b && (nat_lt 8 (mode_end line) && (nat_lt (mode_end line) (name_start line) && nat_lt (name_start line) (name_end line)))) fails)

pub begins_file-yes : (line : List ℕ) (mode start end : ℕ) → has_prefix (codes "begin ") line ≡ true → mode ≡ mode_end line → start ≡ name_start line → end ≡ name_end line
    → (nat_lt 8 mode && (nat_lt mode start && nat_lt start end)) ≡ begins_file line
unfolding begins_file
begins_file-yes line mode start end holds mode_is start_is end_is =
    ap (λ (k : ℕ). nat_lt 8 k && (nat_lt k start && nat_lt start end)) mode_is
    ∙ ap (λ (k : ℕ). nat_lt 8 (mode_end line) && (nat_lt (mode_end line) k && nat_lt k end)) start_is
    ∙ ap (λ (k : ℕ). nat_lt 8 (mode_end line) && (nat_lt (mode_end line) (name_start line) && nat_lt (name_start line) k)) end_is
    ∙ sym (ap (λ b. b && (nat_lt 8 (mode_end line) && (nat_lt (mode_end line) (name_start line) && nat_lt (name_start line) (name_end line)))) holds)

pub ends_file-no : (line : List ℕ) → has_prefix (codes "end") line ≡ false → false ≡ ends_file line
unfolding ends_file
ends_file-no line fails = sym (ap (λ b. b && list_all is_ascii_whitespace (drop 3 line)) fails)

pub ends_file-yes : (line rest : List ℕ) → has_prefix (codes "end") line ≡ true → rest ≡ drop 3 line → list_all is_ascii_whitespace rest ≡ ends_file line
unfolding ends_file
ends_file-yes line rest holds rest_is = ap (list_all is_ascii_whitespace) rest_is ∙ sym (ap (λ b. b && list_all is_ascii_whitespace (drop 3 line)) holds)

pub line_at-is : (text : List ℕ) (at end : ℕ) → end ≡ place_from (begins is_lf) text at → take (end - at) (drop at text) ≡ line_at text at
unfolding line_at
line_at-is text at end end_is =
    ap (λ (n : ℕ). take n (drop at text)) {x = end - at} {y = position_or_len is_lf (drop at text)} (omega (arith, end_is, first_place-begins is_lf (drop at text)))

-- a line that begins a file has a name
pub name_some : (line : List ℕ) → begins_file line ≡ true → name_start line < name_end line
unfolding begins_file
name_some line holds =
    let after_begin = and_parts (has_prefix (codes "begin ") line) _ holds in
    let after_mode = and_parts (nat_lt 8 (mode_end line)) _ after_begin.1 in
    let name : nat_lt (name_start line) (name_end line) ≡ true = (and_parts (nat_lt (mode_end line) (name_start line)) _ after_mode.1).1 in
    grind (arith, nat_tests)

pub name_within : (text line : List ℕ) (begin s t : ℕ) → line ≡ line_at text begin → begins_file (line_at text begin) ≡ true
    → s ≡ name_start line → t ≡ name_end line → s < t
name_within text line begin s t line_is holds s_is t_is =
    omega (arith, s_is, t_is, name_some line (ap begins_file line_is ∙ holds))

-- ---- a file by its parts

abbrev built : ℕ → ℕ → ℕ → ℕ → ℕ → ℕ → Bool → File
built begin name_from name_to start end stop ended = record {
  name = record { start = name_from; end = name_to };
  lines = record { start = start; end = end };
  block = record { start = begin; end = stop };
  is_ended = ended;
}

pub file_is : (text : List ℕ) (begin start len stop s t : ℕ) (line rest last : List ℕ) (ended : Bool)
    → line ≡ line_at text begin → s ≡ name_start line → t ≡ name_end line → start ≡ after_line text begin → rest ≡ drop start text → len ≡ data_length rest
    → last ≡ line_at text (start + len) → ended ≡ ends_file last → stop ≡ cond ended (after_line text (start + len)) (start + len)
    → built begin (begin + s) (begin + t) start (start + len) stop ended ≡ file_at text begin
unfolding file_at file_of
file_is text begin start len stop s t line rest last ended line_is s_is t_is start_is rest_is len_is last_is ended_is stop_is =
    let from : ℕ = after_line text begin in
    let count : ℕ = data_length (drop from text) in
    let to : ℕ = from + count in
    let len_at : len ≡ count = len_is ∙ ap data_length (rest_is ∙ ap (λ (k : ℕ). drop k text) start_is) in
    let end_at : start + len ≡ to = ap (λ (k : ℕ). k + len) start_is ∙ ap (λ (k : ℕ). from + k) len_at in
    let ended_at : ended ≡ ends_file (line_at text to) = ended_is ∙ ap ends_file (last_is ∙ ap (line_at text) end_at) in
    let stop_at : stop ≡ cond (ends_file (line_at text to)) (after_line text to) to =
    stop_is ∙ ap (λ (k : ℕ). cond ended (after_line text k) k) end_at ∙ ap (λ b. cond b (after_line text to) to) ended_at in
    let s_at : s ≡ name_start (line_at text begin) = s_is ∙ ap name_start line_is in
    let t_at : t ≡ name_end (line_at text begin) = t_is ∙ ap name_end line_is in
    ap (λ (k : ℕ). built begin (begin + k) (begin + t) start (start + len) stop ended) s_at
    ∙ ap (λ (k : ℕ). built begin (begin + name_start (line_at text begin)) (begin + k) start (start + len) stop ended) t_at
    ∙ ap (λ (k : ℕ). built begin (begin + name_start (line_at text begin)) (begin + name_end (line_at text begin)) k (start + len) stop ended) start_is
    ∙ ap (λ (k : ℕ). built begin (begin + name_start (line_at text begin)) (begin + name_end (line_at text begin)) from k stop ended) end_at
    ∙ ap (λ (k : ℕ). built begin (begin + name_start (line_at text begin)) (begin + name_end (line_at text begin)) from to k ended) stop_at
    ∙ ap (λ b. built begin (begin + name_start (line_at text begin)) (begin + name_end (line_at text begin)) from to (cond (ends_file (line_at text to)) (after_line text to) to) b) ended_at

pub first_file-is : (text : List ℕ) (found : Option ℕ) → found ≡ begin_from 0 (lines_of text) → option_map (file_at text) found ≡ first_file text
unfolding first_file
first_file-is text found is = ap (option_map (file_at text)) is

-- ---- a text by its first line

module _ (text : List ℕ) (e : ℕ) (e_is : e ≡ first_place (begins is_lf) text) where
  there : e ≡ position_or_len is_lf text
  there = e_is ∙ first_place-begins is_lf text

  pub lines_more : e < length text → lines_of text ≡ take e text ∷ lines_of (drop (e + 1) text)
  lines_more lt =
      slice_split_first is_lf text 0 (omega (arith, there))
      ∙ ap (λ (n : ℕ). take n text ∷ lines_of (drop (n + 1) text)) (sym there)

  pub lines_last : length text ≤ e → lines_of text ≡ take e text ∷ []
  lines_last end =
      slice_split_none is_lf text (λ k d lt. fails_before_first is_lf text k d (omega (arith, there)))
      ∙ ap (λ (x : List ℕ). x ∷ []) (sym (take_all e text end))

data_bytes-nil : data_bytes [] ≡ []
unfolding data_bytes line_bytes is_data
data_bytes-nil = refl

data_length-nil : data_length [] ≡ 0
unfolding data_length
data_length-nil = let none : min (lines_length (data_lines (lines_of []))) 0 ≡ 0 = omega arith in none

-- the data by its first line
pub data_bytes-cons : (text line : List ℕ) (lines : List (List ℕ)) → lines_of text ≡ line ∷ lines → is_data line ≡ true
    → data_bytes text ≡ line_bytes line ++ flat_map line_bytes (data_lines lines)
unfolding data_bytes
data_bytes-cons text line lines is holds =
    ap (λ ls. flat_map line_bytes (data_lines ls)) is
    ∙ ap (λ b. flat_map line_bytes (cond b (line ∷ data_lines lines) [])) holds

pub data_length-cons : (text line : List ℕ) (lines : List (List ℕ)) → lines_of text ≡ line ∷ lines → is_data line ≡ true
    → data_length text ≡ min (length line + 1 + lines_length (data_lines lines)) (length text)
unfolding data_length
data_length-cons text line lines is holds =
    ap (λ ls. min (lines_length (data_lines ls)) (length text)) is
    ∙ ap (λ b. min (lines_length (cond b (line ∷ data_lines lines) [])) (length text)) holds

min_moved : (n l k : ℕ) → n ≤ k → min (n + l) k ≡ n + min l (k - n)
min_moved n l k le = omega arith

pub data_length-is : (text : List ℕ) → data_length text ≡ min (lines_length (data_lines (lines_of text))) (length text)
unfolding data_length
data_length-is text = refl

pub data_bytes-is : (text : List ℕ) → data_bytes text ≡ flat_map line_bytes (data_lines (lines_of text))
unfolding data_bytes
data_bytes-is text = refl

module _ (text : List ℕ) (e : ℕ) (e_is : e ≡ first_place (begins is_lf) text) (next : ℕ) (next_is : next ≡ min (e + 1) (length text)) where
  none_left : min 0 (length text) ≡ 0
  none_left = omega arith

  -- no data
  pub none_read : is_data (take e text) ≡ false → (data_bytes text ≡ []) × (data_length text ≡ 0)
  none_read fails = elim (cases_lt e (length text)) [
    | inl lt ↦ (
      data_bytes-is text ∙ ap (λ ls. flat_map line_bytes (data_lines ls)) (lines_more text e e_is lt) ∙ ap (λ b. flat_map line_bytes (cond b (take e text ∷ data_lines (lines_of (drop (e + 1) text))) [])) fails,
      data_length-is text ∙ ap (λ ls. min (lines_length (data_lines ls)) (length text)) (lines_more text e e_is lt) ∙ ap (λ b. min (lines_length (cond b (take e text ∷ data_lines (lines_of (drop (e + 1) text))) [])) (length text)) fails ∙ none_left,
    )
    | inr ge ↦ (
      data_bytes-is text ∙ ap (λ ls. flat_map line_bytes (data_lines ls)) (lines_last text e e_is ge) ∙ ap (λ b. flat_map line_bytes (cond b (take e text ∷ []) [])) fails,
      data_length-is text ∙ ap (λ ls. min (lines_length (data_lines ls)) (length text)) (lines_last text e e_is ge) ∙ ap (λ b. min (lines_length (cond b (take e text ∷ []) [])) (length text)) fails ∙ none_left,
    )
  ]

  -- a line of data, and the rest
  pub line_read : is_data (take e text) ≡ true
      → (data_bytes text ≡ line_bytes (take e text) ++ data_bytes (drop next text)) × (data_length text ≡ next + data_length (drop next text))
  line_read holds = elim (cases_lt e (length text)) [
    | inl lt ↦
        let n : next ≡ e + 1 = omega (arith, next_is) in
        let there : drop (e + 1) text ≡ drop next text = ap (λ (k : ℕ). drop k text) (sym n) in
        let len : length (take e text) ≡ e = length-take-le e text (omega (arith, lt)) in
        let left : length (drop next text) ≡ length text - next = length-drop next text in
        let rest : List (List ℕ) = lines_of (drop next text) in
        let is : lines_of text ≡ take e text ∷ rest = lines_more text e e_is lt ∙ ap (λ (x : List ℕ). take e text ∷ lines_of x) there in (
          data_bytes-cons text (take e text) rest is holds ∙ ap (λ (x : List ℕ). line_bytes (take e text) ++ x) (sym (data_bytes-is (drop next text))),
          data_length-cons text (take e text) rest is holds
              ∙ ap (λ (k : ℕ). min (k + lines_length (data_lines rest)) (length text)) {x = length (take e text) + 1} {y = next} (omega (arith, len, n))
              ∙ min_moved next (lines_length (data_lines rest)) (length text) (omega (arith, n))
              ∙ ap (λ (k : ℕ). next + min (lines_length (data_lines rest)) k) (sym left)
              ∙ ap (λ (k : ℕ). next + k) (sym (data_length-is (drop next text))),
        )
    | inr ge ↦
        let n : next ≡ length text = omega (arith, next_is) in
        let none : drop next text ≡ [] = drop_all next text (omega arith) in
        let all : length (take e text) ≡ length text = ap length (take_all e text ge) in
        let is : lines_of text ≡ take e text ∷ [] = lines_last text e e_is ge in
        let rest_none : data_length (drop next text) ≡ 0 = ap data_length none ∙ data_length-nil in
        let one : min (length (take e text) + 1 + 0) (length text) ≡ next + data_length (drop next text) = omega (arith, all, n, rest_none) in (
          data_bytes-cons text (take e text) [] is holds ∙ ap (λ (x : List ℕ). line_bytes (take e text) ++ x) (sym (ap data_bytes none ∙ data_bytes-nil)),
          data_length-cons text (take e text) [] is holds ∙ one,
        )
  ]

  begins-nil : begins_file [] ≡ false
  unfolding begins_file
  begins-nil = refl

  begin_from-skip : (k : ℕ) (line : List ℕ) (lines : List (List ℕ)) → begins_file line ≡ false → begin_from k (line ∷ lines) ≡ begin_from (k + length line + 1) lines
  begin_from-skip k line lines fails = ap (λ b. cond b (Some k) (begin_from (k + length line + 1) lines)) fails

  pub begin_passed : (k : ℕ) → begins_file (take e text) ≡ false → begin_from k (lines_of text) ≡ begin_from (k + next) (lines_of (drop next text))
  begin_passed k fails = elim (cases_lt e (length text)) [
    | inl lt ↦
        let n : next ≡ e + 1 = omega (arith, next_is) in
        let len : length (take e text) ≡ e = length-take-le e text (omega (arith, lt)) in
        ap (begin_from k) (lines_more text e e_is lt) ∙ begin_from-skip k (take e text) (lines_of (drop (e + 1) text)) fails
        ∙ ap (λ (j : ℕ). begin_from j (lines_of (drop (e + 1) text))) {x = k + length (take e text) + 1} {y = k + next} (omega (arith, len, n))
        ∙ ap (λ (j : ℕ). begin_from (k + next) (lines_of (drop j text))) (sym n)
    | inr ge ↦
        let none : drop next text ≡ [] = drop_all next text (omega (arith, next_is)) in
        ap (begin_from k) (lines_last text e e_is ge) ∙ begin_from-skip k (take e text) [] fails
        ∙ sym (ap (λ (x : List ℕ). begin_from (k + next) (lines_of x)) none ∙ begin_from-skip (k + next) [] [] begins-nil)
  ]

  pub begin_here : (k : ℕ) → begins_file (take e text) ≡ true → begin_from k (lines_of text) ≡ Some k
  begin_here k holds = elim (cases_lt e (length text)) [
    | inl lt ↦ ap (begin_from k) (lines_more text e e_is lt) ∙ ap (λ b. cond b (Some k) (begin_from (k + length (take e text) + 1) (lines_of (drop (e + 1) text)))) holds
    | inr ge ↦ ap (begin_from k) (lines_last text e e_is ge) ∙ ap (λ b. cond b (Some k) (begin_from (k + length (take e text) + 1) [])) holds
  ]

begin_from-nil : (k : ℕ) → begin_from k (lines_of []) ≡ None
unfolding begins_file
begin_from-nil k = refl

-- ---- the loops over lines, at an offset

module _ (text : List ℕ) (at end next : ℕ) (low : at < length text) (end_is : end ≡ place_from (begins is_lf) text at)
    (next_is : next ≡ min (end + 1) (length text)) where
  e_is : end - at ≡ first_place (begins is_lf) (drop at text)
  e_is = omega (arith, end_is)

  step_is : next - at ≡ min (end - at + 1) (length (drop at text))
  step_is = omega (arith, next_is, length-drop at text, end_is)

  on : drop (next - at) (drop at text) ≡ drop next text
  on = drop-drop (next - at) at text ∙ ap (λ (k : ℕ). drop k text) {x = at + (next - at)} {y = next} (omega (arith, next_is, end_is))

  pub at_data : (line : List ℕ) → line ≡ take (end - at) (drop at text) → is_data line ≡ true
      → (data_bytes (drop at text) ≡ line_bytes line ++ data_bytes (drop next text)) × (at + data_length (drop at text) ≡ next + data_length (drop next text))
  at_data line line_is holds =
      let read = line_read (drop at text) (end - at) e_is (next - at) step_is (ap is_data (sym line_is) ∙ holds) in (
        read.0 ∙ ap (λ (x : List ℕ). line_bytes x ++ data_bytes (drop (next - at) (drop at text))) (sym line_is) ∙ ap (λ (x : List ℕ). line_bytes line ++ data_bytes x) on,
        omega (arith, read.1, ap data_length on, next_is, end_is),
      )

  pub at_none : (line : List ℕ) → line ≡ take (end - at) (drop at text) → is_data line ≡ false
      → (data_bytes (drop at text) ≡ []) × (data_length (drop at text) ≡ 0)
  at_none line line_is fails = none_read (drop at text) (end - at) e_is (next - at) step_is (ap is_data (sym line_is) ∙ fails)

  pub at_passed : (line : List ℕ) → line ≡ take (end - at) (drop at text) → begins_file line ≡ false
      → begin_from at (lines_of (drop at text)) ≡ begin_from next (lines_of (drop next text))
  at_passed line line_is fails =
      begin_passed (drop at text) (end - at) e_is (next - at) step_is at (ap begins_file (sym line_is) ∙ fails)
      ∙ ap (λ (k : ℕ). begin_from k (lines_of (drop (next - at) (drop at text)))) {x = at + (next - at)} {y = next} (omega (arith, next_is, end_is))
      ∙ ap (λ (x : List ℕ). begin_from next (lines_of x)) on

  pub at_begin : (line : List ℕ) → line ≡ take (end - at) (drop at text) → begins_file line ≡ true → begin_from at (lines_of (drop at text)) ≡ Some at
  at_begin line line_is holds = begin_here (drop at text) (end - at) e_is (next - at) step_is at (ap begins_file (sym line_is) ∙ holds)

-- at the end nothing is left
pub end_data : (text : List ℕ) (at : ℕ) → length text ≤ at → (data_bytes (drop at text) ≡ []) × (data_length (drop at text) ≡ 0)
end_data text at over = (ap data_bytes (drop_all at text over) ∙ data_bytes-nil, ap data_length (drop_all at text over) ∙ data_length-nil)

pub end_begin : (text : List ℕ) (at : ℕ) → length text ≤ at → begin_from at (lines_of (drop at text)) ≡ None
end_begin text at over = ap (λ (x : List ℕ). begin_from at (lines_of x)) (drop_all at text over) ∙ begin_from-nil at

-- lines read up to an offset: the bytes so far and those of the rest are all, and so are the lengths
pub record IsDecoding (text bytes : List ℕ) (at : ℕ) : Type 0 where
  pub within : at ≤ length text
  pub so_far : bytes ++ data_bytes (drop at text) ≡ data_bytes text
  pub counted : at + data_length (drop at text) ≡ data_length text

pub record IsCounting (text : List ℕ) (at : ℕ) : Type 0 where
  pub within : at ≤ length text
  pub counted : at + data_length (drop at text) ≡ data_length text

pub record IsPassing (text : List ℕ) (at : ℕ) : Type 0 where
  pub within : at ≤ length text
  pub same : begin_from at (lines_of (drop at text)) ≡ begin_from 0 (lines_of text)

-- lines read up to an offset: what is left of a limit, and the bytes of the rest
pub record IsWithin (text : List ℕ) (at limit left : ℕ) : Type 0 where
  pub within : at ≤ length text
  pub less : left ≤ limit
  pub counted : length (data_bytes (drop at text)) + limit ≡ length (data_bytes text) + left
