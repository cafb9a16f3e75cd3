-- Lemmas on safe names of files.
use Rattle.std.proofs.Common.{◌≡◌, ◌≢◌, ℕ, zero, suc, ◌+◌, ◌-◌, ◌*◌, ◌<◌, ◌≤◌, Bool, true, false, not, eqb, List, [], ◌∷◌, ◌++◌, ◌||◌, ◌&&◌, length, take, drop, get_or, map, if◌then◌else◌, refl, sym, ap, ◌∙◌, arith, append_assoc, length-append, inl, inr}
use Rattle.std.specs.Prelude.{nat_le, nat_lt, codes}
use Rattle.std.specs.Char.{encode_utf8, is_ascii_alphabetic, len_utf8}
use Rattle.std.specs.List.{list_all}
use Rattle.std.specs.Str.{chars, encode_utf8_all, IsUtf8, bytes_eq}
use Rattle.std.proofs.lemmas.Bool.{cond-true, cond-false, cond_both, cases_Bool, leb-true, leb-false, le-ltb, lt-ltb, ltb-true, ltb-false, and_parts, and_from, or_parts, or_cases, not-true, eq-eqb, eqb-true, false≢true}
use Rattle.std.proofs.lemmas.List.{append-nil, take_all}
use Rattle.std.proofs.lemmas.List.Folds.{list_all-append}
use Rattle.std.proofs.lemmas.List.Sums.{suffix_len-take_no, suffix_len-take_yes}
use Rattle.std.proofs.lemmas.Slice.Eq.{bytes_eq-Decides}
use Rattle.std.proofs.lemmas.Str.{chars-nil, chars-encodes, chars_past_char, encodes-append, encodes-chars, scalars-chars, length-encode, len_utf8_bounds}
use lib.Utf8.{scalar, scalars}
use Rattle.mail_codec.specs.Hidden.{is_hidden}
use Rattle.mail_codec.specs.Places.{is_empty, least}
use Rattle.mail_read.specs.FileNames.{after_dot, ending, fits, front_length, front_name, is_reserved, is_unsafe, is_windows_path, kept_ending, last_component, made_safe, most, safe_name, shortened, size, trailing, IsSafeName}

-- ---- as many characters as fit, one after another

-- the leading characters that fit in `capacity` bytes
abbrev front_within : ℕ → List ℕ → List ℕ
front_within capacity [] = []
front_within capacity (c ∷ cs) = if nat_le (len_utf8 c) capacity then c ∷ front_within (capacity - len_utf8 c) cs else []

-- tests that agree pass first at the same number
least-agrees : (f g : ℕ → Bool) → ((n : ℕ) → f n ≡ g n) → (bound : ℕ) → least f bound ≡ least g bound
least-agrees f g same zero = refl
least-agrees f g same (suc bound) =
    ap (λ (b : Bool). if b then 0 else suc (least (λ n. f (suc n)) bound)) (same 0)
    ∙ ap (λ (n : ℕ). if g 0 then 0 else suc n) (least-agrees (λ n. f (suc n)) (λ n. g (suc n)) (λ n. same (suc n)) bound)

least-within : (f : ℕ → Bool) (bound : ℕ) → least f bound ≤ bound
least-within f zero = omega arith
least-within f (suc bound) = let later = least-within (λ n. f (suc n)) bound in cond_both (f 0) 0 _ (λ n. n ≤ suc bound) (λ e. omega arith) (λ e. omega (arith, later))

-- bytes that do not fit beside a character do not fit in the capacity left after it
more_than_left : (capacity width all rest : ℕ) → width ≤ capacity → all ≡ width + rest → nat_lt capacity all ≡ nat_lt (capacity - width) rest
more_than_left capacity width all rest fits sum = elim (cases_Bool (nat_lt (capacity - width) rest)) [
  | inl more ↦ let big = ltb-true (capacity - width) rest more in lt-ltb capacity all (omega (arith, big, fits, sum)) ∙ sym more
  | inr none ↦ let small = ltb-false (capacity - width) rest none in le-ltb capacity all (omega (arith, small, fits, sum)) ∙ sym none
]

size-more : (c n : ℕ) (cs : List ℕ) → size (c ∷ take n cs) ≡ len_utf8 c + size (take n cs)
size-more c n cs = length-append (encode_utf8 c) (encode_utf8_all (take n cs)) ∙ ap (λ k. k + size (take n cs)) (length-encode c)

-- one more character, if it fits
pub front_length-more : (capacity c : ℕ) (cs : List ℕ) → len_utf8 c ≤ capacity → front_length capacity (c ∷ cs) ≡ suc (front_length (capacity - len_utf8 c) cs)
front_length-more capacity c cs fits =
    let width = len_utf8 c in
    let first = le-ltb capacity (size (c ∷ take 0 cs)) (omega (arith, fits, size-more c 0 cs)) in
    cond-false (nat_lt capacity (size (c ∷ take 0 cs))) 0 _ first
    ∙ ap suc (least-agrees (λ n. nat_lt capacity (size (c ∷ take (suc n) cs))) (λ n. nat_lt (capacity - width) (size (take (suc n) cs)))
    (λ n. more_than_left capacity width _ _ fits (size-more c (suc n) cs)) (length cs))

pub front_length-stop : (capacity c : ℕ) (cs : List ℕ) → capacity < len_utf8 c → front_length capacity (c ∷ cs) ≡ 0
front_length-stop capacity c cs big =
    cond-true (nat_lt capacity (size (c ∷ take 0 cs))) 0 _ (lt-ltb capacity (size (c ∷ take 0 cs)) (omega (arith, big, size-more c 0 cs)))

pub front_length-within : (capacity : ℕ) (cs : List ℕ) → front_length capacity cs ≤ length cs
front_length-within capacity cs = least-within (λ n. nat_lt capacity (size (take (suc n) cs))) (length cs)

front_within-takes : (capacity : ℕ) (cs : List ℕ) → front_within capacity cs ≡ take (front_length capacity cs) cs
front_within-takes capacity [] = refl
front_within-takes capacity (c ∷ cs) = elim (cases_Bool (nat_le (len_utf8 c) capacity)) [
  | inl f ↦
      cond-true (nat_le (len_utf8 c) capacity) _ _ f ∙ ap (λ (ds : List ℕ). c ∷ ds) (front_within-takes (capacity - len_utf8 c) cs)
      ∙ ap (λ (n : ℕ). take n (c ∷ cs)) (sym (front_length-more capacity c cs (leb-true (len_utf8 c) capacity f)))
  | inr n ↦
      cond-false (nat_le (len_utf8 c) capacity) _ _ n
      ∙ ap (λ (k : ℕ). take k (c ∷ cs)) (sym (front_length-stop capacity c cs (leb-false (len_utf8 c) capacity n)))
]

-- the number that a loop has counted, when these characters and this number of bytes are left
pub record CountsTo (capacity : ℕ) (cs : List ℕ) (left : ℕ) (rest : List ℕ) : Type 0 where
  pub within : length rest ≤ length cs
  pub same : length cs - length rest + front_length left rest ≡ front_length capacity cs

pub CountsTo-more : {capacity : ℕ} {cs : List ℕ} {left : ℕ} {rest : List ℕ} (c : ℕ) (after : List ℕ) (less : ℕ) → CountsTo capacity cs left rest → rest ≡ c ∷ after
    → len_utf8 c ≤ left → less ≡ left - len_utf8 c → CountsTo capacity cs less after
CountsTo-more {left = left} c after less counts cut fits is =
    let within = counts.within in
    let same = counts.same in
    let one = ap (front_length left) cut ∙ front_length-more left c after fits in
    let next = ap (λ n. front_length n after) is in
    let len = ap length cut in
    record { within = omega (arith, within, len); same = omega (arith, within, same, one, next, len) }

pub CountsTo-stop : {capacity : ℕ} {cs : List ℕ} {left : ℕ} {rest : List ℕ} (c : ℕ) (after : List ℕ) → CountsTo capacity cs left rest → rest ≡ c ∷ after → left < len_utf8 c
    → length cs - length rest ≡ front_length capacity cs
CountsTo-stop {left = left} c after counts cut big =
    let same = counts.same in
    let none = ap (front_length left) cut ∙ front_length-stop left c after big in
    omega (arith, same, none)

pub CountsTo-start : (capacity : ℕ) (cs : List ℕ) (left : ℕ) (rest : List ℕ) → left ≡ capacity → rest ≡ cs → CountsTo capacity cs left rest
CountsTo-start capacity cs left rest same all =
    let len = ap length all in
    let front = ap (λ n. front_length n rest) same ∙ ap (front_length capacity) all in
    record { within = omega (arith, len); same = omega (arith, len, front) }

pub CountsTo-end : {capacity : ℕ} {cs : List ℕ} {left : ℕ} {rest : List ℕ} → CountsTo capacity cs left rest → length rest ≡ 0 → length cs ≡ front_length capacity cs
CountsTo-end {left = left} {rest = []} counts none =
    let same = counts.same in
    omega (arith, same)
CountsTo-end {rest = c ∷ rest} counts none = absurd (omega (arith, none))

-- ---- the characters of a name

pub characters-start : (name made rest : List ℕ) → made ≡ [] → rest ≡ name → made ++ chars rest ≡ chars name
characters-start name made rest none all = ap (λ (cs : List ℕ). cs ++ chars rest) none ∙ ap chars all

pub characters-more : (made new rest next : List ℕ) (c : ℕ) → IsUtf8 rest → rest ≡ encode_utf8 c ++ next → new ≡ made ++ c ∷ [] → new ++ chars next ≡ made ++ chars rest
characters-more made new rest next c utf8 e push =
    ap (λ (cs : List ℕ). cs ++ chars next) push ∙ append_assoc made (c ∷ []) (chars next) ∙ ap (λ (cs : List ℕ). made ++ cs) (sym (chars_past_char rest next c utf8 e))

pub characters-end : (made rest : List ℕ) → rest ≡ [] → made ≡ made ++ chars rest
characters-end made rest none = sym (append-nil made) ∙ ap (λ (cs : List ℕ). made ++ cs) (sym (ap chars none ∙ chars-nil))

-- ---- the leading characters and the ending, one after another

pub shortened-made : (cs none one both front ending : List ℕ) (n bytes : ℕ) → none ≡ [] → one ≡ none ++ encode_utf8_all front → both ≡ one ++ encode_utf8_all ending → ending ≡ kept_ending cs
    → bytes ≡ size ending → n ≡ front_length (255 - bytes) cs → front ≡ take n cs → both ≡ encode_utf8_all (shortened cs)
shortened-made cs none one both front ending n bytes start first second kept sized counted cut =
    second ∙ ap (λ (t : List ℕ). t ++ encode_utf8_all ending) (first ∙ ap (λ (t : List ℕ). t ++ encode_utf8_all front) start)
    ∙ sym (encodes-append front ending)
    ∙ ap (λ (t : List ℕ). encode_utf8_all (t ++ ending)) (cut ∙ ap (λ k. take k cs) (counted ∙ ap (λ k. front_length (255 - k) cs) (sized ∙ ap size kept)))
    ∙ ap (λ (t : List ℕ). encode_utf8_all (take (front_length (255 - size (kept_ending cs)) cs) cs ++ t)) kept

-- ---- a name that was made safe is safe

pub all_safe : List ℕ → Bool
all_safe cs = list_all (λ c. not (is_unsafe c)) cs

made_safe-safe : (c : ℕ) → not (is_unsafe (made_safe c)) ≡ true
unfolding is_hidden
made_safe-safe c = cond_both (is_unsafe c) 95 c (λ d. not (is_unsafe d) ≡ true) (λ unsafe. refl) (λ safe. ap not safe)

all-made : (cs : List ℕ) → all_safe (map made_safe cs) ≡ true
unfolding all_safe
all-made [] = refl
all-made (c ∷ cs) = and_from _ _ (made_safe-safe c) (all-made cs)

made_safe-scalar : (c : ℕ) → scalar c ≡ true → scalar (made_safe c) ≡ true
made_safe-scalar c h = cond_both (is_unsafe c) 95 c (λ d. scalar d ≡ true) (λ unsafe. refl) (λ safe. h)

made-scalars : (cs : List ℕ) → scalars cs ≡ true → scalars (map made_safe cs) ≡ true
made-scalars [] h = refl
made-scalars (c ∷ cs) h = let parts = and_parts (scalar c) (scalars cs) h in and_from _ _ (made_safe-scalar c parts.0) (made-scalars cs parts.1)

pub scalars-are : (cs : List ℕ) → scalars cs ≡ list_all scalar cs
scalars-are [] = refl
scalars-are (c ∷ cs) = ap (λ t. scalar c && t) (scalars-are cs)

-- a test that all characters pass
module _ (test : ℕ → Bool) where
  all-take : (n : ℕ) (cs : List ℕ) → list_all test cs ≡ true → list_all test (take n cs) ≡ true
  all-take zero cs h = refl
  all-take (suc n) [] h = refl
  all-take (suc n) (c ∷ cs) h = let both = and_parts (test c) (list_all test cs) h in and_from _ _ both.0 (all-take n cs both.1)

  all-drop : (n : ℕ) (cs : List ℕ) → list_all test cs ≡ true → list_all test (drop n cs) ≡ true
  all-drop zero cs h = h
  all-drop (suc n) [] h = refl
  all-drop (suc n) (c ∷ cs) h = all-drop n cs (and_parts (test c) (list_all test cs) h).1

  all-ending : (cs : List ℕ) → list_all test cs ≡ true → list_all test (ending cs) ≡ true
  all-ending cs h =
      cond_both (nat_lt (suc (trailing 46 cs)) (length cs) && fits 17 (after_dot cs)) (after_dot cs) [] (λ (ds : List ℕ). list_all test ds ≡ true)
      (λ e. all-drop (length cs - suc (trailing 46 cs)) cs h) (λ e. refl)

  all-kept : (cs : List ℕ) → list_all test cs ≡ true → list_all test (kept_ending cs) ≡ true
  all-kept cs h = cond_both (fits most cs) [] (ending cs) (λ (ds : List ℕ). list_all test ds ≡ true) (λ e. refl) (λ e. all-ending cs h)

  all-shortened : (cs : List ℕ) → list_all test cs ≡ true → list_all test (shortened cs) ≡ true
  all-shortened cs h =
      let n = front_length (most - size (kept_ending cs)) cs in
      list_all-append test (take n cs) (kept_ending cs) ∙ and_from _ _ (all-take n cs h) (all-kept cs h)

-- ---- a name that was cut is short

front_within-short : (capacity : ℕ) (cs : List ℕ) → size (front_within capacity cs) ≤ capacity
front_within-short capacity [] = omega arith
front_within-short capacity (c ∷ cs) =
    let more = front_within (capacity - len_utf8 c) cs in
    let later = front_within-short (capacity - len_utf8 c) cs in
    let all = length-append (encode_utf8 c) (encode_utf8_all more) in
    let one = length-encode c in
    cond_both (nat_le (len_utf8 c) capacity) (c ∷ more) [] (λ (ds : List ℕ). size ds ≤ capacity)
    (λ fits. let low = leb-true (len_utf8 c) capacity fits in omega (arith, low, later, all, one)) (λ full. omega arith)

-- the sum that a loop has made, when these characters are left
pub record SizedTo (cs : List ℕ) (sum : ℕ) (rest : List ℕ) : Type 0 where
  pub all : sum + size rest ≡ size cs
  pub few : sum + 4 * length rest ≤ 4 * length cs

pub SizedTo-start : (cs : List ℕ) (sum : ℕ) (rest : List ℕ) → sum ≡ 0 → rest ≡ cs → SizedTo cs sum rest
SizedTo-start cs sum rest none all =
    let same = ap size all in
    let len = ap length all in
    record { all = omega (arith, none, same); few = omega (arith, none, len) }

pub SizedTo-more : {cs : List ℕ} {sum : ℕ} {rest : List ℕ} (c : ℕ) (after : List ℕ) (next : ℕ) → SizedTo cs sum rest → rest ≡ c ∷ after → next ≡ sum + len_utf8 c → SizedTo cs next after
SizedTo-more c after next sized cut is =
    let all = sized.all in
    let few = sized.few in
    let low = (len_utf8_bounds c).1 in
    let one = ap size cut ∙ length-append (encode_utf8 c) (encode_utf8_all after) ∙ ap (λ k. k + size after) (length-encode c) in
    let len = ap length cut in
    record { all = omega (arith, all, is, one); few = omega (arith, few, is, low, len) }

pub SizedTo-end : {cs : List ℕ} {sum : ℕ} {rest : List ℕ} → SizedTo cs sum rest → length rest ≡ 0 → sum ≡ size cs
SizedTo-end {rest = []} sized none =
    let all = sized.all in
    omega (arith, all)
SizedTo-end {rest = c ∷ rest} sized none = absurd (omega (arith, none))

-- one more character before the end
pub trailing-none : (c : ℕ) (cs : List ℕ) (i d : ℕ) → i < length cs → eqb (get_or cs i d) c ≡ true → trailing c (take (i + 1) cs) ≡ 0
trailing-none c cs i d low h =
    let one : i + 1 - 1 ≡ i = omega arith in
    suffix_len-take_no (λ e. not (eqb e c)) cs (i + 1) d (omega arith) (omega (arith, low)) (ap (λ k. not (eqb (get_or cs k d) c)) one ∙ ap not h)

pub trailing-more : (c : ℕ) (cs : List ℕ) (i d : ℕ) → i < length cs → eqb (get_or cs i d) c ≡ false → trailing c (take (i + 1) cs) ≡ 1 + trailing c (take i cs)
trailing-more c cs i d low h =
    let one : i + 1 - 1 ≡ i = omega arith in
    suffix_len-take_yes (λ e. not (eqb e c)) cs (i + 1) d (omega arith) (omega (arith, low)) (ap (λ k. not (eqb (get_or cs k d) c)) one ∙ ap not h)
    ∙ ap (λ k. 1 + trailing c (take k cs)) one

pub size-at_least : (cs : List ℕ) → length cs ≤ size cs
size-at_least [] = omega arith
size-at_least (c ∷ cs) =
    let later = size-at_least cs in
    let all = length-append (encode_utf8 c) (encode_utf8_all cs) in
    let one = length-encode c in
    let some = (len_utf8_bounds c).0 in
    omega (arith, later, all, one, some)

-- characters that fit have at most that number of bytes
pub fits-short : (capacity : ℕ) (cs : List ℕ) → fits capacity cs ≡ true → size cs ≤ capacity
fits-short capacity cs h =
    let whole = eqb-true (front_length capacity cs) (length cs) h in
    let same = ap size (front_within-takes capacity cs ∙ take_all (front_length capacity cs) cs (omega (arith, whole))) in
    let short = front_within-short capacity cs in
    omega (arith, same, short)

ending-size : (cs : List ℕ) → size (ending cs) ≤ 17
ending-size cs =
    cond_both (nat_lt (suc (trailing 46 cs)) (length cs) && fits 17 (after_dot cs)) (after_dot cs) [] (λ (ds : List ℕ). size ds ≤ 17)
    (λ e. fits-short 17 (after_dot cs) (and_parts (nat_lt (suc (trailing 46 cs)) (length cs)) (fits 17 (after_dot cs)) e).1) (λ e. omega arith)

pub fits_few : (cs : List ℕ) → fits 17 cs ≡ true → length cs ≤ 17
fits_few cs h =
    let short = fits-short 17 cs h in
    let low = size-at_least cs in
    omega (arith, short, low)

kept-size : (cs : List ℕ) → size (kept_ending cs) ≤ 17
kept-size cs = cond_both (fits most cs) [] (ending cs) (λ (ds : List ℕ). size ds ≤ 17) (λ e. omega arith) (λ e. ending-size cs)

shortened-short : (cs : List ℕ) → size (shortened cs) ≤ 255
shortened-short cs =
    let ending = kept_ending cs in
    let capacity = 255 - size ending in
    let front = take (front_length capacity cs) cs in
    let all = ap length (encodes-append front ending) ∙ length-append (encode_utf8_all front) (encode_utf8_all ending) in
    let low = front_within-short capacity cs in
    let same = ap size (front_within-takes capacity cs) in
    let few = kept-size cs in
    omega (arith, all, low, same, few)

-- ---- a name that is safe stays

made_safe-same : (cs : List ℕ) → all_safe cs ≡ true → map made_safe cs ≡ cs
unfolding all_safe
made_safe-same [] h = refl
made_safe-same (c ∷ cs) h =
    let parts = and_parts (not (is_unsafe c)) (all_safe cs) h in
    ap (λ (d : ℕ). d ∷ map made_safe cs) (cond-false (is_unsafe c) 95 c (not-true (is_unsafe c) parts.0)) ∙ ap (λ (ds : List ℕ). c ∷ ds) (made_safe-same cs parts.1)

-- characters that fit are all taken
front_length-all : (capacity : ℕ) (cs : List ℕ) → size cs ≤ capacity → front_length capacity cs ≡ length cs
front_length-all capacity [] h = refl
front_length-all capacity (c ∷ cs) h =
    let len = length-append (encode_utf8 c) (encode_utf8_all cs) in
    let one = length-encode c in
    front_length-more capacity c cs (omega (arith, h, len, one)) ∙ ap suc (front_length-all (capacity - len_utf8 c) cs (omega (arith, h, len, one)))

shortened-same : (cs : List ℕ) → size cs ≤ 255 → shortened cs ≡ cs
shortened-same cs h =
    let whole = front_length-all 255 cs h in
    ap (λ (ds : List ℕ). take (front_length (255 - size ds) cs) cs ++ ds) (cond-true (fits 255 cs) [] (ending cs) (eq-eqb (front_length 255 cs) (length cs) whole))
    ∙ append-nil (take (front_length 255 cs) cs) ∙ take_all (front_length 255 cs) cs (omega (arith, whole))

-- ---- the whole name

single : IsSafeName (95 ∷ [])
unfolding chars is_hidden
single = record {
  some = λ e. let h = ap length e in omega arith;
  not_here = λ e. let h : ◌≡◌ {A = ℕ} 95 46 = ap (λ (l : List ℕ). get_or l 0 0) e in omega arith;
  not_above = λ e. let h : ◌≡◌ {A = ℕ} 95 46 = ap (λ (l : List ℕ). get_or l 0 0) e in omega arith;
  short = omega arith;
  characters = refl;
}

-- the characters of which the safe name is made
characters_of : List ℕ → List ℕ
characters_of name = map made_safe (last_component (chars name))

-- a test that all characters pass is passed by all of the last component
component-all : (test : ℕ → Bool) (cs : List ℕ) → list_all test cs ≡ true → list_all test (last_component cs) ≡ true
component-all test cs h =
    cond_both (is_windows_path cs) (drop (length cs - trailing 92 cs) cs) cs (λ (ds : List ℕ). list_all test ds ≡ true)
    (λ e. all-drop test (length cs - trailing 92 cs) cs h) (λ e. h)

scalars_of : (name : List ℕ) → IsUtf8 name → scalars (shortened (characters_of name)) ≡ true
unfolding characters_of
scalars_of name utf8 =
    let cs = last_component (chars name) in
    let whole = scalars-are cs ∙ component-all scalar (chars name) (sym (scalars-are (chars name)) ∙ scalars-chars name utf8) in
    scalars-are (shortened (map made_safe cs))
    ∙ all-shortened scalar (map made_safe cs) (sym (scalars-are (map made_safe cs)) ∙ made-scalars cs whole)

front_name-safe : (name : List ℕ) → IsUtf8 name → list_all (λ c. not (is_unsafe c)) (chars (front_name name)) ≡ true
unfolding all_safe front_name characters_of
front_name-safe name utf8 =
    ap all_safe (chars-encodes (shortened (characters_of name)) (scalars_of name utf8))
    ∙ all-shortened (λ c. not (is_unsafe c)) (characters_of name) (all-made (last_component (chars name)))

front_name-short : (name : List ℕ) → length (front_name name) ≤ 255
unfolding front_name
front_name-short name = shortened-short (map made_safe (last_component (chars name)))

not_reserved : (name : List ℕ) → is_reserved name ≡ false → (name ≢ []) × (name ≢ codes ".") × (name ≢ codes "..")
not_reserved name h =
    let parts = or_parts (is_empty name || bytes_eq name (codes ".")) (bytes_eq name (codes "..")) h in
    let more = or_parts (is_empty name) (bytes_eq name (codes ".")) parts.0 in (
      (λ e. false≢true (sym more.0 ∙ ap is_empty e)),
      (λ e. false≢true (sym more.1 ∙ ap (λ (n : List ℕ). bytes_eq n (codes ".")) e)),
      (λ e. false≢true (sym parts.1 ∙ ap (λ (n : List ℕ). bytes_eq n (codes "..")) e)),
    )

pub safe_name-safe : (name : List ℕ) → IsUtf8 name → IsSafeName (safe_name name)
unfolding safe_name
safe_name-safe name utf8 =
    cond_both (is_reserved (front_name name)) (codes "_") (front_name name) IsSafeName (λ reserved. single)
    (λ free. record {
      some = (not_reserved (front_name name) free).0;
      not_here = (not_reserved (front_name name) free).1;
      not_above = (not_reserved (front_name name) free).2;
      short = front_name-short name;
      characters = front_name-safe name utf8;
    })

-- a backslash is unsafe, so safe characters are no Windows path
backslash-unsafe : (c : ℕ) → eqb c 92 ≡ true → not (is_unsafe c) ≡ true → ⊥
backslash-unsafe c is safe = false≢true (ap (λ k. not (is_unsafe k)) (sym (eqb-true c 92 is)) ∙ safe)

safe-no_path : (cs : List ℕ) → all_safe cs ≡ true → is_windows_path cs ≡ true → ⊥
unfolding all_safe
safe-no_path [] h e = false≢true e
safe-no_path (a ∷ []) h e = false≢true e
safe-no_path (a ∷ b ∷ []) h e = false≢true e
safe-no_path (a ∷ b ∷ c ∷ cs) h e =
    let first = and_parts (not (is_unsafe a)) (all_safe (b ∷ c ∷ cs)) h in
    let second = and_parts (not (is_unsafe b)) (all_safe (c ∷ cs)) first.1 in
    let third = and_parts (not (is_unsafe c)) (all_safe cs) second.1 in
    elim (or_cases (is_ascii_alphabetic a && (eqb b 58 && eqb c 92)) (eqb a 92 && eqb b 92) e) [
      | inl drive ↦ backslash-unsafe c (and_parts (eqb b 58) (eqb c 92) (and_parts (is_ascii_alphabetic a) (eqb b 58 && eqb c 92) drive).1).1 third.0
      | inr two ↦ backslash-unsafe a (and_parts (eqb a 92) (eqb b 92) two).0 first.0
    ]

component-same : (cs : List ℕ) → all_safe cs ≡ true → last_component cs ≡ cs
component-same cs h =
    cond_both (is_windows_path cs) (drop (length cs - trailing 92 cs) cs) cs (λ (ds : List ℕ). ds ≡ cs) (λ e. absurd (safe-no_path cs h e)) (λ e. refl)

front_name-same : (name : List ℕ) → IsUtf8 name → IsSafeName name → front_name name ≡ name
unfolding all_safe front_name
front_name-same name utf8 h =
    let short = h.short in
    let back = encodes-chars name utf8 in
    let len = ap length back in
    ap (λ (cs : List ℕ). encode_utf8_all (shortened (map made_safe cs))) (component-same (chars name) h.characters)
    ∙ ap (λ (cs : List ℕ). encode_utf8_all (shortened cs)) (made_safe-same (chars name) h.characters)
    ∙ ap encode_utf8_all (shortened-same (chars name) (omega (arith, short, len))) ∙ back

bytes_eq-true : (a b : List ℕ) → bytes_eq a b ≡ true → a ≡ b
bytes_eq-true a b h = (bytes_eq-Decides a b).0 h

empty_nil : (name : List ℕ) → is_empty name ≡ true → name ≡ []
empty_nil [] h = refl
empty_nil (b ∷ name) h = absurd (false≢true h)

safe_not_reserved : (name : List ℕ) → IsSafeName name → is_reserved name ≡ false
safe_not_reserved name h = elim (cases_Bool (is_reserved name)) [
  | inr n ↦ n
  | inl r ↦ absurd (elim (or_cases (is_empty name || bytes_eq name (codes ".")) (bytes_eq name (codes "..")) r) [
    | inr above ↦ h.not_above (bytes_eq-true name (codes "..") above)
    | inl more ↦ elim (or_cases (is_empty name) (bytes_eq name (codes ".")) more) [
      | inl none ↦ h.some (empty_nil name none)
      | inr here ↦ h.not_here (bytes_eq-true name (codes ".") here)
    ]
  ])
]

pub safe_name-same : (name : List ℕ) → IsUtf8 name → IsSafeName name → safe_name name ≡ name
unfolding safe_name
safe_name-same name utf8 h =
    let same = front_name-same name utf8 h in
    cond-false (is_reserved (front_name name)) (codes "_") (front_name name) (ap is_reserved same ∙ safe_not_reserved name h) ∙ same

-- ---- the name of which the front was made

pub safe_name-reserved : (name front : List ℕ) → front ≡ front_name name → is_reserved front ≡ true → codes "_" ≡ safe_name name
unfolding safe_name
safe_name-reserved name front is reserved =
    sym (cond-true (is_reserved (front_name name)) (codes "_") (front_name name) (sym (ap is_reserved is) ∙ reserved))

pub safe_name-free : (name front : List ℕ) → front ≡ front_name name → is_reserved front ≡ false → front ≡ safe_name name
unfolding safe_name
safe_name-free name front is free =
    is ∙ sym (cond-false (is_reserved (front_name name)) (codes "_") (front_name name) (sym (ap is_reserved is) ∙ free))
