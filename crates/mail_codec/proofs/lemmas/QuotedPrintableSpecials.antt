-- A text read by special bytes: the bytes before an escape are read by themselves, and so is the
-- escape.
use Rattle.std.proofs.Common.{◌≡◌, ℕ, zero, suc, ◌+◌, ◌*◌, ◌-◌, ◌<◌, ◌≤◌, ◌≢◌, ◌↔◌, ◌==◌, ◌||◌, slice_set, Bool, true, false, cond, List, [], ◌∷◌, ◌++◌, length, take, drop, get_or, reverse, Option, Some, None, refl, sym, ap, subst, ◌∙◌, arith, inl, inr}
use Rattle.std.specs.List.{flat_map, slice_split, prefix_len, suffix_len}
use Rattle.std.proofs.lemmas.Bool.{cases_Bool, cases_eq, cases_lt, eqb-true, false≢true}
use Rattle.std.proofs.Math.Seq.{take-add, take-append-add}
use Rattle.std.specs.List.{position_or_len}
use Rattle.std.proofs.lemmas.List.Sums.{position_or_len_is, suffix_len-le-length}
use borrow.Rule.Slice.PartMut.{put_mid}
use lib.Lanes.{put_chunk}
use Rattle.std.proofs.lemmas.Simd.{length-put_chunk}
use Rattle.std.proofs.lemmas.List.{append-nil, append_cancel_left, take-append-le, length-take, length-set, append_assoc, length-append, reverse-append, drop_all, drop_more, drop-drop, take-append-drop, take_min, take_rest, take_more_set, length-drop, get_or-drop, get_or-take, length-take-le, take-take, drop-take}
use Rattle.mail_codec.specs.Ascii.{is_blank}
use Rattle.mail_codec.specs.Places.{first_place, begins, trimmed_at_end}
use Rattle.mail_codec.specs.QuotedPrintable.{ends_in, without_last, lf, cr_lf, digit_value, byte_of_values, first_escape, ended_line, lines_of_pieces, lines_of, line_bytes, quoted_printable, unescaped}
use Rattle.mail_codec.specs.private.QuotedPrintable.{is_special, HasNoEscape, IsInBlock, IsPlain, IsReading, IsSoftBreak}
use Rattle.mail_codec.specs.declared.transfer.quoted_printable.blocks.Specials.{Specials}
use Rattle.mail_codec.specs.private.Vectors.{lane_mask}
use Rattle.mail_codec.proofs.lemmas.Places.{first_place-≤, first_place-before, first_place-passes, first_place-begins}
use Rattle.mail_codec.proofs.lemmas.Written.{written_rest, stored_after}
use Rattle.mail_codec.proofs.lemmas.QuotedPrintableEscapes.{unescaped_stays, unescaped_escape, unescaped-nil, first_escape-other}
use Rattle.mail_codec.proofs.lemmas.QuotedPrintableLines.{ends_in-push, without_last-push, is_lf, split_some, line_read, line_last, nothing_left}

-- ---- a line that begins with bytes of which the last is no blank, no CR and no `=`

ends_in-front : (c d : ℕ) (front rest : List ℕ) → (d == c) ≡ false → ends_in c (front ++ d ∷ rest) ≡ ends_in c rest
ends_in-front c d [] [] h = h
ends_in-front c d [] (y ∷ rest) h = refl
ends_in-front c d (x ∷ []) rest h = ends_in-front c d [] rest h
ends_in-front c d (x ∷ y ∷ front) rest h = ends_in-front c d (y ∷ front) rest h

without_last-front : (c d : ℕ) (front rest : List ℕ) → ends_in c rest ≡ true → without_last (front ++ d ∷ rest) ≡ front ++ d ∷ without_last rest
without_last-front c d [] [] h = absurd (false≢true h)
without_last-front c d [] (y ∷ rest) h =
    let e : suc (suc (length rest)) - 1 ≡ suc (suc (length rest) - 1) = omega arith in
    ap (λ (k : ℕ). take k (d ∷ y ∷ rest)) e
without_last-front c d (x ∷ front) rest h =
    let long = length-append front (d ∷ rest) in
    let e : suc (length (front ++ d ∷ rest)) - 1 ≡ suc (length (front ++ d ∷ rest) - 1) = omega (arith, long) in
    ap (λ (k : ℕ). take k (x ∷ (front ++ d ∷ rest))) e ∙ ap (λ (r : List ℕ). x ∷ r) (without_last-front c d front rest h)

prefix_len-stop : (test : ℕ → Bool) (d : ℕ) (xs ys : List ℕ) → test d ≡ false → prefix_len test (xs ++ d ∷ ys) ≡ prefix_len test xs
prefix_len-stop test d [] ys h = rw h refl
prefix_len-stop test d (x ∷ xs) ys h = ap (λ (n : ℕ). cond (test x) (1 + n) 0) (prefix_len-stop test d xs ys h)

suffix_len-front : (test : ℕ → Bool) (d : ℕ) (front rest : List ℕ) → test d ≡ false → suffix_len test (front ++ d ∷ rest) ≡ suffix_len test rest
suffix_len-front test d front rest h =
    ap (λ (r : List ℕ). prefix_len test (reverse r)) (sym (append_assoc front (d ∷ []) rest))
    ∙ ap (prefix_len test) (reverse-append (front ++ d ∷ []) rest)
    ∙ ap (λ (r : List ℕ). prefix_len test (reverse rest ++ r)) (reverse-append front (d ∷ []))
    ∙ prefix_len-stop test d (reverse rest) (reverse front) h

trimmed-front : (test : ℕ → Bool) (d : ℕ) (front rest : List ℕ) → test d ≡ false
    → trimmed_at_end test (front ++ d ∷ rest) ≡ front ++ d ∷ trimmed_at_end test rest
trimmed-front test d front rest h =
    let n : ℕ = length rest - suffix_len test rest in
    let blanks = suffix_len-front test d front rest h in
    let long = length-append front (d ∷ rest) in
    let le = suffix_len-le-length test rest in
    let e : length (front ++ d ∷ rest) - suffix_len test (front ++ d ∷ rest) ≡ length front + suc n = omega arith in
    ap (λ (k : ℕ). take k (front ++ d ∷ rest)) e ∙ take-append-add front (d ∷ rest) (suc n)

-- the bytes of a line that begins so
module _ (d : ℕ) (front bytes : List ℕ) (no_blank : is_blank d ≡ false) (no_cr : (d == 13) ≡ false) (no_sign : (d == 61) ≡ false)
    (read : (rest : List ℕ) → unescaped (front ++ d ∷ rest) ≡ bytes ++ unescaped rest) where
  line-front : (content ending : List ℕ) → line_bytes (record { content = front ++ d ∷ content; ending = ending })
      ≡ bytes ++ line_bytes (record { content = content; ending = ending })
  unfolding line_bytes
  line-front content ending =
      let kept : List ℕ = trimmed_at_end is_blank content in
      let trimmed = trimmed-front is_blank d front content no_blank in
      let sign = ends_in-front 61 d front kept no_sign in
      elim (cases_Bool (ends_in 61 kept)) [
        | inl is ↦ rw (trimmed, sign, is) (ap unescaped (without_last-front 61 d front kept is) ∙ read (without_last kept))
        | inr other ↦ rw (trimmed, sign, other) (ap (λ (r : List ℕ). r ++ ending) (read kept) ∙ append_assoc bytes (unescaped kept) ending)
      ]

  ended-front : (piece : List ℕ) → line_bytes (ended_line (front ++ d ∷ piece)) ≡ bytes ++ line_bytes (ended_line piece)
  ended-front piece =
      let cr = ends_in-front 13 d front piece no_cr in
      elim (cases_Bool (ends_in 13 piece)) [
        | inl is ↦ rw (cr, is) (ap (λ (r : List ℕ). line_bytes (record { content = r; ending = cr_lf })) (without_last-front 13 d front piece is) ∙ line-front (without_last piece) cr_lf)
        | inr other ↦ rw (cr, other) (line-front piece lf)
      ]

  pieces-front : (first : List ℕ) (others : List (List ℕ)) → flat_map line_bytes (lines_of_pieces ((front ++ d ∷ first) ∷ others))
      ≡ bytes ++ flat_map line_bytes (lines_of_pieces (first ∷ others))
  pieces-front first [] =
      ap (λ (r : List ℕ). r ++ []) (line-front first [])
      ∙ append_assoc bytes (line_bytes (record { content = first; ending = [] })) []
  pieces-front first (other ∷ others) =
      ap (λ (r : List ℕ). r ++ flat_map line_bytes (lines_of_pieces (other ∷ others))) (ended-front first)
      ∙ append_assoc bytes (line_bytes (ended_line first)) (flat_map line_bytes (lines_of_pieces (other ∷ others)))

-- ---- a run without LF, and an escape

-- none of the bytes is an LF
abbrev pub HasNoLf : List ℕ → Type 0
HasNoLf run = (k : ℕ) → k < length run → is_lf (get_or run k 0) ≡ false

split-front : (run rest first : List ℕ) (others : List (List ℕ)) → HasNoLf run → slice_split is_lf rest ≡ first ∷ others
    → slice_split is_lf (run ++ rest) ≡ (run ++ first) ∷ others
split-front [] rest first others none is = is
split-front (x ∷ run) rest first others none is =
    let e : is_lf x ≡ false = none 0 (omega arith) in
    rw (e, split-front run rest first others (λ k l. none (suc k) (omega arith)) is) refl

not_digit : (c l v : ℕ) → digit_value c ≡ None → digit_value l ≡ Some v → (l == c) ≡ false
not_digit c l v none some = elim (cases_Bool (l == c)) [
  | inl is ↦ absurd (let same = ap digit_value (eqb-true l c is) in cc)
  | inr other ↦ other
]

-- the digits of an escape
pub record Digits (h l byte : ℕ) : Type 0 where
  pub high : (v : ℕ) × (digit_value h ≡ Some v)
  pub low : (v : ℕ) × (digit_value l ≡ Some v)

digits : (h l byte : ℕ) → byte_of_values (digit_value h) (digit_value l) ≡ Some byte → Digits h l byte
digits h l byte is = go (digit_value h) refl (digit_value l) refl is
  where
    go : (high : Option ℕ) → digit_value h ≡ high → (low : Option ℕ) → digit_value l ≡ low → byte_of_values high low ≡ Some byte → Digits h l byte
    go None eh low el e = cc e
    go (Some a) eh None el e = cc e
    go (Some a) eh (Some b) el e = record { high = (a, eh); low = (b, el) }

sign_first : (b h l byte : ℕ) (rest : List ℕ) → first_escape (b ∷ h ∷ l ∷ rest) ≡ Some byte → ((b == 61) ≡ true) × Digits h l byte
sign_first b h l byte rest found = elim (cases_Bool (b == 61)) [
  | inl is ↦ (is, digits h l byte (sym (ap (λ (t : Bool). cond t (byte_of_values (digit_value h) (digit_value l)) None) is) ∙ found))
  | inr other ↦ absurd (let none = first_escape-other b (h ∷ l ∷ rest) other in cc)
]

-- an escape is seen by its three bytes
same_escape : (run : List ℕ) (b h l : ℕ) (p q : List ℕ) → first_escape (run ++ b ∷ h ∷ l ∷ p) ≡ first_escape (run ++ b ∷ h ∷ l ∷ q)
same_escape [] b h l p q = refl
same_escape (x ∷ []) b h l p q = refl
same_escape (x ∷ y ∷ []) b h l p q = refl
same_escape (x ∷ y ∷ z ∷ run) b h l p q = refl

-- in the run, which the rest follows, no escape begins
abbrev pub NoneBefore : List ℕ → List ℕ → Type 0
NoneBefore run rest = (k : ℕ) → k < length run → first_escape (drop k run ++ rest) ≡ None

unescaped-front : (run : List ℕ) (b h l byte : ℕ) (p q : List ℕ) → NoneBefore run (b ∷ h ∷ l ∷ q) → first_escape (b ∷ h ∷ l ∷ q) ≡ Some byte
    → unescaped (run ++ b ∷ h ∷ l ∷ p) ≡ run ++ byte ∷ unescaped p
unescaped-front [] b h l byte p q none is = unescaped_escape byte (b ∷ h ∷ l ∷ p) is
unescaped-front (x ∷ run) b h l byte p q none is =
    unescaped_stays x (run ++ b ∷ h ∷ l ∷ p) (same_escape (x ∷ run) b h l p q ∙ none 0 (omega arith))
    ∙ ap (λ (r : List ℕ). x ∷ r) (unescaped-front run b h l byte p q (λ k lt. none (suc k) (omega arith)) is)

no_lf_three : (run : List ℕ) (b h l : ℕ) → HasNoLf run → is_lf b ≡ false → is_lf h ≡ false → is_lf l ≡ false → HasNoLf (run ++ b ∷ h ∷ l ∷ [])
no_lf_three [] b h l none nb nh nl zero lt = nb
no_lf_three [] b h l none nb nh nl (suc zero) lt = nh
no_lf_three [] b h l none nb nh nl (suc (suc zero)) lt = nl
no_lf_three [] b h l none nb nh nl (suc (suc (suc k))) lt = absurd (omega arith)
no_lf_three (x ∷ run) b h l none nb nh nl zero lt = none 0 (omega arith)
no_lf_three (x ∷ run) b h l none nb nh nl (suc k) lt = no_lf_three run b h l (λ j lt. none (suc j) (omega arith)) nb nh nl k (omega arith)

-- the bytes before an escape and the escape are read by themselves
pub escape_after : (run rest : List ℕ) (byte : ℕ) → HasNoLf run → NoneBefore run rest → first_escape rest ≡ Some byte
    → quoted_printable (run ++ rest) ≡ run ++ byte ∷ quoted_printable (drop 3 rest)
unfolding quoted_printable lines_of
escape_after run [] byte no_lf none is = cc is
escape_after run (b ∷ []) byte no_lf none is = cc is
escape_after run (b ∷ h ∷ []) byte no_lf none is = cc is
escape_after run (b ∷ h ∷ l ∷ rest) byte no_lf none is =
    let found = sign_first b h l byte rest is in
    let sign : b ≡ 61 = eqb-true b 61 found.0 in
    let high = found.1.high in
    let low = found.1.low in
    let some = split_some rest in
    let front : List ℕ = run ++ b ∷ h ∷ [] in
    let whole : List ℕ = run ++ b ∷ h ∷ l ∷ [] in
    let no_lf_whole = no_lf_three run b h l no_lf (rw sign refl) (not_digit 10 h high.0 refl high.1) (not_digit 10 l low.0 refl low.1) in
    let no_blank : is_blank l ≡ false = rw (not_digit 32 l low.0 refl low.1, not_digit 9 l low.0 refl low.1) refl in
    let read : (p : List ℕ) → unescaped (front ++ l ∷ p) ≡ (run ++ byte ∷ []) ++ unescaped p = λ p.
    ap unescaped (append_assoc run (b ∷ h ∷ []) (l ∷ p)) ∙ unescaped-front run b h l byte p rest none is ∙ sym (append_assoc run (byte ∷ []) (unescaped p)) in
    ap (λ (t : List ℕ). flat_map line_bytes (lines_of_pieces (slice_split is_lf t))) (sym (append_assoc run (b ∷ h ∷ l ∷ []) rest))
    ∙ ap (λ (ps : List (List ℕ)). flat_map line_bytes (lines_of_pieces ps)) (split-front whole rest some.0 some.1 no_lf_whole some.2)
    ∙ ap (λ (t : List ℕ). flat_map line_bytes (lines_of_pieces (t ∷ some.1))) (append_assoc run (b ∷ h ∷ l ∷ []) some.0 ∙ sym (append_assoc run (b ∷ h ∷ []) (l ∷ some.0)))
    ∙ pieces-front l front (run ++ byte ∷ []) no_blank (not_digit 13 l low.0 refl low.1) (not_digit 61 l low.0 refl low.1) read some.0 some.1
    ∙ append_assoc run (byte ∷ []) (flat_map line_bytes (lines_of_pieces (some.0 ∷ some.1)))
    ∙ ap (λ (ps : List (List ℕ)). run ++ byte ∷ flat_map line_bytes (lines_of_pieces ps)) (sym some.2)

-- an escape of a loop that appends what it has read
pub escape_read : (text cur next : List ℕ) (at after byte : ℕ) → after ≡ at + 3 → first_escape (drop at text) ≡ Some byte → next ≡ cur ++ byte ∷ []
    → cur ++ quoted_printable (drop at text) ≡ next ++ quoted_printable (drop after text)
escape_read text cur next at after byte after_is is next_is =
    ap (λ (r : List ℕ). cur ++ r) (escape_after [] (drop at text) byte (λ k l. absurd (omega arith)) (λ k l. absurd (omega arith)) is)
    ∙ ap (λ (r : List ℕ). cur ++ byte ∷ quoted_printable r) (drop-drop 3 at text ∙ ap (λ (k : ℕ). drop k text) (sym after_is))
    ∙ sym (append_assoc cur (byte ∷ []) (quoted_printable (drop after text)))
    ∙ ap (λ (r : List ℕ). r ++ quoted_printable (drop after text)) (sym next_is)

-- ---- bytes in which no escape begins

pub stays_whole : (xs : List ℕ) → HasNoEscape xs → unescaped xs ≡ xs
stays_whole [] none = unescaped-nil
stays_whole (x ∷ xs) none = unescaped_stays x xs (none 0) ∙ ap (λ (r : List ℕ). x ∷ r) (stays_whole xs (λ k. none (suc k)))

first_escape-take : (xs : List ℕ) (n : ℕ) → first_escape xs ≡ None → first_escape (take n xs) ≡ None
first_escape-take [] zero h = refl
first_escape-take [] (suc n) h = refl
first_escape-take (x ∷ xs) zero h = refl
first_escape-take (x ∷ []) (suc zero) h = refl
first_escape-take (x ∷ []) (suc (suc n)) h = refl
first_escape-take (x ∷ y ∷ xs) (suc zero) h = refl
first_escape-take (x ∷ y ∷ []) (suc (suc zero)) h = refl
first_escape-take (x ∷ y ∷ []) (suc (suc (suc n))) h = refl
first_escape-take (x ∷ y ∷ z ∷ xs) (suc (suc zero)) h = refl
first_escape-take (x ∷ y ∷ z ∷ xs) (suc (suc (suc n))) h = h

drop-of-take : (k n : ℕ) (xs : List ℕ) → drop k (take n xs) ≡ take (n - k) (drop k xs)
drop-of-take k n xs = elim (cases_lt k n) [
  | inl lt ↦ ap (λ (m : ℕ). drop k (take m xs)) {x = n} {y = k + (n - k)} (omega arith) ∙ drop-take k (n - k) xs
  | inr ge ↦ drop_all k (take n xs) (omega (arith, ge, length-take n xs)) ∙ ap (λ (m : ℕ). take m (drop k xs)) {x = 0} {y = n - k} (omega arith)
]

pub no_escape-take : (xs : List ℕ) (n : ℕ) → HasNoEscape xs → HasNoEscape (take n xs)
no_escape-take xs n none k = ap first_escape (drop-of-take k n xs) ∙ first_escape-take (drop k xs) (n - k) (none k)

-- the front of bytes that were copied
pub front_copied : (output content part : List ℕ) → take (length content) output ≡ content → (n m : ℕ) → part ≡ take m (take n content)
    → take (length part) output ≡ part
front_copied output content part copied n m is =
    let few = ap length is in
    let m_few = length-take m (take n content) in
    let n_few = length-take n content in
    sym (take-take (length part) (length content) output (omega arith))
    ∙ ap (take (length part)) copied
    ∙ sym (take-take (length part) n content (omega arith))
    ∙ ap (λ (k : ℕ). take k (take n content)) (ap length is ∙ length-take m (take n content))
    ∙ take_min m (take n content)
    ∙ sym is

-- ---- the bytes that a loop has copied since the last line end or escape

pub plain-empty : (text : List ℕ) (at : ℕ) → IsPlain text at at
plain-empty text at = record { no_lf = λ k lo hi. absurd (omega arith); no_escape = λ k lo hi. absurd (omega arith) }

pub plain-joined : (text : List ℕ) (from to end : ℕ) → IsPlain text from to → IsPlain text to end → IsPlain text from end
plain-joined text from to end front back = record {
  no_lf = λ k lo hi. elim (cases_lt k to) [ inl lt ↦ front.no_lf k lo lt | inr ge ↦ back.no_lf k (omega arith) hi ];
  no_escape = λ k lo hi. elim (cases_lt k to) [ inl lt ↦ front.no_escape k lo lt | inr ge ↦ back.no_escape k (omega arith) hi ];
}

-- the piece that was copied
module _ (text : List ℕ) (from to : ℕ) (low : from ≤ to) (high : to ≤ length text) (plain : IsPlain text from to) where
  abbrev pub piece : List ℕ
  piece = take (to - from) (drop from text)

  long : length piece ≡ to - from
  long = length-take-le (to - from) (drop from text) (omega (arith, length-drop from text))

  pub piece-no_escape : HasNoEscape piece
  piece-no_escape k = elim (cases_lt k (to - from)) [
    | inl lt ↦
        ap first_escape (drop-of-take k (to - from) (drop from text))
        ∙ first_escape-take (drop k (drop from text)) (to - from - k) (ap first_escape (drop-drop k from text) ∙ plain.no_escape (from + k) (omega arith) (omega arith))
    | inr ge ↦ ap first_escape (drop-of-take k (to - from) (drop from text) ∙ ap (λ (m : ℕ). take m (drop k (drop from text))) {x = to - from - k} {y = 0} (omega arith))
  ]

  piece-no_lf : HasNoLf piece
  piece-no_lf k lt =
      ap is_lf (get_or-take (to - from) (drop from text) k 0 (omega (arith, long)) ∙ get_or-drop from text k 0)
      ∙ plain.no_lf (from + k) (omega arith) (omega (arith, long))

  rest-is : (k : ℕ) → k ≤ to - from → drop k piece ++ drop to text ≡ drop (from + k) text
  rest-is k le =
      let cut : take (to - from - k) (drop (from + k) text) ++ drop (to - from - k) (drop (from + k) text) ≡ drop (from + k) text = take-append-drop (to - from - k) (drop (from + k) text) in
      ap (λ (r : List ℕ). r ++ drop to text) (drop-of-take k (to - from) (drop from text) ∙ ap (take (to - from - k)) (drop-drop k from text))
      ∙ ap (λ (r : List ℕ). take (to - from - k) (drop (from + k) text) ++ r) (ap (λ (m : ℕ). drop m text) {x = to} {y = from + k + (to - from - k)} (omega arith) ∙ sym (drop-drop (to - from - k) (from + k) text))
      ∙ cut

  -- it goes before the bytes read from an escape onwards
  pub before_escape : (byte : ℕ) → first_escape (drop to text) ≡ Some byte → quoted_printable (drop from text) ≡ piece ++ quoted_printable (drop to text)
  before_escape byte is =
      let none : NoneBefore piece (drop to text) = λ k lt. ap first_escape (rest-is k (omega (arith, long))) ∙ plain.no_escape (from + k) (omega arith) (omega (arith, long)) in
      ap quoted_printable (sym (rest-is 0 (omega arith) ∙ ap (λ (m : ℕ). drop m text) {x = from + 0} {y = from} (omega arith)))
      ∙ escape_after piece (drop to text) byte piece-no_lf none is
      ∙ ap (λ (r : List ℕ). piece ++ r) (sym (escape_after [] (drop to text) byte (λ k l. absurd (omega arith)) (λ k l. absurd (omega arith)) is))

-- a byte of a part
byte_there : (text : List ℕ) (at m k : ℕ) → k < length (take m (drop at text)) → get_or (take m (drop at text)) k 0 ≡ get_or text (at + k) 0
byte_there text at m k lt = get_or-take m (drop at text) k 0 (omega (arith, length-take m (drop at text))) ∙ get_or-drop at text k 0

-- no special byte precedes the first
pub plain-run : (text : List ℕ) (at m run : ℕ) → run ≡ first_place (begins is_special) (take m (drop at text)) → IsPlain text at (at + run)
plain-run text at m run is = record {
  no_lf = λ k lo hi. (unmatched (get_or text k 0) (free k lo hi)).1;
  no_escape = λ k lo hi.
      ap first_escape (drop_more text k 0 (within k lo hi))
      ∙ first_escape-other (get_or text k 0) (drop (k + 1) text) (unmatched (get_or text k 0) (free k lo hi)).0;
}
  where
    bytes : List ℕ
    bytes = take m (drop at text)

    unmatched : (b : ℕ) → is_special b ≡ false → ((b == 61) ≡ false) × ((b == 10) ≡ false)
    unmatched b h = elim (cases_Bool (b == 61)) [
      | inl sign ↦ absurd (false≢true (sym h ∙ rw sign refl))
      | inr other ↦ (other, sym (ap (λ (t : Bool). t || (b == 10)) other) ∙ h)
    ]

    short : (k : ℕ) → at ≤ k → k < at + run → k - at < length bytes
    short k lo hi = omega (arith, is, first_place-≤ (begins is_special) bytes)

    within : (k : ℕ) → at ≤ k → k < at + run → k < length text
    within k lo hi = let s = short k lo hi in omega (arith, length-take m (drop at text), length-drop at text)

    free : (k : ℕ) → at ≤ k → k < at + run → is_special (get_or text k 0) ≡ false
    free k lo hi =
        let s = short k lo hi in
        let there : get_or bytes (k - at) 0 ≡ get_or text k 0 =
        byte_there text at m (k - at) s ∙ ap (λ (j : ℕ). get_or text j 0) {x = at + (k - at)} {y = k} (omega arith) in
        sym (ap is_special there)
        ∙ sym (ap (begins is_special) (drop_more bytes (k - at) 0 s))
        ∙ first_place-before (begins is_special) bytes (k - at) (omega arith)

-- bytes that are plain up to a place, and have no special byte from there up to an end
pub plain-to_end : (text : List ℕ) (from to end : ℕ) → end ≤ length text → IsPlain text from to
    → length (take (end - to) (drop to text)) ≡ first_place (begins is_special) (take (end - to) (drop to text)) → IsPlain text from end
plain-to_end text from to end within front none = elim (cases_lt end to) [
  | inl lt ↦ record { no_lf = λ k lo hi. front.no_lf k lo (omega arith); no_escape = λ k lo hi. front.no_escape k lo (omega arith) }
  | inr ge ↦
      let run : end - to ≡ first_place (begins is_special) (take (end - to) (drop to text)) = omega (arith, none, length-take-le (end - to) (drop to text) (omega (arith, length-drop to text))) in
      let back = plain-run text to (end - to) (end - to) run in
      plain-joined text from to end front (subst (IsPlain text to) {x = to + (end - to)} {y = end} (omega arith) back)
]

-- bytes that are plain up to a place, up to the first special byte after it
pub plain-to_special : (text : List ℕ) (from to end count : ℕ) → IsPlain text from to → count ≡ first_place (begins is_special) (take (end - to) (drop to text))
    → IsPlain text from (to + count)
plain-to_special text from to end count front first = plain-joined text from to (to + count) front (plain-run text to (end - to) count first)

-- the mask from a place up to an end, and that from a later place
pub matches_later : (text : List ℕ) (at end k next mask after : ℕ) → next ≡ at + k
    → ((test : ℕ → Bool) (bytes : List ℕ) → mask ≡ lane_mask test bytes → after ≡ lane_mask test (drop k bytes))
    → mask ≡ lane_mask is_special (take (end - at) (drop at text)) → after ≡ lane_mask is_special (take (end - next) (drop next text))
matches_later text at end k next mask after later shift is =
    shift is_special (take (end - at) (drop at text)) is
    ∙ ap (lane_mask is_special) (drop-of-take k (end - at) (drop at text) ∙ ap (take (end - at - k)) (drop-drop k at text))
    ∙ ap (λ (m : ℕ). lane_mask is_special (take m (drop (at + k) text))) {x = end - at - k} {y = end - next} (omega arith)
    ∙ ap (λ (j : ℕ). lane_mask is_special (take (end - next) (drop j text))) (sym later)

-- the first special byte is one
pub special_there : (text : List ℕ) (at m run : ℕ) → run ≡ first_place (begins is_special) (take m (drop at text)) → run < length (take m (drop at text))
    → (get_or text (at + run) 0 ≡ 10 → ⊥) → get_or text (at + run) 0 ≡ 61
special_there text at m run is lt other =
    let bytes = take m (drop at text) in
    let special : is_special (get_or text (at + run) 0) ≡ true =
    sym (ap is_special (byte_there text at m run lt))
    ∙ sym (ap (begins is_special) (drop_more bytes run 0 lt))
    ∙ ap (λ (j : ℕ). begins is_special (drop j bytes)) is
    ∙ first_place-passes (begins is_special) bytes (omega arith) in
    elim (cases_Bool (get_or text (at + run) 0 == 61)) [
      | inl sign ↦ eqb-true (get_or text (at + run) 0) 61 sign
      | inr no_sign ↦ absurd (other (eqb-true (get_or text (at + run) 0) 10 (sym (ap (λ (t : Bool). t || (get_or text (at + run) 0 == 10)) no_sign) ∙ special)))
    ]

pub plain-sign : (text : List ℕ) (at : ℕ) → get_or text at 0 ≡ 61 → first_escape (drop at text) ≡ None → IsPlain text at (at + 1)
plain-sign text at sign none = record {
  no_lf = λ k lo hi. ap (λ (j : ℕ). is_lf (get_or text j 0)) {x = k} {y = at} (omega arith) ∙ ap is_lf sign;
  no_escape = λ k lo hi. ap (λ (j : ℕ). first_escape (drop j text)) {x = k} {y = at} (omega arith) ∙ none;
}

-- where a line ends
lf_place : (text : List ℕ) (from to : ℕ) → from ≤ to → to ≤ length text → ((k : ℕ) → from ≤ k → k < to → is_lf (get_or text k 0) ≡ false) → (to < length text → get_or text to 0 ≡ 10)
    → to ≡ from + first_place (begins is_lf) (drop from text)
lf_place text from to low high no_lf lf_there =
    let len = length-drop from text in
    let same = first_place-begins is_lf (drop from text) in
    let at : position_or_len is_lf (drop from text) ≡ to - from = position_or_len_is is_lf (drop from text) (to - from) 0 (omega arith)
    (λ k l. ap is_lf (get_or-drop from text k 0) ∙ no_lf (from + k) (omega arith) (omega arith))
    (λ lt. ap is_lf (get_or-drop from text (to - from) 0 ∙ ap (λ (j : ℕ). get_or text j 0) {x = from + (to - from)} {y = to} (omega arith) ∙ lf_there (omega arith))) in
    omega arith

-- ---- a line that a soft line break ends

soft_line : (piece ending : List ℕ) → HasNoEscape piece → line_bytes (record { content = piece ++ 61 ∷ []; ending = ending }) ≡ piece
unfolding line_bytes
soft_line piece ending none =
    let trimmed : trimmed_at_end is_blank (piece ++ 61 ∷ []) ≡ piece ++ 61 ∷ [] = trimmed-front is_blank 61 piece [] refl in
    rw (trimmed, ends_in-push 61 piece, without_last-push 61 piece) (stays_whole piece none)

soft_lf : (piece : List ℕ) → HasNoEscape piece → line_bytes (ended_line (piece ++ 61 ∷ [])) ≡ piece
soft_lf piece none =
    let other : ends_in 13 (piece ++ 61 ∷ []) ≡ false = ends_in-front 13 61 piece [] refl in
    rw other (soft_line piece lf none)

soft_cr : (piece : List ℕ) → HasNoEscape piece → line_bytes (ended_line ((piece ++ 61 ∷ []) ++ 13 ∷ [])) ≡ piece
soft_cr piece none =
    rw (ends_in-push 13 (piece ++ 61 ∷ []), without_last-push 13 (piece ++ 61 ∷ [])) (soft_line piece cr_lf none)

-- one byte more of a piece
piece_more : (text : List ℕ) (from to b : ℕ) → from ≤ to → to < length text → get_or text to 0 ≡ b
    → take (to + 1 - from) (drop from text) ≡ take (to - from) (drop from text) ++ b ∷ []
piece_more text from to b low lt is =
    ap (λ (k : ℕ). take k (drop from text)) {x = to + 1 - from} {y = to - from + 1} (omega arith)
    ∙ take-add (to - from) 1 (drop from text)
    ∙ ap (λ (r : List ℕ). take (to - from) (drop from text) ++ r) (
    ap (take 1) (drop-drop (to - from) from text ∙ ap (λ (k : ℕ). drop k text) {x = from + (to - from)} {y = to} (omega arith) ∙ drop_more text to 0 lt)
    ∙ ap (λ (x : ℕ). x ∷ []) is)

-- where the bytes up to a place stay and more follow, so do those of a part that ends there
copied_more : (len n run : ℕ) (xs ys front more : List ℕ) → len + n ≤ length xs → take n (drop len xs) ≡ front
    → take (len + n + run) ys ≡ take (len + n) xs ++ more → (take len ys ≡ take len xs) × (take (n + run) (drop len ys) ≡ front ++ more)
copied_more len n run xs ys front more fits here is =
    let low : take len ys ≡ take len xs =
    sym (take-take len (len + n + run) ys (omega arith))
    ∙ ap (take len) is
    ∙ take-append-le len (take (len + n) xs) more (omega (arith, length-take-le (len + n) xs fits))
    ∙ take-take len (len + n) xs (omega arith) in (
      low,
      append_cancel_left (take len xs) _ _ (
          ap (λ (r : List ℕ). r ++ take (n + run) (drop len ys)) (sym low)
          ∙ sym (take-add len (n + run) ys)
          ∙ ap (λ (k : ℕ). take k ys) {x = len + (n + run)} {y = len + n + run} (omega arith)
          ∙ is
          ∙ ap (λ (r : List ℕ). r ++ more) (take-add len n xs ∙ ap (λ (r : List ℕ). take len xs ++ r) here)
          ∙ append_assoc (take len xs) front more),
    )

-- the bytes before an escape, whatever it encodes
before : (text : List ℕ) (from to : ℕ) (low : from ≤ to) (high : to ≤ length text) (plain : IsPlain text from to) → (first_escape (drop to text) ≡ None → ⊥)
    → quoted_printable (drop from text) ≡ take (to - from) (drop from text) ++ quoted_printable (drop to text)
before text from to low high plain some = go (first_escape (drop to text)) refl
  where
    go : (o : Option ℕ) → first_escape (drop to text) ≡ o → quoted_printable (drop from text) ≡ take (to - from) (drop from text) ++ quoted_printable (drop to text)
    go None e = absurd (some e)
    go (Some byte) e = before_escape text from to low high plain byte e

-- ---- the loop over special bytes

-- a line end or an escape was the last that was read
fresh : (text : List ℕ) (from : ℕ) (output : List ℕ) (len at : ℕ) → at ≤ length text → from + len ≤ at → len ≤ length output
    → take len output ++ quoted_printable (drop at text) ≡ quoted_printable (drop from text) → IsReading text from output len at at
fresh text from output len at within after capacity so_far = record {
  within = within;
  start = omega arith;
  after = after;
  fits = omega arith;
  so_far = so_far;
  copied = ap (λ (k : ℕ). take k (drop len output)) {x = at - at} {y = 0} (omega arith) ∙ sym (ap (λ (k : ℕ). take k (drop at text)) {x = at - at} {y = 0} (omega arith));
  is_plain = plain-empty text at;
}

-- a part that is written at a place and goes to the end
abbrev pub with_part : ℕ → List ℕ → List ℕ → List ℕ
with_part place output part = put_mid place (length output - place) output part

-- the part of the buffer from a place onwards
abbrev pub buffer_from : ℕ → List ℕ → List ℕ
buffer_from place output = take (length output - place) (drop place output)

length-buffer_from : (place : ℕ) (output : List ℕ) → length (buffer_from place output) ≡ length output - place
length-buffer_from place output = ap length (take_rest output place) ∙ length-drop place output

length-with_part : (place : ℕ) (output part : List ℕ) → place ≤ length output → length part ≡ length (buffer_from place output)
    → length (with_part place output part) ≡ length output
length-with_part place output part fits same =
    let k = length output - place in
    omega (
      arith,
      length-append (take place output) (part ++ drop k (drop place output)),
      length-append part (drop k (drop place output)),
      length-take-le place output fits,
      length-drop k (drop place output),
      same,
      length-take k (drop place output),
      length-drop place output,
    )

-- a run was copied, and it goes up to the end, or a special byte follows
pub record Ran (text : List ℕ) (from : ℕ) (output : List ℕ) (len plain at end run : ℕ) (part : List ℕ) : Type 0 where
  pub reading : IsReading text from (with_part (len + (at - plain)) output part) len plain (at + run)
  pub stopped : at + run ≢ end
      → (len + (at + run - plain) < length (with_part (len + (at - plain)) output part)) × (at + run < length text) × (get_or text (at + run) 0 ≢ 10 → get_or text (at + run) 0 ≡ 61)

module _ (text : List ℕ) (from : ℕ) (output : List ℕ) (len plain at : ℕ) (h : IsReading text from output len plain at) where
  abbrev place : ℕ
  place = len + (at - plain)

  -- the bytes that have been copied
  abbrev copy : List ℕ
  copy = take (at - plain) (drop plain text)

  length-copy : length copy ≡ at - plain
  length-copy = let within = h.within in length-take-le (at - plain) (drop plain text) (omega (arith, length-drop plain text))

  -- more bytes that are plain
  extended : (run to : ℕ) (ys : List ℕ) → to ≡ at + run → to ≤ length text → len + (to - plain) ≤ length ys
      → take (place + run) ys ≡ take place output ++ take run (drop at text) → IsPlain text at to → IsReading text from ys len plain to
  extended run to ys to_is within capacity is more =
      let n = at - plain in
      let start = h.start in
      let both = copied_more len n run output ys copy (take run (drop at text)) h.fits h.copied is in
      let e : to - plain ≡ n + run = omega arith in
      record {
        within = within;
        start = omega arith;
        after = h.after;
        fits = capacity;
        so_far = ap (λ (r : List ℕ). r ++ quoted_printable (drop plain text)) both.0 ∙ h.so_far;
        copied =
            ap (λ (k : ℕ). take k (drop len ys)) e
            ∙ both.1
            ∙ ap (λ (r : List ℕ). copy ++ take run r) (ap (λ (k : ℕ). drop k text) {x = at} {y = plain + n} (omega arith) ∙ sym (drop-drop n plain text))
            ∙ sym (take-add n run (drop plain text))
            ∙ ap (λ (k : ℕ). take k (drop plain text)) (sym e);
        is_plain = plain-joined text plain at to h.is_plain more;
      }

  module _ (n : ℕ) (part : List ℕ) (same : length part ≡ length (buffer_from place output)) where
    full : length (with_part place output part) ≡ length output
    full = length-with_part place output part h.fits same

    -- a run is copied
    pub after_run : (end : ℕ) → at ≤ end → end ≤ length text → end ≤ from + length output → n ≤ length (take (end - at) (drop at text))
        → n ≡ first_place (begins is_special) (take (end - at) (drop at text)) → take n part ≡ take n (take (end - at) (drop at text))
        → Ran text from output len plain at end n part
    after_run end ahead inside_text inside_output few first copied =
        let m = end - at in
        let short = length-take m (drop at text) in
        let rest = length-drop at text in
        let start = h.start in
        let after = h.after in
        let fits : place + n ≤ length output = omega arith in
        record {
          reading = extended n (at + n) (with_part place output part) refl (omega arith) (omega (arith, full))
              (written_rest place n output part fits same (take n (drop at text)) (copied ∙ take-take n m (drop at text) (omega arith)))
              (plain-run text at m n first);
          stopped = λ other.
              let lt : n < length (take m (drop at text)) = omega (arith, other) in
              (omega (arith, full), omega arith, special_there text at m n first lt);
        }

    -- bytes are copied that are plain
    pub after_copy : (to : ℕ) → n ≡ to - at → at ≤ to → to ≤ length text → place + n ≤ length output → IsPlain text at to → take n part ≡ take n (drop at text)
        → IsReading text from (with_part place output part) len plain to
    after_copy to few ahead inside fits free copied =
        let start = h.start in
        extended n to (with_part place output part) (omega arith) inside (omega (arith, full)) (written_rest place n output part fits same (take n (drop at text)) copied) free

    -- escapes are read
    pub after_escapes : n ≤ length (buffer_from place output) → n ≢ 0 → ((n ≡ 0) ↔ (first_escape (drop at text) ≡ None)) → at + 3 * n ≤ length text
        → take n part ++ quoted_printable (drop (at + 3 * n) text) ≡ quoted_printable (drop at text)
        → IsReading text from (with_part place output part) (place + n) (at + 3 * n) (at + 3 * n)
    after_escapes few some first within read =
        let next : List ℕ = quoted_printable (drop (at + 3 * n) text) in
        let after = h.after in
        let start = h.start in
        let fits : place + n ≤ length output = omega (arith, few, length-buffer_from place output, h.fits, some) in
        fresh text from (with_part place output part) (place + n) (at + 3 * n) within (omega arith) (omega (arith, full))
        (ap (λ (r : List ℕ). r ++ next) (written_rest place n output part fits same (take n part) refl)
        ∙ append_assoc (take place output) (take n part) next
        ∙ ap (λ (r : List ℕ). take place output ++ r) read
        ∙ ap (λ (r : List ℕ). r ++ quoted_printable (drop at text)) (take-add len (at - plain) output ∙ ap (λ (r : List ℕ). take len output ++ r) h.copied)
        ∙ append_assoc (take len output) copy (quoted_printable (drop at text))
        ∙ ap (λ (r : List ℕ). take len output ++ r) (sym (before text plain at h.start h.within h.is_plain (λ none. some (first.1 none))))
        ∙ h.so_far)

    -- nothing is read at the place
    pub after_none : n ≡ 0 → IsReading text from (with_part place output part) len plain at
    after_none none =
        extended 0 at (with_part place output part) (omega arith) h.within (omega (arith, full, h.fits)) (written_rest place 0 output part (omega (arith, h.fits)) same [] refl) (plain-empty text at)

  -- a vector is copied, of which as much counts as is plain
  pub after_vector : (m to : ℕ) (v : List ℕ) → v ≡ take m (drop at text) → at ≤ to → to ≤ at + m → at + m ≤ length text → place + m ≤ length output → IsPlain text at to
      → IsReading text from (put_chunk place output v) len plain to
  after_vector m to v is low high inside fits free =
      let start = h.start in
      let n : ℕ = to - at in
      let long : length v ≡ m = ap length is ∙ length-take-le m (drop at text) (omega (arith, length-drop at text)) in
      extended n to (put_chunk place output v) (omega arith) (omega arith) (omega (arith, length-put_chunk place output v))
      (stored_after place n output v (omega (arith, long)) (omega (arith, long))
      ∙ ap (λ (r : List ℕ). take place output ++ r) (ap (take n) is ∙ take-take n m (drop at text) (omega arith))) free

  -- an escape is read
  pub after_escape : (byte : ℕ) → place < length output → at + 3 ≤ length text → first_escape (drop at text) ≡ Some byte
      → IsReading text from (slice_set output place byte) (place + 1) (at + 3) (at + 3)
  after_escape byte fits inside is =
      let next : List ℕ = quoted_printable (drop (at + 3) text) in
      let after = h.after in
      let start = h.start in
      let read : quoted_printable (drop at text) ≡ byte ∷ next =
      escape_after [] (drop at text) byte (λ k l. absurd (omega arith)) (λ k l. absurd (omega arith)) is
      ∙ ap (λ (r : List ℕ). byte ∷ quoted_printable r) (drop-drop 3 at text) in
      fresh text from (slice_set output place byte) (place + 1) (at + 3) inside (omega arith) (omega (arith, fits, length-set output place byte))
      (ap (λ (r : List ℕ). r ++ next) (take_more_set output place byte fits)
      ∙ append_assoc (take place output) (byte ∷ []) next
      ∙ ap (λ (r : List ℕ). take place output ++ r) (sym read)
      ∙ ap (λ (r : List ℕ). r ++ quoted_printable (drop at text)) (take-add len (at - plain) output ∙ ap (λ (r : List ℕ). take len output ++ r) h.copied)
      ∙ append_assoc (take len output) copy (quoted_printable (drop at text))
      ∙ ap (λ (r : List ℕ). take len output ++ r) (sym (before_escape text plain at h.start h.within h.is_plain byte is))
      ∙ h.so_far)

  -- a soft line break takes the line end with it
  pub after_soft : (next : ℕ) → next ≤ length text → IsSoftBreak text at next → IsReading text from output place next next
  after_soft next within soft =
      let start = h.start in
      let after = h.after in
      let none = piece-no_escape text plain at h.start h.within h.is_plain in
      elim soft.1 [
        | inl one ↦
            let no_lf : (k : ℕ) → plain ≤ k → k < at + 1 → is_lf (get_or text k 0) ≡ false =
            (λ k lo hi. elim (cases_lt k at) [ inl lt ↦ h.is_plain.no_lf k lo lt | inr ge ↦ ap (λ (j : ℕ). is_lf (get_or text j 0)) {x = k} {y = at} (omega arith) ∙ ap is_lf soft.0 ]) in
            let end = lf_place text plain (at + 1) (omega arith) (omega (arith, one.0)) no_lf (λ _. one.1) in
            let piece = piece_more text plain at 61 h.start (omega (arith, one.0)) soft.0 in
            let line = ap (λ (r : List ℕ). line_bytes (ended_line r)) piece ∙ soft_lf copy none in
            softened (at + 1) next (omega (arith, one.0)) within end line h.start (omega arith)
        | inr two ↦
            let no_lf : (k : ℕ) → plain ≤ k → k < at + 2 → is_lf (get_or text k 0) ≡ false =
            (λ k lo hi. elim (cases_lt k at) [
              | inl lt ↦ h.is_plain.no_lf k lo lt
              | inr ge ↦ elim (cases_lt k (at + 1)) [
                | inl lt ↦ ap (λ (j : ℕ). is_lf (get_or text j 0)) {x = k} {y = at} (omega arith) ∙ ap is_lf soft.0
                | inr ge2 ↦ ap (λ (j : ℕ). is_lf (get_or text j 0)) {x = k} {y = at + 1} (omega arith) ∙ ap is_lf two.1
              ]
            ]) in
            let end = lf_place text plain (at + 2) (omega arith) (omega (arith, two.0)) no_lf (λ _. two.2) in
            let piece = piece_more text plain at 61 h.start (omega (arith, two.0)) soft.0 in
            let longer = piece_more text plain (at + 1) 13 (omega arith) (omega (arith, two.0)) two.1 in
            let both = ap (λ (k : ℕ). take (k - plain) (drop plain text)) {x = at + 2} {y = at + 1 + 1} (omega arith) ∙ longer ∙ ap (λ (r : List ℕ). r ++ 13 ∷ []) piece in
            let line = ap (λ (r : List ℕ). line_bytes (ended_line r)) both ∙ soft_cr copy none in
            softened (at + 2) next (omega (arith, two.0)) within end line h.start (omega arith)
      ]
    where
      softened : (end next : ℕ) → next ≡ end + 1 → next ≤ length text → end ≡ plain + first_place (begins is_lf) (drop plain text)
          → line_bytes (ended_line (take (end - plain) (drop plain text))) ≡ copy → plain ≤ at → at ≤ end → IsReading text from output place next next
      softened end next is within there line low high =
          let after = h.after in
          fresh text from output place next within (omega (arith, after, low, high, is)) h.fits
          (ap (λ (k : ℕ). take place output ++ quoted_printable (drop k text)) is
          ∙ sym (line_read text (take len output) plain end (omega (arith, is, within)) there (take place output) (omega (arith, is, within))
          (take-add len (at - plain) output ∙ ap (λ (r : List ℕ). take len output ++ r) (h.copied ∙ sym line)))
          ∙ h.so_far)

  -- a `=` that begins no escape stays
  pub after_sign : (part : List ℕ) → length part ≡ length (buffer_from place output) → place < length output → at < length text
      → get_or text at 0 ≡ 61 → first_escape (drop at text) ≡ None → IsReading text from (slice_set (with_part place output part) place 61) len plain (at + 1)
  after_sign part same fits lt sign none =
      let ys = with_part place output part in
      let start = h.start in
      let front : take place ys ≡ take place output =
      ap (λ (k : ℕ). take k ys) {x = place} {y = place + 0} (omega arith) ∙ written_rest place 0 output part (omega arith) same [] refl ∙ append-nil (take place output) in
      let capacity : place < length ys = omega (arith, fits, full 0 part same) in
      extended 1 (at + 1) (slice_set ys place 61) refl (omega arith) (omega (arith, capacity, length-set ys place 61))
      (take_more_set ys place 61 capacity
      ∙ ap (λ (r : List ℕ). r ++ 61 ∷ []) front
      ∙ ap (λ (r : List ℕ). take place output ++ r) (sym (ap (take 1) (drop_more text at 0 lt) ∙ ap (λ (b : ℕ). b ∷ take 0 (drop (at + 1) text)) sign)))
      (plain-sign text at sign none)

  module _ (n : ℕ) (part : List ℕ) (same : length part ≡ length (buffer_from len output)) where
    -- a line ends
    pub after_line : place < length output → at < length text → get_or text at 0 ≡ 10 → n ≤ length copy + 1 → take n part ≡ line_bytes (ended_line copy)
        → IsReading text from (with_part len output part) (len + n) (at + 1) (at + 1)
    after_line capacity lt lf_there few is =
        let after = h.after in
        let start = h.start in
        let fits : len + n ≤ length output = omega (arith, length-copy, capacity, few) in
        fresh text from (with_part len output part) (len + n) (at + 1) (omega arith) (omega (arith, length-copy, few))
        (omega (arith, fits, length-with_part len output part (omega arith) same))
        (sym (line_read text (take len output) plain at (omega arith) (lf_place text plain at h.start h.within h.is_plain.no_lf (λ _. lf_there))
        (take (len + n) (with_part len output part)) lt (written_rest len n output part fits same _ is))
        ∙ h.so_far)

    -- the text ends
    pub after_all : n ≤ length copy + 0 → at ≡ length text → take n part ≡ line_bytes (record { content = copy; ending = [] })
        → take (len + n) (with_part len output part) ++ quoted_printable (drop at text) ≡ quoted_printable (drop from text)
    after_all few end is =
        let start = h.start in
        let fits : len + n ≤ length output = omega (arith, length-copy, h.fits, few) in
        nothing_left text (take (len + n) (with_part len output part)) at (omega arith)
        ∙ sym (line_last text (take len output) plain at (omega arith) (lf_place text plain at h.start h.within h.is_plain.no_lf (λ lt. absurd (omega arith)))
        (take (len + n) (with_part len output part)) end (written_rest len n output part fits same _ is))
        ∙ h.so_far

  -- no escape begins in the copied bytes, and they are a part of those written
  pub copy-no_escape : HasNoEscape copy
  copy-no_escape = piece-no_escape text plain at h.start h.within h.is_plain

  pub copy-written : take (length copy) (buffer_from len output) ≡ copy
  copy-written =
      take-take (length copy) (length output - len) (drop len output) (omega (arith, length-copy, h.fits))
      ∙ ap (λ (k : ℕ). take k (drop len output)) length-copy
      ∙ h.copied

-- escapes are read, or a soft line break is, or both, one after the other
pub after_both : (text : List ℕ) (from : ℕ) (output : List ℕ) (len plain at : ℕ) → IsReading text from output len plain at → (n : ℕ) (part : List ℕ)
    → length part ≡ length (buffer_from (len + (at - plain)) output) → n ≤ length (buffer_from (len + (at - plain)) output)
    → ((n ≡ 0) ↔ (first_escape (drop at text) ≡ None)) → at + 3 * n ≤ length text
    → take n part ++ quoted_printable (drop (at + 3 * n) text) ≡ quoted_printable (drop at text)
    → (next : ℕ) → next ≢ at → next ≤ length text → (next ≢ at + 3 * n → IsSoftBreak text (at + 3 * n) next)
    → IsReading text from (with_part (len + (at - plain)) output part) (len + (at - plain) + n) next next
after_both text from output len plain at h n part same few first within read next moved inside soft = elim (cases_eq n 0) [
  | inl none ↦
      let start : at + 3 * n ≡ at = omega (arith, none) in
      let broken = subst (λ (j : ℕ). IsSoftBreak text j next) start (soft (λ e. moved (e ∙ start))) in
      let here = after_none text from output len plain at h n part same none in
      subst (λ (k : ℕ). IsReading text from ys k next next) {x = len + (at - plain)} {y = len + (at - plain) + n} (omega (arith, none)) (after_soft text from ys len plain at here next inside broken)
  | inr some ↦
      let escapes = after_escapes text from output len plain at h n part same few some first within read in
      elim (cases_eq next (at + 3 * n)) [
        | inl e ↦ subst (λ (k : ℕ). IsReading text from ys (len + (at - plain) + n) k k) (sym e) escapes
        | inr other ↦
            subst (λ (k : ℕ). IsReading text from ys k next next) {x = len + (at - plain) + n + (at + 3 * n - (at + 3 * n))} {y = len + (at - plain) + n} (omega arith)
            (after_soft text from ys (len + (at - plain) + n) (at + 3 * n) (at + 3 * n) escapes next inside (soft other))
      ]
]
  where
    ys : List ℕ
    ys = with_part (len + (at - plain)) output part

-- ---- the special bytes of a block

-- what is read up to a line end or an escape leaves the special bytes after it
pub in_block : {text output later : List ℕ} {found block : Specials} {end : ℕ} → IsInBlock text output found end
    → block.read.at ≡ block.next → found.next ≤ block.next → length later ≡ length output
    → block.read.len + found.read.plain ≤ found.read.len + block.read.plain
    → IsReading text block.read.from later block.read.len block.read.plain block.read.at
    → block.rest ≡ lane_mask is_special (take (end - block.next) (drop block.next text)) → IsInBlock text later block end
in_block {text = text} {block = block} h at low same fits reading left =
    let ahead = h.ahead in
    let near = h.near in
    let capacity = h.capacity in
    let within = reading.within in
    record {
      reading = reading;
      ahead = omega arith;
      inside = omega arith;
      is_plain = subst (IsPlain text block.read.at) at (plain-empty text block.read.at);
      left = left;
      near = omega arith;
      capacity = omega arith;
    }

-- the first special byte that is left
pub record AtSpecial (text output : List ℕ) (found : Specials) (end : ℕ) : Type 0 where
  pub block : IsInBlock text output found end
  pub inside : found.next < end
  pub sign : get_or text found.next 0 ≢ 10 → get_or text found.next 0 ≡ 61

pub at_special : (text output : List ℕ) (block : Specials) (end count rest : ℕ) → IsInBlock text output block end
    → ((test : ℕ → Bool) (bytes : List ℕ) → length bytes ≤ 64 → block.rest ≡ lane_mask test bytes → (count ≡ first_place (begins test) bytes) × (count < length bytes))
    → ((test : ℕ → Bool) (bytes : List ℕ) → block.rest ≡ lane_mask test bytes → rest ≡ lane_mask test (drop count bytes))
    → AtSpecial text output (record { read = block.read; next = block.next + count; rest = rest }) end
at_special text output block end count rest h least after =
    let ahead = h.ahead in
    let near = h.near in
    let few = length-take (end - block.next) (drop block.next text) in
    let first = least is_special (take (end - block.next) (drop block.next text)) (omega (arith, few)) h.left in
    record {
      block = record {
        reading = h.reading;
        ahead = omega arith;
        inside = omega (arith, few, first.1, length-drop block.next text);
        is_plain = plain-to_special text block.read.at block.next end count h.is_plain first.0;
        left = matches_later text block.next end count (block.next + count) block.rest rest refl after h.left;
        near = h.near;
        capacity = h.capacity;
      };
      inside = omega (arith, few, first.1);
      sign = special_there text block.next (end - block.next) count first.0 first.1;
    }
