-- Lemmas on folding: lines are cut at their LF.
use Rattle.std.proofs.Common.{◌≡◌, ℕ, zero, suc, ◌+◌, ◌-◌, ◌<◌, ◌≤◌, Bool, true, false, cond, List, [], ◌∷◌, ◌++◌, length, length-drop, take, drop, Some, None, eqb, ◌&&◌, ◌||◌, inl, inr, refl, sym, ap, ◌∙◌, append_assoc, arith}
use Rattle.std.proofs.lemmas.Bool.{cases_Bool, eqb-true, false≢true, ne_eqb}
use Rattle.std.proofs.lemmas.List.{append-nil, drop-drop, take-append-drop, take_all, take_rest}
use Rattle.std.proofs.Math.Seq.{take-add}
use Rattle.mail_codec.specs.Places.{begins, byte_place, first_place}
use Rattle.mail_codec.proofs.lemmas.Places.{first_place-here, first_place-past, first_place-passes}
use Rattle.mail_codec.proofs.lemmas.PlacesSearches.{place_none, place_some}
use Rattle.mail_read.specs.lenient.Folding.{is_blank, is_fold, is_folded_feed, unfolded}

abbrev feeds : List ℕ → Bool
feeds = begins (λ b. eqb b 10)

-- bytes without a LF
abbrev no_feed : List ℕ → Bool
no_feed [] = true
no_feed (b ∷ rest) = cond (eqb b 10) false (no_feed rest)

-- the last byte is a CR
abbrev ends_in_return : List ℕ → Bool
ends_in_return [] = false
ends_in_return (b ∷ []) = eqb b 13
ends_in_return (b ∷ c ∷ rest) = ends_in_return (c ∷ rest)

-- the bytes before the first LF have none
front-free : (p : ℕ) (bytes : List ℕ) → p ≤ first_place feeds bytes → no_feed (take p bytes) ≡ true
front-free zero bytes h = refl
front-free (suc p) [] h = refl
front-free (suc p) (b ∷ rest) h = elim (cases_Bool (eqb b 10)) [
  | inl e ↦ let here = first_place-here feeds (b ∷ rest) e in absurd (omega (arith, h, here))
  | inr e ↦
      let later = first_place-past feeds b rest e in
      ap (λ (t : Bool). cond t false (no_feed (take p rest))) e ∙ front-free p rest (omega (arith, h, later))
]

-- a byte that is not one of folding stays
stays : (b : ℕ) (rest : List ℕ) → is_fold (b ∷ rest) ≡ false → unfolded (b ∷ rest) ≡ b ∷ unfolded rest
stays b rest e = ap (λ (t : Bool). cond t (unfolded rest) (b ∷ unfolded rest)) e

goes : (b : ℕ) (rest : List ℕ) → is_fold (b ∷ rest) ≡ true → unfolded (b ∷ rest) ≡ unfolded rest
goes b rest e = ap (λ (t : Bool). cond t (unfolded rest) (b ∷ unfolded rest)) e

-- what a byte other than a LF is, by what follows it
no_fold : (b : ℕ) (rest : List ℕ) → eqb b 10 ≡ false → eqb b 13 && is_folded_feed rest ≡ false → is_fold (b ∷ rest) ≡ false
no_fold b rest feed return = ap (λ (t : Bool). (t && begins is_blank rest) || (eqb b 13 && is_folded_feed rest)) feed ∙ return

pub and_false : (a b : Bool) → b ≡ false → a && b ≡ false
and_false true b e = e
and_false false b e = refl

free_head : (b : ℕ) (rest : List ℕ) → no_feed (b ∷ rest) ≡ true → (eqb b 10 ≡ false) × (no_feed rest ≡ true)
free_head b rest h = elim (cases_Bool (eqb b 10)) [
  | inl e ↦ absurd (false≢true (sym (ap (λ (t : Bool). cond t false (no_feed rest)) e) ∙ h))
  | inr e ↦ (e, sym (ap (λ (t : Bool). cond t false (no_feed rest)) e) ∙ h)
]

-- a line without a LF stays, before what does not fold it
line-stays : (line tail : List ℕ) → no_feed line ≡ true → ends_in_return line && is_folded_feed tail ≡ false → unfolded (line ++ tail) ≡ line ++ unfolded tail
line-stays [] tail free h = refl
line-stays (b ∷ []) tail free h = stays b tail (no_fold b tail ((free_head b [] free).0) h)
line-stays (b ∷ c ∷ rest) tail free h =
    let head = free_head b (c ∷ rest) free in
    let next = free_head c rest head.1 in
    let no_line_end : is_folded_feed (c ∷ (rest ++ tail)) ≡ false = ap (λ (t : Bool). t && begins is_blank (rest ++ tail)) next.0 in
    stays b (c ∷ (rest ++ tail)) (no_fold b (c ∷ (rest ++ tail)) head.0 (and_false (eqb b 13) (is_folded_feed (c ∷ (rest ++ tail))) no_line_end))
    ∙ ap (λ (r : List ℕ). b ∷ r) (line-stays (c ∷ rest) tail head.1 h)

-- the end of a line
ends-in : (front : List ℕ) (last : ℕ) → ends_in_return (front ++ last ∷ []) ≡ eqb last 13
ends-in [] last = refl
ends-in (b ∷ []) last = refl
ends-in (b ∷ c ∷ rest) last = ends-in (c ∷ rest) last

front_free : (front tail : List ℕ) → no_feed (front ++ tail) ≡ true → no_feed front ≡ true
front_free [] tail h = refl
front_free (b ∷ front) tail h =
    let head = free_head b (front ++ tail) h in
    ap (λ (t : Bool). cond t false (no_feed front)) head.0 ∙ front_free front tail head.1

-- ---- the line before the first LF

at-feed : (rest : List ℕ) → feeds rest ≡ true → rest ≡ 10 ∷ drop 1 rest
at-feed [] h = absurd (false≢true h)
at-feed (b ∷ rest) h = ap (λ (x : ℕ). x ∷ rest) (eqb-true b 10 h)

record Cut (bytes : List ℕ) (p : ℕ) : Type 0 where
  whole : bytes ≡ take p bytes ++ 10 ∷ drop (p + 1) bytes
  free : no_feed (take p bytes) ≡ true

cut : (bytes : List ℕ) (p : ℕ) → Some p ≡ byte_place bytes 10 → Cut bytes p
cut bytes p found =
    let is = place_some feeds bytes p found in
    let there : feeds (drop p bytes) ≡ true = ap (λ (k : ℕ). feeds (drop k bytes)) is.0 ∙ first_place-passes feeds bytes is.1 in record {
      whole = sym (take-append-drop p bytes) ∙ ap (λ (r : List ℕ). take p bytes ++ r) (at-feed (drop p bytes) there ∙ ap (λ (r : List ℕ). 10 ∷ r) (drop-drop 1 p bytes));
      free = front-free p bytes (omega (arith, is.0));
    }

there : (bytes : List ℕ) (p : ℕ) → Some p ≡ byte_place bytes 10 → drop p bytes ≡ 10 ∷ drop (p + 1) bytes
there bytes p found =
    let is = place_some feeds bytes p found in
    at-feed (drop p bytes) (ap (λ (k : ℕ). feeds (drop k bytes)) is.0 ∙ first_place-passes feeds bytes is.1)
    ∙ ap (λ (r : List ℕ). 10 ∷ r) (drop-drop 1 p bytes)

with-feed : (bytes : List ℕ) (p : ℕ) → Some p ≡ byte_place bytes 10 → take p bytes ++ 10 ∷ [] ≡ take (p + 1) bytes
with-feed bytes p found =
    ap (λ (r : List ℕ). take p bytes ++ take 1 r) (sym (there bytes p found)) ∙ sym (take-add p 1 bytes)

-- it stays with its LF, if no blank follows
pub whole_line : (bytes : List ℕ) (p : ℕ) → Some p ≡ byte_place bytes 10 → begins is_blank (drop (p + 1) bytes) ≡ false
    → unfolded bytes ≡ take (p + 1) bytes ++ unfolded (drop (p + 1) bytes)
whole_line bytes p found unblank =
    let rest = drop (p + 1) bytes in
    let line = take p bytes in
    let is = cut bytes p found in
    let kept : is_fold (10 ∷ rest) ≡ false = ap (λ (t : Bool). t || false) unblank in
    ap unfolded is.whole ∙ line-stays line (10 ∷ rest) is.free (and_false (ends_in_return line) (is_folded_feed (10 ∷ rest)) unblank)
    ∙ ap (λ (r : List ℕ). line ++ r) (stays 10 rest kept) ∙ sym (append_assoc line (10 ∷ []) (unfolded rest))
    ∙ ap (λ (r : List ℕ). r ++ unfolded rest) (with-feed bytes p found)

-- a line that ends in no CR, before a blank
folded : (bytes : List ℕ) (p : ℕ) → Some p ≡ byte_place bytes 10 → begins is_blank (drop (p + 1) bytes) ≡ true
    → ends_in_return (take p bytes) ≡ false → unfolded bytes ≡ take p bytes ++ unfolded (drop (p + 1) bytes)
folded bytes p found blank end =
    let rest = drop (p + 1) bytes in
    let line = take p bytes in
    let is = cut bytes p found in
    let folds : is_fold (10 ∷ rest) ≡ true = ap (λ (t : Bool). t || false) blank in
    ap unfolded is.whole ∙ line-stays line (10 ∷ rest) is.free (ap (λ (t : Bool). t && is_folded_feed (10 ∷ rest)) end)
    ∙ ap (λ (r : List ℕ). line ++ r) (goes 10 rest folds)

-- the empty line before a blank
pub empty_line : (bytes line : List ℕ) (p : ℕ) → Some p ≡ byte_place bytes 10 → begins is_blank (drop (p + 1) bytes) ≡ true
    → line ≡ take p bytes → length line ≡ 0 → unfolded bytes ≡ line ++ unfolded (drop (p + 1) bytes)
empty_line bytes [] p found blank is none =
    folded bytes p found blank (ap ends_in_return (sym is)) ∙ ap (λ (r : List ℕ). r ++ unfolded (drop (p + 1) bytes)) (sym is)
empty_line bytes (b ∷ line) p found blank is none = absurd (omega (arith, none))

-- a line that ends in another byte
pub other_line : (bytes line front : List ℕ) (last p : ℕ) → Some p ≡ byte_place bytes 10 → begins is_blank (drop (p + 1) bytes) ≡ true
    → line ≡ take p bytes → line ≡ front ++ last ∷ [] → (last ≡ 13 → ⊥) → unfolded bytes ≡ line ++ unfolded (drop (p + 1) bytes)
other_line bytes line front last p found blank is cut_line other =
    folded bytes p found blank (ap ends_in_return (sym is ∙ cut_line) ∙ ends-in front last ∙ ne_eqb last 13 other)
    ∙ ap (λ (r : List ℕ). r ++ unfolded (drop (p + 1) bytes)) (sym is)

-- a line that ends in a CR
pub return_line : (bytes line front : List ℕ) (last p : ℕ) → Some p ≡ byte_place bytes 10 → begins is_blank (drop (p + 1) bytes) ≡ true
    → line ≡ take p bytes → line ≡ front ++ last ∷ [] → last ≡ 13 → unfolded bytes ≡ front ++ unfolded (drop (p + 1) bytes)
return_line bytes line front last p found blank is cut_line return =
    let rest = drop (p + 1) bytes in
    let whole = cut bytes p found in
    let split : take p bytes ≡ front ++ 13 ∷ [] = sym is ∙ cut_line ∙ ap (λ (x : ℕ). front ++ x ∷ []) return in
    let free = front_free front (13 ∷ []) (ap no_feed (sym split) ∙ whole.free) in
    let folds : is_fold (10 ∷ rest) ≡ true = ap (λ (t : Bool). t || false) blank in
    let returns : is_fold (13 ∷ 10 ∷ rest) ≡ true = blank in
    ap unfolded (whole.whole ∙ ap (λ (r : List ℕ). r ++ 10 ∷ rest) split ∙ append_assoc front (13 ∷ []) (10 ∷ rest))
    ∙ line-stays front (13 ∷ 10 ∷ rest) free (and_false (ends_in_return front) false refl)
    ∙ ap (λ (r : List ℕ). front ++ r) (goes 13 (10 ∷ rest) returns ∙ goes 10 rest folds)

-- ---- the bytes after the last LF

pub last_line : (bytes : List ℕ) → None ≡ byte_place bytes 10 → unfolded bytes ≡ bytes
last_line bytes none =
    let past = place_none feeds bytes none in
    let free : no_feed bytes ≡ true =
    ap no_feed (sym (take_all (length bytes) bytes (omega arith))) ∙ front-free (length bytes) bytes (omega (arith, past)) in
    ap unfolded (sym (append-nil bytes)) ∙ line-stays bytes [] free (and_false (ends_in_return bytes) false refl) ∙ append-nil bytes

-- ---- the same of slices

-- the bytes after a line are fewer
pub fewer : (bytes : List ℕ) (p : ℕ) → Some p ≡ byte_place bytes 10 → length (take (length bytes - (p + 1)) (drop (p + 1) bytes)) < length bytes
fewer bytes p found =
    let is = place_some feeds bytes p found in
    let size = length-drop (p + 1) bytes in
    let same = ap length (take_rest bytes (p + 1)) in
    omega (arith, is.0, is.1, size, same)

pub within_line : (bytes : List ℕ) (p : ℕ) → Some p ≡ byte_place bytes 10 → p + 1 ≤ length bytes
within_line bytes p found = let is = place_some feeds bytes p found in omega (arith, is.0, is.1)

pub and_rest : (bytes line : List ℕ) (p : ℕ) → unfolded bytes ≡ line ++ unfolded (drop (p + 1) bytes)
    → unfolded bytes ≡ line ++ unfolded (take (length bytes - (p + 1)) (drop (p + 1) bytes))
and_rest bytes line p is = is ∙ ap (λ (r : List ℕ). line ++ unfolded r) (sym (take_rest bytes (p + 1)))

pub ruleset line_cuts = (last_line, within_line, fewer, and_rest)

pub unblank : (bytes : List ℕ) (p : ℕ) (r : Bool) → r ≡ begins is_blank (take (length bytes - (p + 1)) (drop (p + 1) bytes)) → r ≡ false
    → begins is_blank (drop (p + 1) bytes) ≡ false
unblank bytes p r is other = ap (begins is_blank) (sym (take_rest bytes (p + 1))) ∙ sym is ∙ other

pub blank : (bytes : List ℕ) (p : ℕ) (r : Bool) → r ≡ begins is_blank (take (length bytes - (p + 1)) (drop (p + 1) bytes)) → r ≡ true
    → begins is_blank (drop (p + 1) bytes) ≡ true
blank bytes p r is so = ap (begins is_blank) (sym (take_rest bytes (p + 1))) ∙ sym is ∙ so
