-- The characters at the front, and then those of the bytes after them.
use Rattle.std.proofs.Common.{◌≡◌, ℕ, zero, suc, ◌+◌, ◌-◌, ◌<◌, ◌≤◌, true, false, List, [], ◌∷◌, ◌++◌, take, drop, IsAscii, length, get_or, refl, sym, ap, ◌∙◌, arith, Option, None, Some, append_assoc, drop-drop, length-drop, encode_utf8_all}
use Rattle.std.specs.Prelude.{nat_lt}
use Rattle.std.proofs.lemmas.Bool.Decides.{nat_tests}
use Rattle.std.proofs.lemmas.List.{take_rest}
use Rattle.std.proofs.lemmas.Str.{encodes-IsAscii}
use Rattle.mail_codec.specs.Front.{Taken, text_by}
use Rattle.mail_codec.proofs.lemmas.Front.{text_front}
use Rattle.mail_charsets.specs.Front.{fault, front_by, long_or, pair}

below : (b n : ℕ) → b < n → nat_lt b n ≡ true
below b n h = grind (arith, nat_tests)

above : (b n : ℕ) → n ≤ b → nat_lt b n ≡ false
above b n h = grind (arith, nat_tests)

-- the front by its parts
module _ (long : List ℕ → Option Taken) (single : ℕ → Option ℕ) (pairs : ℕ → ℕ → List ℕ) (bs : List ℕ) where
  pub front_ascii : get_or bs 0 0 < 128 → (get_or bs 0 0 ∷ [], 1) ≡ front_by long single pairs bs
  unfolding front_by
  front_ascii small = rw (below _ _ small) refl

  pub front_single : (x : ℕ) → 128 ≤ get_or bs 0 0 → Some x ≡ single (get_or bs 0 0) → (x ∷ [], 1) ≡ front_by long single pairs bs
  unfolding front_by
  front_single x large is = rw (above _ _ large, ← is) refl

  pub front_cut : 128 ≤ get_or bs 0 0 → None ≡ single (get_or bs 0 0) → length bs < 2 → fault 1 ≡ front_by long single pairs bs
  unfolding front_by
  front_cut large is few = rw (above _ _ large, ← is, below _ _ few) refl

  pub front_rest : 128 ≤ get_or bs 0 0 → None ≡ single (get_or bs 0 0) → 2 ≤ length bs
      → long_or (long bs) (pair (pairs (get_or bs 0 0) (get_or bs 1 0)) (get_or bs 1 0)) ≡ front_by long single pairs bs
  unfolding front_by
  front_rest large is two = rw (above _ _ large, ← is, above _ _ two) refl

  pub front_long : (t : Taken) → 128 ≤ get_or bs 0 0 → None ≡ single (get_or bs 0 0) → 2 ≤ length bs → Some t ≡ long bs → t ≡ front_by long single pairs bs
  front_long t large is two found =
      ap (λ o. long_or o (pair (pairs (get_or bs 0 0) (get_or bs 1 0)) (get_or bs 1 0))) found ∙ front_rest large is two

  pub front_pair : 128 ≤ get_or bs 0 0 → None ≡ single (get_or bs 0 0) → 2 ≤ length bs → None ≡ long bs
      → pair (pairs (get_or bs 0 0) (get_or bs 1 0)) (get_or bs 1 0) ≡ front_by long single pairs bs
  front_pair large is two found =
      ap (λ o. long_or o (pair (pairs (get_or bs 0 0) (get_or bs 1 0)) (get_or bs 1 0))) found ∙ front_rest large is two

-- a run of ASCII bytes is its own text
pub text_ascii : (long : List ℕ → Option Taken) (single : ℕ → Option ℕ) (pairs : ℕ → ℕ → List ℕ) (n : ℕ) (bs : List ℕ) → IsAscii (take n bs)
    → text_by (front_by long single pairs) bs ≡ take n bs ++ text_by (front_by long single pairs) (drop n bs)
text_ascii long single pairs zero bs low = refl
text_ascii long single pairs (suc n) [] low = refl
text_ascii long single pairs (suc n) (b ∷ bs) low =
    text_front (front_by long single pairs) (b ∷ bs) (b ∷ []) 1 (omega arith) (omega arith) (front_ascii long single pairs (b ∷ bs) (low 0))
    ∙ ap (λ xs. xs ++ text_by (front_by long single pairs) bs) (encodes-IsAscii (b ∷ []) (elim [ zero ↦ low 0 | suc k ↦ omega arith ]))
    ∙ ap (λ xs. b ∷ xs) (text_ascii long single pairs n bs (λ k. low (suc k)))

-- appending a run of ASCII bytes keeps the whole text
pub ascii_pushed : (long : List ℕ → Option Taken) (single : ℕ → Option ℕ) (pairs : ℕ → ℕ → List ℕ) (n : ℕ) (bs made pushed : List ℕ) → IsAscii (take n bs)
    → pushed ≡ made ++ take n bs → pushed ++ text_by (front_by long single pairs) (drop n bs) ≡ made ++ text_by (front_by long single pairs) bs
ascii_pushed long single pairs n bs made pushed low is =
    ap (λ xs. xs ++ text_by (front_by long single pairs) (drop n bs)) is ∙ append_assoc made (take n bs) (text_by (front_by long single pairs) (drop n bs))
    ∙ ap (λ xs. made ++ xs) (sym (text_ascii long single pairs n bs low))

pub fronts_pushed : (front : List ℕ → Taken) (bs made pushed written : List ℕ) (n : ℕ) → text_by front bs ≡ written ++ text_by front (drop n bs)
    → pushed ≡ made ++ written → pushed ++ text_by front (drop n bs) ≡ made ++ text_by front bs
fronts_pushed front bs made pushed written n all is =
    ap (λ xs. xs ++ text_by front (drop n bs)) is ∙ append_assoc made written (text_by front (drop n bs)) ∙ ap (λ xs. made ++ xs) (sym all)

-- fewer bytes are left after some
pub fewer_left : (bs : List ℕ) (n : ℕ) → 0 < n → 0 < length bs → length (take (length bs - n) (drop n bs)) < length bs
fewer_left bs n takes some = rw (take_rest, length-drop) (omega (arith, takes, some))

-- some bytes are left after some
pub some_after : (bs : List ℕ) (n : ℕ) → n < length bs → 0 < length (take (length bs - n) (drop n bs))
some_after bs n within = rw (take_rest, length-drop) (omega (arith, within))

-- one more front is written
pub text_written : (front : List ℕ → Taken) (bs made pushed total cs : List ℕ) (taken n : ℕ) → total ≡ made ++ text_by front (drop taken bs)
    → pushed ≡ made ++ encode_utf8_all cs → 0 < length (drop taken bs) → 0 < n → (cs, n) ≡ front (drop taken bs)
    → total ≡ pushed ++ text_by front (drop (taken + n) bs)
text_written front bs made pushed total cs taken n all one some takes is =
    rw (all, one, text_front front (drop taken bs) cs n some takes is, drop-drop, append_assoc) refl
