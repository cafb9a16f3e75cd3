-- Lemmas on keys without the blanks at their end.
use Rattle.std.proofs.Common.{◌≡◌, ℕ, ◌+◌, ◌-◌, ◌<◌, ◌≤◌, true, false, List, [], ◌∷◌, ◌++◌, length, take, drop, map, get_or, set, sym, ap, ◌∙◌, append_assoc, arith, inl, inr}
use Rattle.std.specs.List.{suffix_len}
use Rattle.std.proofs.lemmas.Bool.{cases_lt}
use Rattle.std.proofs.lemmas.List.{drop-drop, drop-set, drop_more, take_more_set}
use Rattle.std.proofs.lemmas.List.Sums.{suffix_len_is}
use Rattle.mail_codec.specs.Ascii.{is_blank}
use Rattle.mail_codec.specs.Places.{begins}
use Rattle.mail_codec.proofs.lemmas.Places.{begins-at}
use Rattle.mailparse.specs.Block.{bare_header, bare_key}
use Rattle.mailparse.specs.Header.{Header}

-- only blanks follow an offset in a key
pub record AreBlanks (key : List ℕ) (end : ℕ) : Type 0 where
  pub within : end ≤ length key
  pub blank : (k : ℕ) → end ≤ k → k < length key → is_blank (get_or key k 0) ≡ true

-- a blank more
pub blanks_more : (key : List ℕ) (end : ℕ) → AreBlanks key end → 0 < end → begins is_blank (drop (end - 1) key) ≡ true → AreBlanks key (end - 1)
blanks_more key end h some here =
    let within = h.within in record {
      within = omega arith;
      blank = λ k low high. elim (cases_lt k end) [
        | inl before ↦ let same : end - 1 ≡ k = omega arith in sym (begins-at is_blank key k high) ∙ ap (λ n. begins is_blank (drop n key)) (sym same) ∙ here
        | inr after ↦ h.blank k after high
      ];
    }

-- the key ends where they begin
pub blanks_all : (key : List ℕ) (end : ℕ) → AreBlanks key end → (0 < end → begins is_blank (drop (end - 1) key) ≡ false) → take end key ≡ bare_key key
blanks_all key end h stops =
    let within = h.within in
    let suffix = suffix_len_is is_blank key end 0 within h.blank (λ some. sym (begins-at is_blank key (end - 1) (omega arith)) ∙ stops some) in
    ap (λ n. take n key) {x = end} {y = length key - suffix_len is_blank key} (omega (arith, suffix))

-- one header more is without them
pub bare-step : (all headers : List Header) (i : ℕ) (d h : Header) → i < length headers → take i headers ++ map bare_header (drop i headers) ≡ all → h ≡ bare_header (get_or headers i d)
    → take (i + 1) (set headers i h) ++ map bare_header (drop (i + 1) (set headers i h)) ≡ all
bare-step all headers i d h low before is =
    let rest : drop (i + 1) (set headers i h) ≡ drop (i + 1) headers = sym (drop-drop 1 i (set headers i h)) ∙ ap (drop 1) (drop-set headers i h low) in
    ap (λ (front : List Header). front ++ map bare_header (drop (i + 1) (set headers i h))) (take_more_set headers i h low)
    ∙ ap (λ (after : List Header). (take i headers ++ h ∷ []) ++ map bare_header after) rest
    ∙ append_assoc (take i headers) (h ∷ []) (map bare_header (drop (i + 1) headers))
    ∙ ap (λ (x : Header). take i headers ++ x ∷ map bare_header (drop (i + 1) headers)) is
    ∙ sym (ap (λ (after : List Header). take i headers ++ map bare_header after) (drop_more headers i d low))
    ∙ before
