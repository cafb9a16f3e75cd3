-- x-user-defined, a byte at a time.
use Rattle.std.proofs.Common.{◌≡◌, ℕ, ◌+◌, ◌<◌, ◌≤◌, List, ◌++◌, length, get_or, drop, map, sym, ap, ◌∙◌, append-nil, append_assoc, encode_utf8_all}
use Rattle.std.specs.Prelude.{encode_utf8}
use Rattle.std.proofs.lemmas.List.{drop_all, drop_more}

-- the character of one more byte is appended
pub char_pushed : (f : ℕ → ℕ) (bs made total : List ℕ) (i : ℕ) → i < length bs → made ++ encode_utf8_all (map f (drop i bs)) ≡ total
    → (made ++ encode_utf8 (f (get_or bs i 0))) ++ encode_utf8_all (map f (drop (i + 1) bs)) ≡ total
char_pushed f bs made total i within all =
    append_assoc made (encode_utf8 (f (get_or bs i 0))) (encode_utf8_all (map f (drop (i + 1) bs)))
    ∙ ap (λ xs. made ++ encode_utf8_all (map f xs)) (sym (drop_more bs i 0 within)) ∙ all

-- no bytes are left
pub chars_done : (f : ℕ → ℕ) (bs made total : List ℕ) (i : ℕ) → length bs ≤ i → made ++ encode_utf8_all (map f (drop i bs)) ≡ total → made ≡ total
chars_done f bs made total i past all =
    sym (append-nil made) ∙ ap (λ xs. made ++ encode_utf8_all (map f xs)) (sym (drop_all i bs past)) ∙ all
