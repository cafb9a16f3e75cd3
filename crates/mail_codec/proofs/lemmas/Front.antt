-- The characters at the front, and then those of the bytes after them.
use Rattle.std.proofs.Common.{◌≡◌, ℕ, zero, suc, ◌-◌, ◌<◌, false, List, [], ◌∷◌, ◌++◌, drop, length, refl, sym, ap, ◌∙◌, arith, append-nil, encode_utf8_all}
use Rattle.std.specs.Prelude.{◌==◌}
use Rattle.std.proofs.lemmas.Bool.Decides.{nat_tests}
use Rattle.std.proofs.lemmas.Str.{encodes-append}
use Rattle.mail_codec.specs.Front.{Taken, chars_after, chars_by, text_by}

-- bytes that have been read already are skipped
skips : (n : ℕ) (front : List ℕ → Taken) (bs : List ℕ) → chars_after n front bs ≡ chars_after 0 front (drop n bs)
skips zero front bs = refl
skips (suc n) front [] = refl
skips (suc n) front (b ∷ bs) = skips n front bs

-- the front, and the rest
pub chars_front : (front : List ℕ → Taken) (bs cs : List ℕ) (n : ℕ) → 0 < length bs → 0 < n → (cs, n) ≡ front bs
    → chars_by front bs ≡ cs ++ chars_by front (drop n bs)
chars_front front [] cs n some takes is = absurd (omega (arith, some))
chars_front front (b ∷ bs) cs zero some takes is = absurd (omega (arith, takes))
chars_front front (b ∷ bs) cs (suc n) some takes is =
    let e : suc n - 1 ≡ n = omega arith in
    ap (λ (t : Taken). t.0 ++ chars_after (t.1 - 1) front bs) (sym is) ∙ ap (λ (m : ℕ). cs ++ chars_after m front bs) e ∙ ap (λ xs. cs ++ xs) (skips n front bs)

pub text_front : (front : List ℕ → Taken) (bs cs : List ℕ) (n : ℕ) → 0 < length bs → 0 < n → (cs, n) ≡ front bs
    → text_by front bs ≡ encode_utf8_all cs ++ text_by front (drop n bs)
unfolding text_by
text_front front bs cs n some takes is = ap encode_utf8_all (chars_front front bs cs n some takes is) ∙ encodes-append cs (chars_by front (drop n bs))

-- no bytes are left
pub text_done : (front : List ℕ → Taken) (made rest total : List ℕ) → length rest ≡ 0 → made ++ text_by front rest ≡ total → made ≡ total
unfolding text_by
text_done front made [] total none h = sym (append-nil made) ∙ h
text_done front made (b ∷ rest) total none h = absurd (omega (arith, none))

-- some bytes are left
pub some_left : (n : ℕ) → (n == 0) ≡ false → 0 < n
some_left n is = grind (arith, nat_tests)
