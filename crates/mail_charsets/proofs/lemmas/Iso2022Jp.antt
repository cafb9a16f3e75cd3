-- ISO-2022-JP, a step at a time.
use Rattle.std.proofs.Common.{◌≡◌, ℕ, zero, suc, ◌+◌, ◌-◌, ◌<◌, List, [], ◌∷◌, ◌++◌, drop, length, refl, sym, ap, ◌∙◌, arith, append-nil, append_assoc, drop-drop, encode_utf8_all}
use Rattle.std.proofs.lemmas.Str.{encodes-append}
use Rattle.mail_codec.specs.Front.{Taken}
use Rattle.mail_charsets.specs.Iso2022Jp.{jp_after, jp_step, jp_text_from}
use Rattle.mail_charsets.specs.declared.iso_2022_jp.State.{State}

-- bytes that have been read already are skipped
skips : (n : ℕ) (index : List ℕ) (state : State) (bs : List ℕ) → jp_after n index state bs ≡ jp_after 0 index state (drop n bs)
skips zero index state bs = refl
skips (suc n) index state [] = refl
skips (suc n) index state (b ∷ bs) = skips n index state bs

-- a step, and the rest
after_step : (index : List ℕ) (state next : State) (bs cs : List ℕ) (n : ℕ) → 0 < length bs → 0 < n → ((cs, n), next) ≡ jp_step index state bs
    → jp_after 0 index state bs ≡ cs ++ jp_after 0 index next (drop n bs)
after_step index state next [] cs n some takes is = absurd (omega (arith, some))
after_step index state next (b ∷ bs) cs zero some takes is = absurd (omega (arith, takes))
after_step index state next (b ∷ bs) cs (suc n) some takes is =
    let e : suc n - 1 ≡ n = omega arith in
    ap (λ (t : Taken × State). t.0.0 ++ jp_after (t.0.1 - 1) index t.1 bs) (sym is) ∙ ap (λ (m : ℕ). cs ++ jp_after m index next bs) e
    ∙ ap (λ xs. cs ++ xs) (skips n index next bs)

pub text_step : (index : List ℕ) (state next : State) (bs cs : List ℕ) (n : ℕ) → 0 < length bs → 0 < n → ((cs, n), next) ≡ jp_step index state bs
    → jp_text_from index state bs ≡ encode_utf8_all cs ++ jp_text_from index next (drop n bs)
unfolding jp_text_from
text_step index state next bs cs n some takes is =
    ap encode_utf8_all (after_step index state next bs cs n some takes is) ∙ encodes-append cs (jp_after 0 index next (drop n bs))

-- no bytes are left
pub text_done : (index : List ℕ) (state : State) (made rest total : List ℕ) → length rest ≡ 0 → made ++ jp_text_from index state rest ≡ total → made ≡ total
unfolding jp_text_from
text_done index state made [] total none h = sym (append-nil made) ∙ h
text_done index state made (b ∷ rest) total none h = absurd (omega (arith, none))

-- one more step is written
pub text_written : (index : List ℕ) (state next : State) (bs made pushed total cs : List ℕ) (taken n : ℕ) → total ≡ made ++ jp_text_from index state (drop taken bs)
    → pushed ≡ made ++ encode_utf8_all cs → 0 < length (drop taken bs) → 0 < n → ((cs, n), next) ≡ jp_step index state (drop taken bs)
    → total ≡ pushed ++ jp_text_from index next (drop (taken + n) bs)
text_written index state next bs made pushed total cs taken n all one some takes is =
    rw (all, one, text_step index state next (drop taken bs) cs n some takes is, drop-drop, append_assoc) refl

-- the steps that were written are appended
pub steps_pushed : (index : List ℕ) (state next : State) (bs made written total : List ℕ) (n : ℕ)
    → jp_text_from index state bs ≡ written ++ jp_text_from index next (drop n bs) → made ++ jp_text_from index state bs ≡ total
    → (made ++ written) ++ jp_text_from index next (drop n bs) ≡ total
steps_pushed index state next bs made written total n is all =
    append_assoc made written (jp_text_from index next (drop n bs)) ∙ ap (λ xs. made ++ xs) (sym is) ∙ all
