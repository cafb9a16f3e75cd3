-- A text character by character: what is made of the first one, and then of the rest, is what is made of all.
use Rattle.std.proofs.Common.{◌≡◌, ℕ, List, [], ◌++◌, flat_map, sym, ap, ◌∙◌, append_assoc}
use Rattle.std.proofs.lemmas.List.{append-nil}
use Rattle.std.proofs.lemmas.Str.{chars-nil, chars_past_char}
use Rattle.std.specs.Char.{encode_utf8}
use Rattle.std.specs.Str.{chars, IsUtf8}

-- what is made of the characters of a text
abbrev pub made_of : (ℕ → List ℕ) → List ℕ → List ℕ
made_of f text = flat_map f (chars text)

-- the first character, and what follows it
made_of-first : (f : ℕ → List ℕ) (rest next : List ℕ) (c : ℕ) → IsUtf8 rest → rest ≡ encode_utf8 c ++ next → made_of f rest ≡ f c ++ made_of f next
made_of-first f rest next c utf8 e = ap (λ cs. flat_map f cs) (chars_past_char rest next c utf8 e)

made_of-nil : (f : ℕ → List ℕ) (rest : List ℕ) → rest ≡ [] → made_of f rest ≡ []
made_of-nil f rest e = ap (λ cs. flat_map f cs) (ap chars e ∙ chars-nil)

pub made_past : (f : ℕ → List ℕ) (all written rest next new : List ℕ) (c : ℕ) → IsUtf8 rest → rest ≡ encode_utf8 c ++ next → new ≡ written ++ f c
    → written ++ made_of f rest ≡ all → new ++ made_of f next ≡ all
made_past f all written rest next new c utf8 e push here =
    ap (λ w. w ++ made_of f next) push ∙ append_assoc written (f c) (made_of f next)
    ∙ ap (λ t. written ++ t) (sym (made_of-first f rest next c utf8 e)) ∙ here

pub made_end : (f : ℕ → List ℕ) (all written rest : List ℕ) → rest ≡ [] → written ++ made_of f rest ≡ all → written ≡ all
made_end f all written rest none here = sym (append-nil written) ∙ ap (λ t. written ++ t) (sym (made_of-nil f rest none)) ∙ here
