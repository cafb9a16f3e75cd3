-- Lemmas on names with a number.
use Rattle.std.proofs.Common.{◌≡◌, ℕ, List, [], ◌∷◌, ◌++◌, take, drop, refl, sym, ap, subst, ◌∙◌}
use Rattle.std.proofs.lemmas.List.{append-nil, take-append-drop}
use Rattle.std.specs.Str.{NoCharPasses}
use Rattle.std.specs.Str.Pattern.{HasCharAt}
use Rattle.mail_extract.specs.Names.{IsNumbered, IsNumberedBefore, is_dot}
use Rattle.mail_extract.specs.declared.options.Naming.{Naming}

-- a name that was cut at its last dot
pub numbered_cut : (naming : Naming) (name stem rest ending text : List ℕ) (number i j : ℕ) → NoCharPasses is_dot (drop j name) → HasCharAt 46 name i j → stem ≡ take i name
    → rest ≡ drop j name → ending ≡ 46 ∷ rest → IsNumberedBefore naming stem ending number text → IsNumbered naming name number text
unfolding lib.Utf8.encode
numbered_cut naming name stem rest ending text number i j none at is_stem is_rest is_ending h =
    let whole : name ≡ stem ++ (46 ∷ rest) =
    sym (take-append-drop i name) ∙ ap (λ (t : List ℕ). take i name ++ t) at.split ∙ ap (λ (t : List ℕ). take i name ++ (46 ∷ t)) (sym is_rest)
    ∙ ap (λ (t : List ℕ). t ++ (46 ∷ rest)) (sym is_stem)
    in record {
      stem = stem;
      ending = 46 ∷ rest;
      cut = whole;
      is_ending = (refl, subst (λ (t : List ℕ). NoCharPasses is_dot t) (sym is_rest) none);
      numbered = subst (λ (e : List ℕ). IsNumberedBefore naming stem e number text) is_ending h;
    }

-- a name without a dot
pub numbered_whole : (naming : Naming) (name text : List ℕ) (number : ℕ) → NoCharPasses is_dot name → IsNumberedBefore naming name [] number text → IsNumbered naming name number text
numbered_whole naming name text number none h = record { stem = name; ending = []; cut = sym (append-nil name); is_ending = none; numbered = h }
