-- A name of plain ASCII characters is unchanged between its quotation marks.
use Rattle.std.proofs.Common.{◌≡◌, ℕ, Bool, true, not, List, [], ◌∷◌, ◌++◌, refl, ap, ap₂, ◌∙◌}
use Rattle.std.proofs.lemmas.Bool.{and_parts, not-true}
use Rattle.std.specs.List.{list_all}
use Rattle.mail_codec.specs.Escapes.{may_need_escape}
use Rattle.mail_json_text.specs.JsonText.{escaped, escaped_after, json_text}
use Rattle.mail_json_text.specs.Members.{is_plain_byte}
use Rattle.mail_json_text.proofs.lemmas.Escaped.{plain_text}

-- no byte of a name needs an escape
abbrev pub are_plain : List ℕ → Bool
are_plain name = list_all is_plain_byte name

escaped_plain : (name : List ℕ) → are_plain name ≡ true → escaped name ≡ name
unfolding escaped_after
escaped_plain [] e = refl
escaped_plain (b ∷ name) e =
    let p = and_parts (not (may_need_escape b)) _ e in
    let plain = plain_text b name (not-true _ p.0) in
    ap₂ (λ (a c : List ℕ). a ++ c) plain.0 (ap (λ k. escaped_after k name) plain.1 ∙ escaped_plain name p.1)

pub json_text-plain : (name : List ℕ) → are_plain name ≡ true → json_text name ≡ 34 ∷ (name ++ 34 ∷ [])
unfolding json_text
json_text-plain name e = ap (λ t. 34 ∷ (t ++ 34 ∷ [])) (escaped_plain name e)
