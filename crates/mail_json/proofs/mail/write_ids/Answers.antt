use Rattle.std.proofs.Common.{ℕ, List, String, Global, map, string_bytes, true, false, ap, ◌∙◌}
use Rattle.std.specs.Prelude.{codes}
use Rattle.mail_data.specs.Archive.{ids_of}
use Rattle.mail_json_text.specs.Printed.{strings}
use Rattle.mail_json_text.proofs.lemmas.Members.{◌⨾◌, value_renamed}
use Rattle.mail_json.proofs.lemmas.Part.{headers-out}
use Rattle.mail_json.proofs.mail.write_ids.Goals as goal

pub returns : goal.returns
returns g c =
    let texts : List (String Global) → List (List ℕ) = map (λ (t : String Global). string_bytes t) in
    let headers = headers-out c.args.mail.now in
    let any = value_renamed strings _ _ c.in_ok-add_texts.ensures
    (ap texts c.as_slice.ensures.value ∙ (c.in_ok-any.ensures.read ∙ ap (ids_of false (codes "Message-ID")) headers)) in
    let answered = value_renamed strings _ _ c.in_ok-add_texts-2.ensures
    (ap texts c.as_slice-2.ensures.value ∙ (c.in_ok-answered.ensures.read ∙ ap (ids_of true (codes "In-Reply-To")) headers)) in
    let references = value_renamed strings _ _ c.in_ok-add_texts-3.ensures
    (ap texts c.as_slice-3.ensures.value ∙ (c.in_ok-references.ensures.read ∙ ap (ids_of true (codes "References")) headers)) in
    any ⨾ answered ⨾ references
