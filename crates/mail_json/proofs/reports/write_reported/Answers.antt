use Rattle.std.proofs.Common.{map, sym, ap, subst, ◌∙◌}
use Rattle.std.specs.List.{AllByRecursion}
use Rattle.mailparse.specs.Views.{tree_of}
use Rattle.mail_data.specs.BounceViews.{delivery}
use Rattle.mail_parts.specs.DecodedViews.{IsDecoded}
use Rattle.mail_json.specs.Part.{recipients_if}
use Rattle.mail_json_text.specs.Printed.{list_of, text_of}
use Rattle.mail_json.specs.Reports.{delivery_value}
use Rattle.mail_json.specs.Values.{recipients_value}
use Rattle.mail_json.proofs.lemmas.Fields.{ok_same}
use Rattle.mail_json_text.proofs.lemmas.JsonText.{map_twice}
use Rattle.mail_json_text.proofs.lemmas.Written.{writes_as}
use Rattle.mail_json.proofs.reports.write_reported.Goals as goal

pub recipients_in-requires-clause-decoded : goal.recipients_in-requires-clause-decoded
recipients_in-requires-clause-decoded g c =
    subst (λ decodes. AllByRecursion (IsDecoded decodes) c.args.parts.now) c.if-not-decodes_bodies.false c.requires.decoded

pub returns : goal.returns
returns g c =
    let known = g.K.KnownCharsets.known c.args.known.now in
    let found = ap (map delivery) c.as_slice.ensures.value ∙ sym (ok_same _ _ c.in_ok-found.ensures) in
    let same = map_twice delivery_value delivery c.as_slice.result.now ∙ ap (map delivery_value) found in
    writes_as _ _ c.write_list.result _ _
    (ap (λ js. text_of (list_of js)) same ∙ ap (λ decodes. text_of (recipients_value (recipients_if known decodes (tree_of c.args.mail.now)))) (sym c.if-not-decodes_bodies.false))
    c.write_list.ensures

pub returns-then-not-decodes_bodies : goal.returns-then-not-decodes_bodies
unfolding text_of
returns-then-not-decodes_bodies g c =
    let known = g.K.KnownCharsets.known c.args.known.now in
    writes_as _ _ c.write_word.result _ _
    (ap (λ decodes. text_of (recipients_value (recipients_if known decodes (tree_of c.args.mail.now)))) (sym c.if-not-decodes_bodies.true))
    c.write_word.ensures
