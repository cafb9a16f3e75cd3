use Rattle.std.proofs.Common.{option_map, sym, ap, ◌∙◌}
use Rattle.mailparse.specs.BodyViews.{content_of}
use Rattle.mailparse.specs.Mail.{root}
use Rattle.mail_read.specs.lenient.ContentViews.{content_view}
use Rattle.mail_read.specs.lenient.Encoding.{lenient_body_kind}
use Rattle.mail_parts.specs.DecodedViews.{decoded_place, decoded_tree}
use Rattle.mail_extract.proofs.lemmas.Content.{content_as, held_saved}
use Rattle.mail_extract.proofs.content.saved_content.Goals as goal

pub returns-in-Some-clause-read : goal.returns-in-Some-clause-read
returns-in-Some-clause-read c =
    let node = root (decoded_tree c.args.part.now) in
    held_saved (decoded_place c.args.part.now) _ (content_view c.in-Some.mail) _ (ap (option_map content_view) (sym c.in-Some.is) ∙ c.requires.mail)
    (content_as _ _ (content_view c.in-Some.mail) c.as_slice.ensures.value c.damage_of.ensures) (c.get_raw.ensures.made (lenient_body_kind node) (content_of node) c.requires.body)
    (sym c.is_empty.ensures ∙ c.if-is_empty.false)
