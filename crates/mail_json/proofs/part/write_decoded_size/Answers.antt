use Rattle.std.proofs.Common.{Option, option_map, sym, ap}
use Rattle.mail_read.specs.declared.lenient.content.Content.{Content}
use Rattle.mail_read.specs.lenient.ContentViews.{content_view}
use Rattle.mail_json.specs.Values.{decoded_members}
use Rattle.mail_json_text.specs.declared.json_text.Position.TheVariants.{Later}
use Rattle.mail_json_text.proofs.lemmas.Members.{adds_as}
use Rattle.mail_json.proofs.part.write_decoded_size.Goals as goal

pub returns-in-None : goal.returns-in-None
returns-in-None g c =
    adds_as Later _ _ c.add_null.result _ _ (ap (λ (x : Option Content). decoded_members (option_map content_view x)) (sym c.in-None.is)) c.add_null.ensures

pub returns-in-Some : goal.returns-in-Some
returns-in-Some g c =
    adds_as Later _ _ c.write_size.result _ _ (ap (λ (x : Option Content). decoded_members (option_map content_view x)) (sym c.in-Some.is)) c.write_size.ensures
