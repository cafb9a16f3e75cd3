use Rattle.std.proofs.Common.{sym, ◌∙◌}
use Rattle.mailparse.specs.BodyViews.{content_of}
use Rattle.mailparse.specs.Mail.{root}
use Rattle.mailparse.specs.Views.{tree_of}
use Rattle.mail_read.specs.lenient.ContentViews.{content_view, fault_view}
use Rattle.mail_read.specs.lenient.Encoding.{lenient_body_kind}
use Rattle.mail_view.proofs.lemmas.Parts.{ok_as, size_made, some_mapped}
use Rattle.mail_view.proofs.parts.decoded_size.Goals as goal

pub returns : goal.returns
returns c =
    let node = root (tree_of c.args.part.now) in
    let read = c.in_ok-content.ensures.read (lenient_body_kind node) (content_of node) c.in_ok-body.ensures.read in
    ok_as _ _ (sym (size_made node (content_view c.in_ok-content.content) c.len-size.result c.is_some-is_damaged.result _ read c.len-size.ensures
    (c.is_some-is_damaged.ensures ∙ some_mapped fault_view c.in_ok-content.content.fault) c.in_ok-size_text.ensures))
