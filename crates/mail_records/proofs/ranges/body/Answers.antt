use Rattle.std.proofs.Common.{◌≡◌, Ok, rules, ap, ◌∙◌}
use Rattle.std.specs.Cow.{cow_slice_items}
use Rattle.mail_read.specs.lenient.Content.{lenient_content}
use Rattle.mail_read.specs.lenient.ContentViews.{content_view, fault_view}
use Rattle.mail_read.specs.lenient.Encoding.{LenientKind}
use Rattle.mail_read.proofs.lemmas.lenient.Texts.{some-mapped}
use Rattle.mail_records.proofs.lemmas.Ranges.{body-is}
use Rattle.mail_records.proofs.ranges.body.Goals as goal

pub returns : goal.returns
returns c =
    let raw = c.args.raw.now in
    let content = content_view c.in_ok-content.content in
    let read = c.in_ok-content.ensures.read _ _ c.new-body.ensures ∙ ap (λ (k : LenientKind). lenient_content k raw) c.in_ok-name.ensures in
    let owned : c.in_ok-bytes.bytes.items ≡ cow_slice_items c.in_ok-content.content.bytes = search rules in
    let damaged = c.is_some-is_damaged.ensures ∙ some-mapped fault_view c.in_ok-content.content.fault in
    ap (λ d. Ok d) (body-is c.args.encoding raw content _ _ read owned damaged)
