use Rattle.std.proofs.Common.{sym, ap, ◌∙◌, arith}
use Rattle.mailparse.specs.BodyViews.{content_of}
use Rattle.mailparse.specs.Mail.{root}
use Rattle.mailparse.specs.Views.{tree_of}
use Rattle.mail_read.specs.lenient.Content.{Content}
use Rattle.mail_read.specs.lenient.Encoding.{lenient_body_kind}
use Rattle.mail_parts.proofs.lemmas.Reading.{few_bytes, many_bytes}
use Rattle.mail_parts.proofs.reading.has_many_in.Goals as goal

pub returns-then-get_raw-limit-clause-read : goal.returns-then-get_raw-limit-clause-read
returns-then-get_raw-limit-clause-read c =
    let part = tree_of c.args.part.now in
    let node = root part in
    few_bytes c.args.limit part c.get_raw.result.now (c.get_raw.ensures.made (lenient_body_kind node) (content_of node) c.in_ok-body.ensures.read)
    (omega arith)

pub returns-clause-read : goal.returns-clause-read
returns-clause-read c =
    let part = tree_of c.args.part.now in
    let node = root part in
    let read = c.in_ok-content.ensures.read (lenient_body_kind node) (content_of node) c.in_ok-body.ensures.read in
    many_bytes c.args.limit part c.get_raw.result.now c.as_slice.result.now c.has_many_blocks.result
    (c.get_raw.ensures.made (lenient_body_kind node) (content_of node) c.in_ok-body.ensures.read) (omega arith)
    (sym c.is_plain_text.ensures ∙ c.if-not-is_plain_text.false)
    (c.as_slice.ensures.value ∙ ap (λ (content : Content). content.bytes) read) c.has_many_blocks.ensures
