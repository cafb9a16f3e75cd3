use Rattle.std.proofs.Common.{is_some, ap, ◌∙◌}
use Rattle.mail_data.specs.TextFileViews.{text_file_view}
use Rattle.mail_read.specs.lenient.Content.{Content}
use Rattle.mail_read.specs.lenient.ContentViews.{fault_view}
use Rattle.mail_read.proofs.lemmas.lenient.Texts.{some-mapped}
use Rattle.mail_records.specs.TextFiles.{number_of}
use Rattle.mail_records.proofs.lemmas.TextFiles.{next_file}
use Rattle.mail_records.proofs.text_files.push_file.Goals as goal

pub returns : goal.returns
returns c = λ files are.
    let content = c.in_ok-content.ensures in
    next_file c.args.found.now files (text_file_view c.args.file.now) _ _ _ _ _ _ _ _ (c.as_bytes.ensures.value ∙ c.in_ok-name.ensures)
    (c.as_slice.ensures.value ∙ ap (λ (x : Content). x.bytes) content)
    (c.number_of.ensures ∙ ap number_of (c.is_some.ensures ∙ some-mapped fault_view c.in_ok-content.content.fault ∙ ap (λ (x : Content). is_some x.fault) content))
    c.in_ok-named.ensures.range c.in_ok-named.ensures.written c.in_ok-bytes.ensures.range c.in_ok-bytes.ensures.written c.in_ok-push.ensures.items are
