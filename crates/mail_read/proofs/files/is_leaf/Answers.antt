use Rattle.std.proofs.Common.{eqb, List, length, sym, ap, ◌∙◌}
use Rattle.mailparse.specs.declared.mail.message.ParsedMail.{ParsedMail}
use Rattle.mail_read.proofs.lemmas.Files.{is_leaf-out}
use Rattle.mail_read.proofs.files.is_leaf.Goals as goal

pub returns : goal.returns
returns c = c.is_empty.ensures ∙ ap (λ (ms : List ParsedMail). eqb (length ms) 0) c.as_slice.ensures.value ∙ sym (is_leaf-out c.args.part.now)
