use Rattle.std.proofs.Common.{◌∙◌, sym}
use Rattle.mail_codec.proofs.lemmas.Uuencode.{ends_file-no, ends_file-yes}
use Rattle.mail_codec.proofs.transfer.uuencode.ends_file.Goals as goal

pub returns-then-not-starts_with : goal.returns-then-not-starts_with
returns-then-not-starts_with c = ends_file-no c.args.line.now (sym c.starts_with.ensures.value ∙ c.if-not-starts_with.true)

pub returns : goal.returns
returns c = c.are_whitespace.ensures ∙ ends_file-yes c.args.line.now _ (sym c.starts_with.ensures.value ∙ c.if-not-starts_with.false) c.after.ensures
