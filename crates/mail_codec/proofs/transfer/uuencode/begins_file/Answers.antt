use Rattle.std.proofs.Common.{◌∙◌, sym}
use Rattle.mail_codec.proofs.lemmas.Uuencode.{begins_file-no, begins_file-yes}
use Rattle.mail_codec.proofs.transfer.uuencode.begins_file.Goals as goal

pub returns-then-not-starts_with : goal.returns-then-not-starts_with
returns-then-not-starts_with c = begins_file-no c.args.line.now (sym c.starts_with.ensures.value ∙ c.if-not-starts_with.true)

pub returns : goal.returns
returns c =
    c.has_name.ensures
    ∙ begins_file-yes c.args.line.now _ _ _ (sym c.starts_with.ensures.value ∙ c.if-not-starts_with.false) c.mode_end.ensures.value c.name_start.ensures.value c.name_end.ensures.value
