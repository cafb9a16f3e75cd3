use Rattle.std.proofs.Common.{◌∙◌, sym}
use Rattle.mail_check.proofs.lemmas.LineTests.{no_begin}
use Rattle.mail_check.proofs.line_tests.file_line.Goals as goal

pub returns-then-not-has_begin : goal.returns-then-not-has_begin
returns-then-not-has_begin c = no_begin c.args.bytes.now (sym c.has_begin.ensures ∙ c.if-not-has_begin.true)
