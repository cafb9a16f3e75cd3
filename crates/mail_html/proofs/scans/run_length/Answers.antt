use Rattle.std.proofs.Common.{◌∙◌, sym}
use Rattle.std.proofs.lemmas.List.{take_rest}
use Rattle.mail_codec.proofs.lemmas.Places.{PassedTo-more}
use Rattle.mail_html.specs.private.Runs.{begins_gap}
use Rattle.mail_html.proofs.scans.run_length.Goals as goal

pub bytes-preserved : goal.bytes-preserved
bytes-preserved c = PassedTo-more begins_gap c.args.bytes.now _ _ c.bytes.invariant c.bytes-test.true (rw take_rest at (sym c.begins_gap.ensures ∙ c.if-begins_gap.false))
