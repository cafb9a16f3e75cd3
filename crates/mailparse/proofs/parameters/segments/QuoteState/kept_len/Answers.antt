use Rattle.std.proofs.Common.{rules}
use Rattle.mailparse.specs.private.Segments.{quote_state}
use Rattle.mailparse.proofs.lemmas.Segments.{none_kept, run_kept}
use Rattle.mailparse.proofs.parameters.segments.QuoteState.kept_len.Goals as goal

pub returns-in-Quoted-clause-kept : goal.returns-in-Quoted-clause-kept
returns-in-Quoted-clause-kept c = rw c.in-Quoted.is (run_kept c.args.bytes.now c.run_len.result c.run_len.ensures.least)

pub returns-in-Outside : goal.returns-in-Outside
returns-in-Outside c = record { kept = none_kept (quote_state c.args.self) c.args.bytes.now; bounds = search rules }
