use Rattle.std.proofs.Common.{ap, refl, append-nil}
use Rattle.std.proofs.lemmas.List.{take_rest}
use Rattle.mail_codec.specs.Front.{Taken}
use Rattle.mail_codec.proofs.lemmas.Utf7.{front_other, front_plus}
use Rattle.mail_codec.proofs.charset.utf_7.push_front.Goals as goal

pub returns-then-bytes-eq43-clause-pushed : goal.returns-then-bytes-eq43-clause-pushed
returns-then-bytes-eq43-clause-pushed c = rw (← front_plus c.args.bytes.now c.if-bytes-eq43.true) (rw take_rest at c.push_shifted.ensures.pushed)

pub returns-then-bytes-eq43-clause-taken : goal.returns-then-bytes-eq43-clause-taken
returns-then-bytes-eq43-clause-taken c = rw (← front_plus c.args.bytes.now c.if-bytes-eq43.true) (rw take_rest at c.push_shifted.ensures.taken)

pub returns-clause-pushed : goal.returns-clause-pushed
returns-clause-pushed c = rw (c.in_ok-push.ensures.bytes, c.ascii.ensures, ← front_other c.args.bytes.now c.if-bytes-eq43.false, append-nil) refl

pub returns-clause-taken : goal.returns-clause-taken
returns-clause-taken c = ap (λ (t : Taken). t.1) (front_other c.args.bytes.now c.if-bytes-eq43.false)
