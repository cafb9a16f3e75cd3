use Rattle.std.proofs.Common.{map, arith}
use Rattle.mailparse.specs.Block.{bare_header}
use Rattle.mailparse.proofs.lemmas.BareKeys.{bare-step}
use Rattle.mailparse.proofs.headers.lenient.make_keys_bare.Goals as goal

pub loop-header-preserved : goal.loop-header-preserved
loop-header-preserved c =
    bare-step (map bare_header c.args.headers.now) c.loop-header.headers c.loop-header.header-index _ _ (omega arith) c.loop-header.invariant c.make_key_bare.ensures
