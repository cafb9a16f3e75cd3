use Rattle.std.proofs.Common.{◌-◌, length, arith}
use Rattle.mail_codec.proofs.lemmas.Pairs.{pair_within, pair_found, pair_passed, pair_absent, last_pairs}
use Rattle.mail_codec.proofs.bytescan.pairs.pair_len.Goals as goal

pub returns-then-matches-ne0-clause-least : goal.returns-then-matches-ne0-clause-least
returns-then-matches-ne0-clause-least c =
    pair_found c.args.first c.args.second c.args.bytes.now c.vectors.at _ (omega arith) c.matches_at-matches.ensures _ c.vectors.invariant c.if-matches-ne0.true

pub returns-then-matches-ne0-clause-bounds : goal.returns-then-matches-ne0-clause-bounds
returns-then-matches-ne0-clause-bounds c =
    let few = pair_within c.args.first c.args.second c.args.bytes.now c.vectors.at _ (omega arith) c.matches_at-matches.ensures c.if-matches-ne0.true in
    omega (arith, few)

pub vectors-preserved : goal.vectors-preserved
vectors-preserved c =
    pair_passed c.args.first c.args.second c.args.bytes.now c.vectors.at _ (omega arith) c.matches_at-matches.ensures _ c.vectors.invariant c.if-matches-ne0.false

pub returns-then-matches-eq0-clause-least : goal.returns-then-matches-eq0-clause-least
returns-then-matches-eq0-clause-least c =
    pair_absent c.args.first c.args.second c.args.bytes.now (length c.args.bytes.now - 64 - 1) _ (omega (arith, c.requires)) c.matches_at-matches-2.ensures
    (last_pairs c.args.first c.args.second c.args.bytes.now c.vectors.at (length c.args.bytes.now - 64 - 1) c.vectors.invariant (omega (arith, c.requires)) (omega arith)) (omega (arith, c.requires)) c.if-matches-eq0.true

pub returns-clause-least : goal.returns-clause-least
returns-clause-least c =
    pair_found c.args.first c.args.second c.args.bytes.now (length c.args.bytes.now - 64 - 1) _ (omega (arith, c.requires)) c.matches_at-matches-2.ensures _
    (last_pairs c.args.first c.args.second c.args.bytes.now c.vectors.at (length c.args.bytes.now - 64 - 1) c.vectors.invariant (omega (arith, c.requires)) (omega arith)) c.if-matches-eq0.false

pub returns-clause-bounds : goal.returns-clause-bounds
returns-clause-bounds c =
    let few = pair_within c.args.first c.args.second c.args.bytes.now (length c.args.bytes.now - 64 - 1) _ (omega (arith, c.requires)) c.matches_at-matches-2.ensures c.if-matches-eq0.false in
    omega (arith, few, c.requires)
