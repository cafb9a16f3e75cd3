use Rattle.std.proofs.Common.{◌∙◌, sym, ap, take, arith}
use Rattle.std.proofs.lemmas.List.{take-take}
use Rattle.mail_codec.proofs.lemmas.Written.{stored_lanes}
use Rattle.mail_codec.proofs.transfer.quoted_printable.blocks.put_vectors.Goals as goal

pub vectors-preserved : goal.vectors-preserved
vectors-preserved c =
    record {
      few = omega arith;
      written = stored_lanes 32 c.vectors.at 32 c.vectors.output c.args.bytes.now c.vectors.invariant.written (omega (arith, c.requires)) (omega (arith, c.requires)) (omega arith);
    }

pub returns : goal.returns
returns c = record {
  written =
      sym (take-take c.args.len c.vectors.at c.vectors.output (omega (arith, c.vectors-test.false)))
      ∙ ap (take c.args.len) c.vectors.invariant.written
      ∙ take-take c.args.len c.vectors.at c.args.bytes.now (omega (arith, c.vectors-test.false));
}
