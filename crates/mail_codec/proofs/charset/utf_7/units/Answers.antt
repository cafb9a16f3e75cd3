use Rattle.std.proofs.Common.{sym, arith}
use Rattle.std.proofs.lemmas.List.FromFn.{map-range_with_len_more}
use Rattle.mail_codec.specs.Utf7.{unit_at}
use Rattle.mail_codec.proofs.charset.utf_7.units.Goals as goal

pub units-preserved : goal.units-preserved
units-preserved c = record {
  few = omega arith;
  made = rw (c.in_ok-push.ensures.items, c.units.invariant.made, c.unit.ensures) (sym (map-range_with_len_more (unit_at c.args.letters.now) 0 c.units.number c.units.number (omega arith)));
}
