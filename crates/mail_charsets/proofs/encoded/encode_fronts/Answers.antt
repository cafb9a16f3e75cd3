use Rattle.std.proofs.Common.{length-drop, arith}
use Rattle.std.proofs.lemmas.List.{take_rest}
use Rattle.mail_charsets.specs.Front.{characters_of, front_by}
use Rattle.mail_charsets.proofs.lemmas.Front.{text_written}
use Rattle.mail_charsets.proofs.encoded.encode_fronts.Goals as goal

pub fronts-preserved : goal.fronts-preserved
fronts-preserved g c = record {
  taken_within = let within = simp (take_rest, length-drop) at c.front_of-front.ensures.bounds in omega arith;
  at_within = omega arith;
  few = omega arith;
  text = text_written (front_by (g.E.Encoded.long c.args.encoding.now) (g.E.Encoded.single c.args.encoding.now) (g.E.Encoded.pairs c.args.encoding.now)) c.args.bytes.now _ _ _
      (characters_of c.front_of-front.result.characters) c.fronts.taken c.front_of-front.result.taken c.fronts.invariant.text c.put_characters-at.ensures.written
      (omega (arith, length-drop c.fronts.taken c.args.bytes.now)) c.front_of-front.ensures.takes_some (rw take_rest at c.front_of-front.ensures.read);
  utf8 = c.put_characters-at.ensures.utf8 c.fronts.invariant.utf8;
}
