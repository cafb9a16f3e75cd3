use Rattle.std.proofs.Common.{length-drop, arith}
use Rattle.std.proofs.lemmas.List.{take_rest}
use Rattle.mail_charsets.specs.Front.{characters_of}
use Rattle.mail_charsets.proofs.lemmas.Front.{some_after}
use Rattle.mail_charsets.proofs.lemmas.Iso2022Jp.{text_written}
use Rattle.mail_charsets.proofs.iso_2022_jp.encode_steps.Goals as goal

pub steps-preserved : goal.steps-preserved
steps-preserved c = record {
  taken_within = let within = simp (take_rest, length-drop) at c.step.ensures.bounds in omega arith;
  at_within = omega arith;
  few = omega arith;
  text = text_written c.args.index.now c.steps.state c.step.result.1 c.args.bytes.now _ _ _ (characters_of c.step.result.0.characters) c.steps.taken c.step.result.0.taken
      c.steps.invariant.text c.put_characters-at.ensures.written (omega (arith, length-drop c.steps.taken c.args.bytes.now)) c.step.ensures.takes_some (rw take_rest at c.step.ensures.read);
  utf8 = c.put_characters-at.ensures.utf8 c.steps.invariant.utf8;
}

pub step-requires : goal.step-requires
step-requires c = some_after c.args.bytes.now c.steps.taken c.steps-test.true

pub steps-smaller : goal.steps-smaller
steps-smaller c = omega (arith, c.steps-test.true, c.step.ensures.takes_some)

pub returns-after-steps-clause-written : goal.returns-after-steps-clause-written
returns-after-steps-clause-written c = c.steps.invariant.text
