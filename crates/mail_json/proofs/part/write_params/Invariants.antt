-- What was written after the brace is completed by the parameters that are left.
use Rattle.std.proofs.Common.{map}
use Rattle.mail_json_text.specs.Printed.{comma, member_text}
use Rattle.mail_json.specs.Values.{parameter_member}
use Rattle.mail_json_text.proofs.lemmas.JsonText.{Wrote}
use Rattle.mail_parts.proofs.lemmas.Part.{pair_of}
use Rattle.mail_json.proofs.part.write_params.Given as goal

abbrev pub invariant-loop-name : goal.invariant-loop-name
invariant-loop-name g l =
    Wrote member_text (g.W.Write.contents l.initial.out) (g.W.Write.contents l.out) (comma l.position)
    (map parameter_member (map pair_of l.name-iterator)) (map parameter_member (map pair_of l.ctype.params.entries))
