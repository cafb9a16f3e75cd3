use Rattle.std.proofs.Common.{append_assoc}
use Rattle.std.proofs.KnownBytes.{Appends-trans}
use Rattle.std.specs.Prelude.{codes}
use Rattle.json.specs.Json.{string}
use Rattle.mail_json_text.specs.Printed.{text_of}
use Rattle.mail_json_text.proofs.lemmas.Written.{writes_as, writes_then}
use Rattle.mail_json.proofs.part.write_parameter.Goals as goal

pub returns : goal.returns
unfolding text_of
returns g c =
    writes_as _ _ c.write_text-2.result _ _ (append_assoc (text_of (string c.args.name.now)) (codes ":") (text_of (string c.args.value.now)))
    (writes_then _ _ _ c.write_text-2.result _ _ (Appends-trans _ _ _ _ _ c.in_ok-write_text.ensures c.in_ok-write_word.ensures) c.write_text-2.ensures)
