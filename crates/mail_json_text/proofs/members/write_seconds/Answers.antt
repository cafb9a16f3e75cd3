use Rattle.std.proofs.Common.{ap, ◌∙◌, to_z-of_z, w64}
use Rattle.std.specs.Fmt.{signed_decimal}
use Rattle.mail_json_text.specs.Printed.{text_of}
use Rattle.mail_json_text.proofs.lemmas.JsonText.{seconds_text-fits}
use Rattle.mail_json_text.proofs.lemmas.Written.{appends_as}
use Rattle.mail_json_text.proofs.members.write_seconds.Goals as goal

pub returns : goal.returns
unfolding text_of
returns g c =
    appends_as _ _ _ _ (ap signed_decimal (to_z-of_z {w = w64} {z = c.args.seconds} c.ranges.seconds) ∙ seconds_text-fits c.args.seconds c.ranges.seconds)
    c.in_ok-write.ensures.bytes
