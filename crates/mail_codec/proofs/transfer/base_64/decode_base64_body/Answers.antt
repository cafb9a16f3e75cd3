use Rattle.mail_codec.proofs.lemmas.Base64Groups.{base64_without_whitespace}
use Rattle.std.proofs.Common.{refl}
use Rattle.mail_codec.specs.private.Runs.{ends_run}
use Rattle.mail_codec.specs.declared.bytescan.runs.RunEnd.TheVariants.{Whitespace}
use Rattle.mail_codec.proofs.lemmas.VectorsLetters.{letters_fail}
use Rattle.mail_codec.proofs.transfer.base_64.decode_base64_body.Goals as goal

pub decode_base64_without-requires : goal.decode_base64_without-requires
decode_base64_without-requires c = record { letters = letters_fail (ends_run Whitespace) refl; padding = refl }

pub returns : goal.returns
returns c = rw (base64_without_whitespace c.args.body.now) c.decode_base64_without.ensures
