use Rattle.std.proofs.Common.{refl}
use Rattle.mail_codec.specs.private.Runs.{ends_run}
use Rattle.mail_codec.specs.declared.bytescan.runs.RunEnd.TheVariants.{LineEnd}
use Rattle.mail_codec.proofs.lemmas.VectorsLetters.{letters_fail}
use Rattle.mail_codec.proofs.transfer.base_64.decode_base64.Goals as goal

pub decode_base64_without-requires : goal.decode_base64_without-requires
decode_base64_without-requires c = record { letters = letters_fail (ends_run LineEnd) refl; padding = refl }

pub decode_base64_without-requires-2 : goal.decode_base64_without-requires-2
decode_base64_without-requires-2 c = record { letters = letters_fail (ends_run LineEnd) refl; padding = refl }
