use Rattle.std.proofs.Common.{not, refl, ap, ◌∙◌, arith}
use Rattle.mail_codec.specs.Base64.{letter_value}
use Rattle.mail_codec.specs.private.Vectors.{is_letter as is_value_letter}
use Rattle.mail_codec.proofs.lemmas.Vectors.{map_same}
use Rattle.mail_codec.proofs.lemmas.VectorsLetters.{faults_are, lower_ok, others_mask, upper_ok}
use Rattle.mail_check.specs.Bodies.{is_letter}
use lib.Lanes.{mask_l}
use Rattle.mail_check.proofs.letters.wide_others.Goals as goal

pub swizzle-upper : goal.swizzle-upper
swizzle-upper c = upper_ok 4 64 refl (omega arith) c.args.bytes c.fits-bytes

pub swizzle-lower : goal.swizzle-lower
swizzle-lower c = lower_ok 4 64 refl (omega arith) c.args.bytes c.fits-bytes

pub returns : goal.returns
unfolding letter_value
returns c =
    others_mask 64 (omega arith) c.args.bytes _ c.fits-bytes (faults_are 4 64 refl (omega arith) c.args.bytes c.fits-bytes)
    ∙ ap mask_l (map_same (λ b. not (is_value_letter b)) (λ b. not (is_letter b)) refl c.args.bytes c.fits-bytes.1)
