use Rattle.std.proofs.Common.{bit_and, refl, arith}
use Rattle.std.proofs.lemmas.Nat.{and_le_r}
use Rattle.std.proofs.lemmas.Simd.{zip2_splat}
use Rattle.mail_codec.specs.declared.vectors.escapes.TheConstants.{LOWER_ESCAPES}
use Rattle.mail_codec.proofs.lemmas.Vectors.{places_ok, looked_up}
use Rattle.mail_codec.proofs.vectors.escapes.lower_escapes_of.Goals as goal

pub swizzle : goal.swizzle
swizzle c = places_ok 1 16 refl (λ b. bit_and b 15) c.args.bytes _ c.fits-bytes (zip2_splat bit_and c.args.bytes 16 15 c.fits-bytes.0) (λ x h. omega (arith, and_le_r x 15))

pub returns : goal.returns
returns c = looked_up 1 16 refl (λ b. bit_and b 15) c.args.bytes _ c.fits-bytes (zip2_splat bit_and c.args.bytes 16 15 c.fits-bytes.0) (λ x h. omega (arith, and_le_r x 15)) 16 (omega arith) LOWER_ESCAPES LOWER_ESCAPES refl
