use Rattle.std.proofs.Common.{◌/◌, ◌^◌, refl, arith}
use Rattle.std.proofs.lemmas.Simd.{zip2_splat}
use Rattle.mail_codec.specs.declared.vectors.escapes.TheConstants.{UPPER_ESCAPES}
use Rattle.mail_codec.proofs.lemmas.Vectors.{places_ok, looked_up}
use Rattle.mail_codec.proofs.vectors.escapes.upper_escapes_of.Goals as goal

pub swizzle : goal.swizzle
swizzle c = places_ok 1 16 refl (λ b. b / 16) c.args.bytes _ c.fits-bytes (zip2_splat (λ a b. a / 2 ^ b) c.args.bytes 16 4 c.fits-bytes.0) (λ x h. omega arith)

pub returns : goal.returns
returns c = looked_up 1 16 refl (λ b. b / 16) c.args.bytes _ c.fits-bytes (zip2_splat (λ a b. a / 2 ^ b) c.args.bytes 16 4 c.fits-bytes.0) (λ x h. omega arith) 16 (omega arith) UPPER_ESCAPES UPPER_ESCAPES refl
