use Rattle.std.proofs.Common.{not, ◌==◌, refl, ap, ◌∙◌, arith}
use Rattle.mail_codec.specs.Escapes.{may_need_escape}
use Rattle.mail_codec.specs.private.Vectors.{escape_class}
use Rattle.mail_codec.proofs.lemmas.Vectors.{map_same, mask_of}
use lib.Lanes.{mask_l}
use Rattle.mail_codec.proofs.vectors.escapes.escape_lanes.Goals as goal

pub returns : goal.returns
returns c =
    mask_of 16 (omega arith) (λ a b. not (a == b)) escape_class 0 c.args.bytes _ c.fits-bytes.0 c.escape_classes.ensures
    ∙ ap mask_l (map_same (λ b. not (escape_class b == 0)) may_need_escape refl c.args.bytes c.fits-bytes.1)
