use Rattle.std.proofs.Common.{◌∙◌, take, drop, refl, sym, arith, length-drop}
use Rattle.std.proofs.lemmas.List.{length-take-le}
use Rattle.mail_codec.proofs.lemmas.PlacesSearches.{PassedTo-chunk}
use Rattle.mail_codec.proofs.lemmas.Vectors.{no_match}
use Rattle.mail_check.specs.Bytes.{is_control}
use Rattle.mail_check.proofs.scan.plain_len.Goals as goal

pub vectors-preserved : goal.vectors-preserved
vectors-preserved c =
    let bytes = c.args.bytes.now in
    let chunk = take 16 (drop c.vectors.at bytes) in
    PassedTo-chunk is_control bytes chunk _ c.vectors.at 16 c.vectors.invariant (omega arith) refl
    (sym (no_match is_control chunk c.control_lanes.result c.control_lanes.ensures c.if-control_lanes-ne0.false)
    ∙ length-take-le 16 (drop c.vectors.at bytes) (omega (arith, length-drop c.vectors.at bytes)))
