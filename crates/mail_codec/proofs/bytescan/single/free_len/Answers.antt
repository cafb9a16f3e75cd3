use Rattle.std.proofs.Common.{◌==◌, take, drop, refl, sym, ◌∙◌, arith}
use Rattle.std.proofs.lemmas.Bool.{eqb-true}
use Rattle.mail_codec.proofs.lemmas.PlacesSearches.{PassedTo-chunk}
use Rattle.mail_codec.proofs.bytescan.single.free_len.Goals as goal

pub blocks-2-preserved : goal.blocks-2-preserved
blocks-2-preserved c =
    PassedTo-chunk (λ b. b == c.args.wanted) c.args.bytes.now (take 128 (drop c.blocks-2.at c.args.bytes.now)) _ c.blocks-2.at 128 c.blocks-2.invariant (omega arith) refl
    (eqb-true _ 128 (sym c.is_free.ensures ∙ c.if-not-is_free.false))
