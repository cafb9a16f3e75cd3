use Rattle.std.proofs.Common.{ℕ, ◌<◌, zero, suc, [], ◌∷◌, sym, arith}
use Rattle.base64.specs.GeneralPurpose.{IsBytes}
use Rattle.mail_codec.proofs.lemmas.Base64Steps.{appended_none, appended_some}
use Rattle.mail_codec.proofs.transfer.base_64.push_bytes.Goals as goal

four_bytes : (p q r s : ℕ) → p < 256 → q < 256 → r < 256 → s < 256 → IsBytes (p ∷ q ∷ r ∷ s ∷ [])
four_bytes p q r s hp hq hr hs zero = hp
four_bytes p q r s hp hq hr hs (suc zero) = hq
four_bytes p q r s hp hq hr hs (suc (suc zero)) = hr
four_bytes p q r s hp hq hr hs (suc (suc (suc zero))) = hs
four_bytes p q r s hp hq hr hs (suc (suc (suc (suc i)))) = omega arith

pub returns-then-is_err : goal.returns-then-is_err
returns-then-is_err c =
    appended_none c.args.len c.args.p c.args.q c.args.r c.args.s c.args.bytes.now.items
    c.decode_slice.result (sym c.decode_slice.ensures.value) (sym c.if-is_err.ensures.value)

pub returns : goal.returns
returns c =
    appended_some c.args.len c.args.p c.args.q c.args.r c.args.s c.args.bytes.now.items
    c.decode_slice.new.output c.extend_from_slice.new.self.items c.decode_slice.result
    (four_bytes c.args.p c.args.q c.args.r c.args.s (omega arith) (omega arith) (omega arith) (omega arith))
    c.requires.unpadded (sym c.decode_slice.ensures.value) (sym c.if-is_err.ensures.value)
    c.decode_slice.ensures.written c.decode_slice.ensures.bytes c.in_ok-extend_from_slice.ensures.items
