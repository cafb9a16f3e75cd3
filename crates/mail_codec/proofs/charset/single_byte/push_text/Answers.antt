use Rattle.std.proofs.Common.{refl, sym, ap, ◌∙◌}
use Rattle.std.proofs.lemmas.List.{take_rest}
use Rattle.std.proofs.lemmas.Str.{IsUtf8-from_ascii}
use Rattle.mail_codec.proofs.lemmas.CharsetSingleByte.{spelled, front_pushed, spelled_low}
use Rattle.mail_codec.proofs.charset.single_byte.push_text.Goals as goal

pub from_utf8_unchecked-requires : goal.from_utf8_unchecked-requires
from_utf8_unchecked-requires c = IsUtf8-from_ascii _ c.ascii_blocks_length-run.ensures.ascii

pub rest-preserved-then-run-gt0 : goal.rest-preserved-then-run-gt0
rest-preserved-then-run-gt0 c =
    rw (c.in_ok-push_str.ensures.bytes, c.from_utf8_unchecked.ensures, take_rest) (front_pushed c.args.high.now c.rest.rest.now _ _ _ _ c.ascii_blocks_length-run.result c.rest.invariant (sym (spelled_low _ _ c.ascii_blocks_length-run.ensures.ascii)) refl)

pub rest-preserved : goal.rest-preserved
rest-preserved c =
    rw c.in_ok-push_str-2.ensures.bytes
    (front_pushed c.args.high.now c.rest.rest.now _ _ _ _ c.min.result c.rest.invariant
    (c.from_utf8_unchecked-else-run-gt0.ensures ∙ c.encode_block-length.ensures.written ∙ ap (spelled c.args.high.now) c.split_at.ensures.front)
    c.split_at.ensures.back)
