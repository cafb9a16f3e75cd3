use Rattle.std.proofs.Common.{◌≡◌, ◌*◌, ◌/◌, length, take, drop, ap, ◌∙◌, arith}
use Rattle.std.proofs.lemmas.List.{length-drop}
use Rattle.mail_codec.specs.private.QuotedPrintable.{is_special}
use Rattle.mail_codec.proofs.lemmas.Written.{copied_rest, word_copied}
use Rattle.mail_codec.proofs.lemmas.PlacesSearches.{word_is, word_found, word_passed}
use Rattle.mail_codec.proofs.transfer.quoted_printable.put_words.Goals as goal

pub returns-then-mask-ne0-clause-written : goal.returns-then-mask-ne0-clause-written
returns-then-mask-ne0-clause-written c =
    let is = word_is is_special c.args.bytes.now _ c.loop-word.word-index c.loop-word.at _ c.as_chunks.ensures.front (omega arith) c.loop-word.invariant.place c.either_lanes-mask.ensures in
    let found = word_found is_special c.args.bytes.now _ c.loop-word.word-index _ _ c.as_chunks.ensures.front (omega arith) c.loop-word.invariant.place c.either_lanes-mask.ensures _ _ c.loop-word.invariant.passed c.first_match.ensures.least in
    word_copied c.loop-word.at _ c.first_match.result c.loop-word.output c.copy_from_slice.new.self c.args.bytes.now c.loop-word.invariant.written (omega arith) (c.copy_from_slice.ensures.after ∙ is) (omega arith)
    (omega (arith, found.1))

pub returns-then-mask-ne0-clause-least : goal.returns-then-mask-ne0-clause-least
returns-then-mask-ne0-clause-least c =
    (word_found is_special c.args.bytes.now _ c.loop-word.word-index _ _ c.as_chunks.ensures.front (omega arith) c.loop-word.invariant.place c.either_lanes-mask.ensures _ _ c.loop-word.invariant.passed c.first_match.ensures.least).0

pub returns-then-mask-ne0-clause-bounds : goal.returns-then-mask-ne0-clause-bounds
returns-then-mask-ne0-clause-bounds c =
    let found = word_found is_special c.args.bytes.now _ c.loop-word.word-index _ _ c.as_chunks.ensures.front (omega arith) c.loop-word.invariant.place c.either_lanes-mask.ensures _ _ c.loop-word.invariant.passed c.first_match.ensures.least in
    omega (arith, found.1)

pub loop-word-preserved : goal.loop-word-preserved
loop-word-preserved c =
    let is = word_is is_special c.args.bytes.now _ c.loop-word.word-index c.loop-word.at _ c.as_chunks.ensures.front (omega arith) c.loop-word.invariant.place c.either_lanes-mask.ensures in
    record {
      passed = word_passed is_special c.args.bytes.now _ c.loop-word.word-index _ _ c.as_chunks.ensures.front (omega arith) c.loop-word.invariant.place c.either_lanes-mask.ensures _ c.loop-word.invariant.passed c.if-mask-ne0.false;
      place = omega arith;
      written = word_copied c.loop-word.at _ 8 c.loop-word.output c.copy_from_slice.new.self c.args.bytes.now c.loop-word.invariant.written (omega arith) (c.copy_from_slice.ensures.after ∙ is) (omega arith) (omega arith);
    }

pub returns-clause-written : goal.returns-clause-written
returns-clause-written c =
    let end : (length c.args.bytes.now / 8) * 8 ≡ c.loop-word.at = omega (arith, c.as_chunks.ensures.front_len, c.loop-word.auto.word-index-end) in
    let tail = c.as_chunks.ensures.back ∙ ap (λ n. drop n c.args.bytes.now) end in
    copied_rest c.loop-word.at c.put_tail.result c.loop-word.output c.put_tail.new.output (omega (arith, ap length tail, length-drop c.loop-word.at c.args.bytes.now, c.put_tail.ensures.bounds)) c.put_tail.auto.output c.args.bytes.now c.loop-word.invariant.written
    (c.put_tail.ensures.written ∙ ap (take c.put_tail.result) tail)
