use Rattle.std.proofs.Common.{ap, ◌∙◌, arith}
use Rattle.std.specs.String.{string_bytes}
use Rattle.std.proofs.lemmas.List.{nil_from_length}
use Rattle.mail_address.proofs.lemmas.EncodeCut.{cutting_starts, cutting_goes_on, cutting_cuts, cutting_ends, on_ok_then, word_at}
use Rattle.mail_address.proofs.encode.push_words.Goals as goal

pub loop-c-init : goal.loop-c-init
loop-c-init c =
    cutting_starts c.args.text.now (string_bytes c.args.written.now) _ c.requires.some c.utf8.text
    (ap (λ i. i.rest.now) c.into_iter-c-iterator.ensures.into_iter_gives ∙ c.chars-c-items.ensures.rest)

pub loop-c-preserved-in_ok-push_str : goal.loop-c-preserved-in_ok-push_str
loop-c-preserved-in_ok-push_str c =
    cutting_cuts c.args.text.now (string_bytes c.args.written.now) (string_bytes c.loop-c.written) c.loop-c.c-iterator.rest.now c.next.new.self.rest.now
    c.loop-c.start c.loop-c.end c.in-Some.c c.len_utf8.result c.loop-c.invariant c.in-Some.ensures.steps.0 c.len_utf8.ensures.value
    (string_bytes c.push_word.new.written) (string_bytes c.push_str.new.self) (omega (arith, c.if-next-start-gt-WORD_BYTES.true))
    (word_at _ _ _ _ c.range.ensures.value c.in_ok-push_word.ensures.written) c.in_ok-push_str.ensures.bytes

pub loop-c-preserved : goal.loop-c-preserved
loop-c-preserved c =
    cutting_goes_on c.args.text.now (string_bytes c.args.written.now) (string_bytes c.loop-c.written) c.loop-c.c-iterator.rest.now c.next.new.self.rest.now
    c.loop-c.start c.loop-c.end c.in-Some.c c.len_utf8.result c.loop-c.invariant c.in-Some.ensures.steps.0 c.len_utf8.ensures.value
    (omega (arith, c.if-next-start-gt-WORD_BYTES.false))

pub returns : goal.returns
returns c = record {
  written = on_ok_then c.push_word-2.result c.push_word-2.ensures.written
      (λ n. cutting_ends c.args.text.now (string_bytes c.args.written.now) (string_bytes c.loop-c.written) c.loop-c.c-iterator.rest.now (string_bytes c.push_word-2.new.written)
      c.loop-c.start c.loop-c.end c.loop-c.invariant (nil_from_length _ c.in-None.ensures.steps.0.0) (word_at _ _ _ _ c.range_from.ensures.value n));
}
