use Rattle.std.proofs.Common.{◌≡◌, ◌+◌, ◌-◌, take, drop, refl, ap, ◌∙◌, arith}
use Rattle.std.proofs.lemmas.List.{length-drop, length-take-le}
use Rattle.std.proofs.lemmas.Simd.{length-put_chunk}
use Rattle.mail_codec.specs.Places.{begins, first_place}
use Rattle.mail_codec.specs.private.QuotedPrintable.{is_special}
use Rattle.mail_codec.specs.private.Vectors.{lane_mask}
use Rattle.mail_codec.proofs.lemmas.Vectors.{no_match}
use Rattle.mail_codec.proofs.lemmas.QuotedPrintableSpecials.{after_vector, matches_later, plain-empty, plain-run}
use Rattle.mail_codec.proofs.transfer.quoted_printable.blocks.put_block.Goals as goal

pub returns-then-matches-eq0-clause-reading : goal.returns-then-matches-eq0-clause-reading
returns-then-matches-eq0-clause-reading c =
    let read = c.args.read in
    let text = c.args.text.now in
    let block = take 64 (drop read.at text) in
    let none = no_match is_special block c.either_lanes-matches.result c.either_lanes-matches.ensures c.if-matches-eq0.true in
    let first : 64 ≡ first_place (begins is_special) block = omega (arith, none, length-take-le 64 (drop read.at text) (omega (arith, c.requires.within, length-drop read.at text))) in
    rw c.copied_to.ensures (after_vector text read.from c.args.output.now read.len read.plain read.at c.requires.reading 64 (read.at + 64) block refl (omega arith) (omega arith) (omega (arith, c.requires.within)) (omega (arith, c.requires.capacity)) (plain-run text read.at 64 64 first))

pub put_specials-requires-clause-block : goal.put_specials-requires-clause-block
put_specials-requires-clause-block c =
    let read = c.args.read in
    let text = c.args.text.now in
    let block = take 64 (drop read.at text) in
    let count = c.first_match-count.result in
    let within = c.requires.within in
    let start = c.requires.reading.start in
    let capacity = c.requires.capacity in
    let place = read.len + (read.at - read.plain) in
    let long = length-take-le 64 (drop read.at text) (omega (arith, length-drop read.at text)) in
    let first = c.first_match-count.ensures.least is_special block (omega (arith, long)) c.either_lanes-matches.ensures in
    let whole : c.either_lanes-matches.result ≡ lane_mask is_special (take (read.at + 64 - read.at) (drop read.at text)) =
    c.either_lanes-matches.ensures ∙ ap (λ n. lane_mask is_special (take n (drop read.at text))) {x = 64} {y = read.at + 64 - read.at} (omega arith) in
    rw c.copied_to-read.ensures (record {
      reading =
          after_vector text read.from c.args.output.now read.len read.plain read.at c.requires.reading 64 (read.at + count) block refl (omega arith) (omega (arith, long, first.1)) (omega arith) (omega arith)
          (plain-run text read.at 64 count first.0);
      ahead = omega arith;
      inside = omega (arith, long, first.1);
      is_plain = plain-empty text (read.at + count);
      left = matches_later text read.at (read.at + 64) count (read.at + count) _ _ refl c.matches_after-rest.ensures whole;
      near = omega arith;
      capacity = omega (arith, length-put_chunk place c.args.output.now block);
    })
