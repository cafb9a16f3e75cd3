use Rattle.std.proofs.Common.{ap, ◌∙◌, lit<}
use Rattle.std.proofs.lemmas.Iterator.Consumers.{YieldsList-end}
use Rattle.std.proofs.lemmas.Iterator.Splits.{YieldsList-from_str_split}
use Rattle.std.specs.List.{join_with_byte}
use Rattle.mailparse.proofs.lemmas.EncodedWord.{join-spaced}
use Rattle.mailparse.proofs.header.encoded_word.with_spaces.Goals as goal

pub returns : goal.returns
returns c =
    let all = YieldsList-end (YieldsList-from_str_split 95 c.args.encoded.now (lit< tt) (cc) (cc) (cc)) c.loop-piece.yielded _ c.loop-piece.yielded_by _ _ c.in-None.is c.next.ensures.steps in
    c.loop-piece.invariant.joined ∙ ap (join_with_byte 32) all.0 ∙ join-spaced c.args.encoded.now
