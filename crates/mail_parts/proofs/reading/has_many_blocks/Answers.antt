use Rattle.std.proofs.Common.{arith}
use Rattle.std.proofs.lemmas.List.{take_rest}
use Rattle.mail_codec.specs.UuencodeViews.{file_view}
use Rattle.mail_parts.proofs.lemmas.Reading.{searched-more}
use Rattle.mail_parts.proofs.reading.has_many_blocks.Goals as goal

pub search-preserved : goal.search-preserved
search-preserved c =
    searched-more c.args.limit c.args.text.now c.search.left c.search.at (file_view c.in-Some.block) _ (take_rest c.args.text.now c.search.at)
    c.search.invariant (omega arith) c.in-Some.ensures.read c.in-Some.ensures.block.1
