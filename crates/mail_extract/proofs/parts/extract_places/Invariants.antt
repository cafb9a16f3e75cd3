-- What was saved is completed by the files among the parts that are left.
use Rattle.std.proofs.Common.{drop, map, option_map}
use Rattle.mail_parts.specs.DecodedViews.{decoded_place}
use Rattle.mail_extract.specs.ChoiceViews.{options_view}
use Rattle.mail_extract.specs.Input.{AreFiles, Saved}
use Rattle.mail_extract.specs.Save.{chosen, wanted_among}
use Rattle.mail_extract.specs.private.Blocks.{Before}
use Rattle.mail_extract.proofs.parts.extract_places.Given as goal

abbrev pub invariant-loop-part : goal.invariant-loop-part
invariant-loop-part g l =
    let options = options_view l.fn.source.options in
    let known = g.K.KnownCharsets.known l.source.known.now in
    let file = option_map (λ name. name.now) l.fn.source.file in
    Saved (g.D.Directory.held l.fn.target.directory) (g.D.Directory.held l.target.directory) (g.W.Write.contents l.fn.out) (g.W.Write.contents l.out) l.fn.target.number l.target.number l.outcome
    (Before (λ later. AreFiles file g.D.Directory.can_fail options l.saving.number (chosen options.choice (wanted_among known options.limit l.saving.level (map decoded_place l.parts))))
    (λ later. AreFiles file g.D.Directory.can_fail options l.saving.number (chosen options.choice (wanted_among known options.limit l.saving.level (map decoded_place (drop l.part-index l.parts))))))
