-- How deep mails are searched falls, and what was saved is completed by the mails in the parts that are left.
use Rattle.std.proofs.Common.{◌+◌, ◌-◌, ◌*◌, false, drop, map, option_map}
use Rattle.std.specs.Prelude.{flat_map}
use Rattle.std.specs.List.{AllByRecursion}
use Rattle.mail_parts.specs.DecodedViews.{IsDecoded, decoded_place}
use Rattle.mail_parts.specs.Reading.{mails_in_place}
use Rattle.mail_extract.specs.ChoiceViews.{options_view}
use Rattle.mail_extract.specs.Input.{AreInside, Saved}
use Rattle.mail_extract.specs.private.Blocks.{Before}
use Rattle.mail_extract.proofs.inside.«+inside».Given as goal

abbrev pub decreases-extract_inside : goal.decreases-extract_inside
decreases-extract_inside g l = 2 * l.within.most

abbrev pub decreases-extract_forwarded : goal.decreases-extract_forwarded
decreases-extract_forwarded g l = 2 * l.within.most + 1

abbrev pub invariant-extract_inside-loop-part : goal.invariant-extract_inside-loop-part
invariant-extract_inside-loop-part g l =
    let known = g.K.KnownCharsets.known l.source.known.now in
    let step = mails_in_place known l.source.options.limit (l.within.most - 1) l.within.start in
    let Inside = AreInside (option_map (λ name. name.now) l.initial.source.file) g.D.Directory.can_fail (options_view l.initial.source.options) known l.within.number in
    AllByRecursion (IsDecoded false) l.parts → Saved (g.D.Directory.held l.initial.target.directory) (g.D.Directory.held l.target.directory) (g.W.Write.contents l.initial.out) (g.W.Write.contents l.out) l.initial.target.number l.target.number l.outcome
    (Before (λ later. Inside (flat_map step (map decoded_place l.parts))) (λ later. Inside (flat_map step (map decoded_place (drop l.part-index l.parts)))))
