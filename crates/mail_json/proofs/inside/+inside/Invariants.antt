-- How deep mails are searched falls; what was written is completed by the parts of the mails in the parts that are left, and
-- the list of mails by these mails.
use Rattle.std.proofs.Common.{◌≡◌, ◌++◌, ◌+◌, ◌-◌, ◌*◌, List, ℕ, drop, map}
use Rattle.std.specs.Prelude.{flat_map}
use Rattle.std.specs.Io.KnownBytes.{Appends}
use Rattle.mail_parts.specs.DecodedViews.{IsDecoded, decoded_place}
use Rattle.std.specs.List.{AllByRecursion}
use Rattle.mail_program.specs.Fault.{IsEnd}
use Rattle.mail_parts.specs.Inside.{without_bytes}
use Rattle.mail_json.specs.InsideViews.{inside_view}
use Rattle.mail_json.specs.Options.{options_of}
use Rattle.mail_json_text.specs.Printed.{after_commas, text_of}
use Rattle.mail_parts.specs.Reading.{mails_in_place}
use Rattle.mail_json.specs.Values.{AreInsideValues}
use Rattle.mail_json.proofs.lemmas.Part.{Completes}
use Rattle.mail_json.proofs.inside.«+inside».Given as goal

abbrev pub decreases-write_inside : goal.decreases-write_inside
decreases-write_inside g l = 3 * l.within.now.most

abbrev pub decreases-write_forwarded : goal.decreases-write_forwarded
decreases-write_forwarded g l = 3 * l.within.now.most + 2

abbrev pub decreases-write_read : goal.decreases-write_read
decreases-write_read g l = 3 * l.within.now.most + 1

abbrev pub invariant-write_inside-loop-part : goal.invariant-write_inside-loop-part
invariant-write_inside-loop-part g l =
    let options = options_of (g.K.KnownCharsets.known l.shared.known.now) l.shared.options in
    let step = mails_in_place options.known options.limit (l.within.most - 1) l.within.start in
    let all = map decoded_place l.parts in
    let left = map decoded_place (drop l.part-index l.parts) in
    (AllByRecursion (IsDecoded options.decodes_bodies) l.parts → ((done : List ℕ) × Appends (g.W.Write.contents l.initial.out) (g.W.Write.contents l.out) done
    × Completes (AreInsideValues options l.shared.origin (flat_map step left)) (after_commas text_of)
    (AreInsideValues options l.shared.origin (flat_map step all)) (after_commas text_of) done)
    × (map inside_view l.found.mails.items ++ map without_bytes (flat_map step left) ≡ map inside_view l.initial.found.mails.items ++ map without_bytes (flat_map step all)))
    × (IsEnd l.initial.found.fault → IsEnd l.found.fault)
