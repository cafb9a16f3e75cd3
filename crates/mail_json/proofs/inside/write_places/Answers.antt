use Rattle.std.proofs.Common.{ℕ, List, Option, Some, ap, map, subst, ◌∙◌}
use Rattle.mail_read.specs.PartPlaces.{Place}
use Rattle.mail_parts.specs.DecodedViews.{decoded_place}
use Rattle.mail_json.specs.Options.{options_of}
use Rattle.mail_json.specs.Part.{place_in}
use Rattle.mail_json.specs.Values.{AreValues, IsPartValue}
use Rattle.mail_json.proofs.inside.write_places.Goals as goal

pub returns-in-Ok-write_found-clause-written : goal.returns-in-Ok-write_found-clause-written
returns-in-Ok-write_found-clause-written g c =
    let options = options_of (g.K.KnownCharsets.known c.args.shared.now.known.now) c.args.shared.now.options in
    let path = Some c.args.path.now in
    let own = c.in-Ok-write_found.ensures in
    let placed =
    subst (λ (s : Option ℕ). AreValues (IsPartValue options path s) (map decoded_place c.as_slice.result.now) own.0) c.place_in.ensures own.1 in
    let places = ap (map decoded_place) c.as_slice.ensures.value ∙ c.in-Ok.ensures.places in (
      own.0,
      subst (λ (xs : List Place). AreValues (IsPartValue options path (place_in c.args.start c.args.shared.now.origin)) xs own.0) places placed,
      own.2,
    )
