use Rattle.std.proofs.Common.{List, false, map, option_map, sym, ap, subst, ◌∙◌}
use Rattle.std.specs.List.{AllByRecursion}
use Rattle.mailparse.specs.Placement.{Placement}
use Rattle.mailparse.specs.Views.{tree_of}
use Rattle.mail_read.specs.PartPlaces.{places}
use Rattle.mail_read.specs.PlaceViews.{place_view}
use Rattle.mail_parts.specs.DecodedViews.{IsDecoded, decoded_place}
use Rattle.mail_extract.specs.ChoiceViews.{options_view}
use Rattle.mail_extract.proofs.lemmas.Inside.{mail_saved}
use Rattle.mail_extract.proofs.inside.extract_mail.Goals as goal

pub returns : goal.returns
returns g c =
    let mail = tree_of c.args.mail.now in
    let own = ap (map decoded_place) c.as_slice-2.ensures.value in
    let parts =
    own ∙ c.in_ok-parts.ensures.places ∙ ap (map place_view) c.as_slice.ensures.value
    ∙ c.in_ok-found.ensures.read ∙ ap (λ (ps : List Placement). places mail ps) c.requires.placed in
    let again = ap (map decoded_place) c.as_slice-3.ensures.value ∙ sym own in
    mail_saved (option_map (λ name. name.now) c.args.source.file) g.D.Directory.can_fail (options_view c.args.source.options) (g.K.KnownCharsets.known c.args.source.known.now) c.args.number
    _ _ _ _ _ _ _ _ _ c.in_ok-own.own c.in_ok-extract_inside.field-0 c.and.result mail _ _ parts again c.and.ensures c.in_ok-own.ensures
    (c.in_ok-extract_inside.ensures.saved (subst (AllByRecursion (IsDecoded false)) (sym c.as_slice-3.ensures.value) c.in_ok-parts.ensures.decoded))
