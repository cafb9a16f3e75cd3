use Rattle.std.proofs.Common.{List, ◌+◌, [], ◌∷◌, false, drop, map, option_map, sym, subst, ap, arith}
use Rattle.std.proofs.lemmas.List.{drop_all}
use Rattle.mail_read.proofs.lemmas.InnerMails.{drop_next}
use Rattle.mail_read.specs.PartPlaces.{Place}
use Rattle.mail_parts.specs.DecodedViews.{IsDecoded, decoded_place}
use Rattle.mail_parts.proofs.lemmas.Decoded.{all_at}
use Rattle.mail_extract.specs.ChoiceViews.{options_view}
use Rattle.mail_extract.specs.Input.{AreFiles, IsFile}
use Rattle.mail_extract.specs.Save.{Wanted, chosen, wanted_among}
use Rattle.mail_extract.proofs.lemmas.Save.{chosen-cons}
use Rattle.mail_extract.proofs.lemmas.Saves.{before_end, before_more, before_start, each_first}
use Rattle.mail_extract.proofs.parts.extract_places.Goals as goal

pub extract_place-requires : goal.extract_place-requires
extract_place-requires g c =
    all_at (IsDecoded false) c.args.parts.now c.loop-part.part-index c.part-item.result (omega arith) c.part-item.is c.requires

pub loop-part-init : goal.loop-part-init
loop-part-init g c =
    let options = options_view c.args.source.options in
    let known = g.K.KnownCharsets.known c.args.source.known.now in
    let Files = AreFiles (option_map (λ name. name.now) c.args.source.file) g.D.Directory.can_fail options c.args.saving.number in
    let files = chosen options.choice (wanted_among known options.limit c.args.saving.level (map decoded_place c.args.parts.now)) in
    before_start _ _ _ (λ later. Files files) (λ later. Files files) (λ later before from lines next now h. h)

pub loop-part-preserved : goal.loop-part-preserved
loop-part-preserved g c =
    let options = options_view c.args.source.options in
    let known = g.K.KnownCharsets.known c.args.source.known.now in
    let file = option_map (λ name. name.now) c.args.source.file in
    let level = c.args.saving.level in
    let items = c.args.parts.now in
    let i = c.loop-part.part-index in
    let place = decoded_place c.part-item.result in
    let rest = map decoded_place (drop (i + 1) items) in
    let left = ap (map decoded_place) (drop_next items i c.part-item.result (omega arith) c.part-item.is) in
    let files = λ (ps : List Place). chosen options.choice (wanted_among known options.limit level ps) in
    before_more _ _ _ _ _ _ _ _ _ _ _ _ (λ later. AreFiles file g.D.Directory.can_fail options c.args.saving.number (files (map decoded_place items)))
    (λ later. AreFiles file g.D.Directory.can_fail options c.args.saving.number (files (map decoded_place (drop i items))))
    (λ later. AreFiles file g.D.Directory.can_fail options c.args.saving.number (files rest)) (AreFiles file g.D.Directory.can_fail options c.args.saving.number (files (place ∷ [])))
    c.and-outcome.ensures
    (λ later. each_first (IsFile file g.D.Directory.can_fail options c.args.saving.number) (files (map decoded_place (drop i items))) (files (place ∷ [])) (files rest)
    (chosen-cons known options.limit options.choice level (map decoded_place (drop i items)) rest place left))
    c.in_ok-extract_place.ensures c.loop-part.invariant

pub returns : goal.returns
returns g c =
    let options = options_view c.args.source.options in
    let known = g.K.KnownCharsets.known c.args.source.known.now in
    let file = option_map (λ name. name.now) c.args.source.file in
    let level = c.args.saving.level in
    let items = c.args.parts.now in
    let i = c.loop-part.part-index in
    let none = ap (λ ps. chosen options.choice (wanted_among known options.limit level (map decoded_place ps))) (drop_all i items (omega arith)) in
    before_end _ _ _ _ _ _ _ (λ later. AreFiles file g.D.Directory.can_fail options c.args.saving.number (chosen options.choice (wanted_among known options.limit level (map decoded_place items))))
    (λ later. AreFiles file g.D.Directory.can_fail options c.args.saving.number (chosen options.choice (wanted_among known options.limit level (map decoded_place (drop i items))))) []
    (λ files from lines next now h. subst (λ (ws : List Wanted). AreFiles file g.D.Directory.can_fail options c.args.saving.number ws files from lines next now) (sym none) h)
    c.loop-part.invariant
