use Rattle.std.proofs.Common.{◌+◌, ◌++◌, drop, [], map, option_map, refl, ap, arith}
use Rattle.std.proofs.KnownBytes.{Appends-nil, Appends-trans}
use Rattle.std.proofs.lemmas.List.{drop_all}
use Rattle.mail_json.specs.Options.{options_of}
use Rattle.mail_json_text.specs.Printed.{comma, listed, text_of}
use Rattle.mail_json.specs.Values.{AreValues, IsPartValue}
use Rattle.mail_parts.specs.DecodedViews.{IsDecoded, decoded_place}
use Rattle.mail_parts.proofs.lemmas.Decoded.{all_at}
use Rattle.mail_json.proofs.lemmas.Part.{items_end, items_more}
use Rattle.mail_json_text.proofs.lemmas.JsonText.{drop_next}
use Rattle.mail_json_text.proofs.lemmas.Written.{appends_as}
use Rattle.mail_json.proofs.part.write_found.Goals as goal

pub write_part-requires : goal.write_part-requires
write_part-requires g c =
    all_at (IsDecoded c.args.form.options.decodes_bodies) c.args.parts.now c.loop-part.part-index c.part-item.result (omega arith) c.part-item.is c.requires

pub loop-part-init : goal.loop-part-init
loop-part-init g c = ([], Appends-nil _, λ rest h. (rest, h, refl))

pub loop-part-preserved : goal.loop-part-preserved
loop-part-preserved g c =
    let here = c.loop-part.invariant in
    let items = c.args.parts.now in
    let left = drop_next items c.loop-part.part-index c.part-item.result (omega arith) c.part-item.is in
    let part = c.in_ok-write_part.ensures in
    let text = comma c.loop-part.position ++ text_of part.0 in
    let Is = IsPartValue (options_of (g.K.KnownCharsets.known c.args.form.known.now) c.args.form.options) (option_map (λ path. path.now) c.args.form.inside) c.args.form.start in (
      here.0 ++ text,
      Appends-trans _ _ _ here.0 text here.1 (Appends-trans _ _ _ (comma c.loop-part.position) (text_of part.0) c.in_ok-write_comma.ensures part.2),
      items_more Is (AreValues Is (map decoded_place items)) (listed text_of (comma c.args.first)) (comma c.loop-part.position) (decoded_place c.part-item.result) _
          (map decoded_place (drop (c.loop-part.part-index + 1) items)) here.0 part.0 (ap (map decoded_place) left) here.2 part.1,
    )

pub returns : goal.returns
returns g c =
    let here = c.loop-part.invariant in
    let items = c.args.parts.now in
    let none = ap (map decoded_place) (drop_all c.loop-part.part-index items (omega arith)) in
    let Is = IsPartValue (options_of (g.K.KnownCharsets.known c.args.form.known.now) c.args.form.options) (option_map (λ path. path.now) c.args.form.inside) c.args.form.start in
    let all = items_end Is (AreValues Is (map decoded_place items)) (listed text_of (comma c.args.first)) (comma c.loop-part.position) _ here.0 none here.2 in
    (all.0, all.1, appends_as _ _ here.0 (listed text_of (comma c.args.first) all.0) all.2 here.1)
