use Rattle.std.proofs.Common.{◌≡◌, ◌++◌, ℕ, List, map, refl, sym, ap, ◌∙◌}
use Rattle.json.specs.Json.{Json}
use Rattle.mailparse.specs.Mail.{root}
use Rattle.mailparse.specs.Placement.{Placement}
use Rattle.mailparse.specs.Views.{tree_of}
use Rattle.mail_read.specs.PartPlaces.{places}
use Rattle.mail_read.specs.PlaceViews.{place_view}
use Rattle.mail_parts.specs.DecodedViews.{decoded_place, decoded_tree}
use Rattle.mail_parts.specs.Inside.{Listed, mails_inside, without_bytes}
use Rattle.mail_json.specs.InsideViews.{inside_view}
use Rattle.mail_json_text.specs.Members.{Adds}
use Rattle.mail_json.specs.Options.{options_of}
use Rattle.mail_json.specs.Origin.{origin_of}
use Rattle.mail_json_text.specs.Printed.{list_of, object_of, text_of}
use Rattle.mail_json.specs.Values.{IsMailValue, findings_if, found_members, head_members, inside_value, mail_members}
use Rattle.mail_json_text.specs.declared.json_text.Position.TheVariants.{First}
use Rattle.mail_json.proofs.lemmas.Decoded.{whole_trees}
use Rattle.mail_json_text.proofs.lemmas.JsonText.{map_twice}
use Rattle.mail_json_text.proofs.lemmas.Members.{◌⨾◌, closed, renamed, valued}
use Rattle.mail_json_text.proofs.lemmas.Objects.{list_appended, value_as}
use Rattle.mail_json_text.proofs.lemmas.Written.{appends_as, writes_one}
use Rattle.mail_json.proofs.mail.write_mail.Goals as goal

pub head_of-requires-clause-whole : goal.head_of-requires-clause-whole
head_of-requires-clause-whole g c =
    ap (map decoded_tree) c.as_slice-parts.ensures.value
    ∙ whole_trees c.in_ok-decoded.decoded.items c.as_slice.result.now c.in_ok-found.found.items c.in_ok-decoded.ensures.places c.as_slice.ensures.value
    ∙ c.in_ok-found.ensures.whole

pub returns : goal.returns
returns g c =
    let options = options_of (g.K.KnownCharsets.known c.args.known.now) c.args.options in
    let decodes = c.args.options.decodes_bodies in
    let mail = tree_of c.args.mail.now in
    let origin = origin_of c.args.origin.now in
    let inside = mails_inside options.known options.limit mail in
    let head : Adds First _ _ (head_members options.known decodes origin mail) =
    record { text = appends_as _ _ _ _ (c.as_slice-2.ensures ∙ c.in_ok-head.ensures.written) c.in_ok-write_all.ensures.bytes } in
    let found =
    ap (map decoded_place) c.as_slice-parts.ensures.value ∙ c.in_ok-decoded.ensures.places ∙ ap (map place_view) c.as_slice.ensures.value
    ∙ c.in_ok-found.ensures.read ∙ ap (λ (ps : List Placement). places mail ps) c.requires.placed in
    let parts = c.in_ok-inside.ensures.written mail found in
    let mails : map inside_view c.as_slice-3.result.now ≡ map without_bytes inside =
    ap (map inside_view) c.as_slice-3.ensures.value ∙ c.in_ok-inside.ensures.listed mail found in
    let list = list_appended _ _ _ _ parts.0 c.in_ok-write_word-2.ensures parts.2 c.in_ok-write_word-3.ensures in
    let mails_are = value_as (λ (ms : List Listed). list_of (map (inside_value origin.start) ms)) _ _ _ _ mails c.in_ok-write_mails.ensures in
    let forwarded = value_as (λ (js : List Json). list_of js) _ _ _ _ (sym (map_twice (inside_value origin.start) without_bytes inside)) mails_are in
    let noticed = renamed c.in_ok-add_findings.ensures (ap (λ (bytes : List ℕ). found_members (findings_if options bytes)) c.bytes_of.ensures) in
    let all_members = head ⨾ valued _ _ _ _ _ refl c.in_ok-write_word.ensures list ⨾ valued _ _ _ _ _ refl c.in_ok-write_word-4.ensures forwarded ⨾ noticed in
    let members = mail_members options.known decodes origin mail inside parts.0 ++ found_members (findings_if options (root mail).bytes) in
    writes_one text_of (IsMailValue options origin mail) _ _ c.write_word-5.result (object_of members) (parts.0, parts.1, refl)
    (closed _ c.write_word-5.result (object_of members) all_members c.write_word-5.ensures refl)
