use Rattle.std.proofs.Common.{List, ℕ, Option, refl, sym, ap, ap₂, map, option_map, ◌∙◌}
use Rattle.std.specs.Prelude.{codes}
use Rattle.mail_read.specs.PlaceViews.{place_view}
use Rattle.mail_data.specs.TextFiles.{TextFile}
use Rattle.mail_data.specs.TextFileViews.{text_file_view}
use Rattle.mail_read.specs.declared.lenient.content.Content.{Content}
use Rattle.mail_read.specs.lenient.ContentViews.{content_view}
use Rattle.mail_json_text.specs.Printed.{list_of, one, text_of}
use Rattle.mail_json.specs.TextFiles.{files_if, files_in, listed_files}
use Rattle.mail_json.specs.TextFileViews.{listed_view}
use Rattle.mail_json.specs.Values.{file_value, files_value}
use Rattle.mail_json_text.specs.declared.json_text.Position.TheVariants.{Later}
use Rattle.mail_json_text.proofs.lemmas.JsonText.{map_twice}
use Rattle.mail_json_text.proofs.lemmas.Members.{adds_as, member}
use Rattle.mail_json_text.proofs.lemmas.Written.{writes_as}
use Rattle.mail_json.proofs.text_files.write_text_files.Goals as goal

pub returns-in_default : goal.returns-in_default
returns-in_default g c =
    let options = c.args.options in
    let place = place_view c.args.place.now in
    adds_as Later _ _ c.add_null.result _ _
    (ap (λ (content : Option Content). one (codes "text_files") (files_value (files_if options.limit options.hashes c.args.is_extracted place (option_map content_view content)))) (sym c.in_default.is))
    c.add_null.ensures

pub returns : goal.returns
returns g c =
    let options = c.args.options in
    let place = place_view c.args.place.now in
    let files = ap (map text_file_view) c.as_slice.ensures.value ∙ c.in_ok-files.ensures ∙ ap (files_in options.limit c.args.is_extracted place.part) c.as_slice-text.ensures.value in
    let all = ap₂ (λ (path : List ℕ) (found : List TextFile). listed_files options.hashes path 1 found) c.as_str-path.ensures.value files in
    let same =
    map_twice file_value listed_view c.as_slice-2.result.now ∙ ap (λ fs. map file_value (map listed_view fs)) c.as_slice-2.ensures.value
    ∙ ap (map file_value) (c.in_ok-listed.ensures ∙ all) in
    let listed = writes_as _ _ c.write_list.result _ _ (ap (λ js. text_of (list_of js)) same) c.write_list.ensures in
    adds_as Later _ _ c.write_list.result _ _
    (ap (λ (content : Option Content). one (codes "text_files") (files_value (files_if options.limit options.hashes c.args.is_extracted place (option_map content_view content)))) (sym c.in-Some.is))
    (member _ _ _ c.write_list.result _ _ refl c.in_ok-write_word.ensures listed)
