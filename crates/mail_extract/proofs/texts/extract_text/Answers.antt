use Rattle.std.proofs.Common.{List, ℕ, [], map, option_map, sym, ap, ap₂, ◌∙◌}
use Rattle.std.proofs.lemmas.Bool.{cond-true, cond-false}
use Rattle.mailparse.specs.Mail.{root}
use Rattle.mail_read.specs.PartPlaces.{Place}
use Rattle.mail_read.specs.PlaceViews.{place_view}
use Rattle.mail_data.specs.TextFiles.{TextFile, is_plain_text, text_files}
use Rattle.mail_data.specs.TextFileViews.{text_file_view}
use Rattle.mail_read.specs.lenient.Content.{Content, message_content}
use Rattle.mail_extract.specs.ChoiceViews.{options_view}
use Rattle.mail_extract.specs.Save.{Wanted, chosen, texts_wanted}
use Rattle.mail_extract.proofs.lemmas.Parts.{files_as, files_none}
use Rattle.mail_extract.proofs.texts.extract_text.Goals as goal

-- the files in the text of a place, which may have none
abbrev Texts : ℕ → Place → List Wanted
Texts limit place = texts_wanted place.path 1 (text_files limit (message_content (root place.part)).bytes)

pub returns-then-not-is_plain_text : goal.returns-then-not-is_plain_text
returns-then-not-is_plain_text g c =
    let options = options_view c.args.source.options in
    let place = place_view c.args.place.now in
    let none = cond-false (is_plain_text place.part) (Texts options.limit place) [] (sym c.is_plain_text.ensures ∙ c.if-not-is_plain_text.true) in
    files_none (option_map (λ name. name.now) c.args.source.file) g.D.Directory.can_fail options c.args.number _ (ap (chosen options.choice) none) _ _ _

pub returns : goal.returns
returns g c =
    let options = options_view c.args.source.options in
    let place = place_view c.args.place.now in
    let texts = λ (path : List ℕ) (files : List TextFile). chosen options.choice (texts_wanted path 1 files) in
    let bytes = c.as_slice.ensures.value ∙ ap (λ (content : Content). content.bytes) c.in_ok-content.ensures.read in
    let files = ap (map text_file_view) c.as_slice-2.ensures.value ∙ c.in_ok-files.ensures ∙ ap (text_files options.limit) bytes in
    let some = cond-true (is_plain_text place.part) (Texts options.limit place) [] (sym c.is_plain_text.ensures ∙ c.if-not-is_plain_text.false) in
    files_as (option_map (λ name. name.now) c.args.source.file) g.D.Directory.can_fail options c.args.number _ _
    (ap₂ texts c.as_str.ensures.value files ∙ ap (chosen options.choice) (sym some)) _ _ _ _ _ _ c.extract_files.result c.extract_files.ensures
