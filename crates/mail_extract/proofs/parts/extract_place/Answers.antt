use Rattle.std.proofs.Common.{◌≡◌, List, ℕ, false, true, option_map, string_bytes, sym, ap, ◌∙◌}
use Rattle.mail_read.specs.Attachments.{is_extracted}
use Rattle.mail_parts.specs.DecodedViews.{decoded_place}
use Rattle.mail_extract.specs.ChoiceViews.{options_view}
use Rattle.mail_extract.specs.Save.{is_chosen, wanted_as}
use Rattle.mail_extract.specs.SaveViews.{outcome}
use Rattle.mail_extract.proofs.lemmas.Parts.{file_saved, files_as, files_none}
use Rattle.mail_extract.proofs.lemmas.Save.{among-kept, among-text, read_value}
use Rattle.mail_extract.proofs.parts.extract_place.Goals as goal

pub returns-then-not-branch : goal.returns-then-not-branch
returns-then-not-branch g c =
    let options = options_view c.args.source.options in
    let known = g.K.KnownCharsets.known c.args.source.known.now in
    let place = decoded_place c.args.part.now in
    let is : is_extracted known place.part ≡ false = read_value _ _ c.in_ok-is_extracted.ensures ∙ c.if-not-branch.true in
    files_as (option_map (λ name. name.now) c.args.source.file) g.D.Directory.can_fail options c.args.saving.number _ _ (sym (among-text known options.limit options.choice c.args.saving.level place is))
    _ _ _ _ _ _ c.extract_text.result c.extract_text.ensures

pub returns-then-not-branch-2 : goal.returns-then-not-branch-2
returns-then-not-branch-2 g c =
    let options = options_view c.args.source.options in
    let known = g.K.KnownCharsets.known c.args.source.known.now in
    let place = decoded_place c.args.part.now in
    let level = c.args.saving.level in
    let is : is_extracted known place.part ≡ true = read_value _ _ c.in_ok-is_extracted.ensures ∙ c.if-not-branch.false in
    let kept = sym c.if-not-branch-2.true ∙ c.in_ok-is_kept.ensures ∙ ap (λ (n : List ℕ). is_chosen options.choice (wanted_as level place n)) c.as_str.ensures.value in
    files_none (option_map (λ name. name.now) c.args.source.file) g.D.Directory.can_fail options c.args.saving.number _ (among-kept known options.limit options.choice level place false (string_bytes c.in_ok-name.name) is c.in_ok-name.ensures.read kept)
    _ _ _

pub returns : goal.returns
returns g c =
    let options = options_view c.args.source.options in
    let known = g.K.KnownCharsets.known c.args.source.known.now in
    let place = decoded_place c.args.part.now in
    let level = c.args.saving.level in
    let saved = c.in_ok-saved.ensures in
    let is : is_extracted known place.part ≡ true = read_value _ _ c.in_ok-is_extracted.ensures ∙ c.if-not-branch.false in
    let kept = sym c.if-not-branch-2.false ∙ c.in_ok-is_kept.ensures ∙ ap (λ (n : List ℕ). is_chosen options.choice (wanted_as level place n)) c.as_str.ensures.value in
    file_saved (option_map (λ name. name.now) c.args.source.file) g.D.Directory.can_fail options c.args.saving.number _ (wanted_as level place (string_bytes c.in_ok-name.name))
    (among-kept known options.limit options.choice level place true (string_bytes c.in_ok-name.name) is c.in_ok-name.ensures.read kept)
    _ _ _ _ _ _ c.report_saved.result (outcome c.in_ok-saved.saved) (saved.saved level) saved.safe c.report_saved.ensures
