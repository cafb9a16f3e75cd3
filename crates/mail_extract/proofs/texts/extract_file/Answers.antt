use Rattle.std.proofs.Common.{List, ℕ, false, true, option_map, string_bytes, refl, sym, ap₂, ◌∙◌}
use Rattle.std.specs.Prelude.{codes}
use Rattle.mail_data.specs.TextFileViews.{text_file_view}
use Rattle.mail_extract.specs.Choice.{keeps}
use Rattle.mail_extract.specs.ChoiceViews.{options_view}
use Rattle.mail_extract.specs.Save.{text_wanted}
use Rattle.mail_extract.specs.SaveViews.{outcome}
use Rattle.mail_extract.proofs.lemmas.Parts.{file_saved, files_none}
use Rattle.mail_extract.proofs.lemmas.Save.{text-kept}
use Rattle.mail_extract.proofs.texts.extract_file.Goals as goal

pub returns-then-not-branch : goal.returns-then-not-branch
returns-then-not-branch g c =
    let options = options_view c.args.source.options in
    let path = string_bytes c.args.path in
    let file = text_file_view c.args.file.now in
    let kept = sym c.if-not-branch.true ∙ c.in_ok-keeps.ensures ∙ ap₂ (λ (p n : List ℕ). keeps options.choice p (codes "application/octet-stream") n) c.as_str.ensures.value c.as_str-2.ensures.value in
    files_none (option_map (λ name. name.now) c.args.source.file) g.D.Directory.can_fail options c.args.number _ (text-kept options.choice path file false (string_bytes c.in_ok-name.name) c.in_ok-name.ensures.read kept)
    _ _ _

pub returns : goal.returns
returns g c =
    let options = options_view c.args.source.options in
    let path = string_bytes c.args.path in
    let file = text_file_view c.args.file.now in
    let wanted = text_wanted path file in
    let saved = c.in_ok-saved.ensures in
    let kept = sym c.if-not-branch.false ∙ c.in_ok-keeps.ensures ∙ ap₂ (λ (p n : List ℕ). keeps options.choice p (codes "application/octet-stream") n) c.as_str.ensures.value c.as_str-2.ensures.value in
    file_saved (option_map (λ name. name.now) c.args.source.file) g.D.Directory.can_fail options c.args.number _ wanted
    (text-kept options.choice path file true (string_bytes c.in_ok-name.name) c.in_ok-name.ensures.read kept)
    _ _ _ _ _ _ c.report_saved.result (outcome c.in_ok-saved.saved)
    (λ before is. saved.saved wanted before refl (sym c.in_ok-name.ensures.read) (sym (c.file_content-content.ensures ∙ c.in_ok-content.ensures)) is) saved.safe c.report_saved.ensures
