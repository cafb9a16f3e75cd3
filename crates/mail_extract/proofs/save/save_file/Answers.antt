use Rattle.std.proofs.Common.{Some, None, List, ℕ, length, string_bytes, refl, sym, ap, ◌∙◌, is_some}
use Rattle.mail_extract.specs.ChoiceViews.{options_view}
use Rattle.mail_extract.specs.ContentViews.{damage_view, file_view}
use Rattle.mail_extract.specs.Naming.{target}
use Rattle.mail_extract.specs.SaveViews.{kept_name}
use Rattle.mail_extract.proofs.lemmas.Save.{error_damaged, error_failed, hash_kept, saved_file, some_view}
use Rattle.mail_extract.proofs.save.save_file.Goals as goal

pub returns-in-As-clause-saved : goal.returns-in-As-clause-saved
returns-in-As-clause-saved g c = λ wanted files is_path is_name is_content e.
    let kept = c.in_ok-name-2.ensures.kept files e in
    let content = file_view c.args.content.now in
    let name = c.in_ok-name.ensures.read ∙ ap (λ (n : List ℕ). target c.args.options.naming n c.as_slice-bytes.result.now) (sym is_name) in
    let hash = c.in_ok-sha256.ensures ∙ ap (λ (b : List ℕ). hash_kept c.args.options.hashing (Some (string_bytes c.in-As.name)) b) c.as_slice-bytes.ensures.value in
    let size = ap (λ (b : List ℕ). length b) c.as_slice-bytes.ensures.value in (
      kept.0,
      kept.1,
      saved_file g.D.Directory.can_fail (options_view c.args.options) files kept.0 wanted c.args.target.now.number
          c.put.new.number _ _ _ _ _ (Some (string_bytes c.in-As.name)) _ _ content name (sym is_content) c.as_slice-bytes.ensures.value
          (ap kept_name c.in-As.is) (sym is_path) size hash (error_damaged _ _ (some_view (λ text. string_bytes text) c.in_ok-damage.damage ∙ c.in_ok-damage.ensures ∙ sym (some_view damage_view c.args.content.now.damage))) kept.2,
    )

pub returns-in_ok-format-in-Nowhere-clause-saved : goal.returns-in_ok-format-in-Nowhere-clause-saved
returns-in_ok-format-in-Nowhere-clause-saved g c = λ wanted files is_path is_name is_content e.
    let kept = c.in_ok-name-2.ensures.kept files e in
    let content = file_view c.args.content.now in
    let name = c.in_ok-name.ensures.read ∙ ap (λ (n : List ℕ). target c.args.options.naming n c.as_slice-bytes.result.now) (sym is_name) in
    let size = ap (λ (b : List ℕ). length b) c.as_slice-bytes.ensures.value in (
      kept.0,
      kept.1,
      saved_file g.D.Directory.can_fail (options_view c.args.options) files kept.0 wanted c.args.target.now.number
          c.put.new.number _ _ _ _ _ None None _ content name (sym is_content) c.as_slice-bytes.ensures.value
          (ap kept_name c.in-Nowhere.is) (sym is_path) size refl (error_failed (is_some content.fault)) kept.2,
    )
