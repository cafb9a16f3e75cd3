use Rattle.std.proofs.Common.{List, ℕ, sym, ap, subst, ◌∙◌}
use Rattle.std.proofs.lemmas.Result.{IfOk-weaker}
use Rattle.std.specs.Str.{chars, encode_utf8_all}
use Rattle.mail_read.specs.FileNames.{IsSafeName}
use Rattle.mail_read.specs.WindowsNames.{IsWindowsName, all_allowed, no_device}
use Rattle.mail_read.proofs.lemmas.WindowsNames.{allowed_from, allowed_same}
use Rattle.mail_read.proofs.files.windows.windows_file_name.Goals as goal

pub returns-clause-allowed : goal.returns-clause-allowed
returns-clause-allowed c =
    let safe = subst IsSafeName (sym c.as_str.ensures.value) c.in_ok-safe.ensures.safe in
    let is = c.as_slice-2.ensures.value ∙ c.in_ok-allowed.ensures ∙ ap all_allowed (c.as_slice.ensures.value ∙ c.in_ok-characters.ensures) in
    IfOk-weaker c.no_device.result _ _
    (λ made copied. subst IsWindowsName (sym (copied ∙ ap (λ (cs : List ℕ). encode_utf8_all (no_device cs)) is)) (allowed_from c.as_str.result.now c.as_str.utf8 safe))
    c.no_device.ensures

pub returns-clause-same : goal.returns-clause-same
returns-clause-same c = λ h.
    let name = c.as_str.ensures.value ∙ c.in_ok-safe.ensures.same h.safe in
    let is =
    c.as_slice-2.ensures.value ∙ c.in_ok-allowed.ensures
    ∙ ap all_allowed (c.as_slice.ensures.value ∙ c.in_ok-characters.ensures ∙ ap chars name)
    in
    IfOk-weaker c.no_device.result _ _
    (λ made copied. copied ∙ ap (λ (cs : List ℕ). encode_utf8_all (no_device cs)) is ∙ allowed_same c.args.name.now c.utf8.name h) c.no_device.ensures
