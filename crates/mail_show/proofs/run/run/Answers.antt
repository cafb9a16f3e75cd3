use Rattle.std.proofs.Common.{ℕ, List, subst, sym, ap, ◌∙◌}
use Rattle.std.proofs.lemmas.Result.{err_from_is_err_and}
use Rattle.mailparse.specs.Mail.{read_mail}
use Rattle.mailparse.specs.Outcome.{IsRefusalOrMemory}
use Rattle.mailparse.specs.Views.{tree_of}
use Rattle.mail_show.proofs.lemmas.Run.{run-refused, run-written, text-of_ok, OnOk-to}
use Rattle.mail_show.proofs.run.run.Goals as goal

pub returns-in_err-parsed-clause-refused : goal.returns-in_err-parsed-clause-refused
returns-in_err-parsed-clause-refused g c =
    let p = err_from_is_err_and c.from_residual-in_err-parsed.result c.from_residual-in_err-parsed.ensures.1 in
    rw (p.1, p.2) (run-refused _ _ _ c.in_ok-input.input.items c.in_err-parsed.field-0.0 c.in_ok-input.ensures
    (subst (λ (input : List ℕ). IsRefusalOrMemory c.in_err-parsed.field-0.0 (read_mail input)) c.as_slice.ensures.value c.in_err-parsed.ensures.read))

pub returns-clause-written : goal.returns-clause-written
returns-clause-written g c =
    OnOk-to c.write_output.result c.write_output.ensures.written (λ wrote.
    run-written _ _ _ _ c.in_ok-input.input.items _ (tree_of c.in_ok-parsed.parsed) c.in_ok-input.ensures
    (ap read_mail (sym c.as_slice.ensures.value) ∙ c.in_ok-parsed.ensures.read) (c.as_bytes.ensures.value ∙ text-of_ok _ _ c.in_ok-text.ensures) wrote)
