-- What was written is completed by the mails that are left, and so is the outcome.
use Rattle.std.proofs.Common.{◌≡◌, ◌++◌, ℕ, List}
use Rattle.std.specs.Io.KnownBytes.{Appends}
use Rattle.mail_data.specs.MailboxViews.{entries_left}
use Rattle.mail_program.specs.Outcome.{worse}
use Rattle.mail_view.specs.Input.{mails_lines, mails_outcome}
use Rattle.mail_view.specs.Line.{lines_text}
use Rattle.mail_view.proofs.input.write_mails.Given as goal

abbrev pub invariant-loop-entry : goal.invariant-loop-entry
invariant-loop-entry g l =
    let known = g.K.KnownCharsets.known l.known in
    let left = entries_left l.entry-iterator in
    let all = entries_left l.fn.mails in
    (done : List ℕ) × Appends (g.W.Write.contents l.fn.out) (g.W.Write.contents l.out) done
    × (done ++ lines_text (mails_lines l.references known l.limit l.format l.number left) ≡ lines_text (mails_lines l.references known l.limit l.format 1 all))
    × (worse l.outcome (mails_outcome known l.limit l.format left) ≡ mails_outcome known l.limit l.format all)
