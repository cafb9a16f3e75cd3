use Rattle.mail_view.specs.Line.{lines_text}
use Rattle.mail_view.specs.View.{view_lines, view_text}
use Rattle.mail_view.proofs.lemmas.Bytes.{safe_bytes}
use Rattle.mail_view.proofs.lemmas.Visible.{lines_safe}
use Rattle.mail_view.proofs.laws.lines_are_safe.Goals as goal

pub returns-clause-lines : goal.returns-clause-lines
returns-clause-lines c = lines_safe

pub returns-clause-bytes : goal.returns-clause-bytes
returns-clause-bytes c = λ lines. safe_bytes (lines_text lines) (lines_safe lines)

pub returns-clause-view : goal.returns-clause-view
unfolding view_text
returns-clause-view c = λ references known mail. lines_safe (view_lines references known mail)
