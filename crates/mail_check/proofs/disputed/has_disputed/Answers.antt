use Rattle.std.proofs.Common.{◌≡◌, ◌∙◌, ℕ, Bool, true, false, not, sym, ap}
use Rattle.std.specs.Prelude.{Option, is_some}
use Rattle.mail_check.proofs.lemmas.Disputed.{none_in_ascii}
use Rattle.mail_check.proofs.disputed.has_disputed.Goals as goal

missing : (r s : Option ℕ) (t : Bool) → r ≡ s → is_some r ≡ not t → t ≡ true → is_some s ≡ false
missing r s t e f g = ap is_some (sym e) ∙ f ∙ ap not g

pub returns-then-is_none : goal.returns-then-is_none
returns-then-is_none c =
    sym (none_in_ascii c.args.label.now c.args.octets.now (sym c.is_same_label.ensures ∙ c.if-is_same_label.false)
    (missing _ _ _ c.high_byte.ensures c.is_none.ensures c.if-is_none.true))
