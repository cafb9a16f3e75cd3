use Rattle.std.proofs.Common.{List, ℕ, Ok, Option, sym, ap, ◌∙◌}
use Rattle.mail_read.proofs.lemmas.FileTexts.{none_typed}
use Rattle.mail_read.proofs.files.naming.StrictNameReading.typed_name.Goals as goal

pub returns-then-not-has_semicolon : goal.returns-then-not-has_semicolon
returns-then-not-has_semicolon g c =
    let none = sym c.has_semicolon.ensures ∙ c.if-not-has_semicolon.true in
    ap (λ (name : Option (List ℕ)). Ok name) (sym (none_typed (g.K.KnownCharsets.known c.args.self.now.0.now) c.args.text.now none))
