use Rattle.std.proofs.Common.{length, sym, ◌∙◌}
use Rattle.std.proofs.lemmas.Bool.{eqb-true}
use Rattle.mail_address.proofs.lemmas.Plain.{dot_atom_from}
use Rattle.mail_address.proofs.text.is_dot_atom.Goals as goal

pub returns-then-len-ne0 : goal.returns-then-len-ne0
returns-then-len-ne0 c =
    let is = c.dot_atom_len-len.ensures.value in
    λ whole. dot_atom_from c.args.text.now (λ none. c.if-len-ne0.true (is ∙ none)) (sym is ∙ eqb-true c.dot_atom_len-len.result (length c.args.text.now) whole)
