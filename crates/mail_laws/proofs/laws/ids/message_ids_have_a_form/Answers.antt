use Rattle.mail_laws.proofs.lemmas.IdGrammar.{form_is_read, break_is_refused, read_is_form, refused_is_break}
use Rattle.mail_laws.proofs.laws.ids.message_ids_have_a_form.Goals as goal

pub returns : goal.returns
returns c = record {
  read = λ text ids. (λ h. form_is_read h, λ e. read_is_form text ids e);
  refuses = λ text refusal. (λ h. break_is_refused h, λ e. refused_is_break text refusal e);
}
