-- What a contract sees of a recipient.
use Rattle.std.specs.Prelude.{ℕ, List}
use Rattle.mailparse.specs.Map.{text_found}
use Rattle.mail_data.specs.Bounce.{Delivery, address_text, plain_text, typed_text}
use Rattle.mail_data.specs.declared.bounce.Kind.{Kind}
use Rattle.mail_data.specs.declared.bounce.Kind.TheVariants.{Plain, Typed, Address}
use Rattle.mail_data.specs.declared.bounce.Recipient.{Recipient}

-- the text of a field without what its kind leaves out
abbrev pub cleaned : Kind → List ℕ → List ℕ
cleaned Plain = plain_text
cleaned Typed = typed_text
cleaned Address = address_text

-- the fields on it
abbrev pub delivery : Recipient → Delivery
delivery r = record {
  final_recipient = text_found r.final_recipient;
  original_recipient = text_found r.original_recipient;
  action = text_found r.action;
  status = text_found r.status;
  diagnostic_code = text_found r.diagnostic_code;
}
