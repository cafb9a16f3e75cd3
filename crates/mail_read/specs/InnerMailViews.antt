-- What a contract sees of the mails inside a mail.
use Rattle.std.specs.Prelude.{option_and_then, string_bytes}
use Rattle.mailparse.specs.Outcome.{refusal_of}
use Rattle.mail_read.specs.InnerMails as words
use Rattle.mail_read.specs.declared.inner_mails.InnerMail.{InnerMail}

-- a mail inside
abbrev pub inner_view : InnerMail → words.InnerMail
inner_view mail = record {
  path = string_bytes mail.path;
  bytes = mail.bytes.items;
  start = mail.start;
  refusal = option_and_then refusal_of mail.error;
}
