-- What a contract sees of the text of a body.
use Rattle.std.specs.Prelude.{string_bytes}
use Rattle.mail_read.specs.lenient.Texts as read
use Rattle.mail_read.specs.declared.lenient.texts.BodyText.{BodyText}

-- the text, its charset, and whether it is damaged
abbrev pub text_view : BodyText → read.BodyText
text_view body = record {
  text = string_bytes body.text;
  charset = string_bytes body.charset;
  is_damaged = body.is_damaged;
}
