-- What a contract sees of the texts of a mail.
use Rattle.std.specs.Prelude.{ℕ, List, string_bytes}
use Rattle.mailparse.specs.Mail.{Tree}
use Rattle.mailparse.specs.Views.{tree_of}
use Rattle.mail_data.specs.InlineTexts as words
use Rattle.mail_data.specs.declared.inline_texts.InlineText.{InlineText}
use Rattle.mail_data.specs.declared.inline_texts.TextPart.{TextPart}
use Rattle.mail_read.specs.lenient.TextViews.{text_view}

-- a text by its path and what is read
abbrev pub inline_view : InlineText → words.InlineText
inline_view text = record { path = string_bytes text.path; read = text_view text.read }

-- a part by its path and the message
abbrev pub text_part_view : TextPart → List ℕ × Tree
text_part_view text_part = (string_bytes text_part.path, tree_of text_part.part.now)
