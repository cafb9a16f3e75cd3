-- What a contract sees of a text that was looked for.
use Rattle.std.specs.Prelude.{Option, option_map}
use Rattle.mail_read.specs.lenient.Texts as read
use Rattle.mail_read.specs.lenient.TextViews.{text_view}
use Rattle.mail_read.specs.declared.lenient.texts.BodyText.{BodyText}

-- the text, if there is one
abbrev pub text_found : Option BodyText → Option read.BodyText
text_found found = option_map text_view found
