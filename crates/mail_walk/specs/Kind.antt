-- What an input is: a mail or a mailbox; our own form.
use Rattle.std.specs.Prelude.{ℕ, Bool, true, false, List}
use Rattle.mail_data.specs.Separator.{is_separator}
use Rattle.mail_data.specs.declared.mailbox.formats.Format.{Format}
use Rattle.mail_data.specs.declared.mailbox.formats.Format.TheVariants.{Plain}
use Rattle.mail_walk.specs.declared.kind.InputKind.{InputKind}
use Rattle.mail_walk.specs.declared.kind.InputKind.TheVariants.{Either, Mail, Mailbox}

-- an input is a mailbox: as its kind says, or if that says neither, if it begins with a separator
abbrev pub is_mailbox : InputKind → List ℕ → Bool
is_mailbox Either bytes = is_separator bytes
is_mailbox Mail bytes = false
is_mailbox (Mailbox format) bytes = true

-- the format of such a mailbox; if the kind does not say that it is one, that of RFC 4155
abbrev pub format_of : InputKind → Format
format_of Either = Plain
format_of Mail = Plain
format_of (Mailbox format) = format
