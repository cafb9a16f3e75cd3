-- How much of an input is read before its mails are; our own form.
use Rattle.std.specs.Prelude.{◌≡◌, ℕ, Bool, true, false, ◌||◌, List, ◌++◌, drop, Option, is_some, Result, Ok, Err}
use Rattle.std.specs.Io.KnownBytes.{Consumes, IsAtEnd}
use Rattle.mail_program.specs.Streams.{IsReadFault}
use Rattle.mail_program.specs.declared.fault.Fault.{Fault}
use Rattle.mail_data.specs.Mailbox.{has_front, has_line}
use Rattle.mail_data.specs.MailboxFormats.{settled_in}
use Rattle.mail_walk.specs.declared.kind.InputKind.{InputKind}
use Rattle.mail_walk.specs.declared.kind.InputKind.TheVariants.{Either, Mail, Mailbox}
use Rattle.mail_walk.specs.declared.wanted.Wanted.{Wanted}
use Rattle.mail_walk.specs.declared.wanted.Wanted.TheVariants.{FirstLine, Front, FrontBefore, FirstMail, End}

-- the bytes of an input contain what is wanted, and no further bytes change that
abbrev pub is_there : Wanted → List ℕ → Bool
is_there FirstLine bytes = has_line bytes
is_there Front bytes = has_front bytes
is_there (FrontBefore end) bytes = has_front bytes || has_line (drop end bytes)
is_there (FirstMail format) bytes = is_some (settled_in format bytes)
is_there End bytes = false

-- how much of an input of this kind is read before its mails are
abbrev pub first_wanted : InputKind → Wanted
first_wanted Either = FirstLine
first_wanted Mail = End
first_wanted (Mailbox format) = Front

-- bytes were taken off the reader and appended to those that were read before, until they contain what is wanted or the
-- reader is at its end
abbrev pub ReadsUntil : Wanted → (left_before left : Option (List ℕ)) → (before after : List ℕ) → Result Bool Fault → Type 0
ReadsUntil wanted left_before left before after (Ok has_ended) =
    (more : List ℕ) × Consumes left_before left more × (after ≡ before ++ more) × (has_ended ≡ true → IsAtEnd left)
    × (has_ended ≡ false → is_there wanted after ≡ true)
ReadsUntil wanted left_before left before after (Err fault) = IsReadFault fault
