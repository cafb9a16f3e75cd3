-- What a run of the program does to a reader and a writer whose bytes are known.
use Rattle.std.specs.Prelude.{◌≡◌, ℕ, List, Option, Ok, IfSome}
use Rattle.std.specs.Io.KnownBytes.{Appends, IsAtEnd}
use Rattle.mailparse.specs.Outcome.{IsRefusal}
use Rattle.mailparse.specs.declared.error.MailParseError.{MailParseError}
use Rattle.mailparse.specs.declared.error.MailParseError.TheVariants.{Memory}
use Rattle.mail_show.specs.Text.{output_text}

-- all was read, and the text of the input was written and nothing else
pub record HasWritten (left_before left held_before held : Option (List ℕ)) : Type 0 where
  pub read : IsAtEnd left
  pub wrote : IfSome left_before (λ input. (text : List ℕ) × (output_text input ≡ Ok text) × Appends held_before held text)

-- memory ran out; or all was read, and the input is refused with this error
abbrev pub RefusesInput : Option (List ℕ) → Option (List ℕ) → MailParseError → Type 0
RefusesInput left_before left (Memory e) = Unit {0}
RefusesInput left_before left e = IsAtEnd left × IfSome left_before (λ input. IsRefusal e (output_text input))
