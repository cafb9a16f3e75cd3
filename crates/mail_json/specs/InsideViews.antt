-- What a contract sees of the list of the mails inside a mail.
use Rattle.std.specs.Prelude.{◌≡◌, ◌++◌, ◌∷◌, [], ℕ, List, None, Option, Some, Ok, Err, option_and_then, string_bytes}
use Rattle.mail_codec.specs.Charset.{Charsets}
use Rattle.mailparse.specs.Outcome.{refusal_of}
use Rattle.mailparse.specs.Refusal.{Refusal}
use Rattle.mailparse.specs.Views.{placements_of, tree_of}
use Rattle.mail_read.specs.InnerMails.{mail_bytes}
use Rattle.mail_read.specs.PartPlaces.{Place}
use Rattle.mail_read.specs.Reading.{mail_placements}
use Rattle.mail_parts.specs.Inside.{Listed}
use Rattle.mail_parts.specs.Reading.{mail_reading}
use Rattle.mail_json.specs.declared.inside.Inner.{Inner}
use Rattle.mail_json.specs.declared.inside.Inner.TheVariants.{Ended, Read, Refused}
use Rattle.mail_json.specs.declared.inside.Inside.{Inside}

-- a mail inside
abbrev pub inside_view : Inside → Listed
inside_view mail = record { path = string_bytes mail.path; start = mail.start; refusal = option_and_then refusal_of mail.error }

-- what became of the mail in a part, given its offset, and the list before and after: it was added, with its refusal
abbrev pub IsRead : Charsets → ℕ → Place → Option ℕ → List Listed → List Listed → Inner → Type 0
IsRead known limit place start old new (Read mail) =
    (mail_reading known limit (mail_bytes place) ≡ Ok (tree_of mail.value)) × (placements_of mail.value ≡ mail_placements (tree_of mail.value))
    × (new ≡ old ++ record { path = place.path; start = start; refusal = None } ∷ [])
IsRead known limit place start old new Refused =
    (refusal : Refusal) × (mail_reading known limit (mail_bytes place) ≡ Err refusal)
    × (new ≡ old ++ record { path = place.path; start = start; refusal = Some refusal } ∷ [])
IsRead known limit place start old new Ended = Unit {0}
