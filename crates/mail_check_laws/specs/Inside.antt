-- Strict mails whose mails inside are strict, too. Which bytes are a mail, and what is read there, this takes from the findings.
use Rattle.std.specs.Prelude.{◌≡◌, ◌==◌, ◌≤◌, ℕ, zero, suc, false, List, length, Option, Some, None, Ok, Err, ⊤}
use Rattle.std.specs.List.{AllByRecursion}
use Rattle.mail_codec.specs.Charset.{Charsets}
use Rattle.mailparse.specs.Mail.{Tree}
use Rattle.mailparse.specs.Placement.{placements}
use Rattle.mailparse.specs.Refusal.{Reads}
use Rattle.mail_read.specs.InnerMails.{dot_count}
use Rattle.mail_read.specs.PartPlaces.{Place, places}
use Rattle.mail_check.specs.Inside.{inner_mail, mail_in, places_in}
use Rattle.mail_check_laws.specs.Mail.{HasStrictMessages, IsStrict}

-- A mail inside, whose messages are at these places. They are at most 100, and no path of them has ten numbers, of which the first
-- are those of the message that forwards the mail.
pub record IsStrictInner (known : Charsets) (bytes : List ℕ) (mail : Tree) (found : List Place) : Type 0 where
  pub messages : HasStrictMessages known bytes mail
  pub near : AllByRecursion (λ (place : Place). (dot_count place.path == 9) ≡ false) found
  pub few : length found ≤ 100

-- Under the charsets that are known.
module _ (known : Charsets) where
  -- the mail that was read from the body of a message is strict, and none was refused
  abbrev pub IsStrictReading : (Place → Type 0) → Place → List ℕ → Reads Tree → Type 0
  IsStrictReading inside place raw (Ok mail) =
      IsStrictInner known raw mail (places_in place mail) × AllByRecursion inside (places_in place mail)
  IsStrictReading inside place raw (Err refusal) = ⊥

  -- the mail in these bytes is, if a message forwards one
  abbrev pub IsStrictForwarded : (Place → Type 0) → Place → Option (List ℕ) → Type 0
  IsStrictForwarded inside place None = ⊤
  IsStrictForwarded inside place (Some raw) = IsStrictReading inside place raw (inner_mail known raw)

  -- the mail that a message forwards and the mails inside that, at most `most` mails deep, are strict
  abbrev pub IsStrictInside : ℕ → Place → Type 0
  IsStrictInside zero place = ⊤
  IsStrictInside (suc most) place = IsStrictForwarded (IsStrictInside most) place (mail_in place)

-- a mail, and the mails inside it
pub record IsStrictWithin (known : Charsets) (bytes : List ℕ) (mail : Tree) : Type 0 where
  pub own : IsStrict known bytes mail
  pub inside : AllByRecursion (IsStrictInside known 100) (places mail (placements 0 mail))
