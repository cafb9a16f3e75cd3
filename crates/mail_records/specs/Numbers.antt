-- The calls whose results are numbers; the crate's own form.
use Rattle.std.specs.Prelude.{◌≡◌, ℕ, Bool, true, false, List, [], ◌∷◌, length, Option, Some, None, is_some, unwrap_or, Result, Ok, Err, if◌then◌else◌, ℤ, pos, ◌+◌}
use Rattle.mail_codec.specs.Places.{is_empty}
use Rattle.mailparse.specs.Refusal.{Reads}
use Rattle.mail_data.specs.Mailbox.{Entry}
use Rattle.mail_data.specs.declared.mailbox.formats.Format.{Format}
use Rattle.mail_data.specs.declared.mailbox.formats.Format.TheVariants.{Plain, Counted}
use Rattle.mail_read.specs.lenient.Date.{Dated, date_and_offset_of}
use Rattle.mail_records.specs.Codes.{absent, date_code, done, no_mailbox, not_utf8}
use Rattle.mail_records.specs.Results.{text_in}

-- the seconds since 1970 of a date and the offset of its zone, if that is known, or the code of its refusal
abbrev pub dated : Dated (ℤ × Option ℤ) → Result (ℤ × Option ℤ) ℕ
dated (Ok date) = Ok date
dated (Err fault) = Err (date_code fault)

abbrev pub dated_text : Reads (List ℕ) → Result (ℤ × Option ℤ) ℕ
dated_text (Ok text) = dated (date_and_offset_of text)
dated_text (Err refusal) = Err not_utf8

abbrev pub date : List ℕ → Result (ℤ × Option ℤ) ℕ
date bytes = dated_text (text_in bytes)

-- the date was returned, with 1 for a known zone and 0 for an unknown one; if it is refused, the seconds are unchanged and the zone is unknown
abbrev pub ReturnsDate : Result (ℤ × Option ℤ) ℕ → (before seconds : ℤ) → (is_zone_known code : ℕ) → Type 0
ReturnsDate (Ok date) before seconds is_zone_known code = (code ≡ done) × (seconds ≡ date.0) × (is_zone_known ≡ (if is_some date.1 then 1 else 0))
ReturnsDate (Err why) before seconds is_zone_known code = (code ≡ why) × (seconds ≡ before) × (is_zone_known ≡ 0)

-- the offset of the zone was returned, or 0 if that is not known; it is unchanged if the date is refused
abbrev pub ReturnsOffset : Result (ℤ × Option ℤ) ℕ → (before offset : ℤ) → Type 0
ReturnsOffset (Ok date) before offset = offset ≡ unwrap_or date.1 (pos 0)
ReturnsOffset (Err why) before offset = offset ≡ before

-- the format of mails with a Content-Length, or that of RFC 4155
abbrev pub format_named : Bool → Format
format_named true = Counted
format_named false = Plain

-- the offsets at which the first of these mails begins and ends, and that of the next separator, after a front of that length; none without a mail
abbrev pub first_offsets : List Entry → ℕ → Option (ℕ × ℕ × ℕ)
first_offsets [] front = None
first_offsets (entry ∷ rest) front =
    let start = front + length entry.separator in
    let end = start + length entry.mail in
    Some (start, end, end + length entry.ending)

-- the code for bytes without a mail: there are none, or they have no separator
abbrev pub no_mail_code : List ℕ → ℕ
no_mail_code bytes = if is_empty bytes then absent else no_mailbox

-- the offsets were returned; without a mail they are unchanged, and the code is the one given
abbrev pub ReturnsOffsets : Option (ℕ × ℕ × ℕ) → (missing : ℕ) → (old new : ℕ × ℕ × ℕ) → (code : ℕ) → Type 0
ReturnsOffsets (Some offsets) missing old new code = (code ≡ done) × (new ≡ offsets)
ReturnsOffsets None missing old new code = (code ≡ missing) × (new ≡ old)
