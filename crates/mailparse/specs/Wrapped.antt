-- The fault that an error wraps; the crate's own rule.
use Rattle.std.specs.Prelude.{◌≡◌, Option, Some, None}
use Rattle.mailparse.specs.declared.error.MailParseError.{MailParseError}
use Rattle.mailparse.specs.declared.error.MailParseError.TheVariants.{QuotedPrintableDecodeError, Base64DecodeError}
use Rattle.mailparse.specs.declared.error.Wrapped.{Wrapped}
use Rattle.mailparse.specs.declared.error.Wrapped.TheVariants as wrapped

-- an error of a decoder wraps its fault; no other error wraps one
abbrev pub HasSource : MailParseError → Option Wrapped → Type 0
HasSource (QuotedPrintableDecodeError fault) (Some (wrapped.QuotedPrintable found)) = found.now ≡ fault
HasSource (QuotedPrintableDecodeError fault) _ = ⊥
HasSource (Base64DecodeError fault) (Some (wrapped.Base64 found)) = found.now ≡ fault
HasSource (Base64DecodeError fault) _ = ⊥
HasSource _ found = found ≡ None
