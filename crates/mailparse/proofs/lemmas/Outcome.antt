-- Lemmas on what a call returned beside what a definition gives.
use Rattle.std.proofs.Common.{◌≡◌, Option, Some, None, Result, Err}
use Rattle.std.specs.Cow.{cow_str_bytes}
use Rattle.mailparse.specs.Refusal.{Refusal, generic, encoding, base64_fault}
use Rattle.mailparse.specs.Outcome.{refusal_of, Refuses, IsRefusal, IsRefusalOrMemory}
use Rattle.mailparse.specs.declared.error.MailParseError.{MailParseError}
use Rattle.mailparse.specs.declared.error.MailParseError.TheVariants.{QuotedPrintableDecodeError, Base64DecodeError, EncodingError, Generic, Memory}

-- a refusal is passed on where one definition refuses as another does
Refuses-along : {Y Z : Type 0} (refusal : Option Refusal) (x : Result Y Refusal) (y : Result Z Refusal) → ((r : Refusal) → x ≡ Err r → y ≡ Err r) → Refuses refusal x → Refuses refusal y
Refuses-along None x y pass h = absurd h
Refuses-along (Some r) x y pass h = pass r h

pub IsRefusal-along : {Y Z : Type 0} (e : MailParseError) (x : Result Y Refusal) (y : Result Z Refusal) → ((r : Refusal) → x ≡ Err r → y ≡ Err r) → IsRefusal e x → IsRefusal e y
IsRefusal-along e x y pass h = Refuses-along (refusal_of e) x y pass h

pub IsRefusalOrMemory-along : {Y Z : Type 0} (e : MailParseError) (x : Result Y Refusal) (y : Result Z Refusal) → ((r : Refusal) → x ≡ Err r → y ≡ Err r) → IsRefusalOrMemory e x → IsRefusalOrMemory e y
IsRefusalOrMemory-along (QuotedPrintableDecodeError fault) x y pass h = absurd h
IsRefusalOrMemory-along (Base64DecodeError fault) x y pass h = pass (base64_fault fault.group) h
IsRefusalOrMemory-along (EncodingError text) x y pass h = pass (encoding (cow_str_bytes text)) h
IsRefusalOrMemory-along (Generic text) x y pass h = pass (generic text.now) h
IsRefusalOrMemory-along (Memory e) x y pass h = tt

-- a refusal is one also where memory may run out
pub IsRefusalOrMemory-from : {Y : Type 0} (e : MailParseError) (x : Result Y Refusal) → IsRefusal e x → IsRefusalOrMemory e x
IsRefusalOrMemory-from (QuotedPrintableDecodeError fault) x h = absurd h
IsRefusalOrMemory-from (Base64DecodeError fault) x h = h
IsRefusalOrMemory-from (EncodingError text) x h = h
IsRefusalOrMemory-from (Generic text) x h = h
IsRefusalOrMemory-from (Memory e) x h = absurd h
