-- Lemmas on what calls write to the output buffer.
use Rattle.std.proofs.Common.{◌≡◌, ℕ, List, Option, None, Some, Result, Ok, Err, inl, inr, refl, ap, subst, ◌∙◌, option_map}
use Rattle.std.specs.Option.{option_map_or}
use Rattle.std.specs.Cow.{cow_str_bytes}
use Rattle.std.specs.Global.{Vec}
use Rattle.mailparse.specs.Outcome.{AnswersOrMemory, refusal_of}
use Rattle.mailparse.specs.Refusal.{Refusal, base64_fault, encoding, generic}
use Rattle.mailparse.specs.RefusalKinds.{error_kind, kind_of}
use Rattle.mailparse.specs.declared.error.MailParseError.{MailParseError}
use Rattle.mailparse.specs.declared.error.MailParseError.TheVariants.{QuotedPrintableDecodeError, Base64DecodeError, EncodingError, Generic, Memory}
use Rattle.mailparse.specs.declared.error.RefusalKind.{RefusalKind}
use Rattle.mail_records.specs.Codes.{error_code, kind_code, no_memory}
use Rattle.mail_records.specs.Buffer.{Ends, Found, Gives, IsUnchanged, WritesResult, bytes_found}

-- an error that is a refusal
refused : (Is : Found → Type 0) (e : MailParseError) (old new : List ℕ) (before needed code : ℕ) → error_kind e ≡ option_map kind_of (refusal_of e)
    → (refusal : Refusal) × (refusal_of e ≡ Some refusal) × Is (Err refusal) → (code ≡ error_code e) × IsUnchanged old new before needed code
    → Ends old new before needed code Is
refused Is e old new before needed code kind why left = inr (
  Err why.0,
  why.2,
  (left.0 ∙ ap (λ (found : Option RefusalKind). option_map_or kind_code found no_memory) (kind ∙ ap (option_map kind_of) why.1), left.1),
)

-- the result of a reading was written
pub ends : (Is : Found → Type 0) (result : Result (Option (Vec ℕ)) MailParseError) (old new : List ℕ) (before needed code : ℕ) → Gives Is result
    → WritesResult old new before needed code result → Ends old new before needed code Is
ends Is (Ok found) old new before needed code is left = inr (Ok (bytes_found found), is, left)
ends Is (Err (QuotedPrintableDecodeError fault)) old new before needed code is left =
    let no : None ≡ Some is.0 = is.1 in absurd (cc)
ends Is (Err (Base64DecodeError fault)) old new before needed code is left =
    refused Is (Base64DecodeError fault) old new before needed code refl is left
ends Is (Err (EncodingError text)) old new before needed code is left = refused Is (EncodingError text) old new before needed code refl is left
ends Is (Err (Generic text)) old new before needed code is left = refused Is (Generic text) old new before needed code refl is left
ends Is (Err (Memory e)) old new before needed code is left = inl left

-- a reading gives what its definition gives
gives : (Is : Found → Type 0) (given : Found) (result : Result (Option (Vec ℕ)) MailParseError) → Is given
    → AnswersOrMemory bytes_found result given → Gives Is result
gives Is given (Ok found) is h = subst Is h is
gives Is given (Err (QuotedPrintableDecodeError fault)) is h = absurd h
gives Is given (Err (Base64DecodeError fault)) is h = (base64_fault fault.group, refl, subst Is h is)
gives Is given (Err (EncodingError text)) is h = (encoding (cow_str_bytes text), refl, subst Is h is)
gives Is given (Err (Generic text)) is h = (generic text.now, refl, subst Is h is)
gives Is given (Err (Memory e)) is h = tt

-- the result of a reading, which is that of its definition, was written
pub ends_given : (given : Found) (result : Result (Option (Vec ℕ)) MailParseError) (old new : List ℕ) (before needed code : ℕ)
    → AnswersOrMemory bytes_found result given → WritesResult old new before needed code result → Ends old new before needed code (λ found. given ≡ found)
ends_given given result old new before needed code are left =
    ends (λ (found : Found). given ≡ found) result old new before needed code (gives (λ (found : Found). given ≡ found) given result refl are) left
