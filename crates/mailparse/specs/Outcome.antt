-- The result of a call, compared with that of a definition; the crate's own terms.
use Rattle.std.specs.Prelude.{◌≡◌, ℕ, List, map, Option, Some, None, Result, Ok, Err, String, string_bytes}
use Rattle.std.specs.Global.{Global, Vec}
use Rattle.std.specs.Cow.{cow_str_bytes}
use Rattle.mailparse.specs.Refusal.{Refusal, generic, encoding, base64_fault}
use Rattle.mailparse.specs.declared.error.MailParseError.{MailParseError}
use Rattle.mailparse.specs.declared.error.MailParseError.TheVariants.{QuotedPrintableDecodeError, Base64DecodeError, EncodingError, Generic, Memory}

-- the refusal of an error; running out of memory is not one, nor is a fault of quoted-printable, which never occurs
abbrev pub refusal_of : MailParseError → Option Refusal
refusal_of (QuotedPrintableDecodeError fault) = None
refusal_of (Base64DecodeError fault) = Some (base64_fault fault.group)
refusal_of (EncodingError text) = Some (encoding (cow_str_bytes text))
refusal_of (Generic text) = Some (generic text.now)
refusal_of (Memory e) = None

-- the definition gives this refusal
abbrev pub Refuses : {Y : Type 0} → Option Refusal → Result Y Refusal → Type 0
Refuses None given = ⊥
Refuses (Some refusal) given = given ≡ Err refusal

-- the error is the refusal of the definition
abbrev pub IsRefusal : {Y : Type 0} → MailParseError → Result Y Refusal → Type 0
IsRefusal e given = Refuses (refusal_of e) given

-- the same, or the call ran out of memory
abbrev pub IsRefusalOrMemory : {Y : Type 0} → MailParseError → Result Y Refusal → Type 0
IsRefusalOrMemory (Memory e) given = Unit {0}
IsRefusalOrMemory e given = IsRefusal e given

-- the result of the call, seen by the view, is exactly that of the definition
abbrev pub Answers : {X Y : Type 0} → (X → Y) → Result X MailParseError → Result Y Refusal → Type 0
Answers view (Ok x) given = given ≡ Ok (view x)
Answers view (Err e) given = IsRefusal e given

-- the same, unless the call ran out of memory
abbrev pub AnswersOrMemory : {X Y : Type 0} → (X → Y) → Result X MailParseError → Result Y Refusal → Type 0
AnswersOrMemory view (Ok x) given = given ≡ Ok (view x)
AnswersOrMemory view (Err e) given = IsRefusalOrMemory e given

-- the call ran out of memory
abbrev pub IsMemory : MailParseError → Type 0
IsMemory (Memory e) = Unit {0}
IsMemory _ = ⊥

-- the call returned this text, or ran out of memory
abbrev pub GivesText : Result (String Global) MailParseError → List ℕ → Type 0
GivesText result text = AnswersOrMemory (λ t. string_bytes t) result (Ok text)

-- the call returned these texts, or ran out of memory
abbrev pub GivesTexts : Result (Vec (String Global)) MailParseError → List (List ℕ) → Type 0
GivesTexts result texts = AnswersOrMemory (λ v. map (λ t. string_bytes t) v.items) result (Ok texts)

-- the call returned the text or the refusal of the definition, or ran out of memory
abbrev pub ReadsText : Result (String Global) MailParseError → Result (List ℕ) Refusal → Type 0
ReadsText result given = AnswersOrMemory (λ t. string_bytes t) result given

-- the same for bytes
abbrev pub ReadsBytes : Result (Vec ℕ) MailParseError → Result (List ℕ) Refusal → Type 0
ReadsBytes result given = AnswersOrMemory (λ v. v.items) result given
