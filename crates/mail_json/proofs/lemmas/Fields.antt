-- Lemmas on values of headers, and on refusals.
use Rattle.std.proofs.Common.{◌≡◌, ℕ, List, Option, Some, None, Result, Ok, Err, option_map}
use Rattle.std.specs.Cow.{cow_str_bytes}
use Rattle.mailparse.specs.Outcome.{IsRefusalOrMemory, refusal_of}
use Rattle.mailparse.specs.Refusal.{Reads, Refusal, generic, encoding, base64_fault}
use Rattle.mail_program.specs.Refusal.{refusal_text}
use Rattle.mailparse.specs.declared.error.MailParseError.{MailParseError}
use Rattle.mailparse.specs.declared.error.MailParseError.TheVariants.{QuotedPrintableDecodeError, Base64DecodeError, EncodingError, Generic, Memory}

some_same : (a b : List ℕ) → ◌≡◌ {A = Option (List ℕ)} (Some a) (Some b) → a ≡ b
some_same a b e = cc

some_none : (a : List ℕ) → ◌≡◌ {A = Option (List ℕ)} (Some a) None → ⊥
some_none a e = cc

-- the refusal whose text was found
pub refused_text : {Y : Type 0} (e : MailParseError) (given : Reads Y) (text : List ℕ) → ◌≡◌ {A = Option (List ℕ)} (Some text) (option_map refusal_text (refusal_of e))
    → IsRefusalOrMemory e given → (r : Refusal) × (given ≡ Err r) × (text ≡ refusal_text r)
refused_text (QuotedPrintableDecodeError fault) given text is h = absurd h
refused_text (Base64DecodeError fault) given text is h = (base64_fault fault.group, h, some_same _ _ is)
refused_text (EncodingError t) given text is h = (encoding (cow_str_bytes t), h, some_same _ _ is)
refused_text (Generic t) given text is h = (generic t.now, h, some_same _ _ is)
refused_text (Memory m) given text is h = absurd (some_none text is)

pub ok_same : {T E : Type 0} (a b : T) → ◌≡◌ {A = Result T E} (Ok a) (Ok b) → a ≡ b
ok_same a b e = cc
