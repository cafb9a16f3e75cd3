-- Lemmas on what is read of ranges.
use Rattle.std.proofs.Common.{◌≡◌, ℕ, Bool, List, Some, Result, Ok, Err, inl, inr, is_some, sym, ap, subst, ◌∙◌}
use Rattle.mail_codec.specs.Charset.{Charsets}
use Rattle.mailparse.specs.Outcome.{AnswersOrMemory}
use Rattle.mailparse.specs.declared.error.MailParseError.{MailParseError}
use Rattle.mail_read.specs.lenient.Content.{Content, lenient_content}
use Rattle.mail_read.specs.lenient.Texts.{charset_used, lenient_text}
use Rattle.mail_records.specs.Buffer.{Found, Output}
use Rattle.mail_records.specs.Ranges.{Decoded, EndsDecoded, WritesDecoded, WritesDecodedOr, body, body_charset, body_text, decoded_view, kind_numbered, type_of}
use Rattle.mail_records.specs.declared.ranges.Decoded as made

pub ok_same : {T E : Type 0} (a b : T) → ◌≡◌ {A = Result T E} (Ok a) (Ok b) → a ≡ b
ok_same a b e = cc

-- a body was written as it was decoded
pub ends_decoded : (out : Output ℕ) (was is code : ℕ) (found : Result made.Decoded MailParseError) (given : Decoded)
    → AnswersOrMemory decoded_view found (Ok given) → WritesDecodedOr out was is code found → EndsDecoded out was is code given
ends_decoded out was is code (Ok found) given same wrote = inr (subst (λ (d : Decoded). WritesDecoded out was is code d) (sym (ok_same _ _ same)) wrote)
ends_decoded out was is code (Err e) given same wrote = inl wrote

abbrev both : List ℕ → Bool → Decoded
both bytes damaged = record { bytes = bytes; is_damaged = damaged }

-- a body, from its content
pub body-is : (number : ℕ) (raw : List ℕ) (content : Content) (bytes : List ℕ) (damaged : Bool) → content ≡ lenient_content (kind_numbered number) raw
    → bytes ≡ content.bytes → damaged ≡ is_some content.fault → body number raw ≡ record { bytes = bytes; is_damaged = damaged }
unfolding body
body-is number raw content bytes damaged is b d =
    sym (ap (λ t. both t damaged) b ∙ ap (both content.bytes) d ∙ ap (λ (k : Content). both k.bytes (is_some k.fault)) is)

-- the text of a body, from its content and the label of its charset
pub body_text-is : (known : Charsets) (number : ℕ) (raw raw_type : List ℕ) (content : Content) (label text : List ℕ) (damaged : Bool)
    → content ≡ lenient_content (kind_numbered number) raw → label ≡ (type_of known raw_type).charset
    → text ≡ lenient_text known label content.bytes → damaged ≡ is_some content.fault
    → body_text known number raw raw_type ≡ record { bytes = text; is_damaged = damaged }
unfolding body_text
body_text-is known number raw raw_type content label text damaged is l t d =
    sym (ap (λ t. both t damaged) t ∙ ap (both (lenient_text known label content.bytes)) d
    ∙ ap (λ l. both (lenient_text known l content.bytes) (is_some content.fault)) l
    ∙ ap (λ (k : Content). both (lenient_text known (type_of known raw_type).charset k.bytes) (is_some k.fault)) is)

abbrev some : List ℕ → Found
some name = Ok (Some name)

-- the name of the charset of a body, from its content and its label
pub body_charset-is : (known : Charsets) (number : ℕ) (raw raw_type : List ℕ) (content : Content) (label name : List ℕ)
    → content ≡ lenient_content (kind_numbered number) raw → label ≡ (type_of known raw_type).charset → name ≡ charset_used known label content.bytes
    → body_charset known number raw raw_type ≡ Ok (Some name)
unfolding body_charset
body_charset-is known number raw raw_type content label name is l n =
    sym (ap some n ∙ ap (λ l. some (charset_used known l content.bytes)) l
    ∙ ap (λ (k : Content). some (charset_used known (type_of known raw_type).charset k.bytes)) is)
