-- Lemmas on the content of a body.
use Rattle.std.proofs.Common.{◌≡◌, ℕ, List, None, Result, Ok, Err, refl, sym, ap, subst, ◌∙◌}
use Rattle.std.specs.Cow.{cow_str_bytes}
use Rattle.mail_codec.specs.Base64.{base64}
use Rattle.mail_codec.specs.Places.{without_ascii_whitespace}
use Rattle.mailparse.specs.Body.{BodyKind, in_base64, in_quoted_printable, in_7bit, in_8bit, in_binary, base64_bytes, decoded}
use Rattle.mailparse.specs.Outcome.{IsMemory, IsRefusalOrMemory}
use Rattle.mailparse.specs.Refusal.{Reads, Refusal, generic, encoding, base64_fault}
use Rattle.mailparse.specs.declared.error.Base64Fault.{Base64Fault}
use Rattle.mailparse.specs.declared.error.MailParseError.{MailParseError}
use Rattle.mailparse.specs.declared.error.MailParseError.TheVariants.{QuotedPrintableDecodeError, Base64DecodeError, EncodingError, Generic, Memory}
use Rattle.mail_read.specs.lenient.Base64.{Recovered, base64_front}
use Rattle.mail_read.specs.lenient.Content.{Content, front_of, lenient_content, read_or_front, uuencode_content}
use Rattle.mail_read.specs.lenient.Encoding.{LenientKind, in_uuencode, standard}

pub content-whole : (kind : BodyKind) (raw bytes : List ℕ) → decoded kind raw ≡ Ok bytes
    → ◌≡◌ {A = Content} (lenient_content (standard kind) raw) (record { bytes = bytes; fault = None; ignored = 0 })
unfolding lenient_content
content-whole kind raw bytes e = ap (read_or_front raw) e

pub content-front : (kind : BodyKind) (raw : List ℕ) (front : Recovered) (refusal : Refusal) → decoded kind raw ≡ Err refusal → front ≡ base64_front raw
    → lenient_content (standard kind) raw ≡ front_of refusal front
unfolding lenient_content
content-front kind raw front refusal e is = ap (read_or_front raw) e ∙ ap (front_of refusal) (sym is)

pub content-uuencoded : (kind : LenientKind) (raw text : List ℕ) → kind ≡ in_uuencode → text ≡ raw → uuencode_content text ≡ lenient_content kind raw
unfolding lenient_content
content-uuencoded kind raw text is same = ap uuencode_content same ∙ ap (λ (k : LenientKind). lenient_content k raw) (sym is)

-- the refusal that an error for a fault reports
pub fault-refused : (error : MailParseError) (fault : Base64Fault) (given : Reads (List ℕ)) → error ≡ Base64DecodeError fault
    → IsRefusalOrMemory error given → given ≡ Err (base64_fault fault.group)
fault-refused error fault given is h = subst (λ (e : MailParseError). IsRefusalOrMemory e given) is h

-- a body is refused as Base64 alone
refused-base64 : (kind : BodyKind) (raw : List ℕ) (refusal : Refusal) → decoded kind raw ≡ Err refusal → (group : ℕ) × (refusal ≡ base64_fault group)
unfolding decoded
refused-base64 in_base64 raw refusal e = go (base64 (without_ascii_whitespace raw)) e
  where
    go : (r : Result (List ℕ) ℕ) → ◌≡◌ {A = Reads (List ℕ)} (base64_bytes r) (Err refusal) → (group : ℕ) × (refusal ≡ base64_fault group)
    go (Ok bytes) f = absurd (cc)
    go (Err group) f = (group, cc)
refused-base64 in_quoted_printable raw refusal e = absurd (cc)
refused-base64 in_7bit raw refusal e = absurd (cc)
refused-base64 in_8bit raw refusal e = absurd (cc)
refused-base64 in_binary raw refusal e = absurd (cc)

-- any other error is out of memory
pub other-memory : (error : MailParseError) (kind : BodyKind) (raw : List ℕ) → IsRefusalOrMemory error (decoded kind raw)
    → ((fault : Base64Fault) → error ≡ Base64DecodeError fault → ⊥) → IsMemory error
other-memory (QuotedPrintableDecodeError fault) kind raw h other = absurd h
other-memory (Base64DecodeError fault) kind raw h other = absurd (other fault refl)
other-memory (EncodingError text) kind raw h other =
    let r = refused-base64 kind raw (encoding (cow_str_bytes text)) h in absurd (wrong r.0 r.1)
  where
    wrong : (group : ℕ) → encoding (cow_str_bytes text) ≡ base64_fault group → ⊥
    wrong group e = cc
other-memory (Generic text) kind raw h other =
    let r = refused-base64 kind raw (generic text.now) h in absurd (wrong r.0 r.1)
  where
    wrong : (group : ℕ) → generic text.now ≡ base64_fault group → ⊥
    wrong group e = cc
other-memory (Memory e) kind raw h other = tt
