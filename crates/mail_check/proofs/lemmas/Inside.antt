-- Lemmas on the findings of the mails inside a mail.
use Rattle.std.proofs.Common.{◌≡◌, ◌≢◌, ℕ, zero, suc, ◌-◌, List, [], ◌∷◌, ◌++◌, length, Option, Some, None, Result, Ok, Err, OnOk, refl, sym, ap, ◌∙◌, arith}
use Rattle.std.proofs.lemmas.List.{append-nil}
use Rattle.std.specs.Cow.{cow_str_bytes}
use Rattle.mail_codec.specs.Charset.{Charsets}
use Rattle.mailparse.specs.Mail.{Tree}
use Rattle.mailparse.specs.Outcome.{IsMemory, IsRefusalOrMemory}
use Rattle.mailparse.specs.Refusal.{Reads, Refusal, generic, encoding, base64_fault}
use Rattle.mailparse.specs.declared.error.MailParseError.{MailParseError}
use Rattle.mailparse.specs.declared.error.MailParseError.TheVariants.{QuotedPrintableDecodeError, Base64DecodeError, EncodingError, Generic, Memory}
use Rattle.mail_read.specs.PartPlaces.{Place}
use Rattle.mail_check.specs.Findings.{Finding, finding_at, spot_of_body}
use Rattle.mail_check.specs.Inside.{forwarded_findings, inner_mail, inside_findings, mail_in, read_findings, tree_findings}
use Rattle.mail_check.specs.declared.names.Name.TheVariants.{Refused}

-- what holds of a call that succeeds, if something else does
pub when_ok : {T E P Q : Type 0} (r : Result T E) → OnOk r P → (P → Q) → OnOk r Q
when_ok (Ok x) h f = f h
when_ok (Err d) h f = tt

-- the findings of a mail inside, at most this number of mails deep
inside_some : (known : Charsets) (most : ℕ) (place : Place) → most ≢ 0
    → inside_findings known most place ≡ forwarded_findings known (inside_findings known (most - 1)) place (mail_in place)
inside_some known zero place h = absurd (h refl)
inside_some known (suc most) place h = let e : suc most - 1 ≡ most = omega arith in rw e refl

-- no mail is read
pub inside_none : (known : Charsets) (most : ℕ) (place : Place) (done : List Finding) → most ≡ 0 → done ≡ done ++ inside_findings known most place
inside_none known most place done h = sym (append-nil done) ∙ ap (λ (n : ℕ). done ++ inside_findings known n place) (sym h)

-- there is no mail
pub inside_nothing : (known : Charsets) (most : ℕ) (place : Place) (done : List Finding) → most ≢ 0 → ◌≡◌ {A = Option (List ℕ)} None (mail_in place)
    → done ≡ done ++ inside_findings known most place
inside_nothing known most place done h e =
    sym (append-nil done) ∙ ap (λ (raw : Option (List ℕ)). done ++ forwarded_findings known (inside_findings known (most - 1)) place raw) e
    ∙ ap (λ (l : List Finding). done ++ l) (sym (inside_some known most place h))

-- a mail that is read
pub inside_read : (known : Charsets) (most : ℕ) (place : Place) (raw : List ℕ) (mail : Tree) (done new : List Finding) → most ≢ 0 → Some raw ≡ mail_in place
    → inner_mail known raw ≡ Ok mail → new ≡ done ++ tree_findings known (inside_findings known (most - 1)) place mail
    → new ≡ done ++ inside_findings known most place
inside_read known most place raw mail done new h e read made =
    let inside = inside_findings known (most - 1) in
    made ∙ ap (λ (r : Reads Tree). done ++ read_findings known inside place raw r) (sym read)
    ∙ ap (λ (o : Option (List ℕ)). done ++ forwarded_findings known inside place o) e
    ∙ ap (λ (l : List Finding). done ++ l) (sym (inside_some known most place h))

-- an error that is not of memory is a refusal
refused_err : (e : MailParseError) (given : Reads Tree) → (IsMemory e → ⊥) → IsRefusalOrMemory e given → (r : Refusal) × (given ≡ Err r)
refused_err (QuotedPrintableDecodeError fault) given passed is = absurd is
refused_err (Base64DecodeError fault) given passed is = (base64_fault fault.group, is)
refused_err (EncodingError text) given passed is = (encoding (cow_str_bytes text), is)
refused_err (Generic text) given passed is = (generic text.now, is)
refused_err (Memory e) given passed is = absurd (passed tt)

-- one that is refused
pub inside_refused : (known : Charsets) (most : ℕ) (place : Place) (raw : List ℕ) (error : MailParseError) (done new : List Finding) → most ≢ 0 → Some raw ≡ mail_in place
    → IsRefusalOrMemory error (inner_mail known raw) → (IsMemory error → ⊥) → new ≡ done ++ finding_at (spot_of_body place (length raw)) Refused 0 ∷ []
    → new ≡ done ++ inside_findings known most place
inside_refused known most place raw error done new h e refused passed made =
    let inside = inside_findings known (most - 1) in
    let r = refused_err error (inner_mail known raw) passed refused in
    made ∙ ap (λ (x : Reads Tree). done ++ read_findings known inside place raw x) (sym r.1)
    ∙ ap (λ (o : Option (List ℕ)). done ++ forwarded_findings known inside place o) e
    ∙ ap (λ (l : List Finding). done ++ l) (sym (inside_some known most place h))
