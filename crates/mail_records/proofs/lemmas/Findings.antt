-- Lemmas on the records of findings.
use Rattle.std.proofs.Common.{◌≡◌, ℕ, ◌+◌, List, [], ◌∷◌, ◌++◌, length, Ok, Err, refl, sym, ap, ◌∙◌, append_assoc, length-append}
use Rattle.std.specs.List.{flat_map}
use Rattle.mail_codec.specs.Charset.{Charsets}
use Rattle.mailparse.specs.Refusal.{Reads}
use Rattle.mail_check.specs.Findings.{Finding}
use Rattle.mail_check.specs.Names.{sentence_of, text_of}
use Rattle.mail_check.specs.Reading.{mail_findings}
use Rattle.mail_records.specs.Codes.{coded}
use Rattle.mail_records.specs.Findings.{class_number, finding_record, finding_text, findings_listed, findings_read, found_records, record_of}
use Rattle.mail_records.specs.Results.{no_limit}
use Rattle.mail_records.specs.Rows.{AreRows, rows_from}
use Rattle.mail_records.specs.declared.findings.FindingRecord.{FindingRecord}
use Rattle.mail_records.specs.declared.rows.Rows.{Rows}
use Rattle.mail_records.proofs.lemmas.Rows.{row-appended}

-- the length of strings after a text
length-after : (at n : ℕ) (old new text : List ℕ) → length old ≡ at → new ≡ old ++ text → n ≡ length new → n ≡ at + length text
length-after at n old new text o is size =
    size ∙ ap (λ (t : List ℕ). length t) is ∙ length-append old text ∙ ap (λ k. k + length text) o

-- a record was appended
pub next_finding : (old : Rows FindingRecord) (done : List Finding) (f : Finding) (class name path sentence end : ℕ) (s1 s2 s3 : List ℕ) (records : List FindingRecord)
    → class ≡ class_number f.class
    → name ≡ length old.strings.items → s1 ≡ old.strings.items ++ text_of f.name
    → path ≡ length s1 → s2 ≡ s1 ++ f.path
    → sentence ≡ length s2 → s3 ≡ s2 ++ sentence_of f.name
    → end ≡ length s3 → records ≡ old.records.items ++ record_of class f.range name path sentence end ∷ [] → AreRows finding_record finding_text done old
    → (records ≡ rows_from finding_record finding_text 0 (done ++ f ∷ [])) × (s3 ≡ flat_map finding_text (done ++ f ∷ []))
next_finding old done f class name path sentence end s1 s2 s3 records c n e1 p e2 s e3 e is are =
    let at = length old.strings.items in
    let at1 = at + length (text_of f.name) in
    let at2 = at1 + length f.path in
    let p1 = length-after at path old.strings.items s1 (text_of f.name) refl e1 p in
    let p2 = length-after at1 sentence s1 s2 f.path (sym p ∙ p1) e2 s in
    let p3 = length-after at2 end s2 s3 (sentence_of f.name) (sym s ∙ p2) e3 e in
    let made : record_of class f.range name path sentence end ≡ finding_record at f =
    ap (λ k. record_of k f.range name path sentence end) c ∙ ap (λ k. record_of (class_number f.class) f.range k path sentence end) n
    ∙ ap (λ k. record_of (class_number f.class) f.range at k sentence end) p1 ∙ ap (λ k. record_of (class_number f.class) f.range at at1 k end) p2
    ∙ ap (λ k. record_of (class_number f.class) f.range at at1 at2 k) p3 in
    row-appended finding_record finding_text old done f _ records s3 made is
    (e3 ∙ ap (λ (t : List ℕ). t ++ sentence_of f.name) e2 ∙ append_assoc s1 f.path (sentence_of f.name) ∙ ap (λ (t : List ℕ). t ++ (f.path ++ sentence_of f.name)) e1
    ∙ append_assoc old.strings.items (text_of f.name) (f.path ++ sentence_of f.name)) are

-- ---- the findings of a mail

-- a mail that was read
pub findings_are : (known : Charsets) (raw : List ℕ) (findings : List Finding) (found : List FindingRecord × List ℕ) → mail_findings known no_limit raw ≡ Ok findings
    → found ≡ findings_listed findings → findings_read known raw ≡ Ok found
unfolding findings_read
findings_are known raw findings found read are = ap (λ (r : Reads (List Finding)). found_records (coded r)) read ∙ ap Ok (sym are)

-- a mail that is refused
pub findings_refused : (known : Charsets) (raw : List ℕ) (code : ℕ) → coded (mail_findings known no_limit raw) ≡ Err code → findings_read known raw ≡ Err code
unfolding findings_read
findings_refused known raw code refused = ap found_records refused
