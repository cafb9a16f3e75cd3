-- Lemmas on the records of recipients.
use Rattle.std.proofs.Common.{◌≡◌, ℕ, ◌+◌, List, [], ◌∷◌, ◌++◌, length, Ok, Err, refl, sym, ap, ◌∙◌, append_assoc, length-append}
use Rattle.std.specs.List.{flat_map}
use Rattle.std.specs.Prelude.{Option}
use Rattle.mail_codec.specs.Charset.{Charsets}
use Rattle.mailparse.specs.Mail.{Tree}
use Rattle.mailparse.specs.Refusal.{Reads}
use Rattle.mail_data.specs.Bounce as report
use Rattle.mail_data.specs.Bounce.{Delivery}
use Rattle.mail_read.specs.Reading.{mail_reading}
use Rattle.mail_records.specs.Codes.{coded}
use Rattle.mail_records.specs.Recipients.{after, bytes_of, deliveries_read, delivery_record, delivery_text, mail_recipients, range_of, record_of, recipients_read}
use Rattle.mail_records.specs.Results.{no_limit}
use Rattle.mail_records.specs.Rows.{AreRows, rows_from}
use Rattle.mail_records.specs.declared.recipients.RecipientRecord.{RecipientRecord}
use Rattle.mail_records.specs.declared.rows.Rows.{Rows}
use Rattle.mail_records.proofs.lemmas.Rows.{row-appended}

-- the length of strings after a text
length-after : (at : ℕ) (old new : List ℕ) (text : Option (List ℕ)) → length old ≡ at → new ≡ old ++ bytes_of text → length new ≡ after at text
length-after at old new text o n = ap (λ (t : List ℕ). length t) n ∙ length-append old (bytes_of text) ∙ ap (λ k. k + length (bytes_of text)) o

-- its range
range-at : (at size : ℕ) (text : Option (List ℕ)) (range : ℕ × ℕ) → size ≡ at → range ≡ range_of size text → range ≡ range_of at text
range-at at size text range s r = r ∙ ap (λ n. range_of n text) s

-- five texts were appended
five-texts : (old s1 s2 s3 s4 s5 a b c d e : List ℕ) → s1 ≡ old ++ a → s2 ≡ s1 ++ b → s3 ≡ s2 ++ c → s4 ≡ s3 ++ d → s5 ≡ s4 ++ e
    → s5 ≡ old ++ (a ++ (b ++ (c ++ (d ++ e))))
five-texts old s1 s2 s3 s4 s5 a b c d e e1 e2 e3 e4 e5 =
    e5 ∙ ap (λ (t : List ℕ). t ++ e) e4 ∙ append_assoc s3 d e ∙ ap (λ (t : List ℕ). t ++ (d ++ e)) e3 ∙ append_assoc s2 c (d ++ e)
    ∙ ap (λ (t : List ℕ). t ++ (c ++ (d ++ e))) e2 ∙ append_assoc s1 b (c ++ (d ++ e)) ∙ ap (λ (t : List ℕ). t ++ (b ++ (c ++ (d ++ e)))) e1
    ∙ append_assoc old a (b ++ (c ++ (d ++ e)))

-- five equal ranges make one record
same-record : (a b c d e a' b' c' d' e' : ℕ × ℕ) → a ≡ a' → b ≡ b' → c ≡ c' → d ≡ d' → e ≡ e' → record_of a b c d e ≡ record_of a' b' c' d' e'
same-record a b c d e a' b' c' d' e' ea eb ec ed ee =
    ap (λ (r : ℕ × ℕ). record_of r b c d e) ea ∙ ap (λ (r : ℕ × ℕ). record_of a' r c d e) eb ∙ ap (λ (r : ℕ × ℕ). record_of a' b' r d e) ec
    ∙ ap (λ (r : ℕ × ℕ). record_of a' b' c' r e) ed ∙ ap (λ (r : ℕ × ℕ). record_of a' b' c' d' r) ee

-- a record was appended
pub next_recipient : (old : Rows RecipientRecord) (done : List Delivery) (d : Delivery) (r1 r2 r3 r4 r5 : ℕ × ℕ) (s1 s2 s3 s4 s5 : List ℕ) (records : List RecipientRecord)
    → r1 ≡ range_of (length old.strings.items) d.final_recipient → s1 ≡ old.strings.items ++ bytes_of d.final_recipient
    → r2 ≡ range_of (length s1) d.original_recipient → s2 ≡ s1 ++ bytes_of d.original_recipient
    → r3 ≡ range_of (length s2) d.action → s3 ≡ s2 ++ bytes_of d.action
    → r4 ≡ range_of (length s3) d.status → s4 ≡ s3 ++ bytes_of d.status
    → r5 ≡ range_of (length s4) d.diagnostic_code → s5 ≡ s4 ++ bytes_of d.diagnostic_code
    → records ≡ old.records.items ++ record_of r1 r2 r3 r4 r5 ∷ [] → AreRows delivery_record delivery_text done old
    → (records ≡ rows_from delivery_record delivery_text 0 (done ++ d ∷ [])) × (s5 ≡ flat_map delivery_text (done ++ d ∷ []))
next_recipient old done d r1 r2 r3 r4 r5 s1 s2 s3 s4 s5 records is1 e1 is2 e2 is3 e3 is4 e4 is5 e5 is are =
    let at = length old.strings.items in
    let at1 = after at d.final_recipient in
    let at2 = after at1 d.original_recipient in
    let at3 = after at2 d.action in
    let n1 = length-after at old.strings.items s1 d.final_recipient refl e1 in
    let n2 = length-after at1 s1 s2 d.original_recipient n1 e2 in
    let n3 = length-after at2 s2 s3 d.action n2 e3 in
    let n4 = length-after at3 s3 s4 d.status n3 e4 in
    let made = same-record r1 r2 r3 r4 r5 _ _ _ _ _ is1 (range-at at1 _ d.original_recipient r2 n1 is2) (range-at at2 _ d.action r3 n2 is3)
    (range-at at3 _ d.status r4 n3 is4) (range-at (after at3 d.status) _ d.diagnostic_code r5 n4 is5) in
    row-appended delivery_record delivery_text old done d _ records s5 made is (five-texts old.strings.items s1 s2 s3 s4 s5 _ _ _ _ _ e1 e2 e3 e4 e5) are

-- ---- the recipients that a mail reports

-- a mail that was read
pub recipients_are : (known : Charsets) (raw : List ℕ) (t : Tree) (found : List RecipientRecord × List ℕ) → mail_reading known no_limit raw ≡ Ok t
    → found ≡ deliveries_read (report.recipients known t) → recipients_read known raw ≡ Ok found
unfolding recipients_read
recipients_are known raw t found read are = ap (λ (r : Reads Tree). mail_recipients known (coded r)) read ∙ ap Ok (sym are)

-- a mail that is refused
pub recipients_refused : (known : Charsets) (raw : List ℕ) (code : ℕ) → coded (mail_reading known no_limit raw) ≡ Err code → recipients_read known raw ≡ Err code
unfolding recipients_read
recipients_refused known raw code refused = ap (mail_recipients known) refused
