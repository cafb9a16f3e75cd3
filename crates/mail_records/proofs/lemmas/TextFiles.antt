-- Lemmas on the records of the files in a text.
use Rattle.std.proofs.Common.{◌≡◌, ℕ, ◌+◌, List, [], ◌∷◌, ◌++◌, length, ap, ◌∙◌, is_some}
use Rattle.std.specs.List.{flat_map}
use Rattle.mail_data.specs.TextFiles.{TextFile, file_bytes}
use Rattle.mail_records.specs.Rows.{AreRows, rows_from}
use Rattle.mail_records.specs.TextFiles.{file_record, file_text, name_text, number_of, range_at, record_of}
use Rattle.mail_records.specs.declared.text_files.TextFileRecord.{TextFileRecord}
use Rattle.mail_records.specs.declared.rows.Rows.{Rows}
use Rattle.mail_records.proofs.lemmas.Rows.{row-appended, two-texts}

-- the record of a file whose name and bytes were appended
record-made : (at size : ℕ) (file : TextFile) (name bytes : List ℕ) (named content : ℕ × ℕ) (damaged : ℕ) → name ≡ name_text file → bytes ≡ (file_bytes file).bytes
    → damaged ≡ number_of (is_some (file_bytes file).fault) → named ≡ range_at at name → size ≡ at + length name → content ≡ range_at size bytes
    → record_of file.block named content damaged ≡ file_record at file
record-made at size file name bytes named content damaged is_name is_bytes is_damaged is_named is_size is_content =
    ap (λ (r : ℕ × ℕ). record_of file.block r content damaged) (is_named ∙ ap (range_at at) is_name)
    ∙ ap (λ (r : ℕ × ℕ). record_of file.block (range_at at (name_text file)) r damaged)
    (is_content ∙ ap (range_at size) is_bytes ∙ ap (λ n. range_at n (file_bytes file).bytes) (is_size ∙ ap (λ (t : List ℕ). at + length t) is_name))
    ∙ ap (λ n. record_of file.block (range_at at (name_text file)) (range_at (at + length (name_text file)) (file_bytes file).bytes) n) is_damaged

-- a record was appended
pub next_file : (old : Rows TextFileRecord) (done : List TextFile) (file : TextFile) (named content : ℕ × ℕ) (name bytes s1 s2 : List ℕ) (damaged : ℕ) (records : List TextFileRecord)
    → name ≡ name_text file → bytes ≡ (file_bytes file).bytes → damaged ≡ number_of (is_some (file_bytes file).fault)
    → named ≡ range_at (length old.strings.items) name → s1 ≡ old.strings.items ++ name
    → content ≡ range_at (length s1) bytes → s2 ≡ s1 ++ bytes
    → records ≡ old.records.items ++ record_of file.block named content damaged ∷ [] → AreRows file_record file_text done old
    → (records ≡ rows_from file_record file_text 0 (done ++ file ∷ [])) × (s2 ≡ flat_map file_text (done ++ file ∷ []))
next_file old done file named content name bytes s1 s2 damaged records is_name is_bytes is_damaged is_named e1 is_content e2 is are =
    let texts = two-texts old.strings.items s1 s2 name bytes e1 e2 in
    let made = record-made (length old.strings.items) (length s1) file name bytes named content damaged is_name is_bytes is_damaged is_named texts.0 is_content in
    let whole : s2 ≡ old.strings.items ++ file_text file =
    texts.2 ∙ ap (λ (t : List ℕ). old.strings.items ++ (t ++ bytes)) is_name ∙ ap (λ (t : List ℕ). old.strings.items ++ (name_text file ++ t)) is_bytes in
    row-appended file_record file_text old done file _ records s2 made is whole are
