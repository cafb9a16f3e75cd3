-- Lemmas on records whose texts are one after another.
use Rattle.std.proofs.Common.{◌≡◌, ℕ, suc, ◌+◌, ◌<◌, List, [], ◌∷◌, ◌++◌, length, drop, get_or, refl, sym, ap, subst, ◌∙◌, arith, append_assoc, drop-cons, length-append}
use Rattle.std.proofs.lemmas.List.{append-nil}
use Rattle.std.proofs.lemmas.List.Concat.{flat_map-append}
use Rattle.std.specs.List.{flat_map}
use Rattle.mail_records.specs.Rows.{AppendsRows, AreRows, rows_from}
use Rattle.mail_records.specs.declared.rows.Rows.{Rows}

-- the items from one on are it and those after it
pub next-at : {A : Type 0} (xs : List A) (i : ℕ) (d : A) → i < length xs → drop i xs ≡ get_or xs i d ∷ drop (i + 1) xs
next-at xs i d low = drop-cons xs i d low ∙ ap (λ (n : ℕ). get_or xs i d ∷ drop n xs) {x = suc i} {y = i + 1} (omega arith)

-- two texts were appended to a buffer
pub two-texts : (old mid new first second : List ℕ) → mid ≡ old ++ first → new ≡ mid ++ second
    → (length mid ≡ length old + length first) × (length new ≡ length old + length first + length second) × (new ≡ old ++ (first ++ second))
two-texts old mid new first second one two =
    let size = ap (λ (t : List ℕ). length t) one ∙ length-append old first in (
      size,
      ap (λ (t : List ℕ). length t) two ∙ length-append mid second ∙ ap (λ n. n + length second) size,
      two ∙ ap (λ (t : List ℕ). t ++ second) one ∙ append_assoc old first second,
    )

module _ {A R : Type 0} (row : ℕ → A → R) (text : A → List ℕ) where
  -- the record of one more entry
  pub rows-next : (at : ℕ) (entries : List A) (entry : A)
      → rows_from row text at (entries ++ entry ∷ []) ≡ rows_from row text at entries ++ row (at + length (flat_map text entries)) entry ∷ []
  rows-next at [] entry = ap (λ n. row n entry ∷ []) {x = at} {y = at + 0} (omega arith)
  rows-next at (first ∷ entries) entry =
      let size = length-append (text first) (flat_map text entries) in
      ap (λ (rs : List R). row at first ∷ rs) (rows-next (at + length (text first)) entries entry
      ∙ ap (λ n. rows_from row text (at + length (text first)) entries ++ row n entry ∷ [])
      {x = at + length (text first) + length (flat_map text entries)} {y = at + length (text first ++ flat_map text entries)} (omega arith))

  -- its text
  pub texts-next : (entries : List A) (entry : A) → flat_map text (entries ++ entry ∷ []) ≡ flat_map text entries ++ text entry
  texts-next entries entry = flat_map-append text entries (entry ∷ []) ∙ ap (λ (t : List ℕ). flat_map text entries ++ t) (append-nil (text entry))

  -- there is a record for each entry
  pub length-rows : (at : ℕ) (entries : List A) → length (rows_from row text at entries) ≡ length entries
  length-rows at [] = refl
  length-rows at (first ∷ entries) = ap suc (length-rows (at + length (text first)) entries)

  -- an entry was appended, given what its record and its text are
  pub row-appended : (old : Rows R) (entries : List A) (entry : A) (made : R) (rows : List R) (texts : List ℕ)
      → made ≡ row (length old.strings.items) entry → rows ≡ old.records.items ++ made ∷ [] → texts ≡ old.strings.items ++ text entry
      → AreRows row text entries old → (rows ≡ rows_from row text 0 (entries ++ entry ∷ [])) × (texts ≡ flat_map text (entries ++ entry ∷ []))
  row-appended old entries entry made rows texts same more written are = (
    more ∙ ap (λ (r : R). old.records.items ++ r ∷ []) same ∙ ap (λ (rs : List R). rs ++ row (length old.strings.items) entry ∷ []) are.0
        ∙ ap (λ (t : List ℕ). rows_from row text 0 entries ++ row (length t) entry ∷ []) are.1
        ∙ ap (λ n. rows_from row text 0 entries ++ row n entry ∷ []) {x = length (flat_map text entries)} {y = 0 + length (flat_map text entries)} (omega arith)
        ∙ sym (rows-next 0 entries entry),
    written ∙ ap (λ (t : List ℕ). t ++ text entry) are.1 ∙ sym (texts-next entries entry),
  )

  -- entries were appended, and then others
  pub appended-then : (first old new : Rows R) (done more : List A) → AppendsRows row text done first old → AppendsRows row text more old new
      → AppendsRows row text (done ++ more) first new
  appended-then first old new done more before after =
      λ entries are. subst (λ (es : List A). AreRows row text es new) (append_assoc entries done more) (after (entries ++ done) (before entries are))

  -- the first of the entries that are left was appended, after all entries since something was so
  pub rows-more : {P : Type 0} (old new : Rows R) (done own left rest all : List A) → left ≡ own ++ rest → done ++ left ≡ all
      → (P → AreRows row text done old) → AppendsRows row text own old new
      → (more : List A) × (more ++ rest ≡ all) × (P → AreRows row text more new)
  rows-more old new done own left rest all first here before after = (
    done ++ own,
    append_assoc done own rest ∙ ap (λ (es : List A). done ++ es) (sym first) ∙ here,
    λ p. after done (before p),
  )

  -- the same of entries that were appended to others
  pub appended-more : (first old new : Rows R) (done own left rest all : List A) → left ≡ own ++ rest → done ++ left ≡ all
      → AppendsRows row text done first old → AppendsRows row text own old new
      → (more : List A) × (more ++ rest ≡ all) × AppendsRows row text more first new
  appended-more first old new done own left rest all l here before after = (
    done ++ own,
    append_assoc done own rest ∙ ap (λ (es : List A). done ++ es) (sym l) ∙ here,
    appended-then first old new done own before after,
  )
