-- The tables of a caller: the one that is used for a label, and that an empty list changes nothing.
use Rattle.std.proofs.Common.{◌≡◌, ℕ, Bool, ltb, List, [], map, length, get_or, Option, Some, None, is_some, option_map, find, refl, sym, ap, inl, inr, ◌∙◌}
use Rattle.std.proofs.lemmas.Bool.{cases_Bool, cond-true, cond-false, ltb-false, ltb-true}
use Rattle.std.proofs.lemmas.Option.{none-some, slice_get-get_or, slice_get_past}
use Rattle.std.proofs.lemmas.List.Folds.{find_at}
use Rattle.std.proofs.Math.Path.{fun_ext}
use Rattle.std.specs.List.{position, position_or_len}
use Rattle.std.specs.Option.{option_or}
use Rattle.mail_codec.specs.Charset.{charset_of_label, four_charsets, is_among_labels, text_of, trimmed_label}
use Rattle.mail_codec.specs.Tables.{charsets_with, has_label, table_of_label, table_text}
use Rattle.mail_codec.specs.declared.charset.built_in.Charset.{Charset}
use Rattle.mail_codec.specs.declared.charset.tables.SingleByteTable.{SingleByteTable}

-- whether a table has a trimmed label
abbrev pub has : List ℕ → SingleByteTable → Bool
has trimmed table = is_among_labels (map (λ known. known.now) table.labels.now) trimmed

-- the index of a table, by what was found
pub table_none : (tables : List SingleByteTable) (label trimmed : List ℕ) → trimmed ≡ trimmed_label label → None ≡ position (has trimmed) tables
    → None ≡ table_of_label tables label
unfolding table_of_label
table_none tables label trimmed t none = elim (cases_Bool (is_some (charset_of_label label))) [
  | inl is ↦ sym (cond-true _ _ _ is)
  | inr is ↦ none ∙ ap (λ l. position (has l) tables) t ∙ sym (cond-false _ _ _ is)
]

pub table_kept : (tables : List SingleByteTable) (label : List ℕ) (charset : Charset) → charset_of_label label ≡ Some charset → None ≡ table_of_label tables label
unfolding table_of_label
table_kept tables label charset is = sym (cond-true _ _ _ (ap is_some is))

pub table_some : (tables : List SingleByteTable) (label trimmed : List ℕ) (number : ℕ) → trimmed ≡ trimmed_label label → Some number ≡ position (has trimmed) tables
    → charset_of_label label ≡ None → Some number ≡ table_of_label tables label
unfolding table_of_label
table_some tables label trimmed number t some is = some ∙ ap (λ l. position (has l) tables) t ∙ sym (cond-false _ _ _ (ap is_some is))

-- the first element that passes, by its index
find_first : {A : Type 0} (test : A → Bool) (xs : List A) (i : ℕ) (d : A) → position test xs ≡ Some i → find test xs ≡ Some (get_or xs i d)
find_first test xs i d found = elim (cases_Bool (ltb (position_or_len test xs) (length xs))) [
  | inl is ↦
      let e : Some (position_or_len test xs) ≡ Some i = sym (cond-true _ _ _ is) ∙ found in
      let same : position_or_len test xs ≡ i = cc e in
      find_at test xs ∙ slice_get-get_or xs _ d (ltb-true _ _ is) ∙ ap (λ k. Some (get_or xs k d)) same
  | inr is ↦ let clash : None ≡ Some i = sym (cond-false _ _ _ is) ∙ found in absurd (none-some _ clash)
]

find_none : {A : Type 0} (test : A → Bool) (xs : List A) → position test xs ≡ None → find test xs ≡ None
find_none test xs none = elim (cases_Bool (ltb (position_or_len test xs) (length xs))) [
  | inl is ↦ let clash : None ≡ Some (position_or_len test xs) = sym none ∙ cond-true _ _ _ is in absurd (none-some _ clash)
  | inr is ↦ find_at test xs ∙ slice_get_past xs _ (ltb-false _ _ is)
]

-- if a table has the label
pub charsets-table : (tables : List SingleByteTable) (label : List ℕ) (number : ℕ) (d : SingleByteTable) → Some number ≡ table_of_label tables label
    → (charset_of_label label ≡ None) × (charsets_with tables label ≡ Some (table_text (get_or tables number d)))
unfolding table_of_label charsets_with
charsets-table tables label number d some = go (charset_of_label label) refl
  where
    go : (o : Option Charset) → charset_of_label label ≡ o → (charset_of_label label ≡ None) × (charsets_with tables label ≡ Some (table_text (get_or tables number d)))
    go (Some charset) is = let clash : None ≡ Some number = sym (some ∙ cond-true _ _ _ (ap is_some is)) in absurd (none-some _ clash)
    go None is = (
      is,
      ap (λ o. option_or (option_map text_of o) (option_map table_text (find (has_label label) tables))) is
          ∙ ap (option_map table_text) (find_first (has_label label) tables number d (sym (some ∙ cond-false _ _ _ (ap is_some is)))),
    )

-- if one of the four has the label
pub charsets-kept : (tables : List SingleByteTable) (label : List ℕ) (charset : Charset) → charset_of_label label ≡ Some charset → charsets_with tables label ≡ Some (text_of charset)
unfolding charsets_with
charsets-kept tables label charset is = ap (λ o. option_or (option_map text_of o) (option_map table_text (find (has_label label) tables))) is

-- if none of them has the label
pub charsets-none : (tables : List SingleByteTable) (label : List ℕ) → charset_of_label label ≡ None → None ≡ table_of_label tables label → charsets_with tables label ≡ None
unfolding table_of_label charsets_with
charsets-none tables label is none =
    ap (λ o. option_or (option_map text_of o) (option_map table_text (find (has_label label) tables))) is
    ∙ ap (option_map table_text) (find_none (has_label label) tables (sym (none ∙ cond-false _ _ _ (ap is_some is))))

-- without tables, the four are known
pub charsets-four : charsets_with [] ≡ four_charsets
unfolding charsets_with
charsets-four = fun_ext (λ label. same (four_charsets label))
  where
    same : (o : Option (List ℕ → List ℕ)) → option_or o None ≡ o
    same None = refl
    same (Some reading) = refl
