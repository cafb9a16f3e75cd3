-- The value of a type or a disposition is plain exactly if it has the syntax that all programs know, and no step at which they
-- differ.
use Rattle.std.proofs.Common.{◌≡◌, ◌∙◌, ℕ, Bool, true, false, cond, List, Option, Some, None, refl, sym, ap, subst, inl, inr}
use Rattle.std.specs.Prelude.{codes}
use Rattle.std.proofs.lemmas.Bool.{cases_Bool}
use Rattle.mail_codec.specs.Ascii.{slash}
use Rattle.mail_codec.specs.Places.{byte_place}
use Rattle.mail_check.specs.Lines.{HeaderLine}
use Rattle.mail_check.specs.Parameters.{after_main, is_bad_value, is_disposition, is_type, parameter_names, strict, strict_value}
use Rattle.mail_grammar.specs.FileNames.{names_of_disposition, names_of_type}
use Rattle.mail_grammar.specs.Parameters.{IsTokenWithParameters, IsTypeValue, blank_before_type, type_here, IsDispositionValue, blank_before_disposition, disposition_here}
use Rattle.mail_grammar.specs.PlainParameters.{HasPlainValue, IsPlain, IsPlainDisposition, blank_before_plain_disposition, plain_disposition, IsPlainType, blank_before_plain_type, plain_type}
use Rattle.mail_check_laws.proofs.lemmas.Fields.{apart, trimmed, trimmed_past}
use Rattle.mail_check_laws.proofs.lemmas.Keys.{of_line}
use Rattle.mail_check_laws.proofs.lemmas.Plain.{ValueLacks, of_plain, plain_names, plain_of}
use Rattle.mail_check_laws.proofs.lemmas.Types.{disposition_found, found_values, type_found, values_found}

abbrev pub type_of : List ℕ → Option (List ℕ)
type_of value = strict (after_main (trimmed value) (byte_place (trimmed value) slash))

abbrev pub disposition_of : List ℕ → Option (List ℕ)
disposition_of value = strict (Some (trimmed value))

-- ---- values with the syntax that all programs know

-- the text of a value that is of a grammar if that text is plain
record Text (found : Option (List ℕ)) (IsValue : Type 0) : Type 0 where
  text : List ℕ
  is : IsTokenWithParameters text
  same : found ≡ Some text
  plain : IsPlain text → IsValue

type_text : (value : List ℕ) → IsTypeValue value → Text (type_of value) (IsPlainType value)
type_text value (blank_before_type {b = b} {rest = rest} is more) =
    let inner = type_text rest more in
    record {
      text = inner.text;
      is = inner.is;
      same = ap (λ (xs : List ℕ). strict (after_main xs (byte_place xs slash))) (trimmed_past b rest is) ∙ inner.same;
      plain = λ plain. blank_before_plain_type is (inner.plain plain);
    }
type_text value (type_here {text = text} main is left made) = record {
  text = text;
  is = left;
  same = type_found value main text is left made;
  plain = λ plain. plain_type main is plain made;
}

disposition_text : (value : List ℕ) → IsDispositionValue value → Text (disposition_of value) (IsPlainDisposition value)
disposition_text value (blank_before_disposition {b = b} {rest = rest} is more) =
    let inner = disposition_text rest more in
    record {
      text = inner.text;
      is = inner.is;
      same = ap (λ (xs : List ℕ). strict (Some xs)) (trimmed_past b rest is) ∙ inner.same;
      plain = λ plain. blank_before_plain_disposition is (inner.plain plain);
    }
disposition_text value (disposition_here is) = record {
  text = value;
  is = is;
  same = disposition_found value is;
  plain = λ plain. plain_disposition plain;
}

-- ---- plain values

-- the text of a plain value, and the names of its parameters
pub record PlainText (found : Option (List ℕ)) (names : List (List ℕ)) (IsValue : Type 0) : Type 0 where
  pub text : List ℕ
  pub same : found ≡ Some text
  pub named : parameter_names text ≡ names
  pub lacks : ValueLacks text
  pub is : IsValue

pub plain_type_text : (value : List ℕ) (is : IsPlainType value) → PlainText (type_of value) (names_of_type is) (IsTypeValue value)
plain_type_text value (blank_before_plain_type {b = b} {rest = rest} is more) =
    let inner = plain_type_text rest more in
    record {
      text = inner.text;
      same = ap (λ (xs : List ℕ). strict (after_main xs (byte_place xs slash))) (trimmed_past b rest is) ∙ inner.same;
      named = inner.named;
      lacks = inner.lacks;
      is = blank_before_type is inner.is;
    }
plain_type_text value (plain_type {text = text} main is left made) =
    let both = of_plain text left in
    record {
      text = text;
      same = type_found value main text is both.0 made;
      named = plain_names text left;
      lacks = both.1;
      is = type_here main is both.0 made;
    }

pub plain_disposition_text : (value : List ℕ) (is : IsPlainDisposition value)
    → PlainText (disposition_of value) (names_of_disposition is) (IsDispositionValue value)
plain_disposition_text value (blank_before_plain_disposition {b = b} {rest = rest} is more) =
    let inner = plain_disposition_text rest more in
    record {
      text = inner.text;
      same = ap (λ (xs : List ℕ). strict (Some xs)) (trimmed_past b rest is) ∙ inner.same;
      named = inner.named;
      lacks = inner.lacks;
      is = blank_before_disposition is inner.is;
    }
plain_disposition_text value (plain_disposition is) =
    let both = of_plain value is in
    record {
      text = value;
      same = disposition_found value both.0;
      named = plain_names value is;
      lacks = both.1;
      is = disposition_here both.0;
    }

-- ---- headers

module _ (line : HeaderLine) where
  pub of_type : is_type line ≡ true → strict_value line ≡ type_of line.value
  of_type e =
      ap (λ (t : Bool). strict (cond t (after_main (trimmed line.value) (byte_place (trimmed line.value) slash))
      (cond (is_disposition line) (Some (trimmed line.value)) None))) e

  pub of_other : is_type line ≡ false → (t : Bool) → is_disposition line ≡ t
      → strict_value line ≡ strict (cond t (Some (trimmed line.value)) None)
  of_other e t f =
      ap (λ (s : Bool). strict (cond s (after_main (trimmed line.value) (byte_place (trimmed line.value) slash))
      (cond (is_disposition line) (Some (trimmed line.value)) None))) e
      ∙ ap (λ (s : Bool). strict (cond s (Some (trimmed line.value)) None)) f

  pub no_type : is_disposition line ≡ true → is_type line ≡ false
  no_type e = apart line.key (codes "Content-Disposition") (codes "Content-Type") e refl

  pub found_plain : is_bad_value line ≡ false → ((text : List ℕ) → strict_value line ≡ Some text → ValueLacks text)
      → HasPlainValue (of_line line)
  found_plain h lacks =
      let values = found_values line h in
      record {
        type = λ e.
            let inner = type_text line.value (values.0 e) in
            inner.plain (plain_of inner.text inner.is (lacks inner.text (of_type e ∙ inner.same)));
        disposition = λ e.
            let inner = disposition_text line.value (values.1 e) in
            inner.plain (plain_of inner.text inner.is (lacks inner.text (of_other (no_type e) true e ∙ inner.same)));
      }

  lacks_of : {found : Option (List ℕ)} {names : List (List ℕ)} {IsValue : Type 0} (text : List ℕ)
      → PlainText found names IsValue → found ≡ Some text → ValueLacks text
  lacks_of text h e =
      let both : Some h.text ≡ Some text = sym h.same ∙ e in
      let same : h.text ≡ text = cc in
      subst ValueLacks same h.lacks

  pub plain_found : HasPlainValue (of_line line)
      → (is_bad_value line ≡ false) × ((text : List ℕ) → strict_value line ≡ Some text → ValueLacks text)
  plain_found h = (
    values_found line (λ e. (plain_type_text line.value (h.type e)).is)
        (λ e. (plain_disposition_text line.value (h.disposition e)).is),
    λ text found. by_name text found,
  )
    where
      by_name : (text : List ℕ) → strict_value line ≡ Some text → ValueLacks text
      by_name text found = elim (cases_Bool (is_type line)) [
        | inl e ↦ lacks_of text (plain_type_text line.value (h.type e)) (sym (of_type e) ∙ found)
        | inr e ↦ elim (cases_Bool (is_disposition line)) [
          | inl f ↦ lacks_of text (plain_disposition_text line.value (h.disposition f)) (sym (of_other e true f) ∙ found)
          | inr f ↦ let no : None ≡ Some text = sym (of_other e false f) ∙ found in absurd (cc)
        ]
      ]
