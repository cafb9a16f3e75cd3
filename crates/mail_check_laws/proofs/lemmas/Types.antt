-- The types and dispositions of headers, as values with blanks before them.
use Rattle.std.proofs.Common.{◌≡◌, ◌∙◌, ◌+◌, ◌<◌, ℕ, suc, Bool, true, false, not, cond, List, [], ◌∷◌, ◌++◌, length, drop, take, Option, Some, None, refl, sym, ap, subst, inl, inr, arith}
use Rattle.std.specs.Prelude.{◌⊎◌, ◌&&◌, ◌||◌, ◌==◌, is_none, codes}
use Rattle.std.specs.Char.{is_ascii_alphanumeric, to_ascii_lowercase}
use Rattle.std.specs.List.{AllByRecursion, list_all, list_any}
use Rattle.std.specs.Str.{str_eq_ignore_ascii_case, str_to_ascii_lowercase}
use Rattle.std.proofs.lemmas.Bool.{cases_lt, eqb-true, le-ltb, lt-ltb}
use Rattle.std.proofs.lemmas.Bool.{and_from, and_left, and_parts, and_right, cases_Bool, not-true, or_from, or_parts}
use Rattle.std.proofs.lemmas.Slice.Eq.{bytes_eq-Decides}
use Rattle.mail_codec.specs.Ascii.{is_blank, slash}
use Rattle.mail_codec.specs.Places.{begins, byte_place, first_place}
use Rattle.mail_codec.proofs.lemmas.Places.{first_place-here, first_place-past}
use Rattle.mailparse.specs.ContentType.{ContentType}
use Rattle.mail_check.specs.Lines.{HeaderLine, is_bad_encoding, is_composite, is_encoding, is_named, is_other_message}
use Rattle.mail_check.specs.Multiparts.{is_bad_boundary}
use Rattle.mail_grammar.specs.Fields.{IsField}
use Rattle.mail_check.specs.Parameters.{after_main, is_bad_value, is_disposition, is_main_type, is_strict, is_type, strict}
use Rattle.mail_grammar.specs.Parameters.{IsTokenWithParameters, main_types, IsTypeValue, blank_before_type, type_here, IsDispositionValue, blank_before_disposition, disposition_here}
use Rattle.mail_check.proofs.lemmas.Booleans.{second_false}
use Rattle.mail_check_laws.proofs.lemmas.Fields.{apart, blanks, boundary_has, encoding_found, found_encoding, has_boundary, known_message, message_known, trimmed, trimmed_here, trimmed_past}
use Rattle.mail_check_laws.proofs.lemmas.Headers.{front}
use Rattle.mail_check_laws.proofs.lemmas.Keys.{of_line}
use Rattle.mail_check_laws.proofs.lemmas.Parameters.{of_strict, strict_of}

-- ---- main types

-- or_parts a blank or_from a slash
abbrev is_inner : ℕ → Bool
is_inner b = not (is_blank b || b == slash)

lower_inner : (b : ℕ) → is_inner (to_ascii_lowercase b) ≡ true → is_inner b ≡ true
lower_inner b h = elim (cases_Bool (is_inner b)) [
  | inl e ↦ e
  | inr e ↦ by_byte (not_false_of (is_blank b || b == slash) e)
]
  where
    not_false_of : (t : Bool) → not t ≡ false → t ≡ true
    not_false_of true h = refl
    not_false_of false h = absurd (cc)

    clash : (c : ℕ) → b ≡ c → is_inner (to_ascii_lowercase c) ≡ false → is_inner b ≡ true
    clash c same not_so =
        let so : is_inner (to_ascii_lowercase c) ≡ true = subst (λ (x : ℕ). is_inner (to_ascii_lowercase x) ≡ true) same h in
        absurd (cc)

    by_byte : (is_blank b || b == slash) ≡ true → is_inner b ≡ true
    by_byte e = elim (cases_Bool (b == 32)) [
      | inl f ↦ clash 32 (eqb-true b 32 f) refl
      | inr f ↦ elim (cases_Bool (b == 9)) [
        | inl g ↦ clash 9 (eqb-true b 9 g) refl
        | inr g ↦ elim (cases_Bool (b == slash)) [
          | inl i ↦ clash slash (eqb-true b slash i) refl
          | inr i ↦ let one = or_from (is_blank b) (b == slash) (or_from (b == 32) (b == 9) f g) i in absurd (cc)
        ]
      ]
    ]

lowered_inner : (xs : List ℕ) → list_all is_inner (str_to_ascii_lowercase xs) ≡ true → list_all is_inner xs ≡ true
lowered_inner [] h = refl
lowered_inner (b ∷ xs) h =
    let both = and_parts (is_inner (to_ascii_lowercase b)) (list_all is_inner (str_to_ascii_lowercase xs)) h in
    and_from (is_inner b) (list_all is_inner xs) (lower_inner b both.0) (lowered_inner xs both.1)

named_inner : (main : List ℕ) (names : List (List ℕ))
    → AllByRecursion (λ (n : List ℕ). list_all is_inner (str_to_ascii_lowercase n) ≡ true) names
    → list_any (str_eq_ignore_ascii_case main) names ≡ true → list_all is_inner main ≡ true
named_inner main [] all h = absurd (cc)
named_inner main (n ∷ names) all h = elim (cases_Bool (str_eq_ignore_ascii_case main n)) [
  | inl e ↦
      let same = (bytes_eq-Decides (str_to_ascii_lowercase main) (str_to_ascii_lowercase n)).0 e in
      lowered_inner main (ap (list_all is_inner) same ∙ all.0)
  | inr e ↦
      named_inner main names all.1 (others (str_eq_ignore_ascii_case main n) (list_any (str_eq_ignore_ascii_case main) names) e h)
]
  where
    others : (s t : Bool) → s ≡ false → (s || t) ≡ true → t ≡ true
    others false t e h = h
    others true t e h = absurd (cc)

main_inner : (main : List ℕ) → list_any (str_eq_ignore_ascii_case main) main_types ≡ true → list_all is_inner main ≡ true
main_inner main h = named_inner main main_types (refl, (refl, (refl, (refl, (refl, (refl, (refl, (refl, (refl, tt))))))))) h

-- the first slash
slash_at : (main text : List ℕ) → list_all is_inner main ≡ true
    → first_place (begins (λ b. b == slash)) (main ++ (slash ∷ text)) ≡ length main
slash_at [] text h = refl
slash_at (b ∷ main) text h =
    let both = and_parts (is_inner b) (list_all is_inner main) h in
    first_place-past (begins (λ b. b == slash)) b (main ++ (slash ∷ text))
    (or_parts (is_blank b) (b == slash) (not-true (is_blank b || b == slash) both.0)).1
    ∙ ap suc (slash_at main text both.1)

slash_found : (main text : List ℕ) → list_all is_inner main ≡ true
    → byte_place (main ++ (slash ∷ text)) slash ≡ Some (length main)
slash_found main text h =
    let at = slash_at main text h in
    let low = lt-ltb (length main) (length (main ++ (slash ∷ text))) (shorter main text) in
    rw (at, low) refl
  where
    shorter : (main text : List ℕ) → length main < length (main ++ (slash ∷ text))
    shorter [] text = omega arith
    shorter (b ∷ main) text = let more = shorter main text in omega (arith, more)

past_slash : (main text : List ℕ) → drop (length main + 1) (main ++ (slash ∷ text)) ≡ text
past_slash main text =
    ap (λ (n : ℕ). drop n (main ++ (slash ∷ text))) {x = length main + 1} {y = suc (length main)} (omega arith)
    ∙ suc_past main text
  where
    suc_past : (main text : List ℕ) → drop (suc (length main)) (main ++ (slash ∷ text)) ≡ text
    suc_past [] text = refl
    suc_past (b ∷ main) text = suc_past main text

-- a value at its first byte that is no blank
split_slash : (xs : List ℕ) (p : ℕ) → byte_place xs slash ≡ Some p → xs ≡ take p xs ++ (slash ∷ drop (p + 1) xs)
split_slash xs p h = elim (cases_lt (first_place (begins (λ b. b == slash)) xs) (length xs)) [
  | inr g ↦ let e = le-ltb (first_place (begins (λ b. b == slash)) xs) (length xs) g in let s = rw e at h in absurd (cc)
  | inl l ↦
      let e = lt-ltb (first_place (begins (λ b. b == slash)) xs) (length xs) l in
      let s = rw e at h in
      let same : first_place (begins (λ b. b == slash)) xs ≡ p = cc in
      subst (λ (n : ℕ). xs ≡ take n xs ++ (slash ∷ drop (n + 1) xs)) same (at_first xs l)
]
  where
    at_first : (xs : List ℕ) → first_place (begins (λ b. b == slash)) xs < length xs
        → xs ≡ take (first_place (begins (λ b. b == slash)) xs) xs
        ++ (slash ∷ drop (first_place (begins (λ b. b == slash)) xs + 1) xs)
    at_first [] low = absurd (omega (arith, low))
    at_first (b ∷ xs) low = elim (cases_Bool (b == slash)) [
      | inl e ↦
          let here = first_place-here (begins (λ b. b == slash)) (b ∷ xs) e in
          subst (λ (n : ℕ). b ∷ xs ≡ take n (b ∷ xs) ++ (slash ∷ drop (n + 1) (b ∷ xs))) (sym here)
          (ap (λ (x : ℕ). x ∷ xs) (eqb-true b slash e))
      | inr e ↦
          let next = first_place-past (begins (λ b. b == slash)) b xs e in
          let n = first_place (begins (λ b. b == slash)) xs in
          subst (λ (m : ℕ). b ∷ xs ≡ take m (b ∷ xs) ++ (slash ∷ drop (m + 1) (b ∷ xs))) (sym next)
          (ap (λ (ys : List ℕ). b ∷ ys) (at_first xs (omega (arith, low, next)))
          ∙ ap (λ (i : ℕ). b ∷ (take n xs ++ (slash ∷ drop i (b ∷ xs)))) {x = suc (n + 1)} {y = suc n + 1} (omega arith))
    ]

-- ---- types

type_from : (value : List ℕ) → is_none (strict (after_main value (byte_place value slash))) ≡ false → IsTypeValue value
type_from value h = by_place (byte_place value slash) refl h
  where
    by_strict : (p : ℕ) → byte_place value slash ≡ Some p → is_main_type (take p value) ≡ true → (t : Bool)
        → is_strict (drop (p + 1) value) ≡ t
        → is_none (cond t (Some (drop (p + 1) value)) None) ≡ false → IsTypeValue value
    by_strict p e f true g h = type_here (take p value) f (strict_of (drop (p + 1) value) g) (split_slash value p e)
    by_strict p e f false g h = absurd (cc)

    by_main : (p : ℕ) → byte_place value slash ≡ Some p → (t : Bool) → is_main_type (take p value) ≡ t
        → is_none (strict (cond t (Some (drop (p + 1) value)) None)) ≡ false → IsTypeValue value
    by_main p e true f h = by_strict p e f (is_strict (drop (p + 1) value)) refl h
    by_main p e false f h = absurd (cc)

    by_place : (o : Option ℕ) → byte_place value slash ≡ o → is_none (strict (after_main value o)) ≡ false → IsTypeValue value
    by_place None e h = absurd (cc)
    by_place (Some p) e h = by_main p e (is_main_type (take p value)) refl h

disposition_from : (value : List ℕ) → is_none (strict (Some value)) ≡ false → IsDispositionValue value
disposition_from value h = by_strict (is_strict value) refl h
  where
    by_strict : (t : Bool) → is_strict value ≡ t → is_none (cond t (Some value) None) ≡ false → IsDispositionValue value
    by_strict true g h = disposition_here (strict_of value g)
    by_strict false g h = absurd (cc)

-- with the blanks before it
type_untrimmed : (value : List ℕ) → IsTypeValue (trimmed value) → IsTypeValue value
type_untrimmed [] h = h
type_untrimmed (b ∷ rest) h = elim (cases_Bool (is_blank b)) [
  | inl e ↦ blank_before_type e (type_untrimmed rest (subst IsTypeValue (trimmed_past b rest e) h))
  | inr e ↦ subst IsTypeValue (trimmed_here b rest e) h
]

disposition_untrimmed : (value : List ℕ) → IsDispositionValue (trimmed value) → IsDispositionValue value
disposition_untrimmed [] h = h
disposition_untrimmed (b ∷ rest) h = elim (cases_Bool (is_blank b)) [
  | inl e ↦ blank_before_disposition e (disposition_untrimmed rest (subst IsDispositionValue (trimmed_past b rest e) h))
  | inr e ↦ subst IsDispositionValue (trimmed_here b rest e) h
]

-- and back
started : (xs : List ℕ) → begins is_blank xs ≡ false → trimmed xs ≡ xs
started [] h = refl
started (b ∷ rest) h = trimmed_here b rest h

pub type_found : (value main text : List ℕ) → list_any (str_eq_ignore_ascii_case main) main_types ≡ true → IsTokenWithParameters text
    → value ≡ main ++ (slash ∷ text)
    → strict (after_main (trimmed value) (byte_place (trimmed value) slash)) ≡ Some text
type_found value main text is left made =
    let inner = main_inner main is in
    ap (λ (xs : List ℕ). strict (after_main (trimmed xs) (byte_place (trimmed xs) slash))) made
    ∙ ap (λ (xs : List ℕ). strict (after_main xs (byte_place xs slash)))
    (started (main ++ (slash ∷ text)) (no_blank main inner))
    ∙ ap (λ (o : Option ℕ). strict (after_main (main ++ (slash ∷ text)) o)) (slash_found main text inner)
    ∙ ap (λ (t : Bool). strict (cond t (Some (drop (length main + 1) (main ++ (slash ∷ text)))) None))
    (ap is_main_type (front main (slash ∷ text)) ∙ is)
    ∙ ap (λ (xs : List ℕ). strict (Some xs)) (past_slash main text)
    ∙ ap (λ (t : Bool). cond t (Some text) None) (of_strict text left)
  where
    no_blank : (main : List ℕ) → list_all is_inner main ≡ true → begins is_blank (main ++ (slash ∷ text)) ≡ false
    no_blank [] h = refl
    no_blank (b ∷ main) h =
        let both = and_parts (is_inner b) (list_all is_inner main) h in
        (or_parts (is_blank b) (b == slash) (not-true (is_blank b || b == slash) both.0)).0

type_reads : (value : List ℕ) → IsTypeValue value
    → is_none (strict (after_main (trimmed value) (byte_place (trimmed value) slash))) ≡ false
type_reads value (blank_before_type {b = b} {rest = rest} is more) =
    ap (λ (xs : List ℕ). is_none (strict (after_main xs (byte_place xs slash)))) (trimmed_past b rest is) ∙ type_reads rest more
type_reads value (type_here {text = text} main is left made) =
    ap (λ (o : Option (List ℕ)). is_none o) (type_found value main text is left made)

pub disposition_found : (value : List ℕ) → IsTokenWithParameters value → strict (Some (trimmed value)) ≡ Some value
disposition_found value is =
    ap (λ (xs : List ℕ). strict (Some xs)) (started value (no_blank value is))
    ∙ ap (λ (t : Bool). cond t (Some value) None) (of_strict value is)
  where
    no_blank : (value : List ℕ) → IsTokenWithParameters value → begins is_blank value ≡ false
    no_blank value is = ap (begins is_blank) is.made ∙ first_no_blank is.first is.begins
      where
        first_no_blank : (b : ℕ) → is_ascii_alphanumeric b ≡ true → is_blank b ≡ false
        first_no_blank b h = elim (cases_Bool (is_blank b)) [
          | inr e ↦ e
          | inl e ↦ elim (blanks b e) [
            | inl f ↦ let one : false ≡ true = subst (λ (x : ℕ). is_ascii_alphanumeric x ≡ true) f h in absurd (cc)
            | inr f ↦ let one : false ≡ true = subst (λ (x : ℕ). is_ascii_alphanumeric x ≡ true) f h in absurd (cc)
          ]
        ]

disposition_reads : (value : List ℕ) → IsDispositionValue value → is_none (strict (Some (trimmed value))) ≡ false
disposition_reads value (blank_before_disposition {b = b} {rest = rest} is more) =
    ap (λ (xs : List ℕ). is_none (strict (Some xs))) (trimmed_past b rest is) ∙ disposition_reads rest more
disposition_reads value (disposition_here is) = ap (λ (o : Option (List ℕ)). is_none o) (disposition_found value is)

-- ---- headers

module _ (line : HeaderLine) where
  abbrev bad_of : Bool → Bool → Bool
  bad_of type disposition =
      let value = trimmed line.value in
      (type || disposition)
      && is_none (strict (cond type (after_main value (byte_place value slash)) (cond disposition (Some value) None)))

  bad_opened : is_bad_value line ≡ bad_of (is_type line) (is_disposition line)
  bad_opened = refl

  pub found_values : is_bad_value line ≡ false
      → (is_type line ≡ true → IsTypeValue line.value) × (is_disposition line ≡ true → IsDispositionValue line.value)
  found_values h = (
    λ e. of_type (is_type line) (is_disposition line) e h,
    λ e. of_disposition (is_type line) (is_disposition line) refl refl e h,
  )
    where
      of_type : (s t : Bool) → s ≡ true → bad_of s t ≡ false → IsTypeValue line.value
      of_type true t e h = type_untrimmed line.value (type_from (trimmed line.value) h)
      of_type false t e h = absurd (cc)

      of_disposition : (s t : Bool) → is_type line ≡ s → is_disposition line ≡ t → t ≡ true → bad_of s t ≡ false
          → IsDispositionValue line.value
      of_disposition false true e d f h = disposition_untrimmed line.value (disposition_from (trimmed line.value) h)
      of_disposition true true e d f h =
          let one = apart line.key (codes "Content-Type") (codes "Content-Disposition") e refl in absurd (cc)
      of_disposition s false e d f h = absurd (cc)

  pub values_found : (is_type line ≡ true → IsTypeValue line.value) → (is_disposition line ≡ true → IsDispositionValue line.value)
      → is_bad_value line ≡ false
  values_found f g = by_name (is_type line) (is_disposition line) f g
    where
      by_name : (s t : Bool) → (s ≡ true → IsTypeValue line.value) → (t ≡ true → IsDispositionValue line.value)
          → bad_of s t ≡ false
      by_name true t f g = type_reads line.value (f refl)
      by_name false true f g = disposition_reads line.value (g refl)
      by_name false false f g = refl

-- ---- what a header says of a message of this type

module _ (ctype : ContentType) where
  pub record FieldLacks (line : HeaderLine) : Type 0 where
    pub syntax : is_bad_value line ≡ false
    pub encoding : is_bad_encoding line ≡ false
    pub composite : (is_encoding line && is_composite ctype) ≡ false
    pub message : (is_named (codes "Content-Type") line && is_other_message ctype) ≡ false
    pub boundary : (is_named (codes "Content-Type") line && is_bad_boundary ctype) ≡ false

  pub field_found : (line : HeaderLine) → FieldLacks line → IsField ctype (of_line line)
  field_found line h = record {
    type_value = (found_values line h.syntax).0;
    disposition_value = (found_values line h.syntax).1;
    encoding = found_encoding line (is_composite ctype) h.encoding h.composite;
    type = λ e. record {
      message = known_message ctype (second_false (is_named (codes "Content-Type") line) _ e h.message);
      boundary = has_boundary ctype (second_false (is_named (codes "Content-Type") line) _ e h.boundary);
    };
  }

  pub found_field : (line : HeaderLine) → IsField ctype (of_line line) → FieldLacks line
  found_field line h =
      let encoding = encoding_found line (is_composite ctype) h.encoding in
      let type : (is_named (codes "Content-Type") line ≡ true) ⊎ (is_named (codes "Content-Type") line ≡ false) =
      cases_Bool (is_named (codes "Content-Type") line) in
      record {
        syntax = values_found line h.type_value h.disposition_value;
        encoding = encoding.0;
        composite = encoding.1;
        message = elim type [
          | inl e ↦ and_right (is_named (codes "Content-Type") line) _ (message_known ctype (λ m. (h.type e).message m))
          | inr e ↦ and_left (is_named (codes "Content-Type") line) _ e
        ];
        boundary = elim type [
          | inl e ↦ and_right (is_named (codes "Content-Type") line) _ (boundary_has ctype (h.type e).boundary)
          | inr e ↦ and_left (is_named (codes "Content-Type") line) _ e
        ];
      }
