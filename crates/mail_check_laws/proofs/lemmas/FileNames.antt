-- The names of the file of a message: when they are those of strict messages.
use Rattle.std.proofs.Common.{◌≡◌, ◌∙◌, ◌++◌, ◌+◌, ◌/◌, ◌≤◌, ℕ, Bool, true, false, not, cond, List, [], ◌∷◌, Option, Some, None, refl, sym, ap, subst, inl, inr, arith}
use Rattle.std.specs.Prelude.{◌&&◌, encode_utf8, encode_utf8_all, find, is_none, is_some, nat_eq, nat_lt, codes}
use Rattle.std.specs.Char.{to_ascii_lowercase}
use Rattle.std.specs.List.{list_all, list_any}
use Rattle.std.specs.Str.{bytes_eq, str_eq_ignore_ascii_case, str_to_ascii_lowercase, trim}
use Rattle.std.proofs.Math.Utf8.{encode, next}
use Rattle.std.proofs.lemmas.Bool.{cases_lt, cond_both, eqb-true, le-ltb}
use Rattle.std.proofs.lemmas.Bool.{and_left, and_right, cases_Bool, not-false, not_from_false, or_from, or_parts}
use Rattle.std.proofs.lemmas.Str.{encode_ascii}
use Rattle.std.proofs.lemmas.Slice.Eq.{bytes_eq-Decides}
use Rattle.mail_codec.specs.Latin1.{latin1_text}
use Rattle.mail_codec.specs.Places.{is_empty}
use Rattle.mailparse.specs.Header.{Header}
use Rattle.mailparse.specs.Map.{has_key}
use Rattle.mail_read.specs.Files.{filled}
use Rattle.mail_check.specs.FileNames.{names_differ}
use Rattle.mail_check.specs.Lines.{HeaderLine}
use Rattle.mail_check.specs.Parameters.{has_other_name, is_among, is_disposition, is_type, parameter_names, strict_value}
use Rattle.mail_grammar.specs.FileNames.{HasOwnNames, HasSome, first_has, later_has}
use Rattle.mail_grammar.specs.PlainParameters.{HasPlainValue}
use Rattle.mail_check_laws.proofs.lemmas.Fields.{apart}
use Rattle.mail_check.proofs.lemmas.Booleans.{second_false}
use Rattle.mail_check_laws.proofs.lemmas.Keys.{of_line}
use Rattle.mail_check_laws.proofs.lemmas.Values.{PlainText, no_type, of_other, of_type, plain_disposition_text, plain_type_text}
use Rattle.mail_grammar.proofs.lemmas.Boundaries.{all_head, all_tail}

-- ---- the names of parameters

module _ (line : HeaderLine) where
  pub found_names : ((text : List ℕ) → strict_value line ≡ Some text → has_other_name line (parameter_names text) ≡ false)
      → HasOwnNames (of_line line)
  found_names h = record {
    type = λ e is.
        let inner = plain_type_text line.value is in
        let names = parameter_names inner.text in
        ap (list_any (bytes_eq (codes "filename"))) (sym inner.named)
        ∙ second_false (is_type line) (is_among (codes "filename") names) e
        (or_parts (is_type line && is_among (codes "filename") names) (is_disposition line && is_among (codes "name") names)
        (h inner.text (of_type line e ∙ inner.same))).0;
    disposition = λ e is.
        let inner = plain_disposition_text line.value is in
        let names = parameter_names inner.text in
        ap (list_any (bytes_eq (codes "name"))) (sym inner.named)
        ∙ second_false (is_disposition line) (is_among (codes "name") names) e
        (or_parts (is_type line && is_among (codes "filename") names) (is_disposition line && is_among (codes "name") names)
        (h inner.text (of_other line (no_type line e) true e ∙ inner.same))).1;
  }

  -- one name is not among those of a plain value
  not_among : {found : Option (List ℕ)} {names : List (List ℕ)} {IsValue : Type 0} (name text : List ℕ)
      → PlainText found names IsValue → found ≡ Some text → list_any (bytes_eq name) names ≡ false
      → is_among name (parameter_names text) ≡ false
  not_among name text h e none =
      let both : Some h.text ≡ Some text = sym h.same ∙ e in
      let same : h.text ≡ text = cc in
      ap (λ (xs : List ℕ). is_among name (parameter_names xs)) (sym same) ∙ ap (list_any (bytes_eq name)) h.named ∙ none

  pub names_found : HasPlainValue (of_line line) → HasOwnNames (of_line line) → (text : List ℕ) → strict_value line ≡ Some text
      → has_other_name line (parameter_names text) ≡ false
  names_found h k text found = elim (cases_Bool (is_type line)) [
    | inl e ↦
        neither_of (and_right (is_type line) among_type
        (not_among (codes "filename") text (plain_type_text line.value (h.type e)) (sym (of_type line e) ∙ found) (k.type e (h.type e))))
        (and_left (is_disposition line) among_disposition (apart line.key (codes "Content-Type") (codes "Content-Disposition") e refl))
    | inr e ↦ elim (cases_Bool (is_disposition line)) [
      | inl f ↦
          neither_of (and_left (is_type line) among_type e)
          (and_right (is_disposition line) among_disposition
          (not_among (codes "name") text (plain_disposition_text line.value (h.disposition f))
          (sym (of_other line e true f) ∙ found) (k.disposition f (h.disposition f))))
      | inr f ↦ neither_of (and_left (is_type line) among_type e) (and_left (is_disposition line) among_disposition f)
    ]
  ]
    where
      among_type : Bool
      among_type = is_among (codes "filename") (parameter_names text)

      among_disposition : Bool
      among_disposition = is_among (codes "name") (parameter_names text)

      neither_of : (is_type line && among_type) ≡ false → (is_disposition line && among_disposition) ≡ false
          → has_other_name line (parameter_names text) ≡ false
      neither_of a b = or_from (is_type line && among_type) (is_disposition line && among_disposition) a b

-- ---- headers with a name

abbrev are_ascii : List ℕ → Bool
are_ascii xs = list_all (λ x. nat_lt x 128) xs

-- a text that begins with another byte than one of ASCII
begins_high : (x : ℕ) (xs name : List ℕ) → 128 ≤ x → are_ascii name ≡ true
    → bytes_eq (str_to_ascii_lowercase (x ∷ xs)) name ≡ false
begins_high x xs [] high all = refl
begins_high x xs (n ∷ name) high all =
    and_left (nat_eq (to_ascii_lowercase x) n) (bytes_eq (str_to_ascii_lowercase xs) name)
    (ap (λ (y : ℕ). nat_eq y n) same ∙ differs)
  where
    same : to_ascii_lowercase x ≡ x
    same = let e = le-ltb x 65 (omega (arith, high)) in let f = le-ltb x 91 (omega (arith, high)) in rw (e, f) refl

    differs : nat_eq x n ≡ false
    differs = elim (cases_Bool (nat_eq x n)) [
      | inr e ↦ e
      | inl e ↦
          let is = eqb-true x n e in
          let low : nat_lt n 128 ≡ true = all_head (λ x. nat_lt x 128) n name all in
          let none = le-ltb n 128 (omega (arith, is, high)) in
          absurd (cc)
    ]

encoded_high : (b : ℕ) (xs name : List ℕ) → 128 ≤ b → are_ascii name ≡ true
    → bytes_eq (str_to_ascii_lowercase (encode_utf8 b ++ xs)) name ≡ false
unfolding encode
encoded_high b xs name high all =
    cond_both (nat_lt b 128) _ _ differs (λ e. let no = le-ltb b 128 high in absurd (cc))
    (λ e. cond_both (nat_lt b 2048) _ _ differs (λ e. begins_high (192 + b / 64) (next b ∷ xs) name (omega arith) all)
    (λ e. cond_both (nat_lt b 65536) _ _ differs
    (λ e. begins_high (224 + b / 4096) (next (b / 64) ∷ (next b ∷ xs)) name (omega arith) all)
    (λ e. begins_high (240 + b / 262144) (next (b / 4096) ∷ (next (b / 64) ∷ (next b ∷ xs))) name (omega arith) all)))
  where
    differs : List ℕ → Type 0
    differs made = bytes_eq (str_to_ascii_lowercase (made ++ xs)) name ≡ false

-- the text of a key has a name in ASCII exactly if its bytes have
same_key : (key name : List ℕ) → are_ascii name ≡ true
    → bytes_eq (str_to_ascii_lowercase (latin1_text key)) name ≡ bytes_eq (str_to_ascii_lowercase key) name
same_key [] name all = refl
same_key (b ∷ key) name all = elim (cases_lt b 128) [
  | inl low ↦
      ap (λ (xs : List ℕ). bytes_eq (str_to_ascii_lowercase (xs ++ encode_utf8_all key)) name) (encode_ascii b low)
      ∙ by_name name all (λ name all. same_key key name all)
  | inr high ↦ encoded_high b (encode_utf8_all key) name high all ∙ sym (begins_high b key name high all)
]
  where
    by_name : (name : List ℕ) → are_ascii name ≡ true
        → ((name : List ℕ) → are_ascii name ≡ true
        → bytes_eq (str_to_ascii_lowercase (latin1_text key)) name ≡ bytes_eq (str_to_ascii_lowercase key) name)
        → bytes_eq (str_to_ascii_lowercase (b ∷ latin1_text key)) name ≡ bytes_eq (str_to_ascii_lowercase (b ∷ key)) name
    by_name [] all ih = refl
    by_name (n ∷ name) all ih =
        ap (λ (t : Bool). nat_eq (to_ascii_lowercase b) n && t) (ih name (all_tail (λ x. nat_lt x 128) n name all))

module _ (name : List ℕ) (ascii : are_ascii (str_to_ascii_lowercase name) ≡ true) where
  same_name : (header : Header) → has_key name header ≡ str_eq_ignore_ascii_case header.key name
  same_name header = same_key header.key (str_to_ascii_lowercase name) ascii

  pub some_named : (headers : List Header) → is_none (find (has_key name) headers) ≡ false → HasSome name headers
  some_named [] h = absurd (cc)
  some_named (header ∷ headers) h = elim (cases_Bool (has_key name header)) [
    | inl e ↦ first_has (sym (same_name header) ∙ e)
    | inr e ↦
        later_has (some_named headers
        (sym (ap (λ (t : Bool). is_none (cond t (Some header) (find (has_key name) headers))) e) ∙ h))
  ]

  pub named_some : (headers : List Header) → HasSome name headers → is_none (find (has_key name) headers) ≡ false
  named_some headers (first_has {header = header} {headers = others} e) =
      ap (λ (t : Bool). is_none (cond t (Some header) (find (has_key name) others))) (same_name header ∙ e)
  named_some headers (later_has {header = header} {headers = others} more) = elim (cases_Bool (has_key name header)) [
    | inl e ↦ ap (λ (t : Bool). is_none (cond t (Some header) (find (has_key name) others))) e
    | inr e ↦ ap (λ (t : Bool). is_none (cond t (Some header) (find (has_key name) others))) e ∙ named_some others more
  ]

-- ---- the name of a file

pub type_missing : (given : Option (List ℕ)) (missing : Bool) → (is_some (filled given) && missing) ≡ false
    → (file : List ℕ) → given ≡ Some file → is_empty (trim file) ≡ false → missing ≡ false
type_missing given missing h file e f =
    second_false (is_some (filled given)) missing
    (ap (λ (o : Option (List ℕ)). is_some (filled o)) e ∙ ap (λ (t : Bool). is_some (cond t None (Some file))) f) h

pub missing_type : (given : Option (List ℕ)) (missing : Bool)
    → ((file : List ℕ) → given ≡ Some file → is_empty (trim file) ≡ false → missing ≡ false)
    → (is_some (filled given) && missing) ≡ false
missing_type None missing f = refl
missing_type (Some file) missing f = elim (cases_Bool (is_empty (trim file))) [
  | inl e ↦ and_left (is_some (filled (Some file))) missing (ap (λ (t : Bool). is_some (cond t None (Some file))) e)
  | inr e ↦ and_right (is_some (filled (Some file))) missing (f file refl e)
]

pub same_names : (shown typed : Option (List ℕ)) → names_differ shown typed ≡ false
    → (file name : List ℕ) → shown ≡ Some file → typed ≡ Some name → is_empty name ≡ false → file ≡ name
same_names shown typed h file name e f some =
    let both = subst (λ (o : Option (List ℕ)). names_differ (Some file) o ≡ false) f
    (subst (λ (o : Option (List ℕ)). names_differ o typed ≡ false) e h) in
    (bytes_eq-Decides file name).0 (not-false (bytes_eq file name)
    (second_false (not (is_empty name)) (not (bytes_eq file name)) (not_from_false (is_empty name) some) both))

pub names_same : (shown typed : Option (List ℕ))
    → ((file name : List ℕ) → shown ≡ Some file → typed ≡ Some name → is_empty name ≡ false → file ≡ name)
    → names_differ shown typed ≡ false
names_same None typed f = refl
names_same (Some file) None f = refl
names_same (Some file) (Some name) f = elim (cases_Bool (is_empty name)) [
  | inl e ↦ and_left (not (is_empty name)) (not (bytes_eq file name)) (ap not e)
  | inr e ↦
      and_right (not (is_empty name)) (not (bytes_eq file name))
      (ap not ((bytes_eq-Decides file name).1 (f file name refl refl e)))
]
