-- The types, bodies and texts of plain outlines are those of strict mails.
use Rattle.std.proofs.Common.{◌≡◌, ◌∙◌, ◌≤◌, ℕ, zero, suc, Bool, true, false, cond, not, List, [], ◌∷◌, ◌++◌, length, find, Option, Some, None, option_map, refl, sym, ap, subst, inl, inr, arith}
use Rattle.std.specs.Prelude.{⊤, IsUtf8, ◌||◌, ◌==◌, codes}
use Rattle.std.specs.Char.{is_ascii_alphanumeric}
use Rattle.std.specs.List.{AllByRecursion, list_all, list_any}
use Rattle.std.specs.Option.{option_map_or}
use Rattle.std.specs.Str.{bytes_eq, str_eq_ignore_ascii_case, str_to_ascii_lowercase}
use Rattle.std.proofs.lemmas.Bool.{and_parts, false≢true}
use Rattle.std.proofs.lemmas.Bool.{and_from, and_left, cases_Bool}
use Rattle.std.proofs.lemmas.Bool.Decides.{nat_tests}
use Rattle.std.proofs.lemmas.Str.{encodes-IsAscii}
use lib.Pointwise.{bytes_decides}
use Rattle.mail_codec.specs.Charset.{Charsets, four_charsets}
use Rattle.mail_codec.specs.Places.{has_prefix}
use Rattle.mailparse.specs.Body.{kind_named, decoded}
use Rattle.mailparse.specs.ContentType.{ContentType, content_type_in, default_type}
use Rattle.mailparse.specs.Continuations.{parameters_in}
use Rattle.mailparse.specs.Pairs.{pairs_of}
use Rattle.mailparse.specs.Segments.{segments}
use Rattle.mail_laws.proofs.lemmas.StarFree.{star_free_pairs_are_parameters}
use Rattle.mailparse.specs.Disposition.{default_disposition, disposition_in}
use Rattle.mailparse.specs.Header.{Header}
use Rattle.mailparse.specs.Mail.{Node, tree, Forest, shown_as}
use Rattle.mailparse.specs.Map.{has_key}
use Rattle.mailparse.specs.Value.{lenient_value_in}
use Rattle.mail_read.specs.lenient.Content.{lenient_content, message_content}
use Rattle.mail_read.specs.lenient.Encoding.{name_at, lenient_kind, lenient_kind_named}
use Rattle.mail_check.specs.Parameters.{parameter_names}
use Rattle.mail_grammar.specs.Bodies.{HasStrictBody, IsEncoded}
use Rattle.mail_check_laws.specs.Charsets.{is_ascii_byte, this_label, HasNoMark, in_us_ascii, in_utf_8}
use Rattle.mail_grammar.specs.Fields.{HasNone, another, HasAtMostOne, other_name, the_one, is_boundary_character, IsBoundary, last_character, more_characters, of_multipart, IsType, IsField, is_of_messages, encoding_names, IsOneOf, name_here}
use Rattle.mail_grammar.specs.FileNames.{names_of_disposition, names_of_type, HasOwnNames, HasStrictFileName}
use Rattle.mail_grammar.specs.LineEnds.{is_line_byte, AreLines, in_line, end_of_line, no_line}
use Rattle.mail_grammar.specs.Parameters.{no_gap, gap_blank, is_name_character, is_token_character}
use Rattle.mail_grammar.specs.PlainParameters.{IsPlainType, plain_type, plain_token, plain_parameter, no_plain, HasNoWord, no_word, no_word_here, HasPlainValue, IsPlainDisposition, plain_disposition}
use Rattle.mail_check_laws.specs.Texts.{HasStrictText, IsReadableText}
use Rattle.mail_check_laws.proofs.lemmas.Reading.{all_with}
use Rattle.mail_check_laws.proofs.lemmas.Values.{plain_type_text, plain_disposition_text}
use Rattle.mail_laws.specs.Boundaries.{boundary_type, one_text}
use Rattle.mail_address.specs.Encode.{is_plain_value}
use Rattle.mail_address.proofs.lemmas.EncodeRead.{plain_reads}
use Rattle.mail_clean.specs.PlainOutlines.{IsBareDisposition, is_inline, is_attachment, IsIdentity, in_seven_bits, in_eight_bits, as_binary, IsPlainHeader}
use Rattle.mail_laws.specs.Render.{is_key, type_header, type_of}
use Rattle.mail_laws.proofs.lemmas.Boundaries.{boundary_content_type}
use Rattle.mail_laws.proofs.lemmas.RenderTypes.{IsAlphanumeric-from, key_ascii}
use Rattle.mail_grammar.proofs.lemmas.Boundaries.{all_head, all_tail}

-- ---- headers without a name

-- no header has the name
abbrev pub Lack : List ℕ → List Header → Type 0
Lack name headers = AllByRecursion (λ h. str_eq_ignore_ascii_case h.key name ≡ false) headers

pub none_lack : (name : List ℕ) (headers : List Header) → HasNone name headers → Lack name headers
none_lack name [] none = tt
none_lack name (h ∷ headers) (another other more) = (other, none_lack name headers more)

-- this is so of a header, if there is one
abbrev OfSome : (Header → Type 0) → Option Header → Type 0
OfSome P None = ⊤
OfSome P (Some h) = P h

-- this is so of the first header with a name, if it is so of each plain header with that name
first_named : (P : Header → Type 0) (name : List ℕ)
    → ((h : Header) → IsPlainHeader h → str_eq_ignore_ascii_case h.key name ≡ true → P h)
    → (headers : List Header) → list_all (λ h. is_key h.key) headers ≡ true → AllByRecursion IsPlainHeader headers
    → OfSome P (find (has_key name) headers)
first_named P name so [] keys plain = tt
first_named P name so (h ∷ headers) keys plain =
    let key = and_parts (is_key h.key) (list_all (λ x. is_key x.key) headers) keys in
    let same : has_key name h ≡ str_eq_ignore_ascii_case h.key name =
    ap (λ (k : List ℕ). str_eq_ignore_ascii_case k name) (encodes-IsAscii h.key (key_ascii h.key key.0)) in
    elim (cases_Bool (has_key name h)) [
      | inl e ↦ subst (λ (t : Bool). OfSome P (cond t (Some h) (find (has_key name) headers))) (sym e)
          (so h plain.0 (sym same ∙ e))
      | inr e ↦ subst (λ (t : Bool). OfSome P (cond t (Some h) (find (has_key name) headers))) (sym e)
          (first_named P name so headers key.1 plain.1)
    ]

-- ---- the type

find_lack : (headers : List Header) → Lack (codes "Content-Type") headers → type_header headers ≡ None
find_lack [] lack = refl
find_lack (h ∷ headers) lack =
    ap (λ (t : Bool). cond t (Some h) (type_header headers)) lack.0 ∙ find_lack headers lack.1

-- each header with a type has this value
abbrev pub TypedAs : List ℕ → Header → Type 0
TypedAs value h = str_eq_ignore_ascii_case h.key (codes "Content-Type") ≡ true → h.value ≡ value

lack_typed : (value : List ℕ) (headers : List Header) → Lack (codes "Content-Type") headers
    → AllByRecursion (TypedAs value) headers
lack_typed value [] lack = tt
lack_typed value (h ∷ headers) lack = ((λ e. absurd (false≢true (sym lack.0 ∙ e))), lack_typed value headers lack.1)

pub one_typed : (value : List ℕ) (headers : List Header) → HasAtMostOne (codes "Content-Type") headers
    → option_map_or (λ h. bytes_eq h.value value) (type_header headers) false ≡ true → AllByRecursion (TypedAs value) headers
one_typed value [] one names = tt
one_typed value (h ∷ headers) (other_name other more) names =
    let later =
    ap (λ (t : Bool). option_map_or (λ (x : Header). bytes_eq x.value value)
    (cond t (Some h) (type_header headers)) false) other in
    ((λ e. absurd (false≢true (sym other ∙ e))), one_typed value headers more (sym later ∙ names))
one_typed value (h ∷ headers) (the_one same none) names =
    let here =
    ap (λ (t : Bool). option_map_or (λ (x : Header). bytes_eq x.value value)
    (cond t (Some h) (type_header headers)) false) same in (
      (λ e. (bytes_decides h.value value).0 (sym here ∙ names)),
      lack_typed value headers
          (none_lack (codes "Content-Type") headers none),
    )

-- ---- a boundary

or_true : (s t : Bool) → s ≡ true → (s || t) ≡ true
or_true true t h = refl
or_true false t h = absurd (false≢true h)

boundary_byte : (b : ℕ) → is_ascii_alphanumeric b ≡ true → is_boundary_character b ≡ true
boundary_byte b h = or_true (is_ascii_alphanumeric b) _ h

no_space : (b : ℕ) → is_ascii_alphanumeric b ≡ true → (b == 32) ≡ false
no_space b h = grind (arith, nat_tests)

no_question : (b : ℕ) → is_ascii_alphanumeric b ≡ true → (61 == b) ≡ false
no_question b h = grind (arith, nat_tests)

no_mark : (b : ℕ) → is_ascii_alphanumeric b ≡ true → (63 == b) ≡ false
no_mark b h = grind (arith, nat_tests)

pub is_boundary : (n b : ℕ) (bs : List ℕ) → list_all is_ascii_alphanumeric (b ∷ bs) ≡ true → length (b ∷ bs) ≤ n
    → IsBoundary n (b ∷ bs)
is_boundary zero b bs all short = absurd (omega arith)
is_boundary (suc n) b [] all short =
    let is = all_head is_ascii_alphanumeric b [] all in last_character (boundary_byte b is) (no_space b is)
is_boundary (suc n) b (c ∷ bs) all short =
    more_characters (boundary_byte b (all_head is_ascii_alphanumeric b (c ∷ bs) all))
    (is_boundary n c bs (all_tail is_ascii_alphanumeric b (c ∷ bs) all) (omega (arith, short)))

alphanumeric_name : (xs : List ℕ) → list_all is_ascii_alphanumeric xs ≡ true → list_all is_name_character xs ≡ true
alphanumeric_name [] all = refl
alphanumeric_name (b ∷ xs) all =
    and_from (is_name_character b) (list_all is_name_character xs)
    (or_true (is_token_character b) _ (or_true (is_ascii_alphanumeric b) _ (all_head is_ascii_alphanumeric b xs all)))
    (alphanumeric_name xs (all_tail is_ascii_alphanumeric b xs all))

alphanumeric_wordless : (xs : List ℕ) → list_all is_ascii_alphanumeric xs ≡ true → HasNoWord xs
alphanumeric_wordless [] all = no_word
alphanumeric_wordless (b ∷ xs) all =
    no_word_here (and_left (61 == b) (has_prefix (codes "?") xs) (no_question b (all_head is_ascii_alphanumeric b xs all)))
    (alphanumeric_wordless xs (all_tail is_ascii_alphanumeric b xs all))

pub wordless_before : (xs rest : List ℕ) → list_all (λ b. not (61 == b)) xs ≡ true → HasNoWord rest → HasNoWord (xs ++ rest)
wordless_before [] rest all more = more
wordless_before (b ∷ xs) rest all more =
    no_word_here (and_left (61 == b) (has_prefix (codes "?") (xs ++ rest))
    (is_false (61 == b) (all_head (λ b. not (61 == b)) b xs all)))
    (wordless_before xs rest (all_tail (λ b. not (61 == b)) b xs all) more)
  where
    is_false : (t : Bool) → not t ≡ true → t ≡ false
    is_false false h = refl
    is_false true h = absurd (false≢true h)

type_wordless : (b : ℕ) (bs : List ℕ) → list_all is_ascii_alphanumeric (b ∷ bs) ≡ true
    → HasNoWord (codes "mixed; boundary=" ++ (b ∷ bs))
type_wordless b bs all =
    wordless_before (codes "mixed; boundary") (61 ∷ b ∷ bs) refl
    (no_word_here (and_left (63 == b) true (no_mark b (all_head is_ascii_alphanumeric b bs all)))
    (alphanumeric_wordless (b ∷ bs) all))

pub boundary_plain : (b : ℕ) (bs : List ℕ) → list_all is_ascii_alphanumeric (b ∷ bs) ≡ true → IsPlainType (boundary_type (b ∷ bs))
boundary_plain b bs all =
    plain_type {text = codes "mixed; boundary=" ++ (b ∷ bs)} (codes "multipart") refl
    (record {
      first = 109;
      others = codes "ixed";
      rest = codes "; boundary=" ++ (b ∷ bs);
      names = codes "boundary" ∷ [];
      begins = refl;
      characters = refl;
      parameters = plain_parameter {names = []} {gap = codes " "} {value = b ∷ bs} 98 (codes "oundary") []
          (gap_blank refl no_gap) refl
          (plain_token (alphanumeric_name (b ∷ bs) all)) refl no_plain
          (ap (λ (x : List ℕ). codes "; boundary=" ++ x) (sym (nil (b ∷ bs))));
      made = refl;
      word = type_wordless b bs all;
    })
    refl
  where
    nil : (xs : List ℕ) → xs ++ [] ≡ xs
    nil [] = refl
    nil (x ∷ xs) = ap (λ ys. x ∷ ys) (nil xs)

-- the names of its parameters
pub type_names : (value : List ℕ) (one two : IsPlainType value) → names_of_type one ≡ names_of_type two
type_names value one two =
    let first = plain_type_text value one in
    let second = plain_type_text value two in
    let both : Some first.text ≡ Some second.text = sym first.same ∙ second.same in
    let same : first.text ≡ second.text = cc in
    sym first.named ∙ ap parameter_names same ∙ second.named

plain_names : (b : ℕ) (bs : List ℕ) (all : list_all is_ascii_alphanumeric (b ∷ bs) ≡ true)
    → names_of_type (boundary_plain b bs all) ≡ codes "boundary" ∷ []
unfolding boundary_plain
plain_names b bs all = refl

pub boundary_names : (b : ℕ) (bs : List ℕ) → list_all is_ascii_alphanumeric (b ∷ bs) ≡ true
    → (is : IsPlainType (boundary_type (b ∷ bs))) → list_any (bytes_eq (codes "filename")) (names_of_type is) ≡ false
boundary_names b bs all is =
    ap (list_any (bytes_eq (codes "filename")))
    (type_names (boundary_type (b ∷ bs)) is (boundary_plain b bs all) ∙ plain_names b bs all)

-- ---- the headers of a message of this type

-- what a header says of the type
pub record IsTyped (ctype : ContentType) (h : Header) : Type 0 where
  pub type : str_eq_ignore_ascii_case h.key (codes "Content-Type") ≡ true → IsType ctype
  pub plain : str_eq_ignore_ascii_case h.key (codes "Content-Type") ≡ true → IsPlainType h.value
  pub own : str_eq_ignore_ascii_case h.key (codes "Content-Type") ≡ true → (is : IsPlainType h.value)
      → list_any (bytes_eq (codes "filename")) (names_of_type is) ≡ false

pub untyped : (ctype : ContentType) (headers : List Header) → Lack (codes "Content-Type") headers
    → AllByRecursion (IsTyped ctype) headers
untyped ctype [] lack = tt
untyped ctype (h ∷ headers) lack = (
  record {
    type = λ e. absurd (false≢true (sym lack.0 ∙ e));
    plain = λ e. absurd (false≢true (sym lack.0 ∙ e));
    own = λ e is. absurd (false≢true (sym lack.0 ∙ e));
  },
  untyped ctype headers lack.1,
)

pub typed : (value : List ℕ) → IsPlainType value
    → ((is : IsPlainType value) → list_any (bytes_eq (codes "filename")) (names_of_type is) ≡ false)
    → (ctype : ContentType) → IsType ctype → (headers : List Header) → AllByRecursion (TypedAs value) headers
    → AllByRecursion (IsTyped ctype) headers
typed value plain own ctype is [] same = tt
typed value plain own ctype is (h ∷ headers) same = (
  record {
    type = λ e. is;
    plain = λ e. subst IsPlainType (sym (same.0 e)) plain;
    own = λ e. subst (λ (v : List ℕ). (is : IsPlainType v) → list_any (bytes_eq (codes "filename")) (names_of_type is) ≡ false)
        (sym (same.0 e)) own;
  },
  typed value plain own ctype is headers same.1,
)

-- an encoding that leaves a body as it is may be that of any type
identity_named : (composite : Bool) (value : List ℕ) → IsIdentity value → IsOneOf (encoding_names composite) value
identity_named true value in_seven_bits = name_here refl
identity_named true value in_eight_bits = name_here refl
identity_named true value as_binary = name_here refl
identity_named false value in_seven_bits = name_here refl
identity_named false value in_eight_bits = name_here refl
identity_named false value as_binary = name_here refl

-- a disposition without parameters is plain
bare_plain : (value : List ℕ) → IsBareDisposition value → IsPlainDisposition value
bare_plain value is_inline =
    plain_disposition
    (record {
      first = 105;
      others = codes "nline";
      rest = [];
      names = [];
      begins = refl;
      characters = refl;
      parameters = no_plain;
      made = refl;
      word = wordless_before (codes "inline") [] refl no_word;
    })
bare_plain value is_attachment =
    plain_disposition
    (record {
      first = 97;
      others = codes "ttachment";
      rest = [];
      names = [];
      begins = refl;
      characters = refl;
      parameters = no_plain;
      made = refl;
      word = wordless_before (codes "attachment") [] refl no_word;
    })

bare_names : (value : List ℕ) (is : IsBareDisposition value) → names_of_disposition (bare_plain value is) ≡ []
unfolding bare_plain
bare_names value is_inline = refl
bare_names value is_attachment = refl

disposition_names : (value : List ℕ) (one two : IsPlainDisposition value) → names_of_disposition one ≡ names_of_disposition two
disposition_names value one two =
    let first = plain_disposition_text value one in
    let second = plain_disposition_text value two in
    let both : Some first.text ≡ Some second.text = sym first.same ∙ second.same in
    let same : first.text ≡ second.text = cc in
    sym first.named ∙ ap parameter_names same ∙ second.named

bare_own : (value : List ℕ) → IsBareDisposition value → (is : IsPlainDisposition value)
    → list_any (bytes_eq (codes "name")) (names_of_disposition is) ≡ false
bare_own value bare is =
    ap (list_any (bytes_eq (codes "name"))) (disposition_names value is (bare_plain value bare) ∙ bare_names value bare)

pub header_field : (ctype : ContentType) (h : Header) → IsPlainHeader h → IsTyped ctype h → IsField ctype h
header_field ctype h plain type = record {
  encoding = λ e. identity_named (is_of_messages ctype) h.value (plain.encoding e);
  type = type.type;
  type_value = λ e. (plain_type_text h.value (type.plain e)).is;
  disposition_value = λ e. (plain_disposition_text h.value (bare_plain h.value (plain.disposition e))).is;
}

pub header_plain : (ctype : ContentType) (h : Header) → IsPlainHeader h → IsTyped ctype h → HasPlainValue h
header_plain ctype h plain type = record {
  type = type.plain;
  disposition = λ e. bare_plain h.value (plain.disposition e);
}

header_own : (ctype : ContentType) (h : Header) → IsPlainHeader h → IsTyped ctype h → HasOwnNames h
header_own ctype h plain type = record {
  type = type.own;
  disposition = λ e. bare_own h.value (plain.disposition e);
}

-- a header is a disposition without parameters
abbrev Bare : Header → Type 0
Bare h = IsBareDisposition h.value × (is_plain_value h.value ≡ true)

bare_pairs : (value : List ℕ) → IsBareDisposition value → pairs_of value ≡ []
unfolding pairs_of segments
bare_pairs value is_inline = refl
bare_pairs value is_attachment = refl

bare_params : (known : Charsets) (value name : List ℕ) → IsBareDisposition value → (disposition_in known value).params name ≡ None
unfolding disposition_in
bare_params known value name is =
    ap (λ pairs. parameters_in known pairs name) (bare_pairs value is)
    ∙ star_free_pairs_are_parameters known [] (λ i d lt. absurd (omega arith)) name

no_file : (node : Node) → list_all (λ h. is_key h.key) node.headers ≡ true → AllByRecursion IsPlainHeader node.headers
    → (shown_as node).params (codes "filename") ≡ None
no_file node keys plain =
    go (find (has_key (codes "Content-Disposition")) node.headers)
    (first_named Bare (codes "Content-Disposition") (λ h plain e. (plain.disposition e, plain.value)) node.headers keys plain)
  where
    go : (o : Option Header) → OfSome Bare o
        → (option_map_or (disposition_in four_charsets) (option_map (λ h. lenient_value_in four_charsets h.value) o)
        default_disposition).params (codes "filename") ≡ None
    go None is = refl
    go (Some h) is =
        ap (λ (x : List ℕ). (disposition_in four_charsets x).params (codes "filename")) (plain_reads four_charsets h.value is.1)
        ∙ bare_params four_charsets h.value (codes "filename") is.0

pub files_are_strict : (node : Node) → list_all (λ h. is_key h.key) node.headers ≡ true
    → AllByRecursion IsPlainHeader node.headers
    → AllByRecursion (IsTyped node.ctype) node.headers → HasStrictFileName node
files_are_strict node keys plain type =
    let none = no_file node keys plain in
    record {
      names = all_with IsPlainHeader (IsTyped node.ctype) HasOwnNames (header_own node.ctype) node.headers plain type;
      typed = λ file e some. let both : None ≡ Some file = sym none ∙ e in absurd (cc);
      same = λ file name e other some. let both : None ≡ Some file = sym none ∙ e in absurd (cc);
    }

-- ---- the types

pub default_typed : (known : Charsets) (headers : List Header) → HasNone (codes "Content-Type") headers
    → type_of known headers ≡ default_type
default_typed known headers none =
    ap (λ (o : Option Header). option_map_or (λ h. content_type_in known h.value) o default_type)
    (find_lack headers (none_lack (codes "Content-Type") headers none))

-- the type with this boundary
abbrev pub parted : List ℕ → ContentType
parted boundary = record {
  mimetype = codes "multipart/mixed";
  charset = codes "us-ascii";
  params = one_text
      (codes "boundary") boundary;
}

-- the type that a value names is that of the first header with a type, if that has this value
pub named_type : (known : Charsets) (headers : List Header) (value : List ℕ) (ctype : ContentType)
    → option_map_or (λ h. bytes_eq h.value value) (type_header headers) false ≡ true
    → content_type_in known value ≡ ctype → type_of known headers ≡ ctype
named_type known headers value ctype names is = go (type_header headers) names
  where
    go : (o : Option Header) → option_map_or (λ h. bytes_eq h.value value) o false ≡ true
        → option_map_or (λ h. content_type_in known h.value) o default_type ≡ ctype
    go None e = absurd (false≢true e)
    go (Some h) e = ap (content_type_in known) ((bytes_decides h.value value).0 e) ∙ is

pub boundary_typed : (known : Charsets) (headers : List Header) (boundary : List ℕ)
    → option_map_or (λ h. bytes_eq h.value (boundary_type boundary)) (type_header headers) false ≡ true
    → list_all is_ascii_alphanumeric boundary ≡ true → type_of known headers ≡ parted boundary
boundary_typed known headers boundary names all =
    named_type known headers (boundary_type boundary) (parted boundary) names
    (boundary_content_type known boundary (IsAlphanumeric-from known boundary all))

pub parted_is_type : (b : ℕ) (bs : List ℕ) → list_all is_ascii_alphanumeric (b ∷ bs) ≡ true → length (b ∷ bs) ≤ 70
    → IsType (parted (b ∷ bs))
parted_is_type b bs all short = record {
  message = λ e. absurd (false≢true e);
  boundary = of_multipart {text = b ∷ bs} refl refl (is_boundary 70 b bs all short);
}

-- ---- bodies and texts

-- a header names an encoding that leaves a body as it is
abbrev Identity : Header → Type 0
Identity h = IsIdentity h.value × (is_plain_value h.value ≡ true)

first_identity : (headers : List Header) → list_all (λ h. is_key h.key) headers ≡ true → AllByRecursion IsPlainHeader headers
    → OfSome Identity (find (has_key (codes "Content-Transfer-Encoding")) headers)
first_identity = first_named Identity (codes "Content-Transfer-Encoding") (λ h plain e. (plain.encoding e, plain.value))

kept_none : (body : List ℕ) → IsEncoded (kind_named None) body
unfolding kind_named
kept_none body = tt

kept_some : (value body : List ℕ) → IsIdentity value → IsEncoded (kind_named (Some (str_to_ascii_lowercase value))) body
unfolding kind_named
kept_some value body in_seven_bits = tt
kept_some value body in_eight_bits = tt
kept_some value body as_binary = tt

pub leaf_body : (node : Node) (parts : Forest) → list_all (λ h. is_key h.key) node.headers ≡ true
    → AllByRecursion IsPlainHeader node.headers
    → HasStrictBody (tree node parts)
leaf_body node parts keys plain =
    record {
      encoded = λ e. go (find (has_key (codes "Content-Transfer-Encoding")) node.headers)
          (first_identity node.headers keys plain);
    }
  where
    go : (o : Option Header) → OfSome Identity o
        → IsEncoded
        (kind_named (option_map str_to_ascii_lowercase (option_map (λ h. lenient_value_in four_charsets h.value) o))) node.body
    go None is = kept_none node.body
    go (Some h) is =
        subst (λ (x : List ℕ). IsEncoded (kind_named (Some (str_to_ascii_lowercase x))) node.body)
        (sym (plain_reads four_charsets h.value is.1)) (kept_some h.value node.body is.0)

content_none : (body : List ℕ) → (lenient_content (lenient_kind None) body).bytes ≡ body
unfolding lenient_content lenient_kind lenient_kind_named kind_named decoded
content_none body = refl

content_some : (value body : List ℕ) → IsIdentity value → (lenient_content (lenient_kind (Some value)) body).bytes ≡ body
unfolding lenient_content lenient_kind lenient_kind_named kind_named decoded name_at
content_some value body in_seven_bits = refl
content_some value body in_eight_bits = refl
content_some value body as_binary = refl

content_of : (node : Node) → list_all (λ h. is_key h.key) node.headers ≡ true → AllByRecursion IsPlainHeader node.headers
    → (message_content node).bytes ≡ node.body
content_of node keys plain =
    go (find (has_key (codes "Content-Transfer-Encoding")) node.headers) (first_identity node.headers keys plain)
  where
    go : (o : Option Header) → OfSome Identity o
        → (lenient_content (lenient_kind (option_map (λ h. lenient_value_in four_charsets h.value) o)) node.body).bytes
        ≡ node.body
    go None is = content_none node.body
    go (Some h) is =
        ap (λ (x : List ℕ). (lenient_content (lenient_kind (Some x)) node.body).bytes) (plain_reads four_charsets h.value is.1)
        ∙ content_some h.value node.body is.0

line_no_nul : (b : ℕ) → is_line_byte b ≡ true → not (b == 0) ≡ true
line_no_nul b h = grind (arith, nat_tests)

lines_no_nul : (xs : List ℕ) → AreLines (codes "\r\n") xs → list_all (λ b. not (b == 0)) xs ≡ true
lines_no_nul xs no_line = refl
lines_no_nul xs (in_line {b = b} {rest = rest} is lines) =
    and_from (not (b == 0)) (list_all (λ b. not (b == 0)) rest) (line_no_nul b is) (lines_no_nul rest lines)
lines_no_nul xs (end_of_line {rest = rest} lines made) =
    subst (λ (ys : List ℕ). list_all (λ b. not (b == 0)) ys ≡ true) (sym made) (lines_no_nul rest lines)

low_mark : (b m : ℕ) → 128 ≤ m → is_ascii_byte b ≡ true → (m == b) ≡ false
low_mark b m high h = grind (arith, nat_tests)

ascii_unmarked : (xs : List ℕ) → list_all is_ascii_byte xs ≡ true → HasNoMark xs
ascii_unmarked [] all = record { utf_8 = refl; utf_16_be = refl; utf_16_le = refl }
ascii_unmarked (b ∷ xs) all =
    let low = all_head is_ascii_byte b xs all in
    record {
      utf_8 = and_left (0xEF == b) _ (low_mark b 0xEF (omega arith) low);
      utf_16_be = and_left (0xFE == b) _ (low_mark b 0xFE (omega arith) low);
      utf_16_le = and_left (0xFF == b) _ (low_mark b 0xFF (omega arith) low);
    }

pub ascii_readable : (known : Charsets) (xs : List ℕ) → list_all is_ascii_byte xs ≡ true → AreLines (codes "\r\n") xs
    → IsReadableText known (codes "us-ascii") xs
ascii_readable known xs all lines = record {
  no_nul = lines_no_nul xs lines;
  mark = ascii_unmarked xs all;
  charset = in_us_ascii (this_label refl) all;
}

pub utf_8_readable : (known : Charsets) (xs : List ℕ) → IsUtf8 xs → HasNoMark xs → AreLines (codes "\r\n") xs
    → IsReadableText known (codes "utf-8") xs
utf_8_readable known xs text mark lines = record {
  no_nul = lines_no_nul xs lines;
  mark = mark;
  charset = in_utf_8 (this_label refl) text;
}

pub leaf_text : (known : Charsets) (node : Node) (parts : Forest) → list_all (λ h. is_key h.key) node.headers ≡ true
    → AllByRecursion IsPlainHeader node.headers → (label : List ℕ) → node.ctype.charset ≡ label
    → IsReadableText known label node.body → HasStrictText known (tree node parts)
leaf_text known node parts keys plain label is text = record {
  readable = λ e f. subst (λ (label : List ℕ). IsReadableText known label (message_content node).bytes) (sym is)
      (subst (IsReadableText known label) (sym (content_of node keys plain)) text);
}
