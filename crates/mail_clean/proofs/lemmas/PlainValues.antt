-- Plain values mean what the port reads, and each of them has one meaning.
use Rattle.std.proofs.Common.{◌≡◌, ◌∙◌, ℕ, zero, suc, Bool, true, false, not, cond, List, [], ◌∷◌, ◌++◌, map, Option, Some, None}
use Rattle.std.proofs.Common.{refl, sym, ap, inl, inr, arith}
use Rattle.std.specs.List.{list_all, list_any}
use Rattle.std.specs.Map.{update, update_all}
use Rattle.std.specs.Str.{bytes_eq, str_to_ascii_lowercase}
use Rattle.std.proofs.lemmas.Bool.{cond-false, false≢true}
use Rattle.std.proofs.lemmas.Bool.{and_parts, cases_Bool, not-true, or_parts}
use Rattle.std.proofs.lemmas.Slice.Eq.{bytes_eq-Decides}
use Rattle.mail_codec.specs.Ascii.{slash}
use Rattle.mail_codec.specs.Charset.{Charsets, four_charsets}
use Rattle.mailparse.specs.ContentType.{content_type_in, type_with}
use Rattle.mailparse.specs.Continuations.{parameters_in}
use Rattle.mailparse.specs.Disposition.{disposition_in, disposition_named}
use Rattle.mailparse.specs.Pairs.{Texts, no_texts, pairs_of, value_of}
use Rattle.mailparse.specs.Sections.{is_star}
use Rattle.mailparse.specs.Value.{lenient_value_in}
use Rattle.mail_read.specs.lenient.Agreement.{is_star_free}
use Rattle.mail_grammar.specs.PlainParameters.{IsPlainValue, plain_token, empty_quotes, plain_quotes, ArePlain, no_plain}
use Rattle.mail_grammar.specs.PlainParameters.{plain_semicolon, plain_parameter, IsPlain, IsPlainType}
use Rattle.mail_grammar.specs.PlainParameters.{blank_before_plain_type, plain_type, IsPlainDisposition}
use Rattle.mail_grammar.specs.PlainParameters.{blank_before_plain_disposition, plain_disposition}
use Rattle.mail_grammar.specs.PlainValues.{Parameters, text_named, IsValueOf, token_of, empty_of, quotes_of, AreParametersOf, none_of}
use Rattle.mail_grammar.specs.PlainValues.{semicolon_of, parameter_of, IsPlainOf, IsTypeOf, blank_before_type_of, type_of}
use Rattle.mail_grammar.specs.PlainValues.{IsDispositionOf, blank_before_disposition_of, disposition_of, meant_type}
use Rattle.mail_grammar.specs.PlainValues.{meant_disposition}
use Rattle.mail_laws.specs.StarFree.{AreStarFree}
use Rattle.mail_grammar.proofs.lemmas.FlatPairs.{all_both, flat_free, head_read, is_head, is_low, token_head}
use Rattle.mail_grammar.proofs.lemmas.FoldedTypes.{AreApart, IsShown, disposition_shown, type_shown, value_shown}
use Rattle.mail_laws.proofs.lemmas.StarFree.{star_free_pairs_are_parameters}

-- ---- each plain value has a meaning

record ValueMeant (value : List ℕ) : Type 0 where
  text : List ℕ
  is : IsValueOf text value

value_meant : (value : List ℕ) → IsPlainValue value → ValueMeant value
value_meant value (plain_token {first = first} {others = others} all) = record { text = first ∷ others; is = token_of all }
value_meant value empty_quotes = record { text = []; is = empty_of }
value_meant value (plain_quotes {first = first} {others = others} other is made) =
    record { text = first ∷ others; is = quotes_of other is made }

record ParametersMeant (names : List (List ℕ)) (bytes : List ℕ) : Type 0 where
  parameters : Parameters
  named : map (λ p. p.0) parameters ≡ names
  is : AreParametersOf parameters bytes

parameters_meant : (names : List (List ℕ)) (bytes : List ℕ) → ArePlain names bytes → ParametersMeant names bytes
parameters_meant names bytes no_plain = record { parameters = []; named = refl; is = none_of }
parameters_meant names bytes plain_semicolon = record { parameters = []; named = refl; is = semicolon_of }
parameters_meant names bytes
    (plain_parameter {names = others_named} {value = value} first others rest is_gap all is other more made) =
    let key : List ℕ = str_to_ascii_lowercase (first ∷ others) in
    let meant = value_meant value is in
    let left = parameters_meant others_named rest more in
    record {
      parameters = (key, meant.text) ∷ left.parameters;
      named = ap (λ (ns : List (List ℕ)). key ∷ ns) left.named;
      is = parameter_of first others rest is_gap all meant.is (ap (list_any (bytes_eq key)) left.named ∙ other) left.is made;
    }

record PlainMeant (bytes : List ℕ) : Type 0 where
  name : List ℕ
  parameters : Parameters
  is : IsPlainOf name parameters bytes

plain_meant : (bytes : List ℕ) → IsPlain bytes → PlainMeant bytes
plain_meant bytes is =
    let left = parameters_meant is.names is.rest is.parameters in
    record {
      name = str_to_ascii_lowercase (is.first ∷ is.others);
      parameters = left.parameters;
      is = record {
        first = is.first;
        others = is.others;
        rest = is.rest;
        begins = is.begins;
        characters = is.characters;
        named = refl;
        parameters_of = left.is;
        made = is.made;
        word = is.word;
      };
    }

pub record TypeMeant (value : List ℕ) : Type 0 where
  pub mimetype : List ℕ
  pub parameters : Parameters
  pub is : IsTypeOf mimetype parameters value

pub type_meant : (value : List ℕ) → IsPlainType value → TypeMeant value
type_meant value (blank_before_plain_type {rest = rest} is more) =
    let inner = type_meant rest more in
    record { mimetype = inner.mimetype; parameters = inner.parameters; is = blank_before_type_of is inner.is }
type_meant value (plain_type {text = text} main is plain made) =
    let inner = plain_meant text plain in
    record {
      mimetype = str_to_ascii_lowercase main ++ (slash ∷ inner.name);
      parameters = inner.parameters;
      is = type_of main is inner.is refl made;
    }

pub record DispositionMeant (value : List ℕ) : Type 0 where
  pub name : List ℕ
  pub parameters : Parameters
  pub is : IsDispositionOf name parameters value

pub disposition_meant : (value : List ℕ) → IsPlainDisposition value → DispositionMeant value
disposition_meant value (blank_before_plain_disposition {rest = rest} is more) =
    let inner = disposition_meant rest more in
    record { name = inner.name; parameters = inner.parameters; is = blank_before_disposition_of is inner.is }
disposition_meant value (plain_disposition plain) =
    let inner = plain_meant value plain in
    record { name = inner.name; parameters = inner.parameters; is = disposition_of inner.is }

-- ---- each value with a meaning is plain

value_plain : {text : List ℕ} (value : List ℕ) → IsValueOf text value → IsPlainValue value
value_plain value (token_of all) = plain_token all
value_plain value empty_of = empty_quotes
value_plain value (quotes_of other is made) = plain_quotes other is made

parameters_plain : {parameters : Parameters} (bytes : List ℕ) → AreParametersOf parameters bytes
    → ArePlain (map (λ p. p.0) parameters) bytes
parameters_plain bytes none_of = no_plain
parameters_plain bytes semicolon_of = plain_semicolon
parameters_plain bytes (parameter_of {value = value} first others rest is_gap all is other more made) =
    plain_parameter first others rest is_gap all (value_plain value is) other (parameters_plain rest more) made

plain_of : {name : List ℕ} {parameters : Parameters} (bytes : List ℕ) → IsPlainOf name parameters bytes → IsPlain bytes
plain_of {parameters = parameters} bytes is = record {
  first = is.first;
  others = is.others;
  rest = is.rest;
  names = map (λ p. p.0) parameters;
  begins = is.begins;
  characters = is.characters;
  parameters = parameters_plain is.rest is.parameters_of;
  made = is.made;
  word = is.word;
}

pub type_plain : (mimetype : List ℕ) (parameters : Parameters) (value : List ℕ) → IsTypeOf mimetype parameters value
    → IsPlainType value
type_plain mimetype parameters value (blank_before_type_of {rest = rest} is more) =
    blank_before_plain_type is (type_plain mimetype parameters rest more)
type_plain mimetype parameters value (type_of {text = text} main is plain named made) = plain_type main is (plain_of text plain) made

pub disposition_plain : (name : List ℕ) (parameters : Parameters) (value : List ℕ) → IsDispositionOf name parameters value
    → IsPlainDisposition value
disposition_plain name parameters value (blank_before_disposition_of {rest = rest} is more) =
    blank_before_plain_disposition is (disposition_plain name parameters rest more)
disposition_plain name parameters value (disposition_of plain) = plain_disposition (plain_of value plain)

-- ---- the texts of parameters

absent : (key name : List ℕ) (parameters : Parameters) → list_any (bytes_eq key) (map (λ p. p.0) parameters) ≡ false
    → bytes_eq key name ≡ true → text_named parameters name ≡ None
absent key name [] none same = refl
absent key name (p ∷ ps) none same =
    let both = or_parts (bytes_eq key p.0) (list_any (bytes_eq key) (map (λ p. p.0) ps)) none in
    cond-false (bytes_eq p.0 name) (Some p.1) (text_named ps name) (other both.0) ∙ absent key name ps both.1 same
  where
    other : bytes_eq key p.0 ≡ false → bytes_eq p.0 name ≡ false
    other apart = elim (cases_Bool (bytes_eq p.0 name)) [
      | inr e ↦ e
      | inl e ↦
          let own : p.0 ≡ name = (bytes_eq-Decides p.0 name).0 e in
          let given : key ≡ name = (bytes_eq-Decides key name).0 same in
          absurd (false≢true (sym apart ∙ (bytes_eq-Decides key p.0).1 (given ∙ sym own)))
    ]

-- the first text, or else the second
or_given : Option (List ℕ) → Option (List ℕ) → Option (List ℕ)
or_given (Some text) given = Some text
or_given None given = given

last_is_first : (texts : Texts) (parameters : Parameters) (name : List ℕ) → AreApart parameters
    → update_all bytes_eq texts parameters name ≡ or_given (text_named parameters name) (texts name)
unfolding or_given
last_is_first texts [] name apart = refl
last_is_first texts (p ∷ ps) name apart =
    last_is_first (update bytes_eq texts p.0 (Some p.1)) ps name apart.1 ∙ by_name (bytes_eq p.0 name) refl
  where
    by_name : (t : Bool) → bytes_eq p.0 name ≡ t
        → or_given (text_named ps name) (cond t (Some p.1) (texts name))
        ≡ or_given (cond t (Some p.1) (text_named ps name)) (texts name)
    by_name true e = ap (λ (o : Option (List ℕ)). or_given o (Some p.1)) (absent p.0 name ps apart.0 e)
    by_name false e = refl

given_none : (o : Option (List ℕ)) → or_given o None ≡ o
unfolding or_given
given_none None = refl
given_none (Some text) = refl

star_free : (parameters : Parameters) → is_star_free parameters ≡ true → AreStarFree parameters
star_free [] h i d low = absurd (omega (arith, low))
star_free (p ∷ ps) h zero d low = not-true (list_any is_star p.0) (and_parts (not (list_any is_star p.0)) (is_star_free ps) h).0
star_free (p ∷ ps) h (suc i) d low =
    star_free ps (and_parts (not (list_any is_star p.0)) (is_star_free ps) h).1 i d (omega (arith, low))

texts_read : (known : Charsets) (parameters : Parameters) → is_star_free parameters ≡ true → AreApart parameters
    → parameters_in known parameters ≡ text_named parameters
texts_read known parameters free apart = λ i name.
    (star_free_pairs_are_parameters known parameters (star_free parameters free) name
    ∙ last_is_first no_texts parameters name apart ∙ given_none (text_named parameters name)) i

-- ---- values are read

-- what is read of a value that begins with this text
record IsReadAs (known : Charsets) (head : List ℕ) (parameters : Parameters) (value : List ℕ) : Type 0 where
  name : value_of (lenient_value_in known value) ≡ head
  pairs : pairs_of (lenient_value_in known value) ≡ parameters
  texts : parameters_in known (pairs_of (lenient_value_in known value)) ≡ text_named parameters

shown_read : (known : Charsets) (head : List ℕ) (parameters : Parameters) (value : List ℕ) → list_all is_low value ≡ true
    → list_all is_head head ≡ true → IsShown head parameters value → IsReadAs known head parameters value
shown_read known head parameters value low all found =
    let same = value_shown known head value low found in
    let read = head_read head found.flat all found.low found.is in
    let pairs = ap pairs_of same ∙ read.1 in
    record {
      name = ap value_of same ∙ read.0;
      pairs = pairs;
      texts = ap (parameters_in known) pairs ∙ texts_read known parameters (flat_free found.flat found.is) found.apart;
    }

-- the name and the parameters of a value
record Parts (known : Charsets) (name : List ℕ) (parameters : Parameters) (value : List ℕ) : Type 0 where
  called : name ≡ str_to_ascii_lowercase (value_of (lenient_value_in known value))
  pairs : pairs_of (lenient_value_in known value) ≡ parameters
  texts : parameters_in known (pairs_of (lenient_value_in known value)) ≡ text_named parameters

type_parts : (known : Charsets) (mimetype : List ℕ) (parameters : Parameters) (value : List ℕ) → list_all is_low value ≡ true
    → IsTypeOf mimetype parameters value → Parts known mimetype parameters value
type_parts known mimetype parameters value low is =
    let type = type_shown [] value refl low is in
    let one : List ℕ = type.first ∷ type.main in
    let two : List ℕ = type.second ∷ type.subtype in
    let read =
    shown_read known (one ++ (slash ∷ two)) parameters value low
    (all_both is_head one (slash ∷ two) (token_head one type.is_main) (token_head two type.is_subtype)) type.shown in
    record { called = type.named ∙ ap str_to_ascii_lowercase (sym read.name); pairs = read.pairs; texts = read.texts }

disposition_parts : (known : Charsets) (name : List ℕ) (parameters : Parameters) (value : List ℕ) → list_all is_low value ≡ true
    → IsDispositionOf name parameters value → Parts known name parameters value
disposition_parts known name parameters value low is =
    let found = disposition_shown [] value refl low is in
    let read =
    shown_read known (found.first ∷ found.others) parameters value low (token_head (found.first ∷ found.others) found.is_token)
    found.shown in
    record { called = found.named ∙ ap str_to_ascii_lowercase (sym read.name); pairs = read.pairs; texts = read.texts }

pub type_read : (known : Charsets) (mimetype : List ℕ) (parameters : Parameters) (value : List ℕ) → list_all is_low value ≡ true
    → IsTypeOf mimetype parameters value → content_type_in known (lenient_value_in known value) ≡ meant_type mimetype parameters
unfolding content_type_in
type_read known mimetype parameters value low is =
    let parts = type_parts known mimetype parameters value low is in
    ap (λ (name : List ℕ). type_with name (parameters_in known (pairs_of (lenient_value_in known value)))) (sym parts.called)
    ∙ ap (type_with mimetype) parts.texts

pub disposition_read : (known : Charsets) (name : List ℕ) (parameters : Parameters) (value : List ℕ)
    → list_all is_low value ≡ true → IsDispositionOf name parameters value
    → disposition_in known (lenient_value_in known value) ≡ meant_disposition name parameters
unfolding disposition_in
disposition_read known name parameters value low is =
    let parts = disposition_parts known name parameters value low is in λ i. record {
      kind = disposition_named (sym parts.called i);
      params = parts.texts i;
    }

-- ---- one meaning

pub one_type : (mimetype other : List ℕ) (parameters others : Parameters) (value : List ℕ) → list_all is_low value ≡ true
    → IsTypeOf mimetype parameters value → IsTypeOf other others value → (mimetype ≡ other) × (parameters ≡ others)
one_type mimetype other parameters others value low is also =
    let first = type_parts four_charsets mimetype parameters value low is in
    let second = type_parts four_charsets other others value low also in
    (first.called ∙ sym second.called, sym first.pairs ∙ second.pairs)

pub one_disposition : (name other : List ℕ) (parameters others : Parameters) (value : List ℕ) → list_all is_low value ≡ true
    → IsDispositionOf name parameters value → IsDispositionOf other others value → (name ≡ other) × (parameters ≡ others)
one_disposition name other parameters others value low is also =
    let first = disposition_parts four_charsets name parameters value low is in
    let second = disposition_parts four_charsets other others value low also in
    (first.called ∙ sym second.called, sym first.pairs ∙ second.pairs)
