-- Lemmas on the texts of names of files.
use Rattle.std.proofs.Common.{◌≡◌, ℕ, false, ltb, List, [], ◌∷◌, length, drop, None, refl, sym, ap, ◌∙◌, arith}
use Rattle.std.specs.Prelude.{nat_eq}
use Rattle.std.specs.List.{after_first, list_any, position_or_len}
use Rattle.std.specs.Option.{is_some, option_map}
use Rattle.std.specs.Str.{IsAscii, IsUtf8, is_utf8}
use Rattle.std.proofs.lemmas.Bool.{cond-false, false_from_ne_true, le-ltb, or_parts}
use Rattle.std.proofs.lemmas.Str.{IsUtf8-from_ascii, IsUtf8-from_is_utf8, is_utf8-from_IsUtf8}
use Rattle.mail_codec.specs.Charset.{text_of}
use Rattle.mail_codec.specs.declared.charset.built_in.Charset.TheVariants.{Windows1252}
use Rattle.mailparse.proofs.lemmas.EncodedWord.{any_from_place}
use Rattle.mail_codec.specs.Charset.{Charsets}
use Rattle.mail_codec.specs.Places.{byte_place}
use Rattle.mail_codec.proofs.lemmas.Places.{first_place-begins}
use Rattle.mailparse.proofs.lemmas.ExtendedValues.{is_some_where}
use Rattle.mailparse.proofs.lemmas.StarFree.{parameters_are_pairs}
use Rattle.mailparse.specs.ContentType.{content_type_in}
use Rattle.mailparse.specs.Continuations.{parameters_in}
use Rattle.mailparse.specs.Disposition.{disposition_in}
use Rattle.mailparse.specs.Pairs.{Texts, pairs_in, pairs_of}
use Rattle.mailparse.specs.Segments.{QuoteState, outside, quoted, escaped, after, ends, with_front, segments, segments_from}
use Rattle.mailparse.specs.Value.{lenient_value_in}
use Rattle.std.specs.Prelude.{codes}
use Rattle.mail_read.specs.Files.{filled, first_text, left_over_text, name_among, no_charsets, shown_name, text_of_octets, typed_name, untagged}
use Rattle.mail_read.specs.HeaderNames.{cut_text}
use Rattle.mail_read.specs.lenient.Undecoded.{undecoded}
use Rattle.mail_read.proofs.lemmas.lenient.Undecoded.{undecoded_ascii}

-- a value with one apostrophe has no tags
pub untagged-one : (value rest : List ℕ) → position_or_len (λ b. nat_eq b 39) rest ≡ length rest → rest ≡ after_first (λ b. nat_eq b 39) value
    → value ≡ untagged value
unfolding untagged
untagged-one value rest none after =
    sym (cond-false _ _ _ (ap (list_any (λ b. nat_eq b 39)) (sym after) ∙ any_from_place (λ b. nat_eq b 39) rest ∙ le-ltb _ _ (omega arith)))

pub octets-utf8 : (bytes : List ℕ) → IsUtf8 bytes → bytes ≡ text_of_octets bytes
unfolding text_of_octets
octets-utf8 bytes some = rw (is_utf8-from_IsUtf8 bytes some) refl

pub is_utf8-false : (bytes : List ℕ) → (IsUtf8 bytes → ⊥) → is_utf8 bytes ≡ false
is_utf8-false bytes none = false_from_ne_true (is_utf8 bytes) (λ e. none (IsUtf8-from_is_utf8 bytes e))

pub octets-other : (bytes : List ℕ) → (IsUtf8 bytes → ⊥) → text_of Windows1252 bytes ≡ text_of_octets bytes
unfolding text_of_octets
octets-other bytes none = rw (is_utf8-false bytes none) refl

-- a value of ASCII is cut as it is
pub cut_ascii : (value : List ℕ) → IsAscii value → cut_text value ≡ lenient_value_in no_charsets value
unfolding cut_text
cut_ascii value ascii =
    ap undecoded (sym (octets-utf8 value (IsUtf8-from_ascii value ascii))) ∙ undecoded_ascii value ascii

-- ---- a text without a semicolon has no parameters

byte_found : (text : List ℕ) (byte : ℕ) → is_some (byte_place text byte) ≡ list_any (λ b. nat_eq b byte) text
byte_found text byte =
    is_some_where _ _ ∙ ap (λ n. ltb n (length text)) (first_place-begins (λ b. nat_eq b byte) text) ∙ sym (any_from_place (λ b. nat_eq b byte) text)

pub semicolon_found : (text : List ℕ) → is_some (byte_place text 59) ≡ list_any (λ b. nat_eq b 59) text
semicolon_found text = byte_found text 59

pub quote_found : (text : List ℕ) → is_some (byte_place text 34) ≡ list_any (λ b. nat_eq b 34) text
quote_found text = byte_found text 34

no_end : (state : QuoteState) (b : ℕ) → nat_eq b 59 ≡ false → ends state b ≡ false
no_end outside b other = other
no_end quoted b other = refl
no_end escaped b other = refl

one_segment : (state : QuoteState) (text : List ℕ) → list_any (λ b. nat_eq b 59) text ≡ false → segments_from state text ≡ text ∷ []
one_segment state [] none = refl
one_segment state (b ∷ bytes) none =
    let parts = or_parts _ _ none in
    cond-false _ _ _ (no_end state b parts.0) ∙ ap (with_front (b ∷ [])) (one_segment (after state b) bytes parts.1)

no_parameters : (known : Charsets) (text name : List ℕ) → list_any (λ b. nat_eq b 59) text ≡ false → parameters_in known (pairs_of text) name ≡ None
unfolding pairs_of segments
no_parameters known text name none =
    ap (λ ps. parameters_in known (pairs_in (drop 1 ps)) name) (one_segment outside text none) ∙ parameters_are_pairs known [] (λ other starred. refl) name

no_name : (params : Texts) (key extended : List ℕ) → params key ≡ None → params extended ≡ None → None ≡ name_among params key extended
no_name params key extended one other =
    sym (ap (λ t. first_text (filled t) (filled (option_map left_over_text (params extended)))) one
    ∙ ap (λ t. filled (option_map left_over_text t)) other)

pub none_shown : (known : Charsets) (text : List ℕ) → list_any (λ b. nat_eq b 59) text ≡ false → None ≡ shown_name (disposition_in known text)
unfolding disposition_in
none_shown known text none =
    no_name (parameters_in known (pairs_of text)) (codes "filename") (codes "filename*") (no_parameters known text (codes "filename") none) (no_parameters known text (codes "filename*") none)

pub none_typed : (known : Charsets) (text : List ℕ) → list_any (λ b. nat_eq b 59) text ≡ false → None ≡ typed_name (content_type_in known text)
unfolding content_type_in
none_typed known text none =
    no_name (parameters_in known (pairs_of text)) (codes "name") (codes "name*") (no_parameters known text (codes "name") none) (no_parameters known text (codes "name*") none)
