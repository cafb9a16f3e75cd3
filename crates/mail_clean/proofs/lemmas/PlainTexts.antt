-- The types of texts in UTF-8 are those of strict mails.
use Rattle.std.proofs.Common.{◌≡◌, ◌∙◌, ℕ, zero, suc, false, List, [], ◌∷◌, refl, ap, arith}
use Rattle.std.specs.Prelude.{codes}
use Rattle.std.specs.List.{list_any}
use Rattle.std.specs.Str.{bytes_eq, chars, str_to_ascii_lowercase, trim_end, trim_start}
use lib.Utf8.{encode}
use Rattle.std.proofs.lemmas.Bool.{false≢true}
use Rattle.mail_codec.specs.Charset.{Charsets}
use Rattle.mail_codec.specs.Places.{has_prefix}
use Rattle.mailparse.specs.ContentType.{ContentType, content_type_in, type_with}
use Rattle.mailparse.specs.Continuations.{parameters_in}
use Rattle.mailparse.specs.Pairs.{pair_of, pairs_of, value_of}
use Rattle.mailparse.specs.Segments.{segments, unescape}
use Rattle.mail_grammar.specs.Fields.{IsType, of_other}
use Rattle.mail_grammar.specs.FileNames.{names_of_type}
use Rattle.mail_grammar.specs.Parameters.{no_gap, gap_blank}
use Rattle.mail_grammar.specs.PlainParameters.{IsPlainType, plain_type, plain_token, plain_parameter, no_plain, no_word, no_word_here}
use Rattle.mail_laws.specs.Boundaries.{one_text}
use Rattle.mail_clean.specs.PlainOutlines.{IsUtf8Type, plain_in_utf_8, html_in_utf_8}
use Rattle.mail_laws.specs.StarFree.{AreStarFree}
use Rattle.mail_clean.proofs.lemmas.PlainTypes.{type_names, wordless_before}
use Rattle.mail_laws.proofs.lemmas.StarFree.{star_free_pairs_are_parameters}

-- the type of a text in UTF-8
abbrev pub text_in_utf_8 : List ℕ → ContentType
text_in_utf_8 mimetype = record {
  mimetype = mimetype;
  charset = codes "utf-8";
  params = one_text (codes "charset")
      (codes "utf-8");
}

starless : AreStarFree ((codes "charset", codes "utf-8") ∷ [])
starless zero d lt = refl
starless (suc i) d lt = absurd (omega arith)

abbrev pub utf_8_mimetype : {value : List ℕ} → IsUtf8Type value → List ℕ
utf_8_mimetype plain_in_utf_8 = codes "text/plain"
utf_8_mimetype html_in_utf_8 = codes "text/html"

text_value : (value : List ℕ) (is : IsUtf8Type value) → value_of value ≡ utf_8_mimetype is
unfolding value_of segments trim_start trim_end chars encode
text_value value plain_in_utf_8 = refl
text_value value html_in_utf_8 = refl

text_pairs : (value : List ℕ) → IsUtf8Type value → pairs_of value ≡ (codes "charset", codes "utf-8") ∷ []
unfolding pairs_of pair_of segments unescape trim_start trim_end chars encode
text_pairs value plain_in_utf_8 = refl
text_pairs value html_in_utf_8 = refl

text_params : (known : Charsets)
    → parameters_in known ((codes "charset", codes "utf-8") ∷ []) ≡ one_text (codes "charset") (codes "utf-8")
text_params known = λ i name. star_free_pairs_are_parameters known ((codes "charset", codes "utf-8") ∷ []) starless name i

lower_mimetype : (value : List ℕ) (is : IsUtf8Type value) → str_to_ascii_lowercase (utf_8_mimetype is) ≡ utf_8_mimetype is
lower_mimetype value plain_in_utf_8 = refl
lower_mimetype value html_in_utf_8 = refl

pub text_content_type : (known : Charsets) (value : List ℕ) (is : IsUtf8Type value)
    → content_type_in known value ≡ text_in_utf_8 (utf_8_mimetype is)
unfolding content_type_in
text_content_type known value is =
    ap (λ (x : List ℕ). type_with (str_to_ascii_lowercase x) (parameters_in known (pairs_of value))) (text_value value is)
    ∙ ap (λ (x : List ℕ). type_with x (parameters_in known (pairs_of value))) (lower_mimetype value is)
    ∙ ap (λ pairs. type_with (utf_8_mimetype is) (parameters_in known pairs)) (text_pairs value is)
    ∙ ap (λ texts. type_with (utf_8_mimetype is) texts) (text_params known)

pub text_is_type : (value : List ℕ) (is : IsUtf8Type value) → IsType (text_in_utf_8 (utf_8_mimetype is))
text_is_type value plain_in_utf_8 = record { message = λ e. absurd (false≢true e); boundary = of_other refl refl }
text_is_type value html_in_utf_8 = record { message = λ e. absurd (false≢true e); boundary = of_other refl refl }

pub text_no_multipart : (value : List ℕ) (is : IsUtf8Type value) → has_prefix (codes "multipart/") (utf_8_mimetype is) ≡ false
text_no_multipart value plain_in_utf_8 = refl
text_no_multipart value html_in_utf_8 = refl

pub text_plain : (value : List ℕ) → IsUtf8Type value → IsPlainType value
text_plain value plain_in_utf_8 =
    plain_type {text = codes "plain; charset=utf-8"} (codes "text") refl
    (record {
      first = 112;
      others = codes "lain";
      rest = codes "; charset=utf-8";
      names = codes "charset" ∷ [];
      begins = refl;
      characters = refl;
      parameters = plain_parameter {names = []} {gap = codes " "} {value = codes "utf-8"} 99 (codes "harset") []
          (gap_blank refl no_gap) refl (plain_token refl) refl no_plain refl;
      made = refl;
      word = wordless_before (codes "plain; charset") (codes "=utf-8") refl
          (no_word_here refl (wordless_before (codes "utf-8") [] refl no_word));
    })
    refl
text_plain value html_in_utf_8 =
    plain_type {text = codes "html; charset=utf-8"} (codes "text") refl
    (record {
      first = 104;
      others = codes "tml";
      rest = codes "; charset=utf-8";
      names = codes "charset" ∷ [];
      begins = refl;
      characters = refl;
      parameters = plain_parameter {names = []} {gap = codes " "} {value = codes "utf-8"} 99 (codes "harset") []
          (gap_blank refl no_gap) refl (plain_token refl) refl no_plain refl;
      made = refl;
      word = wordless_before (codes "html; charset") (codes "=utf-8") refl
          (no_word_here refl (wordless_before (codes "utf-8") [] refl no_word));
    })
    refl

text_names : (value : List ℕ) (is : IsUtf8Type value) → names_of_type (text_plain value is) ≡ codes "charset" ∷ []
unfolding text_plain
text_names value plain_in_utf_8 = refl
text_names value html_in_utf_8 = refl

pub text_own : (value : List ℕ) → IsUtf8Type value → (is : IsPlainType value)
    → list_any (bytes_eq (codes "filename")) (names_of_type is) ≡ false
text_own value text is =
    ap (list_any (bytes_eq (codes "filename"))) (type_names value is (text_plain value text) ∙ text_names value text)
