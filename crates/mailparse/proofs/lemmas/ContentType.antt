-- Lemmas on types and dispositions, from their values and their parameters.
use Rattle.std.proofs.Common.{◌≡◌, ℕ, List, Ok, sym, ap, ◌∙◌}
use Rattle.std.specs.Prelude.{Result}
use Rattle.std.specs.Str.{str_to_ascii_lowercase}
use Rattle.mail_codec.specs.Charset.{Charsets}
use Rattle.mailparse.specs.ContentType.{ContentType, content_type_in, charset_named}
use Rattle.mailparse.specs.Continuations.{parameters_in}
use Rattle.mailparse.specs.Disposition.{Disposition, Kind, disposition_named, disposition_in}
use Rattle.mailparse.specs.Pairs.{Texts, pairs_of, value_of}
use Rattle.mailparse.specs.Refusal.{Refusal}

-- Under the charsets that are known.
module _ (known : Charsets) where
  -- a type is determined by its value, its charset and its parameters
  pub type_is : (text value mimetype charset : List ℕ) (params : Texts) → value ≡ value_of text → mimetype ≡ str_to_ascii_lowercase value
      → ((name : List ℕ) → params name ≡ parameters_in known (pairs_of text) name)
      → charset ≡ charset_named params
      → ◌≡◌ {A = ContentType} (record { mimetype = mimetype; charset = charset; params = params }) (content_type_in known text)
  unfolding content_type_in
  type_is text value mimetype charset params is name same label =
      let here : params ≡ parameters_in known (pairs_of text) = λ i n. same n i in
      λ i. record {
        mimetype = (name ∙ ap str_to_ascii_lowercase is) i;
        charset = (label ∙ ap charset_named here) i;
        params = here i;
      }

  -- and a disposition by its kind and its parameters
  pub disposition_is : (text value : List ℕ) (kind : Kind) (params : Texts) → value ≡ value_of text → kind ≡ disposition_named (str_to_ascii_lowercase value)
      → ((name : List ℕ) → params name ≡ parameters_in known (pairs_of text) name)
      → ◌≡◌ {A = Result Disposition Refusal} (Ok (disposition_in known text)) (Ok (record { kind = kind; params = params }))
  unfolding disposition_in
  disposition_is text value kind params is named same =
      sym (λ i. Ok (record {
        kind = (named ∙ ap (λ v. disposition_named (str_to_ascii_lowercase v)) is) i;
        params = λ n. same n i;
      }))
