-- The type of a written outline is the type that its first `Content-Type` names.
use Rattle.std.proofs.Common.{◌≡◌, ◌⊎◌, inl, inr, ⊎_elim, ℕ, ◌≤◌, ◌<◌, Bool, true, false, cond, leb, not, ◌&&◌, ◌||◌, List, [], ◌∷◌, find, Option, Some, None, codes, refl, ap, ◌∙◌, arith}
use Rattle.std.specs.Char.{is_ascii_alphanumeric}
use Rattle.std.specs.List.{list_all}
use Rattle.std.specs.Option.{option_map_or}
use Rattle.std.specs.Str.{IsAscii, bytes_eq, str_eq_ignore_ascii_case}
use Rattle.std.proofs.lemmas.Bool.{cond-false, and_parts, or_cases, false≢true, leb-true, not-true}
use Rattle.std.proofs.lemmas.Str.{encodes-IsAscii}
use Rattle.std.proofs.lemmas.Str.Ascii.{IsAscii-from_all}
use lib.Pointwise.{bytes_decides}
use Rattle.mail_codec.specs.Charset.{Charsets}
use Rattle.mail_codec.specs.Places.{has_prefix}
use Rattle.mailparse.specs.Header.{Header}
use Rattle.mailparse.specs.Map.{has_key}
use Rattle.mailparse.specs.Value.{lenient_value_in}
use Rattle.mailparse.specs.ContentType.{ContentType, content_type_in, default_type}
use Rattle.mailparse.specs.Mail.{node_type, dash_boundary_of, is_digest}
use Rattle.mail_laws.specs.Boundaries.{IsAlphanumeric, boundary_type}
use Rattle.mail_laws.specs.Render.{dash_boundary, is_key_byte, is_key, has_type_key, type_header, mimetype_of, type_of, written_bytes, written_header, written_headers}
use Rattle.mail_laws.proofs.lemmas.Boundaries.{boundary_content_type}
use Rattle.mail_address.proofs.lemmas.Encode.{each}
use Rattle.mail_laws.proofs.lemmas.RenderHeaders.{key_byte}
use Rattle.mail_laws.proofs.lemmas.RenderValues.{AreShown}

-- ---- ASCII

pub key_ascii : (key : List ℕ) → is_key key ≡ true → IsAscii key
key_ascii key named =
    IsAscii-from_all key (each {P = λ b. b < 128} is_key_byte (λ b h. let high = (key_byte b h).1 in omega (arith, high)) key (and_parts (list_all is_key_byte key) _ named).0)

-- Under the charsets that are known.
module _ (known : Charsets) where
  -- ---- the first `Content-Type`

  same_key : (h : Header) → is_key h.key ≡ true → has_key (codes "Content-Type") h ≡ has_type_key h
  same_key h named = ap (λ (k : List ℕ). str_eq_ignore_ascii_case k (codes "Content-Type")) (encodes-IsAscii h.key (key_ascii h.key named))

  found_type : (none : ContentType) (headers : List Header) → list_all (λ h. is_key h.key) headers ≡ true → AreShown known headers
      → option_map_or (λ h. content_type_in known (lenient_value_in known h.value)) (find (has_key (codes "Content-Type")) (written_headers headers)) none
      ≡ option_map_or (λ h. content_type_in known h.value) (find has_type_key headers) none
  found_type none [] keys shown = refl
  found_type none (h ∷ headers) keys shown =
      let key = and_parts (is_key h.key) (list_all (λ x. is_key x.key) headers) keys in
      ap (λ t. option_map_or (λ (x : Header). content_type_in known (lenient_value_in known x.value)) (cond t (Some (written_header h)) (find (has_key (codes "Content-Type")) (written_headers headers))) none) (same_key h key.0)
      ∙ go (has_type_key h) (ap (content_type_in known) shown.0) (found_type none headers key.1 shown.1)
    where
      go : (t : Bool) → content_type_in known (lenient_value_in known (written_bytes h.value)) ≡ content_type_in known h.value
          → option_map_or (λ x. content_type_in known (lenient_value_in known x.value)) (find (has_key (codes "Content-Type")) (written_headers headers)) none
          ≡ option_map_or (λ x. content_type_in known x.value) (find has_type_key headers) none
          → option_map_or (λ x. content_type_in known (lenient_value_in known x.value)) (cond t (Some (written_header h)) (find (has_key (codes "Content-Type")) (written_headers headers))) none
          ≡ option_map_or (λ x. content_type_in known x.value) (cond t (Some h) (find has_type_key headers)) none
      go true here later = here
      go false here later = later

  -- the type of a message with the headers of an outline
  pub node_type-written : (headers : List Header) → list_all (λ h. is_key h.key) headers ≡ true → AreShown known headers
      → node_type known false (written_headers headers) ≡ type_of known headers
  unfolding node_type
  node_type-written = found_type default_type

  -- ---- what the type says of parts

  -- a type that does not begin with `multipart` has no parts
  no_parts-named : (text : List ℕ) → has_prefix (codes "multipart") (mimetype_of text) ≡ false → dash_boundary_of (content_type_in known text) ≡ None
  unfolding content_type_in
  no_parts-named text other = cond-false (has_prefix (codes "multipart") (mimetype_of text)) _ None other

  pub no_parts-leaf : (headers : List Header) → option_map_or (λ h. not (has_prefix (codes "multipart") (mimetype_of h.value))) (type_header headers) true ≡ true
      → dash_boundary_of (type_of known headers) ≡ None
  no_parts-leaf headers other = go (type_header headers) other
    where
      go : (o : Option Header) → option_map_or (λ h. not (has_prefix (codes "multipart") (mimetype_of h.value))) o true ≡ true
          → dash_boundary_of (option_map_or (λ h. content_type_in known h.value) o default_type) ≡ None
      go None e = refl
      go (Some h) e = no_parts-named h.value (not-true (has_prefix (codes "multipart") (mimetype_of h.value)) e)

  -- the type that names a boundary of letters and digits
  pub IsAlphanumeric-from : (boundary : List ℕ) → list_all is_ascii_alphanumeric boundary ≡ true → IsAlphanumeric boundary
  IsAlphanumeric-from boundary all = each is_ascii_alphanumeric alphanumeric boundary all
    where
      range : (low high b : ℕ) → (leb low b && leb b high) ≡ true → (low ≤ b) × (b ≤ high)
      range low high b h = let parts = and_parts (leb low b) (leb b high) h in (leb-true low b parts.0, leb-true b high parts.1)

      alphanumeric : (b : ℕ) → is_ascii_alphanumeric b ≡ true → ((48 ≤ b) × (b ≤ 57)) ⊎ (((65 ≤ b) × (b ≤ 90)) ⊎ ((97 ≤ b) × (b ≤ 122)))
      alphanumeric b h =
          ⊎_elim (λ either. ⊎_elim (λ digit. inl (range 48 57 b digit)) (λ upper. inr (inl (range 65 90 b upper)))
          (or_cases (leb 48 b && leb b 57) (leb 65 b && leb b 90) either))
          (λ lower. inr (inr (range 97 122 b lower)))
          (or_cases ((leb 48 b && leb b 57) || (leb 65 b && leb b 90)) (leb 97 b && leb b 122) h)

  -- the value of the first `Content-Type` names this boundary
  pub type-branch : (headers : List Header) (boundary : List ℕ) → option_map_or (λ h. bytes_eq h.value (boundary_type boundary)) (type_header headers) false ≡ true
      → list_all is_ascii_alphanumeric boundary ≡ true
      → (dash_boundary_of (type_of known headers) ≡ Some (dash_boundary boundary)) × (is_digest (type_of known headers) ≡ false)
  type-branch headers boundary names all = go (type_header headers) names
    where
      go : (o : Option Header) → option_map_or (λ h. bytes_eq h.value (boundary_type boundary)) o false ≡ true
          → (dash_boundary_of (option_map_or (λ h. content_type_in known h.value) o default_type) ≡ Some (dash_boundary boundary))
          × (is_digest (option_map_or (λ h. content_type_in known h.value) o default_type) ≡ false)
      go None e = absurd (false≢true e)
      go (Some h) e =
          let same = (bytes_decides h.value (boundary_type boundary)).0 e in
          let type = ap (content_type_in known) same ∙ boundary_content_type known boundary (IsAlphanumeric-from boundary all) in
          (ap dash_boundary_of type, ap is_digest type)
