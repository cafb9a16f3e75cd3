-- The text `multipart/mixed; boundary=B`, where B is letters and digits.
use Rattle.std.proofs.Common.{◌≡◌, ◌≢◌, ◌⊎◌, ℕ, zero, suc, ◌-◌, ◌<◌, ◌≤◌, Bool, true, eqb, not, ◌&&◌, List, [], ◌∷◌, ◌++◌, Some, codes, length, get_or, refl, ap, ◌∙◌, ⊎_elim, arith, length-append}
use Rattle.std.proofs.lemmas.Bool.{cases_lt, cond-false, ne_eqb, eqb-false, and_from, and_left, and_right, and_parts, le-leb, not-true}
use Rattle.std.proofs.lemmas.List.{get_or_past}
use Rattle.std.proofs.lemmas.Str.{IsUtf8-from_ascii}
use Rattle.std.specs.Char.{is_ascii_graphic}
use lib.Utf8.{encode}
use Rattle.std.specs.List.{list_all}
use Rattle.std.specs.Str.{IsAscii, chars, trim, trim_start, trim_end, str_to_ascii_lowercase}
use Rattle.mail_codec.specs.Ascii.{quote, semicolon}
use Rattle.mailparse.specs.Pairs.{pair_of, pairs_of, value_of}
use Rattle.mailparse.specs.Segments.{outside, with_front, segments, segments_from, unescape}
use Rattle.mailparse.proofs.lemmas.Pairs.{pair_of-some, pairs_in-some, pairs_of-later, value_of-first}
use Rattle.mailparse.proofs.lemmas.Segments.{at_other}
use Rattle.mail_codec.specs.Charset.{Charsets}
use Rattle.mailparse.proofs.lemmas.Trims.{trim-visible}
use Rattle.mail_laws.specs.Boundaries.{IsAlphanumeric, boundary_type, one_text}
use Rattle.mailparse.specs.ContentType.{content_type_in, type_with}
use Rattle.mailparse.specs.Continuations.{parameters_in}
use Rattle.mail_laws.specs.StarFree.{AreStarFree}
use Rattle.mail_laws.proofs.lemmas.StarFree.{star_free_pairs_are_parameters}

-- ---- letters and digits

bounds : (b : ℕ) → ((48 ≤ b) × (b ≤ 57)) ⊎ (((65 ≤ b) × (b ≤ 90)) ⊎ ((97 ≤ b) × (b ≤ 122))) → (48 ≤ b) × (b ≤ 122) × (b ≢ 59)
bounds b h =
    ⊎_elim (λ d. (omega (arith, d.0), omega (arith, d.1), λ e. absurd (omega (arith, d.1))))
    (λ l. ⊎_elim (λ d. (omega (arith, d.0), omega (arith, d.1), λ e. absurd (omega (arith, d.0)))) (λ d. (omega (arith, d.0), omega (arith, d.1), λ e. absurd (omega (arith, d.0)))) l) h

ascii : (text : List ℕ) → IsAlphanumeric text → IsAscii text
ascii text h i =
    ⊎_elim (λ lt. let at = bounds _ (h i 0 lt) in omega (arith, at.1)) (λ past. omega (arith, get_or_past text i 0 past)) (cases_lt i (length text))

visible : (text : List ℕ) (i : ℕ) → IsAlphanumeric text → i < length text → is_ascii_graphic (get_or text i 0) ≡ true
visible text i h lt =
    let at = bounds _ (h i 0 lt) in
    and_from _ _ (le-leb 33 (get_or text i 0) (omega (arith, at.0))) (le-leb (get_or text i 0) 126 (omega (arith, at.1)))

trim-alphanumeric : (text : List ℕ) → IsAlphanumeric text → trim text ≡ text
unfolding trim_start trim_end chars
trim-alphanumeric [] h = refl
trim-alphanumeric (b ∷ text) h =
    trim-visible (b ∷ text) (IsUtf8-from_ascii (b ∷ text) (ascii (b ∷ text) h)) (omega arith) (visible (b ∷ text) 0 h (omega arith))
    (visible (b ∷ text) (length (b ∷ text) - 1) h (omega arith))

one_segment : (text : List ℕ) → IsAlphanumeric text → segments_from outside text ≡ text ∷ []
one_segment [] h = refl
one_segment (b ∷ text) h =
    let first = bounds b (h 0 0 (omega arith)) in
    at_other b text (λ e. absurd (omega (arith, first.0))) first.2 ∙ ap (with_front (b ∷ [])) (one_segment text (λ i d lt. h (suc i) d (omega arith)))

unescape-alphanumeric : (text : List ℕ) → IsAlphanumeric text → unescape text ≡ text
unfolding unescape
unescape-alphanumeric [] h = refl
unescape-alphanumeric (b ∷ text) h =
    let first = bounds b (h 0 0 (omega arith)) in
    cond-false _ _ _ (and_left _ _ (and_right _ _ (ne_eqb b 34 (λ e. absurd (omega (arith, first.0))))))

-- ---- the whole text

-- a byte that neither begins a quoted run nor ends a segment
abbrev plain : ℕ → Bool
plain b = not (eqb b quote) && not (eqb b semicolon)

different : (b n : ℕ) → not (eqb b n) ≡ true → b ≢ n
different b n h = eqb-false b n (not-true (eqb b n) h)

segments_after : (front rest : List ℕ) (p : List ℕ) (ps : List (List ℕ)) → list_all plain front ≡ true → segments_from outside rest ≡ p ∷ ps
    → segments_from outside (front ++ rest) ≡ (front ++ p) ∷ ps
segments_after [] rest p ps h e = e
segments_after (b ∷ front) rest p ps h e =
    let here = and_parts (plain b) (list_all plain front) h in
    let own = and_parts (not (eqb b quote)) (not (eqb b semicolon)) here.0 in
    at_other b (front ++ rest) (different b quote own.0) (different b semicolon own.1)
    ∙ ap (with_front (b ∷ [])) (segments_after front rest p ps here.1 e)

boundary_segments : (boundary : List ℕ) → IsAlphanumeric boundary
    → segments (boundary_type boundary) ≡ codes "multipart/mixed" ∷ (codes " boundary=" ++ boundary) ∷ []
unfolding segments
boundary_segments boundary h =
    segments_after (codes "multipart/mixed") (codes "; boundary=" ++ boundary) [] ((codes " boundary=" ++ boundary) ∷ []) refl
    (ap (λ ps. [] ∷ ps) (segments_after (codes " boundary=") boundary boundary [] refl (one_segment boundary h)))

trim_key : trim (codes " boundary") ≡ codes "boundary"
unfolding trim_start trim_end chars encode
trim_key = refl

trim_value : trim (codes "multipart/mixed") ≡ codes "multipart/mixed"
unfolding trim_start trim_end chars encode
trim_value = refl

boundary_pair : (boundary : List ℕ) → IsAlphanumeric boundary → pair_of (codes " boundary=" ++ boundary) ≡ Some (codes "boundary", boundary)
boundary_pair boundary h =
    let len = length-append (codes " boundary=") boundary in
    pair_of-some (codes " boundary=" ++ boundary) (omega arith)
    ∙ ap (λ key. Some (str_to_ascii_lowercase key, unescape (trim boundary))) trim_key
    ∙ ap (λ value. Some (codes "boundary", unescape value)) (trim-alphanumeric boundary h)
    ∙ ap (λ value. Some (codes "boundary", value)) (unescape-alphanumeric boundary h)

pub boundary_value : (boundary : List ℕ) → IsAlphanumeric boundary → value_of (boundary_type boundary) ≡ codes "multipart/mixed"
boundary_value boundary h =
    value_of-first (boundary_type boundary) (codes "multipart/mixed") _ (boundary_segments boundary h) ∙ trim_value

pub boundary_pairs : (boundary : List ℕ) → IsAlphanumeric boundary → pairs_of (boundary_type boundary) ≡ (codes "boundary", boundary) ∷ []
boundary_pairs boundary h =
    pairs_of-later (boundary_type boundary) (codes "multipart/mixed") _ (boundary_segments boundary h)
    ∙ pairs_in-some (codes " boundary=" ++ boundary) [] (codes "boundary") boundary (boundary_pair boundary h)

-- ---- its type

no_star : (boundary : List ℕ) → AreStarFree ((codes "boundary", boundary) ∷ [])
no_star boundary zero d lt = refl
no_star boundary (suc i) d lt = absurd (omega arith)

pub boundary_content_type : (known : Charsets) (boundary : List ℕ) → IsAlphanumeric boundary
    → content_type_in known (boundary_type boundary)
    ≡ record { mimetype = codes "multipart/mixed"; charset = codes "us-ascii"; params = one_text (codes "boundary") boundary }
unfolding content_type_in
boundary_content_type known boundary h =
    let params : parameters_in known ((codes "boundary", boundary) ∷ []) ≡ one_text (codes "boundary") boundary =
    λ i name. star_free_pairs_are_parameters known ((codes "boundary", boundary) ∷ []) (no_star boundary) name i in
    ap (λ value. type_with (str_to_ascii_lowercase value) (parameters_in known (pairs_of (boundary_type boundary)))) (boundary_value boundary h)
    ∙ ap (λ pairs. type_with (codes "multipart/mixed") (parameters_in known pairs)) (boundary_pairs boundary h)
    ∙ ap (λ texts. type_with (codes "multipart/mixed") texts) params
