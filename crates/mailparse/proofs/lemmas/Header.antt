-- Lemmas on the places of one header, for the searches that find them.
use Rattle.std.proofs.Common.{◌≡◌, ℕ, suc, ◌+◌, ◌-◌, ◌<◌, ◌≤◌, Bool, true, false, ◌&&◌, not, cond, eqb, min, List, [], ◌∷◌, ◌++◌, length, take, drop, get_or, Ok, Err, refl, sym, ap, subst, ◌∙◌, inl, inr, arith, ne_eqb, add-one, slice_range, append_assoc, length-append, length-drop, length-take}
use Rattle.std.specs.List.{list_all}
use Rattle.std.proofs.lemmas.Bool.{and_parts, cases_lt, false≢true}
use Rattle.std.proofs.lemmas.List.{drop_more, drop-take, drop-drop, take-take}
use Rattle.std.proofs.Math.ListN.{drop_of_length-le}
use Rattle.std.proofs.Math.Seq.{take-append_seam}
use Rattle.mail_codec.specs.Ascii.{colon, is_blank}
use Rattle.mail_codec.specs.Places.{first_place, place, place_from, begins}
use Rattle.mail_codec.proofs.lemmas.Places.{first_place-≤, first_place-here, first_place-past, begins-at, place_from_here, place_from_next, place_from_passes}
use Rattle.mailparse.specs.Header.{ends_key, Header, is_line_end, is_line_feed, ends_header, key_end, has_colon, header_end, value_start, value_end, header_of, header_length, read_header}
use Rattle.mailparse.specs.Refusal.{empty_string, leading_space}
use Rattle.mailparse.proofs.lemmas.Places.{place_from_via}

abbrev pub is_colon : ℕ → Bool
is_colon b = eqb b 58

-- ---- the end of a header

pub header_end-key : (raw : List ℕ) → has_colon raw ≡ false → header_end raw ≡ key_end raw
unfolding header_end
header_end-key raw without = (rw without refl)

pub header_length-at : (raw : List ℕ) (end : ℕ) → end ≡ header_end raw → min (suc end) (length raw) ≡ header_length raw
unfolding header_length
header_length-at raw end at = ap (λ n. min (suc n) (length raw)) at

pub ends_header_is_feed : (rest : List ℕ) → ends_header rest ≡ true → begins is_line_feed rest ≡ true
ends_header_is_feed [] h = h
ends_header_is_feed (b ∷ rest) h = (and_parts _ _ h).0

-- whether a colon ends the key
pub has_colon-at : (raw : List ℕ) (place : ℕ) (found t : Bool) → place ≡ key_end raw → found ≡ begins is_colon (drop place raw) → found ≡ t → has_colon raw ≡ t
unfolding has_colon
has_colon-at raw place found t at is e = ap (λ n. begins is_colon (drop n raw)) (sym at) ∙ sym is ∙ e

-- the first LF after the colon
pub feed_after : (raw : List ℕ) (place feed : ℕ) → place < length raw → feed ≡ place_from (begins is_line_feed) raw (place + 1)
    → (place_from (begins is_line_feed) raw feed ≡ feed) × (place_from ends_header raw feed ≡ place_from ends_header raw (place + 1))
feed_after raw place feed low at =
    let via = place_from_via (begins is_line_feed) ends_header ends_header_is_feed raw (place + 1) feed (omega arith) (sym at) in (via.1, via.2)

-- the end of the header is sought from there onwards
pub header_end-from_feed : (raw : List ℕ) (place feed : ℕ) → has_colon raw ≡ true → place ≡ key_end raw → place < length raw
    → feed ≡ place_from (begins is_line_feed) raw (place + 1) → place_from ends_header raw feed ≡ header_end raw
unfolding header_end
header_end-from_feed raw place feed has at low is =
    (feed_after raw place feed low is).1 ∙ ap (place_from ends_header raw) {x = place + 1} {y = suc (key_end raw)} (omega (arith, at)) ∙ sym (rw has refl)

-- a LF that a blank follows is skipped
pub header_end-continued : (raw : List ℕ) (end : ℕ) → end < length raw → begins is_blank (drop (end + 1) raw) ≡ true
    → place_from ends_header raw end ≡ place_from ends_header raw (end + 1)
header_end-continued raw end low blank =
    place_from_next ends_header raw end low (ap ends_header (drop_more raw end 0 low) ∙ last (eqb (get_or raw end 0) 10))
  where
    last : (t : Bool) → (t && not (begins is_blank (drop (end + 1) raw))) ≡ false
    last true = ap not blank
    last false = refl

-- and any other ends it
pub header_end-here : (raw : List ℕ) (end : ℕ) → end < length raw → place_from (begins is_line_feed) raw end ≡ end → begins is_blank (drop (end + 1) raw) ≡ false
    → place_from ends_header raw end ≡ end
header_end-here raw end low found blank =
    let feed : begins is_line_feed (drop end raw) ≡ true =
    subst (λ v. begins is_line_feed (drop v raw) ≡ true) found (place_from_passes (begins is_line_feed) raw end (omega arith) (λ e. absurd (omega arith))) in
    place_from_here ends_header raw end low
    (ap ends_header (drop_more raw end 0 low) ∙ ap (λ t. t && not (begins is_blank (drop (end + 1) raw))) (sym (begins-at is_line_feed raw end low) ∙ feed) ∙ ap not blank)

-- what the right trim has cut off so far
pub record TrimmedTo (bytes rest : List ℕ) : Type 0 where
  pub tail : List ℕ
  pub whole : bytes ≡ rest ++ tail
  pub after : list_all is_line_end tail ≡ true

list_all-none : (front tail : List ℕ) (b : ℕ) → is_line_end b ≡ false → list_all is_line_end (front ++ b ∷ tail) ≡ false
list_all-none [] tail b e = rw e refl
list_all-none (x ∷ front) tail b e = rw (list_all-none front tail b e) (elim (is_line_end x) as (λ v. (v && false) ≡ false) [ true ↦ refl | false ↦ refl ])

-- the trim cuts after the last byte that it keeps
trimmed_place : (front tail : List ℕ) (b : ℕ) → is_line_end b ≡ false → list_all is_line_end tail ≡ true → first_place (list_all is_line_end) (front ++ b ∷ tail) ≡ suc (length front)
trimmed_place [] tail b e all = first_place-past (list_all is_line_end) b tail (list_all-none [] tail b e) ∙ ap suc (first_place-here (list_all is_line_end) tail all)
trimmed_place (x ∷ front) tail b e all =
    first_place-past (list_all is_line_end) x (front ++ b ∷ tail) (list_all-none (x ∷ front) tail b e) ∙ ap suc (trimmed_place front tail b e all)

-- the trim is done where a byte is left that it keeps
pub TrimmedTo-last : (bytes rest front : List ℕ) (b : ℕ) → TrimmedTo bytes rest → rest ≡ front ++ b ∷ [] → is_line_end b ≡ false → rest ≡ take (first_place (list_all is_line_end) bytes) bytes
TrimmedTo-last bytes rest front b h cut e =
    let whole : bytes ≡ front ++ b ∷ h.tail = h.whole ∙ ap (λ (xs : List ℕ). xs ++ h.tail) cut ∙ append_assoc front (b ∷ []) h.tail in
    let place : first_place (list_all is_line_end) bytes ≡ suc (length front) = ap (first_place (list_all is_line_end)) whole ∙ trimmed_place front h.tail b e h.after in
    let size : length rest ≡ suc (length front) = ap length cut ∙ length-append front (b ∷ []) ∙ omega arith in
    sym (ap (λ n. take n bytes) (place ∙ sym size) ∙ ap (take (length rest)) h.whole ∙ take-append_seam rest h.tail)

-- the end of the key is within the bytes
pub key_end-≤ : (raw : List ℕ) → key_end raw ≤ length raw
unfolding key_end
key_end-≤ raw = first_place-≤ (begins ends_key) raw

begins-within : (test : ℕ → Bool) (raw : List ℕ) (i : ℕ) → begins test (drop i raw) ≡ true → i < length raw
begins-within test raw i e =
    elim (cases_lt i (length raw)) [ inl below ↦ below | inr above ↦ absurd (false≢true (subst (λ (xs : List ℕ). begins test xs ≡ true) (drop_of_length-le raw above) e)) ]

-- a colon that ends the key is within the bytes
pub key_end-< : (raw : List ℕ) → has_colon raw ≡ true → key_end raw < length raw
unfolding has_colon
key_end-< raw e = begins-within (λ b. eqb b 58) raw (key_end raw) e

-- the end of the header is within the bytes
pub header_end-≤ : (raw : List ℕ) → header_end raw ≤ length raw
unfolding header_end
header_end-≤ raw = by_colon (has_colon raw) refl
  where
    by_colon : (v : Bool) → has_colon raw ≡ v → cond (has_colon raw) (place_from ends_header raw (suc (key_end raw))) (key_end raw) ≤ length raw
    by_colon true e =
        let low = key_end-< raw e in
        let place = first_place-≤ ends_header (drop (suc (key_end raw)) raw) in
        rw e (omega (arith, length-drop (suc (key_end raw)) raw))
    by_colon false e = rw e (key_end-≤ raw)

-- and after its colon
pub header_end-> : (raw : List ℕ) → has_colon raw ≡ true → key_end raw < header_end raw
unfolding header_end
header_end-> raw e = rw e (omega arith)

pub is_line_end-false : (b : ℕ) → (b ≡ 13 → ⊥) → (b ≡ 10 → ⊥) → is_line_end b ≡ false
is_line_end-false b no_return no_feed = rw (ne_eqb b 13 no_return, ne_eqb b 10 no_feed) refl

-- a part of a part
trimmed_slice : (raw : List ℕ) (a e p q : ℕ) → a ≤ e → e ≤ length raw → p ≤ length (slice_range raw a e) → q ≤ length (drop p (slice_range raw a e)) → take q (drop p (slice_range raw a e)) ≡ slice_range raw (a + p) ((a + p) + q)
trimmed_slice raw a e p q order within p_fits q_fits =
    let whole : length (slice_range raw a e) ≡ e - a = length-take (e - a) (drop a raw) ∙ omega (arith, length-drop a raw) in
    let rest : length (drop p (slice_range raw a e)) ≡ (e - a) - p = length-drop p (slice_range raw a e) ∙ omega arith in
    let sum : e - a ≡ p + ((e - a) - p) = omega arith in
    let seam : drop p (slice_range raw a e) ≡ take ((e - a) - p) (drop (a + p) raw) =
    ap (λ n. drop p (take n (drop a raw))) sum ∙ drop-take p ((e - a) - p) (drop a raw) ∙ ap (take ((e - a) - p)) (drop-drop p a raw) in
    let size : ((a + p) + q) - (a + p) ≡ q = omega arith in
    ap (take q) seam ∙ take-take q ((e - a) - p) (drop (a + p) raw) (omega arith) ∙ ap (λ n. take n (drop (a + p) raw)) (sym size)

-- the bytes from a to e
between : (raw : List ℕ) (a e : ℕ) → a ≤ e → drop a (take e raw) ≡ slice_range raw a e
between raw a e order =
    let sum : e ≡ a + (e - a) = omega arith in
    ap (λ n. drop a (take n raw)) sum ∙ drop-take a (e - a) raw

-- the bytes between the colon and the header's end
abbrev cut : List ℕ → List ℕ
cut raw = slice_range raw (suc (key_end raw)) (header_end raw)

-- the number of spaces that they begin with
abbrev spaces : List ℕ → ℕ
spaces raw = first_place (begins (λ b. not (eqb b 32))) (cut raw)

-- the number of bytes after those that are kept
abbrev kept : List ℕ → ℕ
kept raw = first_place (list_all is_line_end) (drop (spaces raw) (cut raw))

-- the value of a header with a colon is the bytes that are kept
module _ (raw : List ℕ) (colon : has_colon raw ≡ true) where
  value_start-colon : value_start raw ≡ suc (key_end raw) + spaces raw
  unfolding value_start
  value_start-colon =
      let order = header_end-> raw colon in
      rw colon (ap (λ (xs : List ℕ). suc (key_end raw) + first_place (begins (λ b. not (eqb b 32))) xs) (between raw (suc (key_end raw)) (header_end raw) (omega arith)))

  length-cut : length (cut raw) ≡ header_end raw - suc (key_end raw)
  length-cut =
      let within = header_end-≤ raw in
      length-take (header_end raw - suc (key_end raw)) (drop (suc (key_end raw)) raw) ∙ omega (arith, length-drop (suc (key_end raw)) raw)

  value_end-colon : value_end raw ≡ (suc (key_end raw) + spaces raw) + kept raw
  unfolding value_end
  value_end-colon =
      let order = header_end-> raw colon in
      let a = suc (key_end raw) in
      let e = header_end raw in
      let rest : drop (a + spaces raw) (take e raw) ≡ drop (spaces raw) (cut raw) =
      sym (drop-drop (spaces raw) a (take e raw)) ∙ ap (drop (spaces raw)) (between raw a e (omega arith)) in
      rw (colon, value_start-colon) (ap (λ (xs : List ℕ). (a + spaces raw) + first_place (list_all is_line_end) xs) rest)

  value-colon : take (kept raw) (drop (spaces raw) (cut raw)) ≡ slice_range raw (value_start raw) (value_end raw)
  value-colon =
      let order = header_end-> raw colon in
      trimmed_slice raw (suc (key_end raw)) (header_end raw) (spaces raw) (kept raw) (omega arith) (header_end-≤ raw) (first_place-≤ (begins (λ b. not (eqb b 32))) (cut raw)) (first_place-≤ (list_all is_line_end) (drop (spaces raw) (cut raw)))
      ∙ ap (λ n. slice_range raw n ((suc (key_end raw) + spaces raw) + kept raw)) (sym value_start-colon) ∙ ap (slice_range raw (value_start raw)) (sym value_end-colon)

-- a header with a colon, from its parts as they are cut
pub header_of-value : (raw : List ℕ) (colon end : ℕ) → has_colon raw ≡ true → colon ≡ key_end raw → end ≡ header_end raw
    → (after spaceless trimmed : List ℕ) → after ≡ slice_range raw (colon + 1) end
    → spaceless ≡ drop (first_place (begins (λ b. not (eqb b 32))) after) after
    → trimmed ≡ take (first_place (list_all is_line_end) spaceless) spaceless
    → header_of raw ≡ record { key = take colon raw; value = trimmed }
header_of-value raw colon end has at ends after spaceless trimmed is_after is_spaceless is_trimmed =
    let is_cut : after ≡ cut raw = is_after ∙ ap (λ n. slice_range raw (n + 1) end) at ∙ ap (λ n. slice_range raw (key_end raw + 1) n) ends ∙ (rw add-one refl) in
    let is_left : spaceless ≡ drop (spaces raw) (cut raw) = is_spaceless ∙ ap (λ (xs : List ℕ). drop (first_place (begins (λ b. not (eqb b 32))) xs) xs) is_cut in
    let is_value : trimmed ≡ slice_range raw (value_start raw) (value_end raw) =
    is_trimmed ∙ ap (λ (xs : List ℕ). take (first_place (list_all is_line_end) xs) xs) is_left ∙ value-colon raw has in
    ap (λ n. parts (take n raw) (slice_range raw (value_start raw) (value_end raw))) (sym at) ∙ ap (parts (take colon raw)) (sym is_value)
  where
    parts : List ℕ → List ℕ → Header
    parts key value = record { key = key; value = value }

-- the header is read unless the bytes are empty or begin with a space
pub read_header-empty : (raw : List ℕ) → length raw ≡ 0 → read_header raw ≡ Err empty_string
unfolding read_header
read_header-empty [] e = refl
read_header-empty (b ∷ raw) e = absurd (omega arith)

pub read_header-space : (raw : List ℕ) → 0 < length raw → get_or raw 0 0 ≡ 32 → read_header raw ≡ Err leading_space
unfolding read_header
read_header-space [] h e = absurd (omega arith)
read_header-space (b ∷ raw) h e = rw e refl

pub read_header-ok : (raw : List ℕ) → 0 < length raw → (get_or raw 0 0 ≡ 32 → ⊥) → read_header raw ≡ Ok (header_of raw, header_length raw)
unfolding read_header
read_header-ok [] h no_space = absurd (omega arith)
read_header-ok (b ∷ raw) h no_space = let e : eqb 32 b ≡ false = ne_eqb 32 b (λ same. no_space (sym same)) in rw e refl

-- a header takes at least one byte and at most all
pub header_length-≤ : (raw : List ℕ) → header_length raw ≤ length raw
unfolding header_length
header_length-≤ raw = omega arith

pub header_length-> : (raw : List ℕ) → 0 < length raw → 0 < header_length raw
unfolding header_length
header_length-> raw h = omega arith

-- without a colon the value is empty, where the key ends
no_start : (raw : List ℕ) → has_colon raw ≡ false → value_start raw ≡ key_end raw
unfolding value_start
no_start raw e = rw e refl

no_end : (raw : List ℕ) → has_colon raw ≡ false → value_end raw ≡ key_end raw
unfolding value_end
no_end raw e = rw e refl

-- the key, the value and the end of a header are in this order
pub value-in_order : (raw : List ℕ) → (key_end raw ≤ value_start raw) × (value_start raw ≤ value_end raw) × (value_end raw ≤ header_length raw)
unfolding header_length
value-in_order raw = by_colon (has_colon raw) refl
  where
    without : has_colon raw ≡ false → (value_start raw ≡ key_end raw) × (value_end raw ≡ key_end raw)
    without e = (no_start raw e, no_end raw e)

    by_colon : (v : Bool) → has_colon raw ≡ v → (key_end raw ≤ value_start raw) × (value_start raw ≤ value_end raw) × (value_end raw ≤ min (suc (header_end raw)) (length raw))
    by_colon true e =
        let starts = value_start-colon raw e in
        let ends = value_end-colon raw e in
        let size = length-cut raw e in
        let order = header_end-> raw e in
        let within = header_end-≤ raw in
        let front = first_place-≤ (begins (λ b. not (eqb b 32))) (cut raw) in
        let back = first_place-≤ (list_all is_line_end) (drop (spaces raw) (cut raw)) in
        let rest = length-drop (spaces raw) (cut raw) in
        (omega arith, omega arith, omega arith)
    by_colon false e =
        let same = without e in
        let at = header_end-key raw e in
        let within = key_end-≤ raw in
        (omega arith, omega arith, omega arith)

-- the same from the places that are found, and within the bytes
pub places-in_order : (raw : List ℕ) (key start stop len : ℕ) → key ≡ key_end raw → start ≡ value_start raw → stop ≡ value_end raw → len ≡ header_length raw
    → (key ≤ start) × (start ≤ stop) × (stop ≤ len) × (len ≤ length raw)
places-in_order raw key start stop len k s e n =
    let order = value-in_order raw in
    let first = order.0 in
    let second = order.1 in
    let third = order.2 in
    let fits = header_length-≤ raw in
    (omega arith, omega arith, omega arith, omega arith)

-- where the value is without a colon
pub value_start-key : (raw : List ℕ) (place : ℕ) → has_colon raw ≡ false → place ≡ key_end raw → place ≡ value_start raw
value_start-key raw place without at = at ∙ sym (no_start raw without)

pub value_end-key : (raw : List ℕ) (place : ℕ) → has_colon raw ≡ false → place ≡ key_end raw → place ≡ value_end raw
value_end-key raw place without at = at ∙ sym (no_end raw without)

-- where it is with a colon, from its parts as they are cut
pub value-places : (raw : List ℕ) (colon end : ℕ) → has_colon raw ≡ true → colon ≡ key_end raw → end ≡ header_end raw
    → (after spaceless trimmed : List ℕ) → after ≡ slice_range raw (colon + 1) end
    → spaceless ≡ drop (first_place (begins (λ b. not (eqb b 32))) after) after
    → trimmed ≡ take (first_place (list_all is_line_end) spaceless) spaceless
    → (end - length spaceless ≡ value_start raw) × ((end - length spaceless) + length trimmed ≡ value_end raw)
value-places raw colon end has at ends after spaceless trimmed is_after is_spaceless is_trimmed =
    let is_cut : after ≡ cut raw = is_after ∙ ap (λ n. slice_range raw (n + 1) end) at ∙ ap (λ n. slice_range raw (key_end raw + 1) n) ends ∙ (rw add-one refl) in
    let is_left : spaceless ≡ drop (spaces raw) (cut raw) = is_spaceless ∙ ap (λ (xs : List ℕ). drop (first_place (begins (λ b. not (eqb b 32))) xs) xs) is_cut in
    let is_value : trimmed ≡ take (kept raw) (drop (spaces raw) (cut raw)) = is_trimmed ∙ ap (λ (xs : List ℕ). take (first_place (list_all is_line_end) xs) xs) is_left in
    let order = header_end-> raw has in
    let size = length-cut raw has in
    let front = first_place-≤ (begins (λ b. not (eqb b 32))) (cut raw) in
    let back = first_place-≤ (list_all is_line_end) (drop (spaces raw) (cut raw)) in
    let rest = length-drop (spaces raw) (cut raw) in
    let left : length spaceless ≡ length (cut raw) - spaces raw = ap length is_left ∙ rest in
    let value : length trimmed ≡ kept raw = ap length is_value ∙ length-take (kept raw) (drop (spaces raw) (cut raw)) ∙ omega arith in
    let starts = value_start-colon raw has in
    let stops = value_end-colon raw has in
    (omega arith, omega arith)

-- the same from what the searches find
pub value-found : (raw : List ℕ) (place feed end : ℕ) (is : Bool) (spaceless trimmed : List ℕ) → place ≡ key_end raw → is ≡ begins is_colon (drop place raw) → is ≡ true
    → feed ≡ place_from (begins is_line_feed) raw (place + 1) → end ≡ place_from ends_header raw feed
    → spaceless ≡ drop (first_place (begins (λ b. not (eqb b 32))) (slice_range raw (place + 1) end)) (slice_range raw (place + 1) end)
    → trimmed ≡ take (first_place (list_all is_line_end) spaceless) spaceless
    → (end - length spaceless ≡ value_start raw) × ((end - length spaceless) + length trimmed ≡ value_end raw)
value-found raw place feed end is spaceless trimmed at found colon is_feed is_end is_spaceless is_trimmed =
    let has = has_colon-at raw place is true at found colon in
    let within = key_end-< raw has in
    let low : place < length raw = omega arith in
    value-places raw place end has at (is_end ∙ header_end-from_feed raw place feed has at low is_feed) (slice_range raw (place + 1) end) spaceless trimmed refl is_spaceless is_trimmed

-- where a header is cut
pub ruleset header_cuts = (has_colon-at, feed_after, key_end-<, header_end-key, header_end-from_feed, header_length-at, value_start-key, value_end-key, places-in_order)

-- the reading of a header
pub ruleset header_readings = (read_header-empty, read_header-space, read_header-ok, header_length-≤, header_length->)
