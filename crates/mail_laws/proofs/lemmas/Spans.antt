-- Lemmas on the ranges of the headers of a block, of their keys and of their values.
use Rattle.std.proofs.Common.{◌≡◌, ℕ, zero, suc, ◌+◌, ◌-◌, ◌<◌, ◌≤◌, Bool, true, false, inl, inr, List, ◌++◌, length, take, drop, slice_range, Ok, refl, sym, ap, ◌∙◌, arith, take-add}
use Rattle.std.specs.List.{flat_map, suffix_len}
use Rattle.std.proofs.lemmas.Bool.{cases_lt}
use Rattle.std.proofs.lemmas.List.{drop-drop, length-take, take-take}
use Rattle.mail_codec.specs.Ascii.{is_blank}
use Rattle.mail_codec.specs.Places.{values_below}
use Rattle.mailparse.specs.Header.{Header, header_length, header_of, key_end, value_start, value_end}
use Rattle.mailparse.specs.Block.{HeaderList, blank_line, header_as, header_place, rest_at, header_count, read_headers}
use Rattle.mailparse.specs.Ranges.{slice}
use Rattle.mailparse.proofs.lemmas.Header.{value-in_order}
use Rattle.mailparse.proofs.lemmas.Block.{rest_at-first, rest_at-more, header_place-more, header_place-first, read_headers-index, read_headers-list, values_below-same}
use Rattle.mail_laws.specs.Spans.{header_span, header_spans, blank_span, key_end_as, key_range_as, value_range, header_at, header_at_as, AreOrderedBefore}

-- the first headers take the bytes up to the start of the next one
spans-below : (n : ℕ) (raw : List ℕ) → flat_map (λ (span : List ℕ). span) (values_below n (header_span raw)) ≡ take (header_place raw n) raw
spans-below zero raw = sym (ap (λ k. take k raw) (header_place-first raw))
spans-below (suc n) raw =
    let size = header_length raw in
    let rest = drop size raw in
    ap (λ (x : List ℕ). take (header_length x) x ++ flat_map (λ (span : List ℕ). span) (values_below n (λ j. header_span raw (suc j)))) (rest_at-first raw)
    ∙ ap (λ (x : List (List ℕ)). take size raw ++ flat_map (λ (span : List ℕ). span) x)
    (values_below-same n (λ j. header_span raw (suc j)) (header_span rest) (λ j. ap (λ (x : List ℕ). take (header_length x) x) (rest_at-more raw j)))
    ∙ ap (λ (x : List ℕ). take size raw ++ x) (spans-below n rest)
    ∙ sym (take-add size (header_place rest n) raw)
    ∙ ap (λ k. take k raw) (sym (header_place-more raw n))

pub spans-cover : (raw : List ℕ) (block : HeaderList) → read_headers raw ≡ Ok block → header_spans raw ++ blank_span raw ≡ take block.index raw
spans-cover raw block e =
    ap (λ (x : List ℕ). x ++ blank_span raw) (spans-below (header_count raw) raw)
    ∙ sym (take-add (header_place raw (header_count raw)) (blank_line (rest_at raw (header_count raw))) raw)
    ∙ ap (λ k. take k raw) (sym (read_headers-index raw block e))

-- a range of the bytes after a place is a range of the whole
slice-after : (raw : List ℕ) (place from to : ℕ) → slice_range (drop place raw) from to ≡ slice_range raw (place + from) (place + to)
slice-after raw place from to =
    let size : to - from ≡ (place + to) - (place + from) = omega arith in
    ap (take (to - from)) (drop-drop from place raw) ∙ ap (λ n. take n (drop (place + from) raw)) size

-- the front of the bytes after a place is a range of the whole
front-after : (raw : List ℕ) (place to : ℕ) → take to (drop place raw) ≡ slice_range raw place (place + to)
front-after raw place to = let size : to ≡ (place + to) - place = omega arith in ap (λ n. take n (drop place raw)) size

-- the key of the header at the front
key-there : (lenient : Bool) (raw : List ℕ) → (header_as lenient (header_of raw)).key ≡ take (key_end_as lenient raw) raw
key-there false raw = refl
key-there true raw =
    let key = take (key_end raw) raw in
    let n = length key - suffix_len is_blank key in
    let whole = length-take (key_end raw) raw in
    let size = length-take n key in
    let same : n ≡ length (take n key) = omega (arith, size) in
    take-take n (key_end raw) raw (omega (arith, whole)) ∙ ap (λ m. take m raw) same

key-within : (lenient : Bool) (raw : List ℕ) → key_end_as lenient raw ≤ key_end raw
key-within false raw = omega arith
key-within true raw =
    let key = take (key_end raw) raw in
    let whole = length-take (key_end raw) raw in
    let size = length-take (length key - suffix_len is_blank key) key in
    omega (arith, whole, size)

-- the header with a number has the bytes of its two ranges
pub header-at : (lenient : Bool) (raw : List ℕ) (j : ℕ) → header_as lenient (header_of (rest_at raw j)) ≡ header_at_as lenient raw j
header-at lenient raw j =
    let rest = rest_at raw j in
    own lenient (header_of rest)
    ∙ ap (λ (key : List ℕ). header key (slice_range rest (value_start rest) (value_end rest)))
    (key-there lenient rest ∙ front-after raw (header_place raw j) (key_end_as lenient rest))
    ∙ ap (header (slice raw (key_range_as lenient raw j))) (slice-after raw (header_place raw j) (value_start rest) (value_end rest))
  where
    header : List ℕ → List ℕ → Header
    header key value = record { key = key; value = value }

    own : (lenient : Bool) (h : Header) → header_as lenient h ≡ header (header_as lenient h).key h.value
    own true h = refl
    own false h = refl

pub headers-at_ranges : (raw : List ℕ) (block : HeaderList) → read_headers raw ≡ Ok block → block.headers ≡ values_below (header_count raw) (header_at raw)
headers-at_ranges raw block e = read_headers-list raw block e ∙ values_below-same (header_count raw) (λ j. header_of (rest_at raw j)) (header_at raw) (header-at false raw)

-- the next header starts where this one ends
place-next : (raw : List ℕ) (j : ℕ) → header_place raw (suc j) ≡ header_place raw j + header_length (rest_at raw j)
unfolding header_place
place-next raw j = refl

pub ranges-in_order : (lenient : Bool) (raw : List ℕ) (j : ℕ) → AreOrderedBefore (key_range_as lenient raw j) (value_range raw j) (header_place raw (suc j))
ranges-in_order lenient raw j =
    let order = value-in_order (rest_at raw j) in
    let key = key-within lenient (rest_at raw j) in
    let next = place-next raw j in
    record { first_is_range = omega arith; apart = omega (arith, key, order.0); second_is_range = omega arith; ends = omega arith }

-- the places increase
place-later : (raw : List ℕ) (j n : ℕ) → j ≤ n → header_place raw j ≤ header_place raw n
place-later raw j zero low = let e : j ≡ 0 = omega arith in rw e (omega arith)
place-later raw j (suc n) low = elim (cases_lt n j) [
  | inl last ↦ let e : j ≡ suc n = omega arith in rw e (omega arith)
  | inr below ↦ let before = place-later raw j n below in let next = place-next raw n in omega arith
]

pub place-within : (raw : List ℕ) (block : HeaderList) (j : ℕ) → read_headers raw ≡ Ok block → j < header_count raw → header_place raw (suc j) ≤ block.index
place-within raw block j e low =
    let later = place-later raw (suc j) (header_count raw) (omega arith) in
    let index = read_headers-index raw block e in
    omega arith
