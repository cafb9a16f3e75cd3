-- The lines of the headers of a message have the keys and the values of its headers.
use Rattle.std.proofs.Common.{◌≡◌, ◌∙◌, ◌+◌, ◌-◌, ◌≤◌, ℕ, suc, Bool, true, false, cond, List, [], ◌∷◌, length, map, drop, take, Result, Ok, Err, refl, sym, ap, inl, inr, arith, length-take}
use Rattle.std.specs.Prelude.{not, ◌==◌, slice_range}
use Rattle.std.specs.List.{list_all}
use Rattle.std.proofs.lemmas.Bool.{cases_lt}
use Rattle.std.proofs.lemmas.List.{drop-take, take_all}
use Rattle.mail_codec.specs.Ascii.{space}
use Rattle.mail_codec.specs.Places.{begins, place_from}
use Rattle.mailparse.specs.Block.{HeaderList, read_headers}
use Rattle.mailparse.specs.Header.{Header, has_colon, header_end, header_length, header_of, is_line_end, key_end, value_end, value_start}
use Rattle.mailparse.specs.Mail.{Node}
use Rattle.mailparse.specs.Refusal.{Refusal}
use Rattle.mailparse.proofs.lemmas.Block.{read_headers-more, with_front}
use Rattle.mailparse.proofs.lemmas.Header.{value-in_order}
use Rattle.mail_check.specs.Lines.{HeaderLine, header_lines, lines_from}
use Rattle.mail_check_laws.proofs.lemmas.Blocks.{flip_drop, header_there, index_in, listed_in, short_header, take_first, was_read, whole_header}
use Rattle.mail_check_laws.proofs.lemmas.Headers.{cut_colon, cut_header, cut_key}
use Rattle.mail_check_laws.proofs.lemmas.Reading.{IsRead}

-- a header as its key and its value
abbrev pub of_line : HeaderLine → Header
of_line line = record { key = line.key; value = line.value }

-- ---- one header, and the same without bytes after it

abbrev start_by : Bool → List ℕ → ℕ → ℕ
start_by has front key = cond has (place_from (begins (λ b. not (b == space))) front (suc key)) key

abbrev end_by : Bool → List ℕ → ℕ → ℕ → ℕ
end_by has front start key = cond has (place_from (list_all is_line_end) front start) key

start_opened : (raw : List ℕ) → value_start raw ≡ start_by (has_colon raw) (take (header_end raw) raw) (key_end raw)
unfolding value_start
start_opened raw = refl

end_opened : (raw : List ℕ) → value_end raw ≡ end_by (has_colon raw) (take (header_end raw) raw) (value_start raw) (key_end raw)
unfolding value_end
end_opened raw = refl

-- a range before an offset
range_first : (start end m : ℕ) (xs : List ℕ) → start ≤ end → end ≤ m → slice_range (take m xs) start end ≡ slice_range xs start end
range_first start end m xs low high =
    ap (λ (i : ℕ). take (end - start) (drop start (take i xs))) {x = m} {y = start + (m - start)} (omega (arith, low, high))
    ∙ ap (take (end - start)) (drop-take start (m - start) xs)
    ∙ take_first (end - start) (m - start) (drop start xs) (omega (arith, low, high))

module _ (raw : List ℕ) (m : ℕ) (within : suc (header_end raw) ≤ m) where
  front_cut : take (header_end (take m raw)) (take m raw) ≡ take (header_end raw) raw
  front_cut = ap (λ (n : ℕ). take n (take m raw)) (cut_header raw m within) ∙ take_first (header_end raw) m raw (omega (arith, within))

  start_cut : value_start (take m raw) ≡ value_start raw
  start_cut =
      start_opened (take m raw)
      ∙ ap (λ (t : Bool). start_by t (take (header_end (take m raw)) (take m raw)) (key_end (take m raw))) (cut_colon raw m within)
      ∙ ap (λ (xs : List ℕ). start_by (has_colon raw) xs (key_end (take m raw))) front_cut
      ∙ ap (start_by (has_colon raw) (take (header_end raw) raw)) (cut_key raw m within)
      ∙ sym (start_opened raw)

  end_cut : value_end (take m raw) ≡ value_end raw
  end_cut =
      end_opened (take m raw)
      ∙ ap (λ (t : Bool). end_by t (take (header_end (take m raw)) (take m raw)) (value_start (take m raw)) (key_end (take m raw))) (cut_colon raw m within)
      ∙ ap (λ (xs : List ℕ). end_by (has_colon raw) xs (value_start (take m raw)) (key_end (take m raw))) front_cut
      ∙ ap (λ (n : ℕ). end_by (has_colon raw) (take (header_end raw) raw) n (key_end (take m raw))) start_cut
      ∙ ap (end_by (has_colon raw) (take (header_end raw) raw) (value_start raw)) (cut_key raw m within)
      ∙ sym (end_opened raw)

  some_cut : header_length raw ≤ m → header_of (take m raw) ≡ header_of raw
  some_cut fits =
      let order = value-in_order raw in
      let key : take (key_end (take m raw)) (take m raw) ≡ take (key_end raw) raw =
      ap (λ (n : ℕ). take n (take m raw)) (cut_key raw m within) ∙ take_first (key_end raw) m raw (omega (arith, order.0, order.1, order.2, fits)) in
      let value : slice_range (take m raw) (value_start (take m raw)) (value_end (take m raw)) ≡ slice_range raw (value_start raw) (value_end raw) =
      ap (λ (n : ℕ). slice_range (take m raw) n (value_end (take m raw))) start_cut
      ∙ ap (λ (n : ℕ). slice_range (take m raw) (value_start raw) n) end_cut
      ∙ range_first (value_start raw) (value_end raw) m raw order.1 (omega (arith, order.2, fits)) in
      ap (λ (k : List ℕ). record { key = k; value = slice_range (take m raw) (value_start (take m raw)) (value_end (take m raw)) }) key
      ∙ ap (λ (v : List ℕ). record { key = take (key_end raw) raw; value = v }) value

  some_length : header_length (take m raw) ≡ header_length raw
  unfolding header_length
  some_length =
      let same = cut_header raw m within in
      let size = length-take m raw in
      omega (arith, same, size, within)

pub header_cut : (raw : List ℕ) (m : ℕ) → header_length raw ≤ m → (header_of (take m raw) ≡ header_of raw) × (header_length (take m raw) ≡ header_length raw)
header_cut raw m fits = elim (cases_lt (header_end raw) (length raw)) [
  | inl l ↦
      let own = short_header raw l in
      let within : suc (header_end raw) ≤ m = omega (arith, own, fits) in
      (some_cut raw m within fits, some_length raw m within)
  | inr g ↦
      let own = whole_header raw (omega (arith, g)) in
      let same : take m raw ≡ raw = take_all m raw (omega (arith, own, fits)) in
      (ap header_of same, ap header_length same)
]

-- ---- all headers of a block

abbrev first_in : Header → List Header → Header
first_in other [] = other
first_in other (h ∷ hs) = h

abbrev HeadersOf : List Header → Type 0
HeadersOf hs =
    (index at : ℕ) (raw block : List ℕ) → read_headers raw ≡ Ok (record { headers = hs; index = index }) → drop at block ≡ take index raw
    → map of_line (lines_from hs block at) ≡ hs

next_header_of : (h : Header) (hs : List Header) → HeadersOf hs → HeadersOf (h ∷ hs)
next_header_of h hs ih index at raw block read cut = by_rest (read_headers (drop (header_length raw) raw)) refl (sym (read_headers-more raw (header_there h hs index raw read)) ∙ read)
  where
    by_rest : (r : Result HeaderList Refusal) → read_headers (drop (header_length raw) raw) ≡ r
        → with_front (header_of raw ∷ []) (header_length raw) r ≡ Ok (record { headers = h ∷ hs; index = index })
        → map of_line (lines_from (h ∷ hs) block at) ≡ h ∷ hs
    by_rest (Err refusal) f g = let no : false ≡ true = ap was_read g in absurd (cc)
    by_rest (Ok b) f g =
        let n = header_length raw in
        let tail : b.headers ≡ hs = ap (λ (r : Result HeaderList Refusal). drop 1 (listed_in r)) g in
        let own : header_of raw ≡ h = ap (λ (r : Result HeaderList Refusal). first_in h (listed_in r)) g in
        let total : n + b.index ≡ index = ap index_in g in
        let rest : read_headers (drop n raw) ≡ Ok (record { headers = hs; index = b.index }) =
        f ∙ ap (λ (xs : List Header). Ok (record { headers = xs; index = b.index })) tail in
        let same = header_cut raw index (omega (arith, total)) in
        let here : header_of (drop at block) ≡ h = ap header_of cut ∙ same.0 ∙ own in
        let size : header_length (drop at block) ≡ n = ap header_length cut ∙ same.1 in
        let next : drop (at + n) block ≡ take b.index (drop n raw) =
        ap (λ (i : ℕ). drop i block) {x = at + n} {y = n + at} (omega arith) ∙ flip_drop n at block ∙ ap (drop n) cut
        ∙ ap (λ (i : ℕ). drop n (take i raw)) (sym total) ∙ drop-take n b.index raw in
        ap (λ (x : Header). x ∷ map of_line (lines_from hs block (at + header_length (drop at block)))) here
        ∙ ap (λ (i : ℕ). h ∷ map of_line (lines_from hs block (at + i))) size
        ∙ ap (λ (xs : List Header). h ∷ xs) (ih b.index (at + n) (drop n raw) block rest next)

headers_of : (hs : List Header) → HeadersOf hs
headers_of [] = λ index at raw block read cut. refl
headers_of (h ∷ hs) = next_header_of h hs (headers_of hs)

-- those of a message that was read
pub lines_are_headers : (node : Node) → IsRead node → map of_line (header_lines node) ≡ node.headers
lines_are_headers node is = headers_of node.headers is.index 0 node.bytes node.block is.headers is.block
