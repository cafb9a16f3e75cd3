-- Lemmas on the bytes that headers are read from: all, or those before a line that looks like a delimiter.
use Rattle.std.proofs.Common.{◌≡◌, ℕ, suc, ◌+◌, ◌<◌, ◌≤◌, Bool, true, false, ◌&&◌, ◌||◌, cond, eqb, get_or, List, [], ◌∷◌, Ok, Err, length, take, drop, map, refl, sym, ap, ◌∙◌, subst, arith, ⊎_elim}
use Rattle.std.proofs.lemmas.Bool.{and_parts, cases_lt}
use Rattle.std.proofs.lemmas.List.{drop_more, length-map, length-take, map-id, take_all}
use Rattle.std.proofs.Math.ListN.{drop_of_length-le}
use Rattle.mail_codec.specs.Places.{begins, first_place, place_from}
use Rattle.mail_codec.proofs.lemmas.Places.{begins-at, place_from_here, place_from_next, place_from_passes}
use Rattle.mailparse.specs.Header.{is_line_feed}
use Rattle.mailparse.specs.Block.{HeaderList, headers_end, is_dash_line, ends_header_lines, header_lines_end, bare_header, before_dash_line, header_as, header_part, read_block, read_headers, with_bare_keys}
use Rattle.mailparse.specs.Limit.{headers_met}
use Rattle.mailparse.specs.Refusal.{Reads, Refusal}
use Rattle.mailparse.proofs.lemmas.Block.{read_headers-bounded}

-- ---- the front of the bytes

take-front : (n : ℕ) (raw : List ℕ) → take n raw ≡ take (length (take n raw)) raw
take-front n raw =
    let size = length-take n raw in
    ⊎_elim (λ low. let same : n ≡ length (take n raw) = omega arith in ap (λ m. take m raw) same)
    (λ high. take_all n raw (omega arith) ∙ sym (take_all (length (take n raw)) raw (omega arith)))
    (cases_lt n (length raw))

before_dash_line-front : (raw : List ℕ) → before_dash_line raw ≡ take (length (before_dash_line raw)) raw
unfolding before_dash_line
before_dash_line-front raw = by_test (is_dash_line (drop (header_lines_end raw) raw))
  where
    by_test : (t : Bool) → cond t (take (header_lines_end raw) raw) raw ≡ take (length (cond t (take (header_lines_end raw) raw) raw)) raw
    by_test true = take-front (header_lines_end raw) raw
    by_test false = sym (take_all (length raw) raw (omega arith))

pub header_part-front : (lenient : Bool) (raw : List ℕ) → header_part lenient raw ≡ take (length (header_part lenient raw)) raw
header_part-front true raw = before_dash_line-front raw
header_part-front false raw = sym (take_all (length raw) raw (omega arith))

pub header_part-≤ : (lenient : Bool) (raw : List ℕ) → length (header_part lenient raw) ≤ length raw
header_part-≤ lenient raw =
    let size = length-take (length (header_part lenient raw)) raw in
    let same = ap length (header_part-front lenient raw) in
    omega (arith, size, same)

-- the headers that are read fit into the block, and the block into the bytes
pub record FitsIn (raw : List ℕ) (block : HeaderList) : Type 0 where
  pub headers : length block.headers ≤ block.index
  pub index : block.index ≤ length raw

-- a block in a manner, beside what is read from those bytes
pub record IsReadFrom (lenient : Bool) (raw : List ℕ) (block : HeaderList) : Type 0 where
  pub whole : HeaderList
  pub read : read_headers (header_part lenient raw) ≡ Ok whole
  pub headers : block.headers ≡ map (header_as lenient) whole.headers
  pub index : block.index ≡ whole.index

bare_from : (raw : List ℕ) (read : Reads HeaderList) (block : HeaderList) → read_headers (before_dash_line raw) ≡ read → with_bare_keys read ≡ Ok block → IsReadFrom true raw block
bare_from raw (Ok whole) block is e =
    let same : ◌≡◌ {A = HeaderList} (record { headers = map bare_header whole.headers; index = whole.index }) block = cc in
    record {
      whole = whole;
      read = is;
      headers = sym (ap (λ (b : HeaderList). b.headers) same);
      index = sym (ap (λ (b : HeaderList). b.index) same);
    }
bare_from raw (Err r) block is e = absurd (cc)

pub read_block-from : (lenient : Bool) (raw : List ℕ) (block : HeaderList) → read_block lenient raw ≡ Ok block → IsReadFrom lenient raw block
read_block-from true raw block e = bare_from raw (read_headers (before_dash_line raw)) block refl e
read_block-from false raw block e = record { whole = block; read = e; headers = sym (map-id block.headers); index = refl }

-- it is refused for its bytes alone
bare-refused : (read : Reads HeaderList) (r : Refusal) → with_bare_keys read ≡ Err r → read ≡ Err r
bare-refused (Ok whole) r e = absurd (cc)
bare-refused (Err other) r e = cc

pub read_block-refused : (lenient : Bool) (raw : List ℕ) (r : Refusal) → read_block lenient raw ≡ Err r → read_headers (header_part lenient raw) ≡ Err r
read_block-refused true raw r e = bare-refused (read_headers (before_dash_line raw)) r e
read_block-refused false raw r e = e

pub read_block-refuses : (lenient : Bool) (raw : List ℕ) (r : Refusal) → read_headers (header_part lenient raw) ≡ Err r → read_block lenient raw ≡ Err r
read_block-refuses true raw r e = ap with_bare_keys e
read_block-refuses false raw r e = e

-- and has as many headers
bare-met : (read : Reads HeaderList) → headers_met (with_bare_keys read) ≡ headers_met read
bare-met (Ok whole) = length-map whole.headers bare_header
bare-met (Err r) = refl

pub read_block-met : (lenient : Bool) (raw : List ℕ) → headers_met (read_block lenient raw) ≡ headers_met (read_headers (header_part lenient raw))
read_block-met true raw = bare-met (read_headers (before_dash_line raw))
read_block-met false raw = refl

pub read_block-bounded : (lenient : Bool) (raw : List ℕ) (block : HeaderList) → read_block lenient raw ≡ Ok block → FitsIn raw block
read_block-bounded lenient raw block e =
    let from = read_block-from lenient raw block e in
    let bounded = read_headers-bounded (header_part lenient raw) from.whole from.read in
    let many : length block.headers ≡ length from.whole.headers = ap length from.headers ∙ length-map from.whole.headers (header_as lenient) in
    let index = from.index in
    let within = header_part-≤ lenient raw in
    record { headers = omega (arith, bounded.headers, many, index); index = omega (arith, bounded.index, within, index) }

-- ---- the line that ends them

pub ends_header_lines_is_feed : (rest : List ℕ) → ends_header_lines rest ≡ true → begins is_line_feed rest ≡ true
ends_header_lines_is_feed [] h = h
ends_header_lines_is_feed (b ∷ rest) h = (and_parts _ _ h).0

-- the headers go on after a LF
pub lines_continued : (raw : List ℕ) (end : ℕ) → end < length raw → (headers_end (drop (end + 1) raw) || is_dash_line (drop (end + 1) raw)) ≡ false
    → place_from ends_header_lines raw end ≡ place_from ends_header_lines raw (end + 1)
lines_continued raw end low more =
    place_from_next ends_header_lines raw end low (ap ends_header_lines (drop_more raw end 0 low) ∙ last (eqb (get_or raw end 0) 10))
  where
    last : (t : Bool) → (t && (headers_end (drop (end + 1) raw) || is_dash_line (drop (end + 1) raw))) ≡ false
    last true = more
    last false = refl

-- and end after any other
pub lines_here : (raw : List ℕ) (end : ℕ) → end < length raw → place_from (begins is_line_feed) raw end ≡ end
    → (headers_end (drop (end + 1) raw) || is_dash_line (drop (end + 1) raw)) ≡ true → place_from ends_header_lines raw end ≡ end
lines_here raw end low found stops =
    let feed : begins is_line_feed (drop end raw) ≡ true =
    subst (λ v. begins is_line_feed (drop v raw) ≡ true) found (place_from_passes (begins is_line_feed) raw end (omega arith) (λ e. absurd (omega arith))) in
    place_from_here ends_header_lines raw end low
    (ap ends_header_lines (drop_more raw end 0 low) ∙ ap (λ t. t && (headers_end (drop (end + 1) raw) || is_dash_line (drop (end + 1) raw))) (sym (begins-at is_line_feed raw end low) ∙ feed) ∙ stops)

-- the bytes before it
pub before_dash_line-at : (raw : List ℕ) (feed : ℕ) (t : Bool) → feed ≡ first_place ends_header_lines raw → is_dash_line (drop (feed + 1) raw) ≡ t
    → before_dash_line raw ≡ cond t (take (feed + 1) raw) raw
unfolding before_dash_line header_lines_end
before_dash_line-at raw feed t at e =
    let same : suc (first_place ends_header_lines raw) ≡ feed + 1 = omega (arith, at) in
    ap (λ n. cond (is_dash_line (drop n raw)) (take n raw) raw) same ∙ ap (λ v. cond v (take (feed + 1) raw) raw) e

pub no_dash_line : is_dash_line [] ≡ false
unfolding is_dash_line
no_dash_line = refl

pub before_dash_line-none : (raw : List ℕ) (feed : ℕ) → feed ≡ first_place ends_header_lines raw → length raw ≤ feed → before_dash_line raw ≡ raw
before_dash_line-none raw feed at high =
    before_dash_line-at raw feed false at (ap is_dash_line (drop_of_length-le raw (omega arith)) ∙ no_dash_line)
