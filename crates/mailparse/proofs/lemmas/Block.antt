-- Lemmas on the block of headers: the headers, one after another.
use Rattle.std.proofs.Common.{◌≡◌, ℕ, zero, suc, ◌+◌, ◌<◌, ◌≤◌, Bool, true, false, ◌&&◌, not, cond, eqb, nat_eq, Some, None, List, [], ◌∷◌, ◌++◌, length, drop, Result, Ok, Err, refl, sym, ap, subst, ◌∙◌, ⊎_elim, arith, length-drop, add_assoc, append_assoc, append-nil, zero-add}
use Rattle.std.specs.List.{starts_with}
use Rattle.std.proofs.lemmas.Bool.{cases_lt, false≢true, not-false, not-true}
use Rattle.std.proofs.Math.Bool.{or-true}
use Rattle.std.proofs.lemmas.List.{drop-drop, take_rest}
use Rattle.std.proofs.Math.ListN.{drop_of_length-le}
use Rattle.mail_codec.specs.Places.{has_prefix, is_empty, values_below}
use Rattle.mail_codec.proofs.lemmas.Places.{least-is, least-before, least-passes, has_prefix-starts_with}
use Rattle.mailparse.specs.Refusal.{Refusal, empty_string, leading_space, lone_carriage_return}
use Rattle.mailparse.specs.Header.{Header, header_of, header_length, read_header}
use Rattle.mailparse.proofs.lemmas.Places.{not_empty}
use Rattle.mailparse.proofs.lemmas.Header.{header_length-≤, header_length->, read_header-empty}
use Rattle.mailparse.specs.Block.{HeaderList, blank_line, headers_end, has_header, header_place, rest_at, header_count, block_end, read_headers}
use Rattle.std.proofs.lemmas.Result.{err_from_is_err_and}
use Rattle.mailparse.proofs.lemmas.Outcome.{IsRefusal-along, IsRefusalOrMemory-from}

-- where a header begins there are bytes
pub has_header-nonempty : (bytes : List ℕ) → has_header bytes ≡ true → 0 < length bytes
unfolding has_header headers_end
has_header-nonempty [] h = absurd (false≢true h)
has_header-nonempty (b ∷ bytes) h = omega arith

has_header-none : has_header [] ≡ false
unfolding has_header headers_end
has_header-none = refl

-- the places are within the bytes
pub header_place-≤ : (raw : List ℕ) (j : ℕ) → header_place raw j ≤ length raw
unfolding header_place
header_place-≤ raw zero = omega arith
header_place-≤ raw (suc j) =
    let here = header_place-≤ raw j in
    let more = header_length-≤ (drop (header_place raw j) raw) in
    omega (arith, length-drop (header_place raw j) raw)

-- and each header moves on
pub header_place-≥ : (raw : List ℕ) (j : ℕ) → ((k : ℕ) → k < j → has_header (rest_at raw k) ≡ true) → j ≤ header_place raw j
unfolding header_place
header_place-≥ raw zero h = omega arith
header_place-≥ raw (suc j) h =
    let here = header_place-≥ raw j (λ k low. h k (omega arith)) in
    let more = header_length-> (drop (header_place raw j) raw) (has_header-nonempty (rest_at raw j) (h j (omega arith))) in
    omega arith

-- the number of headers: no header begins at its place, and one begins at each place before it
pub header_count-is : (raw : List ℕ) (n : ℕ) → ((k : ℕ) → k < n → has_header (rest_at raw k) ≡ true) → has_header (rest_at raw n) ≡ false → header_count raw ≡ n
unfolding header_count
header_count-is raw n before at =
    let moved = header_place-≥ raw n before in
    let within = header_place-≤ raw n in
    least-is (λ j. not (has_header (rest_at raw j))) (length raw) n (omega arith) (λ k low. rw (before k low) refl) (λ low. rw at refl)

pub header_count-before : (raw : List ℕ) (k : ℕ) → k < header_count raw → has_header (rest_at raw k) ≡ true
unfolding header_count
header_count-before raw k low = not-false (has_header (rest_at raw k)) (least-before (λ j. not (has_header (rest_at raw j))) (length raw) k low)

pub header_count-stops : (raw : List ℕ) → has_header (rest_at raw (header_count raw)) ≡ false
unfolding header_count
header_count-stops raw =
    let moved = header_place-≥ raw (header_count raw) (header_count-before raw) in
    ⊎_elim (λ below. not-true (has_header (rest_at raw (header_count raw))) (least-passes (λ j. not (has_header (rest_at raw j))) (length raw) below))
    (λ above. ap has_header (drop_of_length-le raw (omega arith)) ∙ has_header-none)
    (cases_lt (header_count raw) (length raw))

-- the places after the first header are those of the rest
pub header_place-more : (raw : List ℕ) (j : ℕ) → header_place raw (suc j) ≡ header_length raw + header_place (drop (header_length raw) raw) j
unfolding header_place
header_place-more raw zero = omega arith
header_place-more raw (suc j) =
    let n = header_length raw in
    let rest = drop n raw in
    let before = header_place-more raw j in
    let same : drop (header_place raw (suc j)) raw ≡ drop (header_place rest j) rest = ap (λ p. drop p raw) before ∙ sym (drop-drop (header_place rest j) n raw) in
    ap (λ p. p + header_length (drop (header_place raw (suc j)) raw)) before ∙ ap (λ (xs : List ℕ). n + header_place rest j + header_length xs) same ∙ omega arith

pub rest_at-more : (raw : List ℕ) (j : ℕ) → rest_at raw (suc j) ≡ rest_at (drop (header_length raw) raw) j
rest_at-more raw j =
    let n = header_length raw in
    ap (λ p. drop p raw) (header_place-more raw j) ∙ sym (drop-drop (header_place (drop n raw) j) n raw)

pub rest_at-first : (raw : List ℕ) → rest_at raw 0 ≡ raw
unfolding header_place
rest_at-first raw = refl

-- one header more than the rest has
pub header_count-more : (raw : List ℕ) → has_header raw ≡ true → header_count raw ≡ suc (header_count (drop (header_length raw) raw))
header_count-more raw h =
    header_count-is raw (suc (header_count (drop (header_length raw) raw))) before (rw rest_at-more (header_count-stops (drop (header_length raw) raw)))
  where
    before : (k : ℕ) → k < suc (header_count (drop (header_length raw) raw)) → has_header (rest_at raw k) ≡ true
    before zero low = rw rest_at-first h
    before (suc k) low = rw rest_at-more (header_count-before (drop (header_length raw) raw) k (omega arith))

-- no headers if none begins at the front
pub header_count-none : (raw : List ℕ) → has_header raw ≡ false → header_count raw ≡ 0
header_count-none raw h = header_count-is raw 0 (λ k low. absurd (omega arith)) (rw rest_at-first h)

-- values at the same numbers
pub values_below-same : {X : Type 0} (n : ℕ) (f g : ℕ → X) → ((k : ℕ) → f k ≡ g k) → values_below n f ≡ values_below n g
values_below-same {X = X} zero f g h = refl
values_below-same {X = X} (suc n) f g h = ap (λ x. x ∷ values_below n (λ k. f (suc k))) (h 0) ∙ ap (λ (xs : List X). g 0 ∷ xs) (values_below-same n (λ k. f (suc k)) (λ k. g (suc k)) (λ k. h (suc k)))

-- headers that were read, and then those of the rest
abbrev pub with_front : List Header → ℕ → Result HeaderList Refusal → Result HeaderList Refusal
with_front front place (Ok block) = Ok (record { headers = front ++ block.headers; index = place + block.index })
with_front front place (Err refusal) = Err refusal

-- the block that ends at these bytes
abbrev pub end_at : List Header → ℕ → List ℕ → Result HeaderList Refusal
end_at found place stop =
    cond (headers_end stop) (Ok (record { headers = found; index = place + blank_line stop }))
    (cond (has_prefix (13 ∷ []) stop) (Err lone_carriage_return) (Err leading_space))

read_headers-end_at : (raw : List ℕ) → read_headers raw ≡ end_at (values_below (header_count raw) (λ j. header_of (rest_at raw j))) (header_place raw (header_count raw)) (rest_at raw (header_count raw))
unfolding read_headers
read_headers-end_at raw = refl

end_at-front : (front found : List Header) (n place : ℕ) (stop : List ℕ) → with_front front n (end_at found place stop) ≡ end_at (front ++ found) (n + place) stop
end_at-front front found n place stop = by_end (headers_end stop) (has_prefix (13 ∷ []) stop)
  where
    by_end : (ended returned : Bool) →
        with_front front n (cond ended (Ok (record { headers = found; index = place + blank_line stop })) (cond returned (Err lone_carriage_return) (Err leading_space)))
        ≡ cond ended (Ok (record { headers = front ++ found; index = n + place + blank_line stop })) (cond returned (Err lone_carriage_return) (Err leading_space))
    by_end true returned = ap (λ k. Ok (record { headers = front ++ found; index = k })) (sym (add_assoc n place (blank_line stop)))
    by_end false true = refl
    by_end false false = refl

-- a block that begins with a header is that header and the block after it
pub read_headers-more : (raw : List ℕ) → has_header raw ≡ true → read_headers raw ≡ with_front (header_of raw ∷ []) (header_length raw) (read_headers (drop (header_length raw) raw))
read_headers-more raw h =
    let n = header_length raw in
    let rest = drop n raw in
    let count : header_count raw ≡ suc (header_count rest) = header_count-more raw h in
    let found : values_below (suc (header_count rest)) (λ j. header_of (rest_at raw j)) ≡ header_of raw ∷ values_below (header_count rest) (λ j. header_of (rest_at rest j)) =
    ap (λ (x : List ℕ). header_of x ∷ values_below (header_count rest) (λ j. header_of (rest_at raw (suc j)))) (rest_at-first raw)
    ∙ ap (λ (xs : List Header). header_of raw ∷ xs) (values_below-same (header_count rest) (λ j. header_of (rest_at raw (suc j))) (λ j. header_of (rest_at rest j)) (λ j. ap header_of (rest_at-more raw j))) in
    read_headers-end_at raw
    ∙ ap (λ c. end_at (values_below c (λ j. header_of (rest_at raw j))) (header_place raw c) (rest_at raw c)) count
    ∙ ap (λ (xs : List Header). end_at xs (header_place raw (suc (header_count rest))) (rest_at raw (suc (header_count rest)))) found
    ∙ ap (λ p. end_at (header_of raw ∷ values_below (header_count rest) (λ j. header_of (rest_at rest j))) p (rest_at raw (suc (header_count rest)))) (header_place-more raw (header_count rest))
    ∙ ap (end_at (header_of raw ∷ values_below (header_count rest) (λ j. header_of (rest_at rest j))) (n + header_place rest (header_count rest))) (rest_at-more raw (header_count rest))
    ∙ sym (end_at-front (header_of raw ∷ []) (values_below (header_count rest) (λ j. header_of (rest_at rest j))) n (header_place rest (header_count rest)) (rest_at rest (header_count rest)))
    ∙ ap (with_front (header_of raw ∷ []) n) (sym (read_headers-end_at rest))

-- a block without headers
pub read_headers-none : (raw : List ℕ) → has_header raw ≡ false → read_headers raw ≡ end_at [] 0 raw
unfolding header_place
read_headers-none raw h = read_headers-end_at raw ∙ (rw (header_count-none raw h) refl)

-- two fronts are one
pub with_front-front : (front more : List Header) (n m : ℕ) (rest : Result HeaderList Refusal) → with_front front n (with_front more m rest) ≡ with_front (front ++ more) (n + m) rest
with_front-front front more n m (Ok block) = ap (λ (xs : List Header). Ok (record { headers = xs; index = n + (m + block.index) })) (sym (append_assoc front more block.headers)) ∙ ap (λ k. Ok (record { headers = front ++ more ++ block.headers; index = k })) (sym (add_assoc n m block.index))
with_front-front front more n m (Err refusal) = refl

-- what ends the block, by the bytes in front
module _ (raw : List ℕ) where
  has_prefix-there : (text : List ℕ) (v : Bool) → starts_with nat_eq raw text ≡ v → has_prefix text raw ≡ v
  has_prefix-there text v e = sym (has_prefix-starts_with text raw) ∙ e

  pub block_end-feed : starts_with nat_eq raw (10 ∷ []) ≡ true → block_end raw ≡ Ok (Some 1)
  unfolding block_end headers_end blank_line
  block_end-feed feed = rw (has_prefix-there (10 ∷ []) true feed, or-true (is_empty raw)) refl

  pub block_end-return_feed : starts_with nat_eq raw (10 ∷ []) ≡ false → starts_with nat_eq raw (13 ∷ 10 ∷ []) ≡ true → block_end raw ≡ Ok (Some 2)
  unfolding block_end headers_end blank_line
  block_end-return_feed feed both = rw (has_prefix-there (10 ∷ []) false feed, has_prefix-there (13 ∷ 10 ∷ []) true both, or-true (is_empty raw)) refl

  pub block_end-return : 0 < length raw → starts_with nat_eq raw (10 ∷ []) ≡ false → starts_with nat_eq raw (13 ∷ 10 ∷ []) ≡ false → starts_with nat_eq raw (13 ∷ []) ≡ true → block_end raw ≡ Err lone_carriage_return
  unfolding block_end headers_end blank_line
  block_end-return h feed both return = rw (not_empty raw h, has_prefix-there (10 ∷ []) false feed, has_prefix-there (13 ∷ 10 ∷ []) false both, has_prefix-there (13 ∷ []) true return) refl

  pub block_end-none : 0 < length raw → starts_with nat_eq raw (10 ∷ []) ≡ false → starts_with nat_eq raw (13 ∷ 10 ∷ []) ≡ false → starts_with nat_eq raw (13 ∷ []) ≡ false → block_end raw ≡ Ok None
  unfolding block_end headers_end blank_line
  block_end-none h feed both return = rw (not_empty raw h, has_prefix-there (10 ∷ []) false feed, has_prefix-there (13 ∷ 10 ∷ []) false both, has_prefix-there (13 ∷ []) false return) refl

pub block_end-empty : (raw : List ℕ) → length raw ≡ 0 → block_end raw ≡ Ok (Some 0)
unfolding block_end headers_end blank_line
block_end-empty [] h = refl
block_end-empty (b ∷ raw) h = absurd (omega arith)

-- the same by tests
module _ (raw : List ℕ) (h r : Bool) (ends : headers_end raw ≡ h) (return : has_prefix (13 ∷ []) raw ≡ r) where
  block_end-at : block_end raw ≡ cond h (Ok (Some (blank_line raw))) (cond r (Err lone_carriage_return) (Ok None))
  unfolding block_end
  block_end-at = rw (ends, return) refl

  has_header-at : (s : Bool) → has_prefix (32 ∷ []) raw ≡ s → has_header raw ≡ (not h && (not r && not s))
  unfolding has_header
  has_header-at s leads = rw (ends, return, leads) refl

  read_headers-at : has_header raw ≡ false → read_headers raw ≡ cond h (Ok (record { headers = []; index = 0 + blank_line raw })) (cond r (Err lone_carriage_return) (Err leading_space))
  read_headers-at none = read_headers-none raw none ∙ (rw (ends, return) refl)

read_header-at : (raw : List ℕ) (s : Bool) → is_empty raw ≡ false → has_prefix (32 ∷ []) raw ≡ s → read_header raw ≡ cond s (Err leading_space) (Ok (header_of raw, header_length raw))
unfolding read_header
read_header-at raw s some leads = rw (some, leads) refl

is_empty-from_headers_end : (raw : List ℕ) → headers_end raw ≡ false → is_empty raw ≡ false
unfolding headers_end
is_empty-from_headers_end [] e = absurd (false≢true (sym e))
is_empty-from_headers_end (b ∷ raw) e = refl

-- the cases of the bytes at the front: the block ends there, a lone CR or a space refuses it, or a header begins there
data Front (raw : List ℕ) : Type 0 where
  ended_there : block_end raw ≡ Ok (Some (blank_line raw)) → read_headers raw ≡ Ok (record { headers = []; index = blank_line raw }) → Front raw
  returned : block_end raw ≡ Err lone_carriage_return → read_headers raw ≡ Err lone_carriage_return → Front raw
  spaced : block_end raw ≡ Ok None → read_header raw ≡ Err leading_space → read_headers raw ≡ Err leading_space → Front raw
  header : block_end raw ≡ Ok None → read_header raw ≡ Ok (header_of raw, header_length raw) → has_header raw ≡ true → Front raw

front_of : (raw : List ℕ) → Front raw
front_of raw = by_tests (headers_end raw) (has_prefix (13 ∷ []) raw) (has_prefix (32 ∷ []) raw) refl refl refl
  where
    by_tests : (h r s : Bool) → headers_end raw ≡ h → has_prefix (13 ∷ []) raw ≡ r → has_prefix (32 ∷ []) raw ≡ s → Front raw
    by_tests true r s ends return leads = ended_there (block_end-at raw true r ends return) (read_headers-at raw true r ends return (has_header-at raw true r ends return s leads) ∙ ap (λ n. Ok (record { headers = []; index = n })) (zero-add (blank_line raw)))
    by_tests false true s ends return leads = returned (block_end-at raw false true ends return) (read_headers-at raw false true ends return (has_header-at raw false true ends return s leads))
    by_tests false false true ends return leads =
        spaced (block_end-at raw false false ends return) (read_header-at raw true (is_empty-from_headers_end raw ends) leads)
        (read_headers-at raw false false ends return (has_header-at raw false false ends return true leads))
    by_tests false false false ends return leads =
        header (block_end-at raw false false ends return) (read_header-at raw false (is_empty-from_headers_end raw ends) leads) (has_header-at raw false false ends return false leads)

-- where the block ends, it has no header
pub block_end-some : (raw : List ℕ) (taken : ℕ) → block_end raw ≡ Ok (Some taken) → read_headers raw ≡ Ok (record { headers = []; index = taken })
block_end-some raw taken e = elim (front_of raw) [ ended_there b h ↦ let same : blank_line raw ≡ taken = cc in h ∙ ap (λ n. Ok (record { headers = []; index = n })) same | returned b h ↦ cc | spaced b r h ↦ cc | header b r h ↦ cc ]

-- a lone CR refuses it
pub block_end-err : (raw : List ℕ) (refusal : Refusal) → block_end raw ≡ Err refusal → read_headers raw ≡ Err refusal
block_end-err raw refusal e = elim (front_of raw) [ ended_there b h ↦ cc | returned b h ↦ cc | spaced b r h ↦ cc | header b r h ↦ cc ]

-- if nothing ends it, a refused header refuses it
pub block_end-header : (raw : List ℕ) (refusal : Refusal) → block_end raw ≡ Ok None → read_header raw ≡ Err refusal → read_headers raw ≡ Err refusal
block_end-header raw refusal e refused = elim (front_of raw) [ ended_there b h ↦ cc | returned b h ↦ cc | spaced b r h ↦ cc | header b r h ↦ cc ]

-- and a header that is read is its first
pub block_end-found : (raw : List ℕ) (found : Header × ℕ) → block_end raw ≡ Ok None → read_header raw ≡ Ok found → (has_header raw ≡ true) × (found ≡ (header_of raw, header_length raw))
block_end-found raw found e read = elim (front_of raw) [ ended_there b h ↦ absurd (cc) | returned b h ↦ absurd (cc) | spaced b r h ↦ absurd (cc) | header b r h ↦ (h, cc) ]

-- so it goes in front of the block after it, and adds one to their number
pub read_headers-found : (raw : List ℕ) (found : Header × ℕ) → block_end raw ≡ Ok None → read_header raw ≡ Ok found → read_headers raw ≡ with_front (found.0 ∷ []) found.1 (read_headers (drop found.1 raw))
read_headers-found raw found e read =
    let is = block_end-found raw found e read in
    read_headers-more raw is.0 ∙ ap (λ (f : Header × ℕ). with_front (f.0 ∷ []) f.1 (read_headers (drop f.1 raw))) (sym is.1)

pub header_count-found : (raw : List ℕ) (found : Header × ℕ) → block_end raw ≡ Ok None → read_header raw ≡ Ok found → header_count raw ≡ suc (header_count (drop found.1 raw))
header_count-found raw found e read =
    let is = block_end-found raw found e read in
    header_count-more raw is.0 ∙ ap (λ (f : Header × ℕ). suc (header_count (drop f.1 raw))) (sym is.1)

-- its length is within the bytes, and not zero
pub header_length-found : (raw : List ℕ) (found : Header × ℕ) → block_end raw ≡ Ok None → read_header raw ≡ Ok found → (0 < found.1) × (found.1 ≤ length raw)
header_length-found raw found e read =
    let is = block_end-found raw found e read in
    let size : found.1 ≡ header_length raw = ap (λ (f : Header × ℕ). f.1) is.1 in
    let low = header_length-> raw (has_header-nonempty raw is.0) in
    let high = header_length-≤ raw in
    (omega arith, omega arith)

-- the loop over the headers: those that were read and those of the rest are all headers
module _ (raw : List ℕ) (front : List Header) (place : ℕ) (all : with_front front place (read_headers (drop place raw)) ≡ read_headers raw) where
  pub refused_further : (r : Refusal) → read_headers (drop place raw) ≡ Err r → read_headers raw ≡ Err r
  refused_further r e = sym all ∙ ap (with_front front place) e

  pub ended_further : (taken : ℕ) → block_end (drop place raw) ≡ Ok (Some taken) → read_headers raw ≡ Ok (record { headers = front; index = place + taken })
  ended_further taken e =
      sym all ∙ ap (with_front front place) (block_end-some (drop place raw) taken e)
      ∙ ap (λ (xs : List Header). Ok (record { headers = xs; index = place + taken })) (append-nil front)

  pub found_further : (found : Header × ℕ) → block_end (drop place raw) ≡ Ok None → read_header (drop place raw) ≡ Ok found
      → with_front (front ++ found.0 ∷ []) (place + found.1) (read_headers (drop (place + found.1) raw)) ≡ read_headers raw
  found_further found e read =
      ap (λ (xs : List ℕ). with_front (front ++ found.0 ∷ []) (place + found.1) (read_headers xs)) (sym (drop-drop found.1 place raw))
      ∙ sym (with_front-front front (found.0 ∷ []) place found.1 (read_headers (drop found.1 (drop place raw))))
      ∙ ap (with_front front place) (sym (read_headers-found (drop place raw) found e read))
      ∙ all

-- the blank line is within the bytes
blank_line-at : (first both : Bool) → cond first 1 (cond both 2 0) ≤ 2
blank_line-at true both = omega arith
blank_line-at false true = omega arith
blank_line-at false false = omega arith

blank_line-one : (first third : Bool) → cond (first && true) 1 (cond (third && false) 2 0) ≤ 1
blank_line-one true third = omega arith
blank_line-one false true = omega arith
blank_line-one false false = omega arith

blank_line-≤ : (raw : List ℕ) → blank_line raw ≤ length raw
unfolding blank_line
blank_line-≤ [] = omega arith
blank_line-≤ (b ∷ []) = blank_line-one (eqb 10 b) (eqb 13 b)
blank_line-≤ (b ∷ d ∷ raw) = let two : cond (has_prefix (10 ∷ []) (b ∷ d ∷ raw)) 1 (cond (has_prefix (13 ∷ 10 ∷ []) (b ∷ d ∷ raw)) 2 0) ≤ 2 = blank_line-at (has_prefix (10 ∷ []) (b ∷ d ∷ raw)) (has_prefix (13 ∷ 10 ∷ []) (b ∷ d ∷ raw)) in omega arith

pub block_end-≤ : (raw : List ℕ) (taken : ℕ) → block_end raw ≡ Ok (Some taken) → taken ≤ length raw
block_end-≤ raw taken e =
    let fits = blank_line-≤ raw in
    elim (front_of raw) [ ended_there b h ↦ let same : blank_line raw ≡ taken = cc in omega arith | returned b h ↦ absurd (cc) | spaced b r h ↦ absurd (cc) | header b r h ↦ absurd (cc) ]

-- one header fewer is left after a header
pub count_further : (raw : List ℕ) (place : ℕ) (found : Header × ℕ) → block_end (drop place raw) ≡ Ok None → read_header (drop place raw) ≡ Ok found → header_count (drop place raw) ≡ suc (header_count (drop (place + found.1) raw))
count_further raw place found e read = header_count-found (drop place raw) found e read ∙ ap (λ (xs : List ℕ). suc (header_count xs)) (drop-drop found.1 place raw)

-- and its length keeps the place within the bytes
pub place_further : (raw : List ℕ) (place : ℕ) (found : Header × ℕ) → place ≤ length raw → block_end (drop place raw) ≡ Ok None → read_header (drop place raw) ≡ Ok found → (place < place + found.1) × (place + found.1 ≤ length raw)
place_further raw place found within e read =
    let fits = header_length-found (drop place raw) found e read in
    let low = fits.0 in
    let high = fits.1 in
    (omega arith, omega (arith, length-drop place raw))

pub end_further : (raw : List ℕ) (place taken : ℕ) → place ≤ length raw → block_end (drop place raw) ≡ Ok (Some taken) → place + taken ≤ length raw
end_further raw place taken within e =
    let fits = block_end-≤ (drop place raw) taken e in
    omega (arith, length-drop place raw)

length-values_below : {X : Type 0} (n : ℕ) (f : ℕ → X) → length (values_below n f) ≡ n
length-values_below zero f = refl
length-values_below (suc n) f = ap suc (length-values_below n (λ k. f (suc k)))

-- a block that is read: the headers at its places, and the place after the blank line
abbrev block_read : List ℕ → HeaderList
block_read raw = record {
  headers = values_below (header_count raw) (λ j. header_of (rest_at raw j));
  index = header_place raw (header_count raw) + blank_line (rest_at raw (header_count raw));
}

read_headers-is : (raw : List ℕ) (block : HeaderList) → read_headers raw ≡ Ok block → block_read raw ≡ block
read_headers-is raw block e = by_tests (headers_end stop) (has_prefix (13 ∷ []) stop) refl refl
  where
    stop : List ℕ
    stop = rest_at raw (header_count raw)

    at : (h r : Bool) → headers_end stop ≡ h → has_prefix (13 ∷ []) stop ≡ r → cond h (Ok (block_read raw)) (cond r (Err lone_carriage_return) (Err leading_space)) ≡ Ok block
    at h r ends return = sym (read_headers-end_at raw ∙ (rw (ends, return) refl)) ∙ e

    by_tests : (h r : Bool) → headers_end stop ≡ h → has_prefix (13 ∷ []) stop ≡ r → block_read raw ≡ block
    by_tests true r ends return = let f = at true r ends return in cc
    by_tests false true ends return = let f = at false true ends return in absurd (cc)
    by_tests false false ends return = let f = at false false ends return in absurd (cc)

-- the headers and the blank line fit the index, and the index fits the bytes
pub record Bounded (raw : List ℕ) (block : HeaderList) : Type 0 where
  pub headers : length block.headers + blank_line (rest_at raw (header_count raw)) ≤ block.index
  pub index : block.index ≤ length raw

pub read_headers-bounded : (raw : List ℕ) (block : HeaderList) → read_headers raw ≡ Ok block → Bounded raw block
read_headers-bounded raw block e =
    let stop = header_count raw in
    let many = length-values_below stop (λ j. header_of (rest_at raw j)) in
    let moved = header_place-≥ raw stop (header_count-before raw) in
    let within = header_place-≤ raw stop in
    let blank = blank_line-≤ (rest_at raw stop) in
    subst (Bounded raw) (read_headers-is raw block e) (record { headers = omega arith; index = omega (arith, length-drop (header_place raw stop) raw) })

-- a header that is read takes at least one byte and at most all
pub read_header-bounds : (raw : List ℕ) (found : Header × ℕ) → read_header raw ≡ Ok found → (0 < found.1) × (found.1 ≤ length raw)
read_header-bounds [] found e = let f : ◌≡◌ {A = Result (Header × ℕ) Refusal} (Err empty_string) (Ok found) = sym (read_header-empty [] refl) ∙ e in absurd (cc)
read_header-bounds (b ∷ raw) found e = by_test (has_prefix (32 ∷ []) (b ∷ raw)) refl
  where
    by_test : (s : Bool) → has_prefix (32 ∷ []) (b ∷ raw) ≡ s → (0 < found.1) × (found.1 ≤ suc (length raw))
    by_test true leads = let f : ◌≡◌ {A = Result (Header × ℕ) Refusal} (Err leading_space) (Ok found) = sym (read_header-at (b ∷ raw) true refl leads) ∙ e in absurd (cc)
    by_test false leads =
        let same : found ≡ (header_of (b ∷ raw), header_length (b ∷ raw)) = let f : ◌≡◌ {A = Result (Header × ℕ) Refusal} (Ok (header_of (b ∷ raw), header_length (b ∷ raw))) (Ok found) = sym (read_header-at (b ∷ raw) false refl leads) ∙ e in cc in
        let size : found.1 ≡ header_length (b ∷ raw) = ap (λ (f : Header × ℕ). f.1) same in
        let low = header_length-> (b ∷ raw) (omega arith) in
        let high = header_length-≤ (b ∷ raw) in
        (omega arith, omega arith)

pub read_headers-index : (raw : List ℕ) (block : HeaderList) → read_headers raw ≡ Ok block → block.index ≡ header_place raw (header_count raw) + blank_line (rest_at raw (header_count raw))
read_headers-index raw block e = sym (ap (λ (b : HeaderList). b.index) (read_headers-is raw block e))

pub read_headers-list : (raw : List ℕ) (block : HeaderList) → read_headers raw ≡ Ok block → block.headers ≡ values_below (header_count raw) (λ j. header_of (rest_at raw j))
read_headers-list raw block e = sym (ap (λ (b : HeaderList). b.headers) (read_headers-is raw block e))

pub header_place-first : (raw : List ℕ) → header_place raw 0 ≡ 0
unfolding header_place
header_place-first raw = refl

-- the end of a block
pub ruleset block_ends = (block_end-empty, block_end-feed, block_end-return_feed, block_end-return, block_end-none)

-- the reading of a block
pub ruleset block_readings = (take_rest, err_from_is_err_and, IsRefusal-along, IsRefusalOrMemory-from, refused_further, ended_further, found_further, count_further, place_further, end_further, block_end-err, block_end-header, read_headers-bounded)
