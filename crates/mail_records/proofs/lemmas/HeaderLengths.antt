-- The offsets of a header from the lengths of its key, which has no blanks at its end, and of its value.
use Rattle.std.proofs.Common.{◌≡◌, ℕ, suc, ◌+◌, ◌-◌, ◌<◌, ◌≤◌, Bool, true, false, ◌&&◌, ◌||◌, not, eqb, min, List, [], ◌∷◌, ◌++◌, length, take, drop, get_or, reverse, inl, inr, ⊎_elim, refl, sym, ap, subst, ◌∙◌, arith, length-drop, length-take}
use Rattle.std.proofs.lemmas.Bool.{and_parts, cases_Bool, cases_lt, eqb-true, false≢true}
use Rattle.std.proofs.lemmas.List.{drop-append-le, drop-drop, get_or-reverse, get_or-take, length-take-le, take-append-drop}
use Rattle.std.proofs.lemmas.List.Sums.{prefix_len_passes, suffix_len-le-length}
use Rattle.std.proofs.Math.ListN.{drop_of_length-le}
use Rattle.std.specs.List.{list_all, suffix_len}
use Rattle.mail_codec.specs.Ascii.{is_blank}
use Rattle.mail_codec.specs.Places.{IsFirstPlace, begins, first_place, place_from}
use Rattle.mail_codec.proofs.lemmas.Places.{IsFirstPlace-unique, begins-at, first_place-here, first_place-is_first, first_place-past, first_place-passes, first_place-before, place_from_bounds, place_from_here, place_from_next, place_from_passes}
use Rattle.mailparse.specs.Block.{bare_header, bare_key}
use Rattle.mailparse.specs.Header.{Header, ends_header, ends_key, has_colon, header_end, header_length, header_of, is_line_end, is_line_feed, key_end, value_end, value_start}
use Rattle.mailparse.proofs.lemmas.Header.{ends_header_is_feed, header_end->, header_end-≤, header_end-key, header_length-≤, key_end-≤, places-in_order, value-in_order, value_end-key}
use Rattle.mailparse.proofs.lemmas.BareKeys.{AreBlanks, blanks_all, blanks_more}
use Rattle.mail_records.specs.Records.{bare_key_end}

-- ---- searches that other bytes follow

-- no space
abbrev pub no_space : List ℕ → Bool
no_space bytes = begins (λ b. not (eqb b 32)) bytes

-- spaces end where the front of the bytes does, if not before
spaces-front : (f r : List ℕ) → first_place no_space r ≡ 0 → first_place no_space (f ++ r) ≡ first_place no_space f
spaces-front [] r none = none
spaces-front (b ∷ f) r none = elim (cases_Bool (not (eqb b 32))) [
  | inl e ↦ first_place-here no_space (b ∷ f ++ r) e ∙ sym (first_place-here no_space (b ∷ f) e)
  | inr e ↦ first_place-past no_space b (f ++ r) e ∙ ap suc (spaces-front f r none) ∙ sym (first_place-past no_space b f e)
]

feed-is_no_space : (b : ℕ) → eqb b 10 ≡ true → not (eqb b 32) ≡ true
feed-is_no_space b e = ap (λ n. not (eqb n 32)) (eqb-true b 10 e)

-- there are no bytes after a header, or they begin with its LF
module _ (r : List ℕ) (feed : 0 < length r → begins is_line_feed r ≡ true) where
  no_space-there : first_place no_space r ≡ 0
  no_space-there = by_bytes r feed
    where
      by_bytes : (r : List ℕ) → (0 < length r → begins is_line_feed r ≡ true) → first_place no_space r ≡ 0
      by_bytes [] h = refl
      by_bytes (b ∷ r) h = first_place-here no_space (b ∷ r) (feed-is_no_space b (h (omega arith)))

  feed-there : first_place (begins is_line_feed) r ≡ 0
  feed-there = by_bytes r feed
    where
      by_bytes : (r : List ℕ) → (0 < length r → begins is_line_feed r ≡ true) → first_place (begins is_line_feed) r ≡ 0
      by_bytes [] h = refl
      by_bytes (b ∷ r) h = first_place-here (begins is_line_feed) (b ∷ r) (h (omega arith))

  no_blank-there : begins is_blank r ≡ false
  no_blank-there = by_bytes r feed
    where
      by_bytes : (r : List ℕ) → (0 < length r → begins is_line_feed r ≡ true) → begins is_blank r ≡ false
      by_bytes [] h = refl
      by_bytes (b ∷ r) h = ap is_blank (eqb-true b 10 (h (omega arith)))

-- a byte of a line end is no blank
line_end-no_blank : (b : ℕ) → is_line_end b ≡ true → is_blank b ≡ false
line_end-no_blank b e = elim (cases_Bool (eqb b 13)) [
  | inl return ↦ ap is_blank (eqb-true b 13 return)
  | inr lacks ↦ let feed : eqb b 10 ≡ true = sym (ap (λ v. v || eqb b 10) lacks) ∙ e in ap is_blank (eqb-true b 10 feed)
]

-- the bytes of line ends that no header ends in are CR
module _ (r : List ℕ) (none : first_place (begins is_line_feed) r ≡ 0) (plain : begins is_blank r ≡ false) where
  no_blank-first : (t : List ℕ) → list_all is_line_end t ≡ true → begins is_blank (t ++ r) ≡ false
  no_blank-first [] all = plain
  no_blank-first (b ∷ t) all = line_end-no_blank b (and_parts _ _ all).0

  returns-only : (t : List ℕ) → list_all is_line_end t ≡ true → ((j : ℕ) → j < length t → ends_header (drop j (t ++ r)) ≡ false)
      → first_place (begins is_line_feed) (t ++ r) ≡ length t
  returns-only [] all each = none
  returns-only (b ∷ t) all each =
      let rest = (and_parts _ _ all).1 in
      let here : (eqb b 10 && not (begins is_blank (t ++ r))) ≡ false = each 0 (omega arith) in
      let lacks : eqb b 10 ≡ false = by_feed (eqb b 10) (sym (ap (λ v. eqb b 10 && not v) (no_blank-first t rest)) ∙ here) in
      first_place-past (begins is_line_feed) b (t ++ r) lacks ∙ ap suc (returns-only t rest (λ j low. each (suc j) (omega arith)))
    where
      by_feed : (v : Bool) → (v && true) ≡ false → v ≡ false
      by_feed true e = e
      by_feed false e = refl

list_all-at_end : (bytes : List ℕ) (s : ℕ) → s ≤ length bytes → list_all is_line_end (drop (place_from (list_all is_line_end) bytes s) bytes) ≡ true
list_all-at_end bytes s low =
    let v = place_from (list_all is_line_end) bytes s in
    ⊎_elim (λ below. place_from_passes (list_all is_line_end) bytes s low (λ e. absurd (omega arith)))
    (λ past. ap (list_all is_line_end) (drop_of_length-le bytes {i = v} past))
    (cases_lt v (length bytes))

-- ---- a header with a colon

module _ (raw : List ℕ) (colon : has_colon raw ≡ true) where
  end-colon : header_end raw ≡ place_from ends_header raw (suc (key_end raw))
  unfolding header_end
  end-colon = rw colon refl

  start-colon : value_start raw ≡ place_from no_space (take (header_end raw) raw) (suc (key_end raw))
  unfolding value_start
  start-colon = rw colon refl

  stop-colon : value_end raw ≡ place_from (list_all is_line_end) (take (header_end raw) raw) (value_start raw)
  unfolding value_end
  stop-colon = rw colon refl

  -- its end is that of the bytes, or a LF
  end-feed : 0 < length (drop (header_end raw) raw) → begins is_line_feed (drop (header_end raw) raw) ≡ true
  end-feed some =
      let size = length-drop (header_end raw) raw in
      let within = header_end-≤ raw in
      let after = header_end-> raw colon in
      let same = end-colon in
      ends_header_is_feed (drop (header_end raw) raw)
      (subst (λ n. ends_header (drop n raw) ≡ true) (sym same) (place_from_passes ends_header raw (suc (key_end raw)) (omega arith) (λ e. absurd (omega arith))))

  front-size : length (take (header_end raw) raw) ≡ header_end raw
  front-size = length-take-le (header_end raw) raw (header_end-≤ raw)

  start-bounds : (suc (key_end raw) ≤ value_start raw) × (value_start raw ≤ header_end raw)
  start-bounds =
      let size = front-size in
      let after = header_end-> raw colon in
      let bounds = place_from_bounds no_space (take (header_end raw) raw) (suc (key_end raw)) (omega arith) in
      let low = bounds.0 in
      let high = bounds.1 in
      let same = start-colon in
      (omega arith, omega arith)

  stop-bounds : (value_start raw ≤ value_end raw) × (value_end raw ≤ header_end raw)
  stop-bounds =
      let size = front-size in
      let before = start-bounds.1 in
      let bounds = place_from_bounds (list_all is_line_end) (take (header_end raw) raw) (value_start raw) (omega arith) in
      let low = bounds.0 in
      let high = bounds.1 in
      let same = stop-colon in
      (omega arith, omega arith)

  -- the bytes from an offset up to the end of the header, and then those after it
  split-at : (n : ℕ) → n ≤ header_end raw → drop n raw ≡ drop n (take (header_end raw) raw) ++ drop (header_end raw) raw
  split-at n low =
      let size = front-size in
      ap (drop n) (sym (take-append-drop (header_end raw) raw)) ∙ drop-append-le n (take (header_end raw) raw) (drop (header_end raw) raw) (omega arith)

  -- the value begins after the spaces after the colon
  start-of_spaces : place_from no_space raw (suc (key_end raw)) ≡ value_start raw
  start-of_spaces =
      let k = suc (key_end raw) in
      let after = header_end-> raw colon in
      ap (λ (xs : List ℕ). k + first_place no_space xs) (split-at k (omega arith))
      ∙ ap (λ n. k + n) (spaces-front (drop k (take (header_end raw) raw)) (drop (header_end raw) raw) (no_space-there (drop (header_end raw) raw) end-feed))
      ∙ sym start-colon

  no_end-before : (n : ℕ) → suc (key_end raw) ≤ n → n < header_end raw → ends_header (drop n raw) ≡ false
  no_end-before n low high =
      let k = suc (key_end raw) in
      let same = end-colon in
      let at : k + (n - k) ≡ n = omega arith in
      sym (ap ends_header (drop-drop (n - k) k raw ∙ ap (λ i. drop i raw) at)) ∙ first_place-before ends_header (drop k raw) (n - k) (omega arith)

  -- the header ends at the first LF after its value
  end-after_value : place_from (begins is_line_feed) raw (value_end raw) ≡ header_end raw
  end-after_value =
      let v = value_end raw in
      let front = take (header_end raw) raw in
      let r = drop (header_end raw) raw in
      let size = front-size in
      let starts = start-bounds.0 in
      let before = start-bounds.1 in
      let first = stop-bounds.0 in
      let low = stop-bounds.1 in
      let left = length-drop v front in
      let all : list_all is_line_end (drop v front) ≡ true =
      subst (λ n. list_all is_line_end (drop n front) ≡ true) (sym stop-colon) (list_all-at_end front (value_start raw) (omega arith)) in
      let split = split-at v low in
      let found = returns-only r (feed-there r end-feed) (no_blank-there r end-feed) (drop v front) all
      (λ j below. ap ends_header (ap (drop j) (sym split) ∙ drop-drop j v raw) ∙ no_end-before (v + j) (omega arith) (omega arith)) in
      ap (λ (xs : List ℕ). v + first_place (begins is_line_feed) xs) split ∙ ap (λ n. v + n) found ∙ omega arith

-- ---- a header without one

no_colon-feed : (rest : List ℕ) → begins ends_key rest ≡ true → begins (λ b. eqb b 58) rest ≡ false → begins is_line_feed rest ≡ true
no_colon-feed [] e lacks = absurd (false≢true e)
no_colon-feed (b ∷ rest) e lacks = sym (ap (λ v. v || eqb b 10) lacks) ∙ e

key-feed : (raw : List ℕ) → has_colon raw ≡ false → key_end raw < length raw → begins is_line_feed (drop (key_end raw) raw) ≡ true
unfolding has_colon key_end
key-feed raw lacks low = no_colon-feed (drop (first_place (begins ends_key) raw) raw) (first_place-passes (begins ends_key) raw low) lacks

end-without : (raw : List ℕ) → has_colon raw ≡ false → place_from (begins is_line_feed) raw (value_end raw) ≡ header_end raw
end-without raw lacks =
    let k = key_end raw in
    let size = length-drop k raw in
    let at = value_end-key raw k lacks refl in
    let none = feed-there (drop k raw) (λ some. key-feed raw lacks (omega arith)) in
    let ends = header_end-key raw lacks in
    ap (place_from (begins is_line_feed) raw) (sym at) ∙ ap (λ n. k + n) none ∙ omega arith

-- ---- any header

end-of_value : (raw : List ℕ) → place_from (begins is_line_feed) raw (value_end raw) ≡ header_end raw
end-of_value raw = by_colon (has_colon raw) refl
  where
    by_colon : (v : Bool) → has_colon raw ≡ v → place_from (begins is_line_feed) raw (value_end raw) ≡ header_end raw
    by_colon true e = end-after_value raw e
    by_colon false e = end-without raw e

-- its length, from the end of its value
pub length-read : (raw : List ℕ) (stop end n : ℕ) → stop ≡ value_end raw → end ≡ place_from (begins is_line_feed) raw stop → n ≡ min (suc end) (length raw) → n ≡ header_length raw
unfolding header_length
length-read raw stop end n at feed is = is ∙ ap (λ m. min (suc m) (length raw)) (feed ∙ ap (place_from (begins is_line_feed) raw) at ∙ end-of_value raw)

-- the lengths of its key and of its value
pub key-length : (raw : List ℕ) → length (header_of raw).key ≡ key_end raw
key-length raw = length-take-le (key_end raw) raw (key_end-≤ raw)

pub value-length : (raw : List ℕ) → value_start raw + length (header_of raw).value ≡ value_end raw
value-length raw =
    let order = value-in_order raw in
    let first = order.0 in
    let second = order.1 in
    let third = order.2 in
    let within = header_length-≤ raw in
    let size = length-drop (value_start raw) raw in
    let taken = length-take (value_end raw - value_start raw) (drop (value_start raw) raw) in
    omega arith

-- the start of its value
pub start-without : (raw : List ℕ) (key : ℕ) → key ≡ key_end raw → begins (λ b. eqb b 58) (drop key raw) ≡ false → key ≡ value_start raw
unfolding has_colon value_start
start-without raw key at lacks =
    let none : begins (λ b. eqb b 58) (drop (key_end raw) raw) ≡ false = sym (ap (λ n. begins (λ b. eqb b 58) (drop n raw)) at) ∙ lacks in
    at ∙ (rw none refl)

has_colon-there : (raw : List ℕ) (key : ℕ) → key ≡ key_end raw → begins (λ b. eqb b 58) (drop key raw) ≡ true → has_colon raw ≡ true
unfolding has_colon
has_colon-there raw key at is = sym (ap (λ n. begins (λ b. eqb b 58) (drop n raw)) at) ∙ is

pub start-with : (raw : List ℕ) (key n : ℕ) → key ≡ key_end raw → begins (λ b. eqb b 58) (drop key raw) ≡ true → n ≡ place_from no_space raw (key + 1) → n ≡ value_start raw
start-with raw key n at is found =
    let same : key + 1 ≡ suc (key_end raw) = omega arith in
    found ∙ ap (place_from no_space raw) same ∙ start-of_spaces raw (has_colon-there raw key at is)

-- after its colon, which is within the bytes
pub colon-within : (raw : List ℕ) (key : ℕ) → begins (λ b. eqb b 58) (drop key raw) ≡ true → key + 1 ≤ length raw
colon-within raw key is =
    ⊎_elim (λ low. omega arith)
    (λ past. absurd (false≢true (subst (λ (xs : List ℕ). begins (λ b. eqb b 58) xs ≡ true) (drop_of_length-le raw past) is))) (cases_lt key (length raw))

-- ---- the key without the blanks at its end

-- no blank
abbrev no_blank : List ℕ → Bool
no_blank bytes = begins (λ b. not (is_blank b)) bytes

bare-length : (raw : List ℕ) → bare_key_end raw ≡ key_end raw - suffix_len is_blank (take (key_end raw) raw)
bare-length raw =
    let key = take (key_end raw) raw in
    let size : length key ≡ key_end raw = key-length raw in
    let cut = length-take (length key - suffix_len is_blank key) key in
    omega arith

bare-≤ : (raw : List ℕ) → bare_key_end raw ≤ key_end raw
bare-≤ raw = let size = bare-length raw in omega arith

-- the byte that ends a key is no blank
ends_key-no_blank : (rest : List ℕ) → begins ends_key rest ≡ true → no_blank rest ≡ true
ends_key-no_blank [] e = absurd (false≢true e)
ends_key-no_blank (b ∷ rest) e = elim (cases_Bool (eqb b 58)) [
  | inl colon ↦ ap (λ n. not (is_blank n)) (eqb-true b 58 colon)
  | inr lacks ↦ let feed : eqb b 10 ≡ true = sym (ap (λ v. v || eqb b 10) lacks) ∙ e in ap (λ n. not (is_blank n)) (eqb-true b 10 feed)
]

key-stops : (raw : List ℕ) → key_end raw < length raw → no_blank (drop (key_end raw) raw) ≡ true
unfolding key_end
key-stops raw low = ends_key-no_blank (drop (first_place (begins ends_key) raw) raw) (first_place-passes (begins ends_key) raw low)

-- the bytes before it are blanks
blank-before : (raw : List ℕ) (count j : ℕ) → count ≡ suffix_len is_blank (take (key_end raw) raw) → j < count
    → is_blank (get_or raw (key_end raw - count + j) 0) ≡ true
blank-before raw count j is low =
    let k = key_end raw in
    let key = take k raw in
    let size : length key ≡ k = key-length raw in
    let most = suffix_len-le-length is_blank key in
    let i = count - 1 - j in
    let at : length key - 1 - i ≡ k - count + j = omega arith in
    ap is_blank (sym (get_or-take k raw (k - count + j) 0 (omega arith)) ∙ ap (λ n. get_or key n 0) (sym at) ∙ sym (get_or-reverse key i 0 (omega arith)))
    ∙ prefix_len_passes is_blank (reverse key) i 0 (omega arith)

-- the key ends at the first byte that is no blank
blanks-end : (raw : List ℕ) → place_from no_blank raw (bare_key_end raw) ≡ key_end raw
blanks-end raw =
    let k = key_end raw in
    let count = suffix_len is_blank (take k raw) in
    let n = bare_key_end raw in
    let cut = bare-length raw in
    let most = suffix_len-le-length is_blank (take k raw) in
    let size : length (take k raw) ≡ k = key-length raw in
    let within = key_end-≤ raw in
    let left = length-drop n raw in
    let sum : n + count ≡ k = omega arith in
    let first : IsFirstPlace no_blank (drop n raw) count = record {
      within = omega arith;
      passes = λ low. ap no_blank (drop-drop count n raw ∙ ap (λ i. drop i raw) sum) ∙ key-stops raw (omega arith);
      before = λ j low.
          ap no_blank (drop-drop j n raw) ∙ begins-at (λ b. not (is_blank b)) raw (n + j) (omega arith)
          ∙ ap (λ i. not (is_blank (get_or raw (i + j) 0))) cut ∙ ap not (blank-before raw count j refl low);
    } in
    ap (λ i. n + i) (IsFirstPlace-unique no_blank (drop n raw) (first_place no_blank (drop n raw)) count (first_place-is_first no_blank (drop n raw)) first) ∙ sum

pub key-found : (raw : List ℕ) (n colon : ℕ) → n ≡ bare_key_end raw → colon ≡ place_from (begins (λ b. not (is_blank b))) raw n → colon ≡ key_end raw
key-found raw n colon e found = found ∙ ap (place_from no_blank raw) e ∙ blanks-end raw

pub bare-within : (raw : List ℕ) (n : ℕ) → n ≡ bare_key_end raw → n ≤ length raw
bare-within raw n e = let low = bare-≤ raw in let within = key_end-≤ raw in omega arith

-- the key and its end, sought from the end of the key in the bytes
key-byte : (raw : List ℕ) (key end : ℕ) → key ≡ key_end raw → 0 < end → end ≤ length (take key raw)
    → begins is_blank (drop (end - 1) (take key raw)) ≡ begins is_blank (drop (end - 1) raw)
key-byte raw key end at some low =
    let size = length-take-le key raw (subst (λ n. n ≤ length raw) (sym at) (key_end-≤ raw)) in
    let within = key_end-≤ raw in
    begins-at is_blank (take key raw) (end - 1) (omega arith) ∙ ap is_blank (get_or-take key raw (end - 1) 0 (omega arith))
    ∙ sym (begins-at is_blank raw (end - 1) (omega arith))

pub blanks-first : (raw : List ℕ) (key : ℕ) → key ≡ key_end raw → AreBlanks (take key raw) key
blanks-first raw key at =
    let size = length-take-le key raw (subst (λ n. n ≤ length raw) (sym at) (key_end-≤ raw)) in
    record { within = omega arith; blank = λ k low high. absurd (omega arith) }

pub blanks-next : (raw : List ℕ) (key end : ℕ) → key ≡ key_end raw → AreBlanks (take key raw) end → 0 < end → begins is_blank (drop (end - 1) raw) ≡ true
    → AreBlanks (take key raw) (end - 1)
blanks-next raw key end at h some here = blanks_more (take key raw) end h some (key-byte raw key end at some h.within ∙ here)

pub blanks-done : (raw : List ℕ) (key end : ℕ) → key ≡ key_end raw → AreBlanks (take key raw) end → (0 < end → begins is_blank (drop (end - 1) raw) ≡ false)
    → end ≡ bare_key_end raw
blanks-done raw key end at h stops =
    let within = h.within in
    sym (length-take-le end (take key raw) within)
    ∙ ap (λ (xs : List ℕ). length xs) (blanks_all (take key raw) end h (λ some. key-byte raw key end at some within ∙ stops some) ∙ ap (λ n. bare_key (take n raw)) at)

-- the blanks at the end of a key
pub ruleset key_blanks = (blanks-first, blanks-next, blanks-done)

-- ---- a header that was read

-- the end of its key
pub key-read : (raw key : List ℕ) (header : Header) (n : ℕ) → header ≡ bare_header (header_of raw) → key ≡ header.key → n ≡ length key → n ≡ bare_key_end raw
key-read raw key header n e k l = l ∙ ap (λ (xs : List ℕ). length xs) (k ∙ ap (λ (h : Header). h.key) e)

-- that of its value, which is within the bytes
pub value-read : (raw value : List ℕ) (header : Header) (start n : ℕ) → header ≡ bare_header (header_of raw) → value ≡ header.value → start ≡ value_start raw → n ≡ length value → start + n ≡ value_end raw
value-read raw value header start n e v s l =
    ap (λ m. m + n) s ∙ ap (λ m. value_start raw + m) (l ∙ ap (λ (xs : List ℕ). length xs) (v ∙ ap (λ (h : Header). h.value) e)) ∙ value-length raw

pub value_end-≤ : (raw : List ℕ) → value_end raw ≤ length raw
value_end-≤ raw = let order = value-in_order raw in let third = order.2 in let within = header_length-≤ raw in omega arith

pub stop-≤ : (raw : List ℕ) (stop : ℕ) → stop ≡ value_end raw → stop ≤ length raw
stop-≤ raw stop at = let within = value_end-≤ raw in omega arith

-- they are in order
pub offsets-in_order : (raw : List ℕ) (key start stop len : ℕ) → key ≡ bare_key_end raw → start ≡ value_start raw → stop ≡ value_end raw → len ≡ header_length raw
    → (key ≤ start) × (start ≤ stop) × (stop ≤ len) × (len ≤ length raw)
offsets-in_order raw key start stop len k s e n =
    let order = places-in_order raw (key_end raw) start stop len refl s e n in
    let first = order.0 in
    let within = bare-≤ raw in
    (omega arith, order.1, order.2, order.3)

-- the offsets of a header from its lengths
pub ruleset lengths = (key-read, key-found, bare-within, value-read, stop-≤, length-read, offsets-in_order)

-- the start of its value
pub ruleset starts = (start-without, start-with, colon-within)

-- ---- a search that skips bytes of one kind

module _ (skips ends : ℕ → Bool) (other : (b : ℕ) → ends b ≡ not (skips b)) where
  skip-failed : (rest : List ℕ) → begins skips rest ≡ true → begins ends rest ≡ false
  skip-failed [] e = refl
  skip-failed (b ∷ rest) e = other b ∙ ap not e

  skip-passed : (rest : List ℕ) → 0 < length rest → begins skips rest ≡ false → begins ends rest ≡ true
  skip-passed [] some e = absurd (omega arith)
  skip-passed (b ∷ rest) some e = other b ∙ ap not e

  -- the search goes on after such a byte
  pub skipped : (raw : List ℕ) (at found : ℕ) → begins skips (drop at raw) ≡ true → place_from (begins ends) raw at ≡ found
      → (at + 1 ≤ length raw) × (place_from (begins ends) raw (at + 1) ≡ found)
  skipped raw at found is here =
      let below : at < length raw =
      ⊎_elim (λ low. low) (λ past. absurd (false≢true (subst (λ (xs : List ℕ). begins skips xs ≡ true) (drop_of_length-le raw past) is))) (cases_lt at (length raw)) in
      (omega (arith, below), sym (place_from_next (begins ends) raw at below (skip-failed (drop at raw) is)) ∙ here)

  -- and ends before any other
  pub not-skipped : (raw : List ℕ) (at found : ℕ) → begins skips (drop at raw) ≡ false → at ≤ length raw → place_from (begins ends) raw at ≡ found → at ≡ found
  not-skipped raw at found lacks within here =
      let size = length-drop at raw in
      sym (⊎_elim (λ low. place_from_here (begins ends) raw at low (skip-passed (drop at raw) (omega arith) lacks))
      (λ past. ap (λ (xs : List ℕ). at + first_place (begins ends) xs) (drop_of_length-le raw past) ∙ omega arith) (cases_lt at (length raw))) ∙ here

-- the bytes that are skipped up to a LF
pub not_not : (v : Bool) → v ≡ not (not v)
not_not true = refl
not_not false = refl
