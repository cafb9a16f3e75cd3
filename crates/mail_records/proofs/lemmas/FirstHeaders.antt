-- Headers that end before a line that looks like a delimiter are the first ones of all bytes, and so are they without the blanks at
-- the end of their keys.
use Rattle.std.proofs.Common.{◌≡◌, ℕ, zero, suc, ◌+◌, ◌-◌, ◌<◌, ◌≤◌, Bool, true, false, ◌&&◌, not, eqb, min, List, [], ◌∷◌, ◌++◌, length, take, drop, slice_range, get_or, map, Ok, Err, inl, inr, refl, sym, ap, subst, ◌∙◌, arith, length-drop, length-take, length-append}
use Rattle.std.proofs.lemmas.Bool.{and_parts, cases_Bool, eqb-true, false≢true}
use Rattle.std.proofs.lemmas.List.{drop-append-le, take-append-le, take-append-drop}
use Rattle.mail_codec.specs.Ascii.{is_blank}
use Rattle.mail_codec.specs.Places.{begins, first_place, place_from, values_below}
use Rattle.mail_codec.proofs.lemmas.Places.{first_place-here, first_place-past, first_place-passes}
use Rattle.mailparse.specs.Header.{Header, ends_header, ends_key, has_colon, header_end, header_length, header_of, is_line_feed, key_end, value_end, value_start}
use Rattle.mailparse.specs.Block.{HeaderList, bare_header, before_dash_line, ends_header_lines, header_count, header_lines_end, header_place, is_dash_line, read_headers, read_lenient_headers, rest_at, with_bare_keys}
use Rattle.mailparse.specs.Refusal.{Reads}
use Rattle.mailparse.proofs.lemmas.Block.{has_header-nonempty, header_count-before, read_headers-list, rest_at-first, rest_at-more, values_below-same}
use Rattle.mailparse.proofs.lemmas.Header.{header_end-key, header_length-≤, value-in_order}
use Rattle.mailparse.proofs.lemmas.HeaderPart.{ends_header_lines_is_feed}
use Rattle.mail_records.specs.OwnHeaders.{AreFirstHeaders}

-- ---- bytes that end in a LF

-- the last byte is a LF, or there is none
abbrev ends_in_feed : List ℕ → Bool
ends_in_feed [] = true
ends_in_feed (b ∷ []) = eqb b 10
ends_in_feed (b ∷ c ∷ rest) = ends_in_feed (c ∷ rest)

feed-drop : (n : ℕ) (f : List ℕ) → ends_in_feed f ≡ true → ends_in_feed (drop n f) ≡ true
feed-drop zero f e = e
feed-drop (suc n) [] e = e
feed-drop (suc n) (b ∷ []) e = feed-drop n [] refl
feed-drop (suc n) (b ∷ c ∷ rest) e = feed-drop n (c ∷ rest) e

feed-cons : (b : ℕ) (f : List ℕ) → 0 < length f → ends_in_feed f ≡ true → ends_in_feed (b ∷ f) ≡ true
feed-cons b [] some e = absurd (omega arith)
feed-cons b (c ∷ f) some e = e

feed-take : (p : ℕ) (raw : List ℕ) → p < length raw → begins is_line_feed (drop p raw) ≡ true → ends_in_feed (take (suc p) raw) ≡ true
feed-take p [] low e = absurd (omega arith)
feed-take zero (b ∷ raw) low e = e
feed-take (suc p) (b ∷ raw) low e =
    let size = length-take (suc p) raw in
    feed-cons b (take (suc p) raw) (omega arith) (feed-take p raw (omega arith) e)

-- a test that a LF at the end passes, and that sees the same with other bytes after it
place-front : (test : List ℕ → Bool) (f r : List ℕ) → 0 < length f → ends_in_feed f ≡ true → test (10 ∷ []) ≡ true
    → ((b : ℕ) → test (b ∷ r) ≡ test (b ∷ []))
    → ((b c : ℕ) (rest : List ℕ) → test (b ∷ c ∷ rest ++ r) ≡ test (b ∷ c ∷ rest))
    → (first_place test (f ++ r) ≡ first_place test f) × (first_place test f < length f)
place-front test [] r some feed at one more = absurd (omega arith)
place-front test (b ∷ []) r some feed at one more =
    let here : test (b ∷ []) ≡ true = ap (λ (x : ℕ). test (x ∷ [])) (eqb-true b 10 feed) ∙ at in
    let first = first_place-here test (b ∷ []) here in
    (first_place-here test (b ∷ r) (one b ∙ here) ∙ sym first, omega (arith, first))
place-front test (b ∷ c ∷ f) r some feed at one more = elim (cases_Bool (test (b ∷ c ∷ f))) [
  | inl e ↦
      let first = first_place-here test (b ∷ c ∷ f) e in
      (first_place-here test (b ∷ c ∷ f ++ r) (more b c f ∙ e) ∙ sym first, omega (arith, first))
  | inr e ↦
      let rest = place-front test (c ∷ f) r (omega arith) feed at one more in
      let first = first_place-past test b (c ∷ f) e in
      let low = rest.1 in
      (first_place-past test b (c ∷ f ++ r) (more b c f ∙ e) ∙ ap suc rest.0 ∙ sym first, omega (arith, first, low))
]

begins-front : (test : ℕ → Bool) (f r : List ℕ) → 0 < length f → begins test (f ++ r) ≡ begins test f
begins-front test [] r some = absurd (omega arith)
begins-front test (b ∷ f) r some = refl

-- ---- the header at their front

key-front : (f r : List ℕ) → 0 < length f → ends_in_feed f ≡ true → (key_end (f ++ r) ≡ key_end f) × (key_end f < length f)
unfolding key_end
key-front f r some feed = place-front (begins ends_key) f r some feed refl (λ b. refl) (λ b c rest. refl)

colon-front : (f r : List ℕ) → 0 < length f → ends_in_feed f ≡ true → has_colon (f ++ r) ≡ has_colon f
unfolding has_colon
colon-front f r some feed =
    let key = key-front f r some feed in
    let low = key.1 in
    let size = length-drop (key_end f) f in
    ap (λ n. begins (λ b. eqb b 58) (drop n (f ++ r))) key.0
    ∙ ap (begins (λ b. eqb b 58)) (drop-append-le (key_end f) f r (omega arith))
    ∙ begins-front (λ b. eqb b 58) (drop (key_end f) f) r (omega arith)

-- a colon is not the last byte
colon-inside : (f : List ℕ) → begins (λ b. eqb b 58) f ≡ true → ends_in_feed f ≡ true → 1 < length f
colon-inside [] e feed = absurd (false≢true e)
colon-inside (b ∷ []) e feed = let is = eqb-true b 58 e in let last = eqb-true b 10 feed in absurd (omega arith)
colon-inside (b ∷ c ∷ f) e feed = omega arith

key-inside : (f : List ℕ) → has_colon f ≡ true → ends_in_feed f ≡ true → suc (key_end f) < length f
unfolding has_colon
key-inside f e feed =
    let left = colon-inside (drop (key_end f) f) e (feed-drop (key_end f) f feed) in
    let size = length-drop (key_end f) f in
    omega arith

header_end-colon : (raw : List ℕ) → has_colon raw ≡ true → header_end raw ≡ place_from ends_header raw (suc (key_end raw))
unfolding header_end
header_end-colon raw e = rw e refl

-- Followed by no blank.
module _ (f r : List ℕ) (some : 0 < length f) (feed : ends_in_feed f ≡ true) (plain : begins is_blank r ≡ false) where
  end-front : (header_end (f ++ r) ≡ header_end f) × (header_end f < length f)
  end-front = by_colon (has_colon f) refl
    where
      by_colon : (v : Bool) → has_colon f ≡ v → (header_end (f ++ r) ≡ header_end f) × (header_end f < length f)
      by_colon false e =
          let key = key-front f r some feed in
          let low = key.1 in
          let same = header_end-key f e in
          (header_end-key (f ++ r) (colon-front f r some feed ∙ e) ∙ key.0 ∙ sym same, omega arith)
      by_colon true e =
          let key = key-front f r some feed in
          let k = key_end f in
          let long = key-inside f e feed in
          let size = length-drop (suc k) f in
          let tail = place-front ends_header (drop (suc k) f) r (omega arith) (feed-drop (suc k) f feed) refl (λ b. ap (λ v. eqb b 10 && not v) plain) (λ b c rest. refl) in
          let low = tail.1 in
          let same = header_end-colon f e in (
            header_end-colon (f ++ r) (colon-front f r some feed ∙ e) ∙ ap (λ n. place_from ends_header (f ++ r) (suc n)) key.0
                ∙ ap (λ (xs : List ℕ). suc k + first_place ends_header xs) (drop-append-le (suc k) f r (omega arith))
                ∙ ap (λ n. suc k + n) tail.0 ∙ sym same,
            omega arith,
          )

  length-front : header_length (f ++ r) ≡ header_length f
  unfolding header_length
  length-front =
      let low = end-front.1 in
      let size = length-append f r in
      ap (λ n. min (suc n) (length (f ++ r))) end-front.0 ∙ omega arith

  bytes-front : take (header_end f) (f ++ r) ≡ take (header_end f) f
  bytes-front = let low = end-front.1 in take-append-le (header_end f) f r (omega arith)

  start-front : value_start (f ++ r) ≡ value_start f
  unfolding value_start
  start-front = rw (colon-front f r some feed, (key-front f r some feed).0, end-front.0, bytes-front) refl

  stop-front : value_end (f ++ r) ≡ value_end f
  unfolding value_end
  stop-front = rw (colon-front f r some feed, (key-front f r some feed).0, end-front.0, bytes-front, start-front) refl

  header-front : header_of (f ++ r) ≡ header_of f
  header-front =
      let order = value-in_order f in
      let first = order.0 in
      let second = order.1 in
      let third = order.2 in
      let within = header_length-≤ f in
      let size = length-drop (value_start f) f in
      let key : take (key_end (f ++ r)) (f ++ r) ≡ take (key_end f) f =
      ap (λ n. take n (f ++ r)) (key-front f r some feed).0 ∙ take-append-le (key_end f) f r (omega arith) in
      let value : slice_range (f ++ r) (value_start (f ++ r)) (value_end (f ++ r)) ≡ slice_range f (value_start f) (value_end f) =
      ap (λ n. slice_range (f ++ r) n (value_end (f ++ r))) start-front ∙ ap (slice_range (f ++ r) (value_start f)) stop-front
      ∙ ap (take (value_end f - value_start f)) (drop-append-le (value_start f) f r (omega arith))
      ∙ take-append-le (value_end f - value_start f) (drop (value_start f) f) r (omega arith) in
      ap (λ (xs : List ℕ). header xs (slice_range (f ++ r) (value_start (f ++ r)) (value_end (f ++ r)))) key ∙ ap (header (take (key_end f) f)) value
    where
      header : List ℕ → List ℕ → Header
      header key value = record { key = key; value = value }

-- ---- the headers at their front

headers-front : (n : ℕ) (f r : List ℕ) → ends_in_feed f ≡ true → begins is_blank r ≡ false → ((j : ℕ) → j < n → 0 < length (rest_at f j))
    → values_below n (λ j. header_of (rest_at (f ++ r) j)) ≡ values_below n (λ j. header_of (rest_at f j))
headers-front zero f r feed plain each = refl
headers-front (suc n) f r feed plain each =
    let some : 0 < length f = subst (λ (xs : List ℕ). 0 < length xs) (rest_at-first f) (each 0 (omega arith)) in
    let left = drop (header_length f) f in
    let split : drop (header_length (f ++ r)) (f ++ r) ≡ left ++ r =
    ap (λ k. drop k (f ++ r)) (length-front f r some feed plain) ∙ drop-append-le (header_length f) f r (header_length-≤ f) in
    let more = headers-front n left r (feed-drop (header_length f) f feed) plain (λ j low. subst (λ (xs : List ℕ). 0 < length xs) (rest_at-more f j) (each (suc j) (omega arith))) in
    let first : header_of (rest_at (f ++ r) 0) ≡ header_of (rest_at f 0) =
    ap header_of (rest_at-first (f ++ r)) ∙ header-front f r some feed plain ∙ sym (ap header_of (rest_at-first f)) in
    ap (λ (h : Header). h ∷ values_below n (λ k. header_of (rest_at (f ++ r) (suc k)))) first
    ∙ ap (λ (hs : List Header). header_of (rest_at f 0) ∷ hs)
    (values_below-same n (λ k. header_of (rest_at (f ++ r) (suc k))) (λ k. header_of (rest_at (left ++ r) k)) (λ k. ap header_of (rest_at-more (f ++ r) k ∙ ap (λ (xs : List ℕ). rest_at xs k) split))
    ∙ more ∙ sym (values_below-same n (λ k. header_of (rest_at f (suc k))) (λ k. header_of (rest_at left k)) (λ k. ap header_of (rest_at-more f k))))

length-values_below : {X : Type 0} (n : ℕ) (f : ℕ → X) → length (values_below n f) ≡ n
length-values_below zero f = refl
length-values_below (suc n) f = ap suc (length-values_below n (λ k. f (suc k)))

map-values_below : {X Y : Type 0} (g : X → Y) (n : ℕ) (f : ℕ → X) → map g (values_below n f) ≡ values_below n (λ j. g (f j))
map-values_below g zero f = refl
map-values_below {X} {Y} g (suc n) f = ap (λ (ys : List Y). g (f 0) ∷ ys) (map-values_below g n (λ k. f (suc k)))

-- headers at these places are the first ones, without the blanks at the end of their keys
first-at : (raw : List ℕ) (n : ℕ) (headers : List Header) → headers ≡ values_below n (λ j. header_of (rest_at raw j)) → AreFirstHeaders raw (map bare_header headers)
first-at raw n headers e =
    let bare : ℕ → Header = λ j. bare_header (header_of (rest_at raw j)) in
    let is : map bare_header headers ≡ values_below n bare = ap (map bare_header) e ∙ map-values_below bare_header n (λ j. header_of (rest_at raw j)) in
    let count : length (map bare_header headers) ≡ n = ap (λ (hs : List Header). length hs) is ∙ length-values_below n bare in
    is ∙ ap (λ k. values_below k bare) (sym count)

-- a line that looks like a delimiter does not begin with a blank
dash-plain : (r : List ℕ) → is_dash_line r ≡ true → (begins is_blank r ≡ false) × (0 < length r)
unfolding is_dash_line
dash-plain [] e = absurd (false≢true e)
dash-plain (b ∷ r) e =
    let is = eqb-true 45 b (and_parts _ _ (and_parts _ _ e).0).0 in
    (ap is_blank (sym is), omega arith)

-- the front of the bytes, before such a line
before-whole : (raw : List ℕ) → is_dash_line (drop (header_lines_end raw) raw) ≡ false → before_dash_line raw ≡ raw
unfolding before_dash_line
before-whole raw e = rw e refl

before-cut : (raw : List ℕ) → is_dash_line (drop (header_lines_end raw) raw) ≡ true → before_dash_line raw ≡ take (header_lines_end raw) raw
unfolding before_dash_line
before-cut raw e = rw e refl

-- which ends in a LF
before-feed : (raw : List ℕ) → header_lines_end raw ≤ length raw → ends_in_feed (take (header_lines_end raw) raw) ≡ true
unfolding header_lines_end
before-feed raw low =
    let p = first_place ends_header_lines raw in
    feed-take p raw (omega arith) (ends_header_lines_is_feed (drop p raw) (first_place-passes ends_header_lines raw (omega arith)))

-- the headers in it are the first ones of all bytes
front-first : (raw : List ℕ) (block : HeaderList) → read_headers (before_dash_line raw) ≡ Ok block → AreFirstHeaders raw (map bare_header block.headers)
front-first raw block e = by_line (is_dash_line (drop (header_lines_end raw) raw)) refl
  where
    by_line : (v : Bool) → is_dash_line (drop (header_lines_end raw) raw) ≡ v → AreFirstHeaders raw (map bare_header block.headers)
    by_line false line = first-at raw (header_count raw) block.headers (read_headers-list raw block (ap read_headers (sym (before-whole raw line)) ∙ e))
    by_line true line =
        let n = header_lines_end raw in
        let f = take n raw in
        let r = drop n raw in
        let plain = dash-plain r line in
        let some = plain.1 in
        let size = length-drop n raw in
        let list = read_headers-list f block (ap read_headers (sym (before-cut raw line)) ∙ e) in
        first-at raw (header_count f) block.headers
        (list ∙ sym (headers-front (header_count f) f r (before-feed raw (omega arith)) plain.0 (λ j low. has_header-nonempty (rest_at f j) (header_count-before f j low)))
        ∙ ap (λ (xs : List ℕ). values_below (header_count f) (λ j. header_of (rest_at xs j))) (take-append-drop n raw))

-- and so are those that were read leniently
pub read_lenient-first : (raw : List ℕ) (block : HeaderList) → read_lenient_headers raw ≡ Ok block → AreFirstHeaders raw block.headers
read_lenient-first raw block e = by_front (read_headers (before_dash_line raw)) refl e
  where
    by_front : (front : Reads HeaderList) → read_headers (before_dash_line raw) ≡ front → with_bare_keys front ≡ Ok block → AreFirstHeaders raw block.headers
    by_front (Err refusal) is h = absurd (cc)
    by_front (Ok front) is h =
        let made : HeaderList = record { headers = map bare_header front.headers; index = front.index } in
        let here : ◌≡◌ {A = Reads HeaderList} (Ok made) (Ok block) = h in
        let same : ◌≡◌ {A = HeaderList} made block = cc in
        subst (λ (b : HeaderList). AreFirstHeaders raw b.headers) same (front-first raw front is)

-- ---- one of them

value-at : {X : Type 0} (n : ℕ) (f : ℕ → X) (i : ℕ) (d : X) → i < n → get_or (values_below n f) i d ≡ f i
value-at zero f i d low = absurd (omega arith)
value-at (suc n) f zero d low = refl
value-at (suc n) f (suc i) d low = value-at n (λ k. f (suc k)) i d (omega arith)

-- the header with this number is the one at its place
pub first-header : (raw rest : List ℕ) (at : ℕ) → rest ≡ drop at raw → (headers : List Header) (i : ℕ) (x : Header) → AreFirstHeaders raw headers → at ≡ header_place raw i
    → i < length headers → x ≡ get_or headers i x → x ≡ bare_header (header_of rest)
first-header raw rest at left headers i x own place low is =
    is ∙ ap (λ (hs : List Header). get_or hs i x) own ∙ value-at (length headers) (λ j. bare_header (header_of (rest_at raw j))) i x low
    ∙ ap (λ n. bare_header (header_of (drop n raw))) (sym place) ∙ ap (λ (bytes : List ℕ). bare_header (header_of bytes)) (sym left)
