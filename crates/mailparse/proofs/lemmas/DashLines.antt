-- Lemmas on a block none of whose keys begins as a delimiter does: its headers end at its blank line alone.
use Rattle.std.proofs.Common.{◌≡◌, ℕ, zero, suc, ◌+◌, ◌-◌, ◌<◌, ◌≤◌, Bool, true, false, ◌&&◌, ◌||◌, not, cond, eqb, get_or, List, [], ◌∷◌, ◌++◌, Ok, Err, Result, length, take, drop, refl, sym, ap, ◌∙◌, subst, arith, inl, inr}
use Rattle.std.specs.List.{list_all}
use Rattle.std.proofs.lemmas.Bool.{and_parts, cases_Bool, cases_lt, eqb-true, false≢true, not-false}
use Rattle.std.proofs.lemmas.List.{drop_more, drop-drop, take_all}
use Rattle.std.proofs.Math.Bool.{or-true}
use Rattle.std.proofs.Math.ListN.{drop_of_length-le}
use Rattle.mail_codec.specs.Ascii.{is_blank}
use Rattle.mail_codec.specs.Places.{begins, first_place, has_prefix, place_from, values_below}
use Rattle.mail_codec.proofs.lemmas.Places.{begins-at, first_place-before, first_place-drop, first_place-passes, first_place-past, place_from_passes, true_not_false}
use Rattle.mailparse.specs.Header.{Header, ends_header, ends_key, has_colon, header_end, header_length, header_of, is_line_feed, key_end}
use Rattle.mailparse.specs.Block.{HeaderList, before_dash_line, blank_line, ends_header_lines, has_header, header_count, header_lines_end, headers_end, is_dash_line, read_headers, rest_at}
use Rattle.mailparse.specs.Refusal.{Refusal, leading_space, lone_carriage_return}
use Rattle.mailparse.specs.private.Dashes.{is_dashless}
use Rattle.mailparse.proofs.lemmas.Header.{ends_header_is_feed, header_end-key, header_length-≤, key_end-≤, key_end-<}
use Rattle.mailparse.proofs.lemmas.Block.{header_count-more, header_count-none, header_count-stops, read_headers-list, read_headers-more, read_headers-none, rest_at-first, with_front}
use Rattle.mailparse.proofs.lemmas.HeaderPart.{no_dash_line}

-- ---- the first bytes of a line

-- a line that continues a header ends nothing
blank-continues : (bytes : List ℕ) → begins is_blank bytes ≡ true → (headers_end bytes || is_dash_line bytes) ≡ false
unfolding headers_end blank_line is_dash_line
blank-continues [] e = absurd (false≢true e)
blank-continues (b ∷ rest) e = elim (cases_Bool (eqb b 32)) [
  | inl is ↦ subst (λ n. (headers_end (n ∷ rest) || is_dash_line (n ∷ rest)) ≡ false) (sym (eqb-true b 32 is)) refl
  | inr other ↦
      let same : (eqb b 32 || eqb b 9) ≡ eqb b 9 = rw other refl in
      subst (λ n. (headers_end (n ∷ rest) || is_dash_line (n ∷ rest)) ≡ false) (sym (eqb-true b 9 (sym same ∙ e))) refl
]

-- the blank line does not look like a delimiter
ended-no_dash : (bytes : List ℕ) → headers_end bytes ≡ true → is_dash_line bytes ≡ false
unfolding headers_end blank_line is_dash_line
ended-no_dash [] e = no_dash_line
ended-no_dash (b ∷ rest) e = elim (cases_Bool (eqb 45 b)) [
  | inl is ↦ absurd (false≢true (subst (λ n. headers_end (n ∷ rest) ≡ true) (sym (eqb-true 45 b is)) e))
  | inr other ↦ rw other refl
]

one-byte : (p q : Bool) → ((p && false) && q) ≡ false
one-byte true q = refl
one-byte false q = refl

-- nor does a line whose key does not begin as one
dashless-no_dash : (raw : List ℕ) → is_dashless (header_of raw) ≡ true → is_dash_line raw ≡ false
unfolding is_dash_line key_end
dashless-no_dash [] e = no_dash_line
dashless-no_dash (b ∷ []) e = one-byte (eqb 45 b) (not (has_colon (b ∷ [])))
dashless-no_dash (b ∷ d ∷ rest) e = elim (cases_Bool (eqb 45 b)) [
  | inl first ↦ elim (cases_Bool (eqb 45 d)) [
    | inl second ↦ absurd (false≢true (subst (λ n. is_dashless (header_of (n ∷ 45 ∷ rest)) ≡ true) (sym (eqb-true 45 b first)) (subst (λ n. is_dashless (header_of (b ∷ n ∷ rest)) ≡ true) (sym (eqb-true 45 d second)) e)))
    | inr other ↦ rw (first, other) refl
  ]
  | inr other ↦ rw other refl
]

-- ---- the LFs of a header

module _ (raw : List ℕ) where
  header_length-end : header_length raw ≤ suc (header_end raw)
  unfolding header_length
  header_length-end = omega arith

  -- no LF is in the key
  no_feed-in_key : (k : ℕ) → k < key_end raw → eqb (get_or raw k 0) 10 ≡ true → ⊥
  unfolding key_end
  no_feed-in_key k low feed =
      let within : k < length raw = omega (arith, key_end-≤ raw) in
      let none = sym (begins-at ends_key raw k within) ∙ first_place-before (begins ends_key) raw k low in
      let some : ends_key (get_or raw k 0) ≡ true = rw feed (or-true (eqb (get_or raw k 0) 58)) in
      true_not_false some none

  -- nor at its end if a colon is there
  no_feed-at_colon : has_colon raw ≡ true → eqb (get_or raw (key_end raw) 0) 10 ≡ true → ⊥
  unfolding has_colon
  no_feed-at_colon has feed =
      let colon = eqb-true _ 58 (sym (begins-at (λ b. eqb b 58) raw (key_end raw) (key_end-< raw has)) ∙ has) in
      let other = eqb-true _ 10 feed in
      omega (arith, colon, other)

  -- each other one, but the last, has a blank after it
  feed-blank : (k : ℕ) → has_colon raw ≡ true → key_end raw < k → k < header_end raw → k < length raw → eqb (get_or raw k 0) 10 ≡ true
      → begins is_blank (drop (k + 1) raw) ≡ true
  unfolding header_end
  feed-blank k has low high within feed =
      let from = suc (key_end raw) in
      let place : header_end raw ≡ place_from ends_header raw from = rw has refl in
      let none = first_place-before ends_header (drop from raw) (k - from) (omega (arith, place)) in
      let there : drop (k - from) (drop from raw) ≡ drop k raw = drop-drop (k - from) from raw ∙ ap (λ n. drop n raw) {x = from + (k - from)} {y = k} (omega arith) in
      let goes_on : (eqb (get_or raw k 0) 10 && not (begins is_blank (drop (k + 1) raw))) ≡ false = ap ends_header (sym (drop_more raw k 0 within)) ∙ ap ends_header (sym there) ∙ none in
      let after : not (begins is_blank (drop (k + 1) raw)) ≡ false = (rw feed refl) ∙ goes_on in
      not-false _ after

  -- so no line ends the headers within a header
  inner : (k : ℕ) → suc k < header_length raw → ends_header_lines (drop k raw) ≡ false
  inner k low = ap ends_header_lines (drop_more raw k 0 within) ∙ by_feed (eqb (get_or raw k 0) 10) refl
    where
      within : k < length raw
      within = omega (arith, header_length-≤ raw)

      before : k < header_end raw
      before = omega (arith, header_length-end)

      blank : eqb (get_or raw k 0) 10 ≡ true → begins is_blank (drop (k + 1) raw) ≡ true
      blank feed = elim (cases_lt k (key_end raw)) [
        | inl inside ↦ absurd (no_feed-in_key k inside feed)
        | inr beyond ↦ elim (cases_Bool (has_colon raw)) [
          | inl has ↦ elim (cases_lt (key_end raw) k) [
            | inl after ↦ feed-blank k has after before within feed
            | inr at ↦ let same : k ≡ key_end raw = omega arith in absurd (no_feed-at_colon has (subst (λ n. eqb (get_or raw n 0) 10 ≡ true) same feed))
          ]
          | inr without ↦ absurd (omega (arith, before, header_end-key raw without))
        ]
      ]

      by_feed : (t : Bool) → eqb (get_or raw k 0) 10 ≡ t → (t && (headers_end (drop (k + 1) raw) || is_dash_line (drop (k + 1) raw))) ≡ false
      by_feed true feed = blank-continues (drop (k + 1) raw) (blank feed)
      by_feed false feed = refl

  -- a header that more bytes follow ends with a LF
  header_length-more : header_length raw < length raw → header_length raw ≡ suc (header_end raw)
  unfolding header_length
  header_length-more more = omega arith

  last-feed : header_end raw < length raw → begins is_line_feed (drop (header_end raw) raw) ≡ true
  unfolding header_end key_end has_colon
  last-feed more = by_colon (has_colon raw) refl
    where
      by_colon : (t : Bool) → has_colon raw ≡ t → begins is_line_feed (drop (header_end raw) raw) ≡ true
      by_colon true has =
          let place : header_end raw ≡ place_from ends_header raw (suc (key_end raw)) = rw has refl in
          let ends = place_from_passes ends_header raw (suc (key_end raw)) (omega (arith, key_end-< raw has)) (λ all. absurd (omega (arith, place))) in
          subst (λ n. begins is_line_feed (drop n raw) ≡ true) (sym place) (ends_header_is_feed (drop (place_from ends_header raw (suc (key_end raw))) raw) ends)
      by_colon false without =
          let same = header_end-key raw without in
          let within : key_end raw < length raw = omega (arith, same) in
          subst (λ n. begins is_line_feed (drop n raw) ≡ true) (sym same) (begins-at is_line_feed raw (key_end raw) within ∙ key-feed within without)
        where
          key-feed : key_end raw < length raw → has_colon raw ≡ false → eqb (get_or raw (key_end raw) 0) 10 ≡ true
          key-feed within without =
              let either = sym (begins-at ends_key raw (key_end raw) within) ∙ first_place-passes (begins ends_key) raw within in
              let no : eqb (get_or raw (key_end raw) 0) 58 ≡ false = sym (begins-at (λ b. eqb b 58) raw (key_end raw) within) ∙ without in
              let same : ends_key (get_or raw (key_end raw) 0) ≡ eqb (get_or raw (key_end raw) 0) 10 = rw no refl in
              sym same ∙ either

-- ---- the headers, one after another

-- the headers after the first ones
record Rest (front : List Header) (given : Result HeaderList Refusal) (block : HeaderList) : Type 0 where
  pub more : HeaderList
  pub is : given ≡ Ok more
  pub headers : block.headers ≡ front ++ more.headers

rest_of : (front : List Header) (place : ℕ) (given : Result HeaderList Refusal) (block : HeaderList) → with_front front place given ≡ Ok block → Rest front given block
rest_of front place (Ok more) block e =
    let same : ◌≡◌ {A = HeaderList} (record { headers = front ++ more.headers; index = place + more.index }) block = cc in
    record { more = more; is = refl; headers = sym (ap (λ (b : HeaderList). b.headers) same) }
rest_of front place (Err refusal) block e = let f : ◌≡◌ {A = Result HeaderList Refusal} (Err refusal) (Ok block) = e in absurd (cc)

-- where a block is read and does not end, a header begins
begins-header : (raw : List ℕ) (block : HeaderList) → read_headers raw ≡ Ok block → headers_end raw ≡ false → has_header raw ≡ true
begins-header raw block e goes_on = elim (cases_Bool (has_header raw)) [
  | inl has ↦ has
  | inr none ↦ absurd (refused (has_prefix (13 ∷ []) raw) ((rw goes_on refl) ∙ sym (read_headers-none raw none) ∙ e))
]
  where
    refused : (t : Bool) → ◌≡◌ {A = Result HeaderList Refusal} (cond t (Err lone_carriage_return) (Err leading_space)) (Ok block) → ⊥
    refused true e = cc
    refused false e = cc

-- all keys after the first one
keys-more : (raw : List ℕ) (block : HeaderList) (rest : Rest (header_of raw ∷ []) (read_headers (drop (header_length raw) raw)) block) → list_all is_dashless block.headers ≡ true
    → (is_dashless (header_of raw) ≡ true) × (list_all is_dashless rest.more.headers ≡ true)
keys-more raw block rest keys = and_parts _ _ (sym (ap (list_all is_dashless) rest.headers) ∙ keys)

no_dash : (n : ℕ) (raw : List ℕ) (block : HeaderList) → header_count raw ≡ n → has_header raw ≡ true → read_headers raw ≡ Ok block → list_all is_dashless block.headers ≡ true
    → is_dash_line (drop (suc (first_place ends_header_lines raw)) raw) ≡ false
no_dash zero raw block count has e keys = let more = header_count-more raw has in absurd (omega arith)
no_dash (suc n) raw block count has e keys = elim (cases_lt size (length raw)) [
  | inl below ↦ elim (cases_Bool (headers_end rest)) [
    | inl ended ↦ ap is_dash_line (at_end below ended) ∙ ended-no_dash rest ended
    | inr goes_on ↦
        let has_more = begins-header rest next.more next.is goes_on in
        let far = beyond below goes_on has_more in
        let place = first_place-drop ends_header_lines raw size far in
        let there : drop (suc (first_place ends_header_lines rest)) rest ≡ drop (suc feed) raw =
        drop-drop (suc (first_place ends_header_lines rest)) size raw ∙ ap (λ k. drop k raw) {x = size + suc (first_place ends_header_lines rest)} {y = suc feed} (omega (arith, place)) in
        ap is_dash_line (sym there) ∙ no_dash n rest next.more (omega (arith, header_count-more raw has)) has_more next.is (keys-more raw block next keys).1
  ]
  | inr above ↦
      let nothing : drop (suc feed) raw ≡ [] = drop_of_length-le raw {i = suc (first_place ends_header_lines raw)} (omega (arith, reached)) in
      ap is_dash_line nothing ∙ no_dash_line
]
  where
    size : ℕ
    size = header_length raw

    rest : List ℕ
    rest = drop (header_length raw) raw

    feed : ℕ
    feed = first_place ends_header_lines raw

    next : Rest (header_of raw ∷ []) (read_headers (drop (header_length raw) raw)) block
    next = rest_of (header_of raw ∷ []) (header_length raw) (read_headers (drop (header_length raw) raw)) block (sym (read_headers-more raw has) ∙ e)

    reached : header_length raw ≤ suc (first_place ends_header_lines raw)
    reached = elim (cases_lt (suc (first_place ends_header_lines raw)) (header_length raw)) [
      | inl low ↦ absurd (true_not_false (first_place-passes ends_header_lines raw (omega (arith, header_length-≤ raw))) (inner raw (first_place ends_header_lines raw) low))
      | inr high ↦ high
    ]

    at_last : (t : Bool) → header_length raw < length raw → (headers_end (drop (header_length raw) raw) || is_dash_line (drop (header_length raw) raw)) ≡ t → ends_header_lines (drop (header_end raw) raw) ≡ t
    at_last t below is =
        let long = header_length-more raw below in
        let within : header_end raw < length raw = omega arith in
        let feed : eqb (get_or raw (header_end raw) 0) 10 ≡ true = sym (begins-at is_line_feed raw (header_end raw) within) ∙ last-feed raw within in
        ap ends_header_lines (drop_more raw (header_end raw) 0 within)
        ∙ ap (λ v. v && (headers_end (drop (header_end raw + 1) raw) || is_dash_line (drop (header_end raw + 1) raw))) feed
        ∙ ap (λ k. headers_end (drop k raw) || is_dash_line (drop k raw)) {x = header_end raw + 1} {y = header_length raw} (omega arith)
        ∙ is

    at_end : header_length raw < length raw → headers_end (drop (header_length raw) raw) ≡ true → drop (suc (first_place ends_header_lines raw)) raw ≡ drop (header_length raw) raw
    at_end below ended =
        let long = header_length-more raw below in
        let here = at_last true below (rw ended refl) in
        elim (cases_lt (header_end raw) (first_place ends_header_lines raw)) [
          | inl low ↦ absurd (true_not_false here (first_place-before ends_header_lines raw (header_end raw) low))
          | inr high ↦ ap (λ k. drop k raw) {x = suc (first_place ends_header_lines raw)} {y = header_length raw} (omega (arith, reached))
        ]

    beyond : header_length raw < length raw → headers_end (drop (header_length raw) raw) ≡ false → has_header (drop (header_length raw) raw) ≡ true → header_length raw ≤ first_place ends_header_lines raw
    beyond below goes_on has_more =
        let long = header_length-more raw below in
        let after = rest_of (header_of rest ∷ []) (header_length rest) (read_headers (drop (header_length rest) rest)) next.more (sym (read_headers-more rest has_more) ∙ next.is) in
        let first = (keys-more rest next.more after (keys-more raw block next keys).1).0 in
        let not_here = at_last false below (rw (goes_on, dashless-no_dash rest first) refl) in
        elim (cases_lt (header_end raw) (first_place ends_header_lines raw)) [
          | inl low ↦ omega arith
          | inr high ↦
              let same : first_place ends_header_lines raw ≡ header_end raw = omega (arith, reached) in
              absurd (true_not_false (first_place-passes ends_header_lines raw (omega arith)) (ap (λ k. ends_header_lines (drop k raw)) same ∙ not_here))
        ]

-- the bytes before the line that ends them are all bytes
pub dashless : (raw : List ℕ) (block : HeaderList) → read_headers raw ≡ Ok block → 0 < length block.headers → list_all is_dashless block.headers ≡ true → before_dash_line raw ≡ raw
unfolding before_dash_line header_lines_end
dashless raw block e some keys = elim (cases_Bool (has_header raw)) [
  | inl has ↦ rw (no_dash (header_count raw) raw block refl has e keys) refl
  | inr none ↦
      let list = ap length (read_headers-list raw block e ∙ ap (λ n. values_below n (λ j. header_of (rest_at raw j))) (header_count-none raw none)) in
      absurd (omega arith)
]

-- ---- the first header

-- whether a header begins depends on two bytes
same-begin : (b d : ℕ) (rest more : List ℕ) → has_header (b ∷ d ∷ rest) ≡ has_header (b ∷ d ∷ more)
unfolding has_header headers_end blank_line
same-begin b d rest more = refl

-- a line that ends with its first byte is blank
blank-begin : (rest more : List ℕ) → has_header (10 ∷ rest) ≡ has_header (10 ∷ more)
unfolding has_header headers_end blank_line
blank-begin rest more = refl

-- so it begins before the line that ends the headers if it begins at all
front-begin : (raw : List ℕ) (n : ℕ) → first_place ends_header_lines raw ≡ n → has_header (take (suc n) raw) ≡ has_header raw
front-begin [] n at = refl
front-begin (b ∷ []) n at = ap has_header (take_all (suc n) (b ∷ []) (omega arith))
front-begin (b ∷ d ∷ rest) zero at = elim (cases_Bool (eqb b 10)) [
  | inl is ↦ subst (λ c. has_header (c ∷ []) ≡ has_header (c ∷ d ∷ rest)) (sym (eqb-true b 10 is)) (blank-begin [] (d ∷ rest))
  | inr other ↦
      let past = first_place-past ends_header_lines b (d ∷ rest) (rw other refl) in
      absurd (omega (arith, past, at))
]
front-begin (b ∷ d ∷ rest) (suc n) at = same-begin b d (take n rest) rest

-- without a header before that line there is none
pub no_header : (raw : List ℕ) → header_count (before_dash_line raw) ≡ 0 → header_count raw ≡ 0
unfolding before_dash_line header_lines_end
no_header raw none = header_count-none raw (by_line (is_dash_line (drop (header_lines_end raw) raw)) refl)
  where
    lacks : has_header (before_dash_line raw) ≡ false
    lacks = sym (ap has_header (rest_at-first (before_dash_line raw))) ∙ ap (λ n. has_header (rest_at (before_dash_line raw) n)) (sym none) ∙ header_count-stops (before_dash_line raw)

    by_line : (t : Bool) → is_dash_line (drop (header_lines_end raw) raw) ≡ t → has_header raw ≡ false
    by_line true is = sym (front-begin raw (first_place ends_header_lines raw) refl) ∙ (let same : before_dash_line raw ≡ take (suc (first_place ends_header_lines raw)) raw = rw is refl in ap has_header (sym same)) ∙ lacks
    by_line false is = (let same : before_dash_line raw ≡ raw = rw is refl in ap has_header (sym same)) ∙ lacks
