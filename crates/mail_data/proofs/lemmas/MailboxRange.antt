-- Lemmas on the mails that begin in a range of places: bytes more than three before it do not change them.
use Rattle.std.proofs.Common.{◌≡◌, ℕ, zero, suc, ◌+◌, ◌-◌, ◌<◌, ◌≤◌, ◌⊎◌, true, false, List, [], ◌∷◌, ◌++◌, length, take, drop, sym, ap, subst, ◌∙◌, arith, length-drop, length-append, inl, inr}
use Rattle.std.specs.Prelude.{nat_lt, not}
use Rattle.std.specs.List.{flat_map}
use Rattle.std.proofs.Math.Seq.{drop-append-add, drop-append_seam, take-append-add}
use Rattle.std.proofs.lemmas.Bool.{and_left, cases_Bool, cases_lt, cond-false, lt-ltb}
use Rattle.std.proofs.lemmas.List.{append_assoc, drop-append-le, drop-drop, length-take-le, take-append-drop, take_at}
use Rattle.std.proofs.lemmas.List.Elements.{filter-append}
use Rattle.mail_data.specs.LineEnds.{after_line}
use Rattle.mail_data.specs.Mailbox.{EndsEmpty, Entry, IsEmptyLine, entries, entries_from, entry_at, entry_bytes, front_length, mail_length, next_entry}
use Rattle.mail_data.specs.MailboxParts.{Placed, begins_in, in_range, placed, placed_at, placed_from}
use Rattle.mail_data.specs.Separator.{is_separator}
use Rattle.mail_data.proofs.lemmas.Mailbox.{after_opens, entries-here, entries-none, entries-some, entry-spans, front-opens, front_length-none, mailbox-spans, next-shorter, nothing, opens, has_prefix-some}
use Rattle.mail_data.proofs.lemmas.MailboxFound.{after-front, cut-found, front-next}
use Rattle.mail_data.proofs.lemmas.MailboxJoined.{all-joined, ends-later, entries-joined, front-joined, unmarked-nil}
use Rattle.mail_data.proofs.lemmas.MailboxParts.{front_length-≤}

-- ---- bytes that end in an empty line

line-short : (line : List ℕ) → IsEmptyLine line → length line ≤ 2
line-short line (inl e) = omega (arith, ap length e)
line-short line (inr e) = omega (arith, ap length e)

-- with more bytes before them
ends-after : (front bytes : List ℕ) → EndsEmpty bytes → EndsEmpty (front ++ bytes)
ends-after front bytes ends = record {
  front = front ++ ends.front;
  line = ends.line;
  is_empty = ends.is_empty;
  whole = ap (λ (r : List ℕ). front ++ r) ends.whole ∙ sym (append_assoc front ends.front (10 ∷ ends.line));
}

-- without bytes of their front
ends-beyond : (bytes : List ℕ) (n : ℕ) → EndsEmpty bytes → n + 3 ≤ length bytes → EndsEmpty (drop n bytes)
ends-beyond bytes n ends within =
    let short = line-short ends.line ends.is_empty in
    let all = ap length ends.whole in
    let sum = length-append ends.front (10 ∷ ends.line) in
    let low : n ≤ length ends.front = omega arith in
    record {
      front = drop n ends.front;
      line = ends.line;
      is_empty = ends.is_empty;
      whole = ap (drop n) ends.whole ∙ drop-append-le n ends.front (10 ∷ ends.line) low;
    }

-- ---- a mailbox that is cut before a separator after an empty line

placed-append : (start : ℕ) (a b : List Entry) → placed_from start (a ++ b) ≡ placed_from start a ++ placed_from (start + length (flat_map entry_bytes a)) b
placed-append start [] b = let same : start ≡ start + 0 = omega arith in ap (λ (n : ℕ). placed_from n b) same
placed-append start (e ∷ a) b =
    let sum = length-append (entry_bytes e) (flat_map entry_bytes a) in
    let same : start + length (entry_bytes e) + length (flat_map entry_bytes a) ≡ start + length (flat_map entry_bytes (e ∷ a)) = omega arith in
    let head : Placed = record { start = start; entry = e } in
    ap (λ (r : List Placed). head ∷ r)
    (placed-append (start + length (entry_bytes e)) a b ∙ ap (λ (n : ℕ). placed_from (start + length (entry_bytes e)) a ++ placed_from n b) same)

-- the front and the mails of the whole
record CutAt (first second : List ℕ) : Type 0 where
  front : front_length (first ++ second) ≡ front_length first
  mails : entries (first ++ second) ≡ entries first ++ entries_from second

cut-marked : (first second : List ℕ) → EndsEmpty first → is_separator second ≡ true → is_separator first ≡ true → CutAt first second
cut-marked first second ends marked is =
    let whole = (front-joined first second ends marked).separator ∙ is in
    record {
      front = sym (front_length-none (first ++ second) (sym whole)) ∙ front_length-none first (sym is);
      mails = entries-joined first second is ends marked ∙ ap (λ (r : List Entry). entries first ++ r) (entries-here mail_length second marked);
    }

-- the mails after the front
rest-joined : (rest second : List ℕ) → opens rest ≡ true → ((is_separator rest ≡ true) → EndsEmpty rest) → is_separator second ≡ true
    → entries_from (rest ++ second) ≡ entries_from rest ++ entries_from second
rest-joined rest second opened ends marked = elim (cases_Bool (is_separator rest)) [
  | inl is ↦ all-joined (length rest) rest second (omega arith) is (ends is) marked
  | inr fails ↦
      let none = nothing rest fails opened in
      ap (λ (r : List ℕ). entries_from (r ++ second)) none
      ∙ sym (ap (λ (r : List ℕ). entries_from r ++ entries_from second) none ∙ ap (λ (r : List Entry). r ++ entries_from second) (entries-none mail_length [] unmarked-nil))
]

cut-unmarked : (first second : List ℕ) → EndsEmpty first → is_separator second ≡ true → is_separator first ≡ false → CutAt first second
cut-unmarked first second ends marked fails =
    let n = front_length first in
    let whole = (front-joined first second ends marked).separator ∙ fails in
    let next = front-next first second fails whole (front-joined (10 ∷ first) second (ends-after (10 ∷ []) first ends) marked) in
    record {
      front = next.0;
      mails = ap entries_from next.1 ∙ rest-joined (drop n first) second (front-opens first) (λ is. ends-later first n ends is) marked;
    }

cut-at : (first second : List ℕ) → EndsEmpty first → is_separator second ≡ true → CutAt first second
cut-at first second ends marked = elim (cases_Bool (is_separator first)) [
  | inl is ↦ cut-marked first second ends marked is
  | inr fails ↦ cut-unmarked first second ends marked fails
]

placed-cut : (start : ℕ) (first second : List ℕ) → EndsEmpty first → is_separator second ≡ true
    → placed_at start (first ++ second) ≡ placed_at start first ++ placed_from (start + length first) (entries_from second)
placed-cut start first second ends marked =
    let cut = cut-at first second ends marked in
    let n = front_length first in
    let size = length-take-le n first (front_length-≤ first) in
    let sum = length-append (take n first) (flat_map entry_bytes (entries first)) in
    let all = ap length (mailbox-spans mail_length first after_opens) in
    let place : start + n + length (flat_map entry_bytes (entries first)) ≡ start + length first = omega arith in
    ap (λ (k : ℕ). placed_from (start + k) (entries (first ++ second))) cut.front ∙ ap (placed_from (start + n)) cut.mails
    ∙ placed-append (start + n) (entries first) (entries_from second)
    ∙ ap (λ (k : ℕ). placed_at start first ++ placed_from k (entries_from second)) place

-- ---- whether a mail begins at a place or later

-- a mail begins there, after an empty line
record Marked (bytes : List ℕ) (p : ℕ) : Type 0 where
  within : p ≤ length bytes
  ends : EndsEmpty (take p bytes)
  marked : is_separator (drop p bytes) ≡ true

-- none of these mails begins in a range, or one begins at a place or later
abbrev NoneOr : List Placed → ℕ → ℕ → List ℕ → ℕ → Type 0
NoneOr mails from to bytes low = (in_range from to mails ≡ []) ⊎ ((p : ℕ) × (low ≤ p) × Marked bytes p)

-- the place of a mail that begins near the front of the bytes, or after an empty line
abbrev Begins : List ℕ → ℕ → Type 0
Begins bytes p = (p < 3) ⊎ EndsEmpty (take p bytes)

-- the place of the next mail after an empty line
next-ends : (bytes : List ℕ) (p : ℕ) → p ≤ length bytes → is_separator (next_entry (drop p bytes)) ≡ true
    → EndsEmpty (take (p + length (entry_bytes (entry_at (drop p bytes)))) bytes)
next-ends bytes p within marked =
    let rest = drop p bytes in
    let cut = cut-found rest marked in
    let next = next_entry rest in
    let e = entry_bytes (entry_at rest) in
    let spans = ap length (entry-spans mail_length rest) in
    let spans_sum = length-append e next in
    let whole = ap length cut.whole in
    let whole_sum = length-append cut.first next in
    let front_size = length-take-le p bytes within in
    let size_sum = length-append (take p bytes) cut.first in
    let size : length (take p bytes ++ cut.first) ≡ p + length e = omega arith in
    let all : bytes ≡ (take p bytes ++ cut.first) ++ next =
    sym (append_assoc (take p bytes) cut.first next ∙ ap (λ (r : List ℕ). take p bytes ++ r) cut.whole ∙ take-append-drop p bytes) in
    let taken : take (p + length e) bytes ≡ take p bytes ++ cut.first =
    ap (take (p + length e)) all ∙ take_at (take p bytes ++ cut.first) next (p + length e) size in
    subst EndsEmpty (sym taken) (ends-after (take p bytes) cut.first cut.ends)

-- the bytes after the mail that begins at a place
next-drop : (bytes : List ℕ) (p : ℕ) → drop (p + length (entry_bytes (entry_at (drop p bytes)))) bytes ≡ next_entry (drop p bytes)
next-drop bytes p =
    let rest = drop p bytes in
    let e = entry_bytes (entry_at rest) in
    sym (drop-drop (length e) p bytes) ∙ ap (drop (length e)) (sym (entry-spans mail_length rest)) ∙ drop-append_seam e (next_entry rest)

search : (n : ℕ) (bytes : List ℕ) (start p low to : ℕ) → length (drop p bytes) ≤ n → 3 ≤ low → is_separator (drop p bytes) ≡ true → p ≤ length bytes → Begins bytes p
    → NoneOr (placed_from (start + p) (entries_from (drop p bytes))) (start + low) to bytes low
search zero bytes start p low to fits some is within before = let more = has_prefix-some (drop p bytes) is in absurd (omega arith)
search (suc n) bytes start p low to fits some is within before = elim (cases_lt p low) [
  | inr past ↦ beyond past before
  | inl lower ↦
      elim (cases_Bool (is_separator next)) [
        | inl again ↦
            let there = next-drop bytes p in
            let here : is_separator (drop (p + size) bytes) ≡ true = ap is_separator there ∙ again in
            let less = next-shorter mail_length rest is in
            let left = ap length there in
            let next_size = length-drop (p + size) bytes in
            let spans = ap length (entry-spans mail_length rest) in
            let spans_sum = length-append (entry_bytes (entry_at rest)) next in
            let rest_size = length-drop p bytes in
            let found = search n bytes start (p + size) low to (omega arith) some here (omega arith) (inr (next-ends bytes p within again)) in
            onward lower (subst (λ (r : List ℕ). NoneOr (placed_from (start + (p + size)) (entries_from r)) (start + low) to bytes low) there found)
        | inr over ↦
            let none : next ≡ [] = nothing next over (after_opens (after_line rest)) in
            let mails : entries_from next ≡ [] = ap entries_from none ∙ entries-none mail_length [] unmarked-nil in
            onward lower (inl (ap (λ (r : List Entry). in_range (start + low) to (placed_from (start + (p + size)) r)) mails))
      ]
]
  where
    rest : List ℕ
    rest = drop p bytes

    next : List ℕ
    next = next_entry rest

    size : ℕ
    size = length (entry_bytes (entry_at rest))

    beyond : low ≤ p → Begins bytes p → NoneOr (placed_from (start + p) (entries_from rest)) (start + low) to bytes low
    beyond past (inl near) = absurd (omega arith)
    beyond past (inr ends) = inr (p, past, record { within = within; ends = ends; marked = is })

    -- the mail here begins before the range
    passed : p < low → in_range (start + low) to (placed_from (start + p) (entries_from rest)) ≡ in_range (start + low) to (placed_from (start + (p + size)) (entries_from next))
    passed lower =
        let here = entries-some mail_length rest is in
        let same : start + p + size ≡ start + (p + size) = omega arith in
        ap (λ (r : List Entry). in_range (start + low) to (placed_from (start + p) r)) here
        ∙ cond-false _ _ _ (and_left (not (nat_lt (start + p) (start + low))) (nat_lt (start + p) to) (ap not (lt-ltb (start + p) (start + low) (omega arith))))
        ∙ ap (λ (n : ℕ). in_range (start + low) to (placed_from n (entries_from next))) same

    onward : p < low → NoneOr (placed_from (start + (p + size)) (entries_from next)) (start + low) to bytes low → NoneOr (placed_from (start + p) (entries_from rest)) (start + low) to bytes low
    onward lower (inl none) = inl (passed lower ∙ none)
    onward lower (inr found) = inr found

-- the first mail begins near the front, or after an empty line
front-case : (f line next bytes : List ℕ) (p : ℕ) → (f ++ (10 ∷ line)) ++ next ≡ 10 ∷ bytes → next ≡ drop p bytes → p ≤ length bytes → IsEmptyLine line → Begins bytes p
front-case [] line next bytes p whole is within empty =
    let short = line-short line empty in
    let all = ap length whole in
    let sum = length-append (10 ∷ line) next in
    let size = ap length is in
    let left = length-drop p bytes in
    inl (omega arith)
front-case (b ∷ f) line next bytes p whole is within empty =
    let all = ap length whole in
    let sum = length-append (b ∷ (f ++ (10 ∷ line))) next in
    let size = ap length is in
    let left = length-drop p bytes in
    let same : length (f ++ (10 ∷ line)) ≡ p = omega arith in
    let taken : take p bytes ≡ f ++ (10 ∷ line) = ap (λ (r : List ℕ). take p (drop 1 r)) (sym whole) ∙ take_at (f ++ (10 ∷ line)) next p same in
    inr (record { front = f; line = line; is_empty = empty; whole = taken })

first-begins : (bytes : List ℕ) → is_separator (drop (front_length bytes) bytes) ≡ true → Begins bytes (front_length bytes)
first-begins bytes marked = elim (cases_Bool (is_separator bytes)) [
  | inl is ↦ let none = front_length-none bytes (sym is) in inl (omega arith)
  | inr fails ↦
      let here = after-front bytes fails in
      let cut = cut-found (10 ∷ bytes) (ap is_separator here ∙ marked) in
      front-case cut.ends.front cut.ends.line (next_entry (10 ∷ bytes)) bytes (front_length bytes)
      (ap (λ (r : List ℕ). r ++ next_entry (10 ∷ bytes)) (sym cut.ends.whole) ∙ cut.whole) here (front_length-≤ bytes) cut.ends.is_empty
]

search-all : (bytes : List ℕ) (start low to : ℕ) → 3 ≤ low → NoneOr (placed_at start bytes) (start + low) to bytes low
search-all bytes start low to some =
    let n = front_length bytes in
    elim (cases_Bool (is_separator (drop n bytes))) [
      | inl is ↦ search (length (drop n bytes)) bytes start n low to (omega arith) some is (front_length-≤ bytes) (first-begins bytes is)
      | inr fails ↦ inl (ap (λ (r : List Entry). in_range (start + low) to (placed_from (start + n) r)) (entries-none mail_length (drop n bytes) fails))
    ]

-- ---- the mails of a range

abbrev Same : List ℕ → List ℕ → ℕ → Type 0
Same front rest to = in_range (length front + 3) to (placed_at (length front) rest) ≡ in_range (length front + 3) to (placed_at 0 (front ++ rest))

-- if a mail begins in the range, it is enough to look before it
range-step : (front rest : List ℕ) (to p : ℕ) → 3 ≤ p → Marked rest p → Same front (take p rest) to → Same front rest to
range-step front rest to p some mark before =
    let first = take p rest in
    let second = drop p rest in
    let from = length front + 3 in
    let mails = entries_from second in
    let joined : first ++ second ≡ rest = take-append-drop p rest in
    let sum = length-append front first in
    let place : length front + length first ≡ 0 + length (front ++ first) = omega arith in
    let here : placed_at (length front) rest ≡ placed_at (length front) first ++ placed_from (length front + length first) mails =
    ap (placed_at (length front)) (sym joined) ∙ placed-cut (length front) first second mark.ends mark.marked in
    let there : placed_at 0 (front ++ rest) ≡ placed_at 0 (front ++ first) ++ placed_from (0 + length (front ++ first)) mails =
    ap (λ (r : List ℕ). placed_at 0 (front ++ r)) (sym joined) ∙ ap (placed_at 0) (sym (append_assoc front first second))
    ∙ placed-cut 0 (front ++ first) second (ends-after front first mark.ends) mark.marked in
    ap (in_range from to) here ∙ filter-append (begins_in from to) (placed_at (length front) first) (placed_from (length front + length first) mails)
    ∙ ap (λ (r : List Placed). r ++ in_range from to (placed_from (length front + length first) mails)) before
    ∙ ap (λ (n : ℕ). in_range from to (placed_at 0 (front ++ first)) ++ in_range from to (placed_from n mails)) place
    ∙ sym (ap (in_range from to) there ∙ filter-append (begins_in from to) (placed_at 0 (front ++ first)) (placed_from (0 + length (front ++ first)) mails))

-- a separator of the whole after the start of the range is one of the rest
marked-rest : (front rest : List ℕ) (p : ℕ) → length front + 3 ≤ p → Marked (front ++ rest) p → Marked rest (p - length front)
marked-rest front rest p low mark =
    let q = p - length front in
    let place : p ≡ length front + q = omega arith in
    let sum = length-append front rest in
    let within = mark.within in
    let before : take p (front ++ rest) ≡ front ++ take q rest = ap (λ (n : ℕ). take n (front ++ rest)) place ∙ take-append-add front rest q in
    let size = ap length before in
    let all = length-take-le p (front ++ rest) within in
    let beyond : drop (length front) (take p (front ++ rest)) ≡ take q rest = ap (drop (length front)) before ∙ drop-append_seam front (take q rest) in
    record {
      within = omega arith;
      ends = subst EndsEmpty beyond (ends-beyond (take p (front ++ rest)) (length front) mark.ends (omega arith));
      marked = ap is_separator (sym (ap (λ (n : ℕ). drop n (front ++ rest)) place ∙ drop-append-add front rest q)) ∙ mark.marked;
    }

range-cases : (front rest : List ℕ) (to : ℕ) → ((p : ℕ) → 3 ≤ p → Marked rest p → Same front rest to) → Same front rest to
range-cases front rest to smaller = elim (search-all rest (length front) 3 to (omega arith)) [
  | inr found ↦ smaller found.0 found.1 found.2
  | inl none ↦ whole none (search-all (front ++ rest) 0 (length front + 3) to (omega arith))
]
  where
    whole : in_range (length front + 3) to (placed_at (length front) rest) ≡ [] → NoneOr (placed_at 0 (front ++ rest)) (0 + (length front + 3)) to (front ++ rest) (length front + 3)
        → Same front rest to
    whole none (inl empty) =
        let same : 0 + (length front + 3) ≡ length front + 3 = omega arith in
        none ∙ sym (ap (λ (k : ℕ). in_range k to (placed_at 0 (front ++ rest))) (sym same) ∙ empty)
    whole none (inr found) = smaller (found.0 - length front) (let low = found.1 in omega arith) (marked-rest front rest found.0 found.1 found.2)

range-same : (n : ℕ) (front rest : List ℕ) (to : ℕ) → length rest ≤ n → Same front rest to
range-same zero front rest to fits = range-cases front rest to (λ p some mark.
    let more = has_prefix-some (drop p rest) mark.marked in
    let left = length-drop p rest in
    absurd (omega arith))
range-same (suc n) front rest to fits = range-cases front rest to (λ p some mark.
    let more = has_prefix-some (drop p rest) mark.marked in
    let left = length-drop p rest in
    let size = length-take-le p rest mark.within in
    range-step front rest to p some mark (range-same n front (take p rest) to (omega arith)))

pub range-found : (bytes : List ℕ) (from to : ℕ) → from ≤ length bytes → in_range from to (placed_at (from - 3) (drop (from - 3) bytes)) ≡ in_range from to (placed bytes)
range-found bytes from to within = elim (cases_lt from 3) [
  | inl low ↦
      let none : from - 3 ≡ 0 = omega arith in
      ap (λ (k : ℕ). in_range from to (placed_at k (drop k bytes))) none ∙ ap (in_range from to) (placed-zero bytes)
  | inr high ↦
      let k = from - 3 in
      let front = take k bytes in
      let rest = drop k bytes in
      let size : length front ≡ k = length-take-le k bytes (omega arith) in
      let place : length front + 3 ≡ from = omega arith in
      let same = range-same (length rest) front rest to (omega arith) in
      ap (λ (s : ℕ). in_range from to (placed_at s rest)) (sym size)
      ∙ ap (λ (f : ℕ). in_range f to (placed_at (length front) rest)) (sym place) ∙ same
      ∙ ap (λ (f : ℕ). in_range f to (placed_at 0 (front ++ rest))) place
      ∙ ap (λ (r : List ℕ). in_range from to (placed_at 0 r)) (take-append-drop k bytes) ∙ ap (in_range from to) (placed-zero bytes)
]
  where
    placed-zero : (bytes : List ℕ) → placed_at 0 bytes ≡ placed bytes
    placed-zero bytes = let same : 0 + front_length bytes ≡ front_length bytes = omega arith in ap (λ (n : ℕ). placed_from n (entries bytes)) same
