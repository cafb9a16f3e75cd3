-- Lemmas on the mails of parts of a mailbox: the parts, one after another, have all mails in order.
use Rattle.std.proofs.Common.{◌≡◌, ℕ, zero, suc, ◌+◌, ◌*◌, ◌/◌, ◌<◌, ◌≤◌, Bool, true, false, cond, List, [], ◌∷◌, ◌++◌, ◌&&◌, length, drop, refl, sym, ap, ◌∙◌, arith, length-drop, length-append, inl, inr}
use Rattle.std.specs.Prelude.{nat_lt, not}
use Rattle.std.specs.List.{flat_map}
use Rattle.std.proofs.Math.Nat.{lt-mul-div-succ, mul-div-le, mul-div_cancel, mul-le-mul_left, zero-div}
use Rattle.std.proofs.lemmas.Bool.{and_from, and_right, cases_Bool, cases_lt, cond-true, cond-false, le-ltb, lt-ltb, false≢true}
use Rattle.mail_codec.specs.Places.{values_below}
use Rattle.mail_data.specs.LineEnds.{empty_line}
use Rattle.mail_data.specs.Mailbox.{Entry, after_mail, entries, entries_by, entries_within, entry_at, entry_bytes, front_length, mail_length, next_entry}
use Rattle.mail_data.specs.MailboxParts.{Placed, in_range, part_mails, part_start, placed, placed_from}
use Rattle.mail_data.specs.Separator.{is_separator}
use Rattle.mail_data.proofs.lemmas.LineEnds.{empty_line-≤}
use Rattle.mail_data.proofs.lemmas.Mailbox.{entry-spans, mail_length-≤, next-shorter}

-- ---- one mail of a filter: whether it begins before the first place, before the middle and before the last

before_step : (t u v : Bool) (m : Placed) (f g h : List Placed) → u ≡ true → v ≡ true → f ++ g ≡ h
    → cond (not t && u) (m ∷ f) f ++ cond (not u && v) (m ∷ g) g ≡ cond (not t && v) (m ∷ h) h
before_step t false v m f g h p q e = absurd (false≢true p)
before_step t true false m f g h p q e = absurd (false≢true q)
before_step true true true m f g h p q e = e
before_step false true true m f g h p q e = ap (λ (r : List Placed). m ∷ r) e

later_step : (t u v : Bool) (m : Placed) (f g : List Placed) → t ≡ false → u ≡ false → f ≡ g → cond (not t && v) (m ∷ f) f ≡ cond (not u && v) (m ∷ g) g
later_step true u v m f g p q e = absurd (false≢true (sym p))
later_step false true v m f g p q e = absurd (false≢true (sym q))
later_step false false v m f g p q e = ap (λ (r : List Placed). cond v (m ∷ r) r) e

empty_step : (t : Bool) (m : Placed) (f : List Placed) → cond (not t && t) (m ∷ f) f ≡ f
empty_step true m f = refl
empty_step false m f = refl

-- ---- mails in a range

-- none begins before where all begin
none_before : (from to start : ℕ) (mails : List Entry) → to ≤ start → in_range from to (placed_from start mails) ≡ []
none_before from to start [] past = refl
none_before from to start (e ∷ mails) past =
    cond-false _ _ _ (and_right (not (nat_lt start from)) (nat_lt start to) (le-ltb start to past))
    ∙ none_before from to (start + length (entry_bytes e)) mails (omega arith)

-- it does not matter how far before the first mail a range begins
begun_before : (from mid to start : ℕ) (mails : List Entry) → from ≤ mid → mid ≤ start → in_range mid to (placed_from start mails) ≡ in_range from to (placed_from start mails)
begun_before from mid to start [] low past = refl
begun_before from mid to start (e ∷ mails) low past =
    later_step (nat_lt start mid) (nat_lt start from) (nat_lt start to) (record { start = start; entry = e }) _ _ (le-ltb start mid past) (le-ltb start from (omega arith))
    (begun_before from mid to (start + length (entry_bytes e)) mails low (omega arith))

-- a range is cut in two
range-cut : (from mid to start : ℕ) (mails : List Entry) → from ≤ mid → mid ≤ to
    → in_range from mid (placed_from start mails) ++ in_range mid to (placed_from start mails) ≡ in_range from to (placed_from start mails)
range-cut from mid to start [] low high = refl
range-cut from mid to start (e ∷ mails) low high = elim (cases_lt start mid) [
  | inl before ↦
      before_step (nat_lt start from) (nat_lt start mid) (nat_lt start to) (record { start = start; entry = e }) _ _ _ (lt-ltb start mid before) (lt-ltb start to (omega arith))
      (range-cut from mid to (start + length (entry_bytes e)) mails low high)
  | inr past ↦
      ap (λ (r : List Placed). r ++ in_range mid to (placed_from start (e ∷ mails))) (none_before from mid start (e ∷ mails) past)
      ∙ begun_before from mid to start (e ∷ mails) low past
]

range-empty : (from start : ℕ) (mails : List Entry) → in_range from from (placed_from start mails) ≡ []
range-empty from start [] = refl
range-empty from start (e ∷ mails) = empty_step (nat_lt start from) (record { start = start; entry = e }) _ ∙ range-empty from (start + length (entry_bytes e)) mails

rising : (bound : ℕ → ℕ) (n : ℕ) → ((k : ℕ) → bound k ≤ bound (suc k)) → bound 0 ≤ bound n
rising bound zero grows = omega arith
rising bound (suc n) grows = let low = rising bound n grows in let next = grows n in omega arith

-- ranges that adjoin, one after another
ranges-joined : (bound : ℕ → ℕ) (n start : ℕ) (mails : List Entry) → ((k : ℕ) → bound k ≤ bound (suc k))
    → flat_map (λ (r : List Placed). r) (values_below n (λ k. in_range (bound k) (bound (suc k)) (placed_from start mails))) ≡ in_range (bound 0) (bound n) (placed_from start mails)
ranges-joined bound zero start mails grows = sym (range-empty (bound 0) start mails)
ranges-joined bound (suc n) start mails grows =
    ap (λ (r : List Placed). in_range (bound 0) (bound 1) (placed_from start mails) ++ r) (ranges-joined (λ k. bound (suc k)) n start mails (λ k. grows (suc k)))
    ∙ range-cut (bound 0) (bound 1) (bound (suc n)) start mails (grows 0) (rising (λ k. bound (suc k)) n (λ k. grows (suc k)))

-- ---- all mails begin within the mailbox

all_within : (n : ℕ) (bytes : List ℕ) (start to : ℕ) → start + length bytes ≤ to → in_range 0 to (placed_from start (entries_within mail_length n bytes)) ≡ placed_from start (entries_within mail_length n bytes)
all_within zero bytes start to fits = refl
all_within (suc n) bytes start to fits = elim (cases_Bool (is_separator bytes)) [
  | inl is ↦
      let less = next-shorter mail_length bytes is in
      let e = entry_at bytes in
      let sum = ap length (entry-spans mail_length bytes) in
      let parts = length-append (entry_bytes e) (next_entry bytes) in
      let here = cond-true (is_separator bytes) (e ∷ entries_within mail_length n (next_entry bytes)) [] is in
      ap (λ (r : List Entry). in_range 0 to (placed_from start r)) here
      ∙ cond-true _ _ _ (and_from (not (nat_lt start 0)) (nat_lt start to) (ap not (le-ltb start 0 (omega arith))) (lt-ltb start to (omega arith)))
      ∙ ap (λ (r : List Placed). record { start = start; entry = e } ∷ r) (all_within n (next_entry bytes) (start + length (entry_bytes e)) to (omega arith))
      ∙ sym (ap (placed_from start) here)
  | inr fails ↦
      let here = cond-false (is_separator bytes) (entry_at bytes ∷ entries_within mail_length n (next_entry bytes)) [] fails in
      ap (λ (r : List Entry). in_range 0 to (placed_from start r)) here ∙ sym (ap (placed_from start) here)
]

pub front_length-≤ : (bytes : List ℕ) → front_length bytes ≤ length bytes
unfolding front_length
front_length-≤ bytes =
    let mail = mail_length-≤ bytes in
    let line = empty_line-≤ (after_mail bytes) in
    let rest = length-drop (mail_length bytes) bytes in
    elim (is_separator bytes) as (λ t. cond t 0 (mail_length bytes + empty_line (after_mail bytes)) ≤ length bytes) [
      | true ↦ omega arith
      | false ↦ omega arith
    ]

placed-within : (bytes : List ℕ) → in_range 0 (length bytes) (placed bytes) ≡ placed bytes
unfolding entries_by
placed-within bytes =
    let front = front_length-≤ bytes in
    let size = length-drop (front_length bytes) bytes in
    all_within (length (drop (front_length bytes) bytes)) (drop (front_length bytes) bytes) (front_length bytes) (length bytes) (omega arith)

-- ---- equal parts

quotient-rises : (a b k : ℕ) → 0 < k → a ≤ b → a / k ≤ b / k
quotient-rises a b k some low = elim (cases_lt (b / k) (a / k)) [
  | inl less ↦
      let under = mul-div-le a k in
      let over = lt-mul-div-succ b some in
      let product : k * (b / k + 1) ≤ k * (a / k) = mul-le-mul_left k (omega arith) in
      absurd (omega arith)
  | inr fine ↦ fine
]

pub parts-joined : (bytes : List ℕ) (count : ℕ) → 0 < count → flat_map (λ (mails : List Placed). mails) (values_below count (part_mails bytes count)) ≡ placed bytes
unfolding part_mails
parts-joined bytes count some =
    let nothing : length bytes * 0 ≡ 0 = omega arith in
    let first : part_start bytes count 0 ≡ 0 = ap (λ (n : ℕ). n / count) nothing ∙ zero-div count in
    let last : part_start bytes count count ≡ length bytes = mul-div_cancel (length bytes) some in
    ranges-joined (part_start bytes count) count (front_length bytes) (entries bytes)
    (λ k. quotient-rises (length bytes * k) (length bytes * suc k) count some (mul-le-mul_left (length bytes) (omega arith)))
    ∙ ap (λ (n : ℕ). in_range n (part_start bytes count count) (placed bytes)) first
    ∙ ap (λ (n : ℕ). in_range 0 n (placed bytes)) last ∙ placed-within bytes
