-- Lemmas on lines: where the first one starts that passes a test.
use Rattle.std.proofs.Common.{◌≡◌, ◌⊎◌, ℕ, zero, suc, ◌+◌, ◌-◌, ◌<◌, ◌≤◌, Bool, true, false, cond, eqb, List, ◌++◌, ◌&&◌, ◌||◌, [], ◌∷◌, length, take, drop, Some, None, refl, sym, ap, subst, ◌∙◌, arith, length-append, length-drop, inl, inr}
use Rattle.std.specs.Prelude.{nat_eq, ◌==◌}
use Rattle.std.specs.Cmp.Lexicographic.{same_text}
use Rattle.std.specs.List.{ends_with}
use Rattle.std.specs.Str.{bytes_eq}
use Rattle.std.proofs.Math.Seq.{drop-append-add, drop-append_seam}
use Rattle.std.proofs.lemmas.Bool.{cases_lt, cond-false, cond-true, cond_both, eqb-true, ne_eqb, and_parts, and_from, and_left, and_right, or_cases, or_left, or_right, false_from_ne_true, false≢true}
use Rattle.std.proofs.lemmas.Bool.Decides.{Decides-eqb}
use Rattle.std.proofs.lemmas.List.{append_assoc, drop-append-le, drop-drop, length-take-le, take-append-drop, take_at}
use Rattle.std.proofs.lemmas.Slice.Eq.{bytes_eq-Decides, ends_is}
use Rattle.mail_codec.specs.Places.{begins, first_place, has_prefix, least, byte_place}
use Rattle.mail_codec.proofs.lemmas.Places.{least-is, least-passes, first_place-before, first_place-passes}
use Rattle.mail_codec.proofs.lemmas.PlacesSearches.{place_none, place_some}
use Rattle.mail_data.specs.LineEnds.{empty_line, line_length, line_place, starts_line}
use Rattle.mail_data.specs.private.LineEnds.{is_last_line, last_empty_line}

-- a line starts at p, and the bytes from there onwards pass the test
abbrev pub is_line : (List ℕ → Bool) → List ℕ → ℕ → Bool
is_line test bytes p = starts_line bytes p && test (drop p bytes)

-- no such line starts before a place
abbrev pub NoLine : (List ℕ → Bool) → List ℕ → ℕ → Type 0
NoLine test bytes to = (k : ℕ) → k < to → is_line test bytes k ≡ false

-- no line starts where no LF precedes
no_start : (bytes : List ℕ) (at k : ℕ) → at < k → k ≤ at + first_place (begins (λ b. b == 10)) (drop at bytes) → starts_line bytes k ≡ false
no_start bytes at k low high =
    let before : begins (λ b. b == 10) (drop (k - 1 - at) (drop at bytes)) ≡ false =
    first_place-before (begins (λ b. b == 10)) (drop at bytes) (k - 1 - at) (omega arith) in
    let same : at + (k - 1 - at) ≡ k - 1 = omega arith in
    ap (λ t. t || begins (λ b. b == 10) (drop (k - 1) bytes)) (ne_eqb k 0 (λ e. absurd (omega arith)))
    ∙ ap (λ n. begins (λ b. b == 10) (drop n bytes)) (sym same)
    ∙ ap (begins (λ b. b == 10)) (sym (drop-drop (k - 1 - at) at bytes)) ∙ before

-- none up to the next line
no_line_to : (test : List ℕ → Bool) (bytes : List ℕ) (at to : ℕ) → NoLine test bytes at → test (drop at bytes) ≡ false
    → to ≤ suc (at + first_place (begins (λ b. b == 10)) (drop at bytes)) → NoLine test bytes to
no_line_to test bytes at to none not_here within k low = elim (cases_lt k at) [
  | inl before ↦ none k before
  | inr past ↦ elim (cases_lt at k) [
    | inl beyond ↦ and_left (starts_line bytes k) (test (drop k bytes)) (no_start bytes at k beyond (omega arith))
    | inr not_behind ↦ let same : k ≡ at = omega arith in ap (is_line test bytes) same ∙ and_right (starts_line bytes at) (test (drop at bytes)) not_here
  ]
]

pub no_line_next : (test : List ℕ → Bool) (bytes : List ℕ) (at p : ℕ) → NoLine test bytes at → test (drop at bytes) ≡ false → Some p ≡ byte_place (drop at bytes) 10
    → NoLine test bytes (at + (p + 1))
no_line_next test bytes at p none not_here found =
    let place = place_some (begins (λ b. b == 10)) (drop at bytes) p found in
    let same = place.0 in
    no_line_to test bytes at (at + (p + 1)) none not_here (omega arith)

pub next_within : (bytes : List ℕ) (at p : ℕ) → at ≤ length bytes → Some p ≡ byte_place (drop at bytes) 10 → at + (p + 1) ≤ length bytes
next_within bytes at p within found =
    let place = place_some (begins (λ b. b == 10)) (drop at bytes) p found in
    let same = place.0 in
    let low = place.1 in
    let len = length-drop at bytes in
    omega arith

pub starts_next : (bytes : List ℕ) (at p : ℕ) → Some p ≡ byte_place (drop at bytes) 10 → starts_line bytes (at + (p + 1)) ≡ true
starts_next bytes at p found =
    let place = place_some (begins (λ b. b == 10)) (drop at bytes) p found in
    let is = first_place-passes (begins (λ b. b == 10)) (drop at bytes) place.1 in
    let same : at + (p + 1) - 1 ≡ at + p = omega arith in
    or_right (eqb (at + (p + 1)) 0) (begins (λ b. b == 10) (drop (at + (p + 1) - 1) bytes))
    (ap (λ n. begins (λ b. b == 10) (drop n bytes)) same ∙ ap (begins (λ b. b == 10)) (sym (drop-drop p at bytes))
    ∙ ap (λ n. begins (λ b. b == 10) (drop n (drop at bytes))) place.0 ∙ is)

pub line_place-found : (test : List ℕ → Bool) (bytes : List ℕ) (at : ℕ) → at ≤ length bytes → NoLine test bytes at → starts_line bytes at ≡ true → test (drop at bytes) ≡ true
    → at ≡ line_place test bytes
line_place-found test bytes at within none starts passes =
    sym (least-is (is_line test bytes) (length bytes) at within none (λ low. and_from (starts_line bytes at) (test (drop at bytes)) starts passes))

pub line_place-all : (test : List ℕ → Bool) (bytes : List ℕ) (at : ℕ) → at ≤ length bytes → NoLine test bytes at → test (drop at bytes) ≡ false → None ≡ byte_place (drop at bytes) 10
    → length bytes ≡ line_place test bytes
line_place-all test bytes at within none not_here nowhere =
    let all = place_none (begins (λ b. b == 10)) (drop at bytes) nowhere in
    let len = length-drop at bytes in
    sym (least-is (is_line test bytes) (length bytes) (length bytes) (omega arith) (no_line_to test bytes at (length bytes) none not_here (omega arith)) (λ low. absurd (omega arith)))

pub line_place-≤ : (test : List ℕ → Bool) (bytes : List ℕ) → line_place test bytes ≤ length bytes
line_place-≤ test bytes = least_le (is_line test bytes) (length bytes)
  where
    least_le : (test : ℕ → Bool) (bound : ℕ) → least test bound ≤ bound
    least_le test zero = omega arith
    least_le test (suc bound) = elim (test 0) as (λ t. cond t 0 (suc (least (λ n. test (suc n)) bound)) ≤ suc bound) [
      | true ↦ omega arith
      | false ↦ let h = least_le (λ n. test (suc n)) bound in omega arith
    ]

-- the bytes pass the test at that place, if it is within them
pub line_place-passes : (test : List ℕ → Bool) (bytes : List ℕ) → line_place test bytes < length bytes → test (drop (line_place test bytes) bytes) ≡ true
line_place-passes test bytes l =
    (and_parts (starts_line bytes (line_place test bytes)) (test (drop (line_place test bytes) bytes)) (least-passes (is_line test bytes) (length bytes) l)).1

-- ---- the first line

pub line_length-some : (bytes : List ℕ) (p : ℕ) → Some p ≡ byte_place bytes 10 → p + 1 ≡ line_length bytes
unfolding line_length
line_length-some bytes p found =
    let at = place_some (begins (λ b. b == 10)) bytes p found in
    let same = at.0 in
    let low = at.1 in
    omega arith

pub line_length-none : (bytes : List ℕ) → None ≡ byte_place bytes 10 → length bytes ≡ line_length bytes
unfolding line_length
line_length-none bytes none = let all = place_none (begins (λ b. b == 10)) bytes none in omega arith

pub line_length-some_bytes : (bytes : List ℕ) → 0 < length bytes → 0 < line_length bytes
unfolding line_length
line_length-some_bytes bytes some = omega arith

-- ---- lines within the bytes

pub line_length-≤ : (bytes : List ℕ) → line_length bytes ≤ length bytes
unfolding line_length
line_length-≤ bytes = omega arith

at_most_two : (t u : Bool) (k : ℕ) → 2 ≤ k → cond t 1 (cond u 2 0) ≤ k
at_most_two true u k h = omega arith
at_most_two false true k h = omega arith
at_most_two false false k h = omega arith

at_most_one : (t u : Bool) → cond t 1 (cond (u && false) 2 0) ≤ 1
at_most_one true u = omega arith
at_most_one false true = omega arith
at_most_one false false = omega arith

pub empty_line-≤ : (bytes : List ℕ) → empty_line bytes ≤ length bytes
unfolding empty_line
empty_line-≤ [] = omega arith
empty_line-≤ (b ∷ []) = at_most_one _ _
empty_line-≤ (b ∷ c ∷ bytes) = at_most_two _ _ (length (b ∷ c ∷ bytes)) (omega arith)

-- ---- lines, whatever follows

begins-stays : (rest more : List ℕ) → 0 < length rest → begins (λ b. b == 10) (rest ++ more) ≡ begins (λ b. b == 10) rest
begins-stays [] more some = absurd (omega arith)
begins-stays (b ∷ rest) more some = refl

pub first_place-more : (bytes more : List ℕ)
    → (first_place (begins (λ b. b == 10)) bytes ≤ first_place (begins (λ b. b == 10)) (bytes ++ more))
    × (first_place (begins (λ b. b == 10)) bytes < length bytes → first_place (begins (λ b. b == 10)) (bytes ++ more) ≡ first_place (begins (λ b. b == 10)) bytes)
first_place-more [] more = (omega arith, λ low. absurd (omega arith))
first_place-more (b ∷ bytes) more =
    let later = first_place-more bytes more in
    let f = first_place (begins (λ b. b == 10)) bytes in
    let g = first_place (begins (λ b. b == 10)) (bytes ++ more) in
    let grows = later.0 in
    elim (b == 10) as (λ t. (cond t 0 (suc f) ≤ cond t 0 (suc g)) × (cond t 0 (suc f) < length (b ∷ bytes) → cond t 0 (suc g) ≡ cond t 0 (suc f))) [
      | true ↦ (omega arith, λ low. refl)
      | false ↦ (omega arith, λ low. ap suc (later.1 (omega arith)))
    ]

pub line_length-more : (bytes more : List ℕ) → first_place (begins (λ b. b == 10)) bytes < length bytes → line_length (bytes ++ more) ≡ line_length bytes
unfolding line_length
line_length-more bytes more low =
    let same = (first_place-more bytes more).1 low in
    let all = length-append bytes more in
    omega arith

pub has_feed : (bytes : List ℕ) → line_length bytes < length bytes → first_place (begins (λ b. b == 10)) bytes < length bytes
unfolding line_length
has_feed bytes low = omega arith

pub starts-stays : (mail more : List ℕ) (k : ℕ) → k < length mail → starts_line (mail ++ more) k ≡ starts_line mail k
starts-stays mail more k low =
    let size = length-drop (k - 1) mail in
    ap (λ (r : List ℕ). (k == 0) || begins (λ b. b == 10) r) (drop-append-le (k - 1) mail more (omega arith))
    ∙ ap (λ (t : Bool). (k == 0) || t) (begins-stays (drop (k - 1) mail) more (omega arith))

-- ---- whether there are bytes, as the code decides

pub some-bytes : (rest : List ℕ) (r : Bool) → r ≡ nat_eq (length rest) 0 → r ≡ false → 0 < length rest
some-bytes rest r is fails = let some : (length rest == 0) ≡ false = sym is ∙ fails in grind (arith, some)

pub no-bytes : (rest : List ℕ) (r : Bool) → r ≡ nat_eq (length rest) 0 → r ≡ true → rest ≡ []
no-bytes [] r is holds = refl
no-bytes (b ∷ rest) r is holds = absurd (false≢true (sym (ne_eqb (length (b ∷ rest)) 0 (λ n. absurd (omega arith))) ∙ sym is ∙ holds))

-- ---- empty lines

pub line_feed_first : (bytes : List ℕ) → begins (λ b. b == 10) bytes ≡ true → bytes ≡ 10 ∷ drop 1 bytes
line_feed_first [] h = absurd (false≢true h)
line_feed_first (b ∷ bytes) h = let same : b ≡ 10 = eqb-true b 10 h in ap (λ (x : ℕ). x ∷ bytes) same

-- the two forms of the empty line at the front
pub empty_line-cases : (rest : List ℕ) → 0 < empty_line rest
    → ((empty_line rest ≡ 1) × (rest ≡ 10 ∷ drop 1 rest)) ⊎ ((empty_line rest ≡ 2) × (rest ≡ 13 ∷ 10 ∷ drop 2 rest))
unfolding empty_line
empty_line-cases rest =
    cond_both (has_prefix (10 ∷ []) rest) 1 (cond (has_prefix (13 ∷ 10 ∷ []) rest) 2 0) Form
    (λ lf some. inl (refl, front (10 ∷ []) lf))
    (λ other. cond_both (has_prefix (13 ∷ 10 ∷ []) rest) 2 0 Form (λ cr some. inr (refl, front (13 ∷ 10 ∷ []) cr)) (λ none some. absurd (omega arith)))
  where
    Form : ℕ → Type 0
    Form n = 0 < n → ((n ≡ 1) × (rest ≡ 10 ∷ drop 1 rest)) ⊎ ((n ≡ 2) × (rest ≡ 13 ∷ 10 ∷ drop 2 rest))

    front : (line : List ℕ) → has_prefix line rest ≡ true → rest ≡ line ++ drop (length line) rest
    front line h = sym (take-append-drop (length line) rest) ∙ ap (λ (f : List ℕ). f ++ drop (length line) rest) (sym (same_text line (take (length line) rest) (sym h)))

-- an empty line from one place up to another
pub record EmptyTo (bytes : List ℕ) (k at : ℕ) : Type 0 where
  pub starts : starts_line bytes k ≡ true
  pub some : 0 < empty_line (drop k bytes)
  pub ends : k + empty_line (drop k bytes) ≡ at

pub empty_to-within : (bytes : List ℕ) (k at : ℕ) → EmptyTo bytes k at → at ≤ length bytes
empty_to-within bytes k at line = omega (arith, line.some, line.ends, empty_line-≤ (drop k bytes), length-drop k bytes)

-- it ends in a LF
pub empty_to-feed : (bytes : List ℕ) (k at : ℕ) → EmptyTo bytes k at → drop (at - 1) bytes ≡ 10 ∷ drop at bytes
empty_to-feed bytes k at line = elim (empty_line-cases (drop k bytes) line.some) [
  | inl one ↦
      let place : at - 1 ≡ k = omega (arith, line.ends, one.0) in
      let after : k + 1 ≡ at = omega (arith, line.ends, one.0) in
      ap (λ (n : ℕ). drop n bytes) place ∙ one.1 ∙ ap (λ (r : List ℕ). 10 ∷ r) (drop-drop 1 k bytes ∙ ap (λ (n : ℕ). drop n bytes) after)
  | inr two ↦
      let place : at - 1 ≡ k + 1 = omega (arith, line.ends, two.0) in
      let after : k + 2 ≡ at = omega (arith, line.ends, two.0) in
      ap (λ (n : ℕ). drop n bytes) place ∙ sym (drop-drop 1 k bytes) ∙ ap (drop 1) two.1
      ∙ ap (λ (r : List ℕ). 10 ∷ r) (drop-drop 2 k bytes ∙ ap (λ (n : ℕ). drop n bytes) after)
]

-- a LF precedes a line that is not the first
pub starts-after_feed : (bytes : List ℕ) (k : ℕ) → 0 < k → starts_line bytes k ≡ true → begins (λ b. b == 10) (drop (k - 1) bytes) ≡ true
starts-after_feed bytes k later starts =
    ap (λ (t : Bool). t || begins (λ b. b == 10) (drop (k - 1) bytes)) (sym (ne_eqb k 0 (λ e. absurd (omega arith)))) ∙ starts

-- the next line starts after it
pub empty_to-next : (bytes : List ℕ) (k at j : ℕ) → EmptyTo bytes k at → starts_line bytes j ≡ true → k < j → at ≤ j
empty_to-next bytes k at j line starts low = elim (empty_line-cases (drop k bytes) line.some) [
  | inl one ↦ omega (arith, line.ends, one.0)
  | inr two ↦ elim (cases_lt (k + 1) j) [
    | inl past ↦ omega (arith, line.ends, two.0)
    | inr near ↦
        let place : j - 1 ≡ k = omega arith in
        let cr : begins (λ b. b == 10) (drop (j - 1) bytes) ≡ false = ap (λ (n : ℕ). begins (λ b. b == 10) (drop n bytes)) place ∙ ap (begins (λ b. b == 10)) two.1 in
        absurd (false≢true (sym cr ∙ starts-after_feed bytes j (omega arith) starts))
  ]
]

-- ---- the last line

-- a line starts after a LF
after_feed : (bytes front rest : List ℕ) (k : ℕ) → bytes ≡ front ++ (10 ∷ rest) → k ≡ length front + 1 → (starts_line bytes k ≡ true) × (drop k bytes ≡ rest)
after_feed bytes front rest k whole place =
    let before : k - 1 ≡ length front = omega arith in
    let feed : drop (k - 1) bytes ≡ 10 ∷ rest = ap (λ (n : ℕ). drop n bytes) before ∙ ap (drop (length front)) whole ∙ drop-append_seam front (10 ∷ rest) in (
      or_right (k == 0) (begins (λ b. b == 10) (drop (k - 1) bytes)) (ap (begins (λ b. b == 10)) feed),
      ap (λ (n : ℕ). drop n bytes) place ∙ ap (drop (length front + 1)) whole ∙ drop-append-add front (10 ∷ rest) 1,
    )

-- a last line of the bytes up to a place starts there as a line
last_line-starts : (bytes line : List ℕ) (at : ℕ) → at ≤ length bytes → is_last_line line (take at bytes) ≡ true
    → (length line ≤ at) × ((starts_line bytes (at - length line) ≡ true) × (drop (at - length line) bytes ≡ line ++ drop at bytes))
last_line-starts bytes line at within last = elim (or_cases (bytes_eq front line) (ends_with nat_eq front (10 ∷ line)) last) [
  | inl all ↦
      let same : front ≡ line = (bytes_eq-Decides front line).0 all in
      let size = ap length same in
      let none : at - length line ≡ 0 = omega (arith, long, size) in (
        omega (arith, long, size),
        (ap (starts_line bytes) none, ap (λ (n : ℕ). drop n bytes) none ∙ sym (take-append-drop at bytes) ∙ ap (λ (f : List ℕ). f ++ drop at bytes) same),
      )
  | inr ends ↦
      let before = take (length front - length (10 ∷ line)) front in
      let same : front ≡ before ++ (10 ∷ line) = (ends_is Decides-eqb front (10 ∷ line) _ refl).0 ends in
      let size = ap length same in
      let sum = length-append before (10 ∷ line) in (
        omega (arith, long, size, sum),
        after_feed bytes before (line ++ drop at bytes) (at - length line)
            (sym (take-append-drop at bytes) ∙ ap (λ (f : List ℕ). f ++ drop at bytes) same ∙ append_assoc before (10 ∷ line) (drop at bytes)) (omega (arith, long, size, sum)),
      )
]
  where
    front : List ℕ
    front = take at bytes

    long : length front ≡ at
    long = length-take-le at bytes within

-- and such a line is the last one of the bytes up to its end
last_line-is : (bytes line : List ℕ) (k at : ℕ) → at ≤ length bytes → starts_line bytes k ≡ true → drop k bytes ≡ line ++ drop at bytes → k + length line ≡ at
    → is_last_line line (take at bytes) ≡ true
last_line-is bytes line k at within starts is place = elim (cases_lt 0 k) [
  | inr first ↦
      let none : k ≡ 0 = omega arith in
      let all : bytes ≡ line ++ drop at bytes = ap (λ (n : ℕ). drop n bytes) (sym none) ∙ is in
      or_left (bytes_eq (take at bytes) line) _ ((bytes_eq-Decides (take at bytes) line).1 (ap (take at) all ∙ take_at line (drop at bytes) at (omega arith)))
  | inl later ↦
      let j = k - 1 in
      let next : j + 1 ≡ k = omega arith in
      let feed : drop j bytes ≡ 10 ∷ (line ++ drop at bytes) =
      line_feed_first (drop j bytes) (starts-after_feed bytes k later starts) ∙ ap (λ (r : List ℕ). 10 ∷ r) (drop-drop 1 j bytes ∙ ap (λ (n : ℕ). drop n bytes) next ∙ is) in
      let size = length-take-le j bytes (omega arith) in
      let sum = length-append (take j bytes) (10 ∷ line) in
      let same : take at bytes ≡ take j bytes ++ (10 ∷ line) =
      ap (take at) (sym (take-append-drop j bytes) ∙ ap (λ (r : List ℕ). take j bytes ++ r) feed ∙ sym (append_assoc (take j bytes) (10 ∷ line) (drop at bytes)))
      ∙ take_at (take j bytes ++ (10 ∷ line)) (drop at bytes) at (omega arith) in
      or_right (bytes_eq (take at bytes) line) _ ((ends_is Decides-eqb (take at bytes) (10 ∷ line) _ refl).1 (take j bytes) same)
]

-- an empty line that the bytes up to a place end in
pub last_empty_line-found : (bytes : List ℕ) (at n : ℕ) → at ≤ length bytes → n ≡ last_empty_line (take at bytes) → 0 < n → (n ≤ at) × EmptyTo bytes (at - n) at
unfolding empty_line last_empty_line
last_empty_line-found bytes at n within is = subst Found (sym is)
    (cond_both (is_last_line (10 ∷ []) (take at bytes)) 1 (cond (is_last_line (13 ∷ 10 ∷ []) (take at bytes)) 2 0) Found
    (λ lf some. found (10 ∷ []) (λ rest. refl) some lf)
    (λ other. cond_both (is_last_line (13 ∷ 10 ∷ []) (take at bytes)) 2 0 Found (λ cr some. found (13 ∷ 10 ∷ []) (λ rest. refl) some cr) (λ none some. absurd (omega arith))))
  where
    Found : ℕ → Type 0
    Found m = 0 < m → (m ≤ at) × EmptyTo bytes (at - m) at

    found : (line : List ℕ) → ((rest : List ℕ) → empty_line (line ++ rest) ≡ length line) → 0 < length line → is_last_line line (take at bytes) ≡ true
        → (length line ≤ at) × EmptyTo bytes (at - length line) at
    found line empty some last =
        let there = last_line-starts bytes line at within last in
        let size : empty_line (drop (at - length line) bytes) ≡ length line = ap empty_line there.1.1 ∙ empty (drop at bytes) in
        let low = there.0 in
        (low, record { starts = there.1.0; some = omega arith; ends = omega arith })

-- and no other
pub last_empty_line-is : (bytes : List ℕ) (k at : ℕ) → EmptyTo bytes k at → k + last_empty_line (take at bytes) ≡ at
unfolding last_empty_line
last_empty_line-is bytes k at line = elim (empty_line-cases (drop k bytes) line.some) [
  | inl one ↦
      let place : k + 1 ≡ at = omega (arith, line.ends, one.0) in
      let lf : is_last_line (10 ∷ []) (take at bytes) ≡ true =
      last_line-is bytes (10 ∷ []) k at within line.starts (one.1 ∙ ap (λ (r : List ℕ). 10 ∷ r) (drop-drop 1 k bytes ∙ ap (λ (n : ℕ). drop n bytes) place)) place in
      ap (λ (n : ℕ). k + n) (cond-true (is_last_line (10 ∷ []) (take at bytes)) 1 _ lf) ∙ place
  | inr two ↦
      let place : k + 2 ≡ at = omega (arith, line.ends, two.0) in
      let cr : is_last_line (13 ∷ 10 ∷ []) (take at bytes) ≡ true =
      last_line-is bytes (13 ∷ 10 ∷ []) k at within line.starts (two.1 ∙ ap (λ (r : List ℕ). 13 ∷ 10 ∷ r) (drop-drop 2 k bytes ∙ ap (λ (n : ℕ). drop n bytes) place)) place in
      let no_lf : is_last_line (10 ∷ []) (take at bytes) ≡ false =
      false_from_ne_true _ (λ lf. absurd (omega (arith, place, empty_to-next bytes k at (at - 1) line (last_line-starts bytes (10 ∷ []) at within lf).1.0 (omega arith)))) in
      ap (λ (n : ℕ). k + n) (cond-false (is_last_line (10 ∷ []) (take at bytes)) 1 _ no_lf ∙ cond-true (is_last_line (13 ∷ 10 ∷ []) (take at bytes)) 2 0 cr) ∙ place
]
  where
    within : at ≤ length bytes
    within = empty_to-within bytes k at line
