-- Places in a list of bytes, counted from 0, and the least place with a property; this crate's own
-- words.
use Rattle.std.specs.Prelude.{◌≡◌, ◌≢◌, ◌⊎◌, ℕ, zero, suc, ◌+◌, ◌-◌, ◌<◌, ◌≤◌, Bool, true, false, not, ◌==◌, ◌||◌, nat_eq, nat_lt, filter, List, [], ◌∷◌, length, take, drop, slice_index, Option, None, Some, if◌then◌else◌}
use Rattle.std.specs.Char.{is_ascii_whitespace}
use Rattle.std.specs.List.{starts_with, prefix_len, suffix_len}

-- the least place such that the rest of the bytes from there onwards passes the test, or the length
-- if there is none
abbrev pub first_place : (List ℕ → Bool) → List ℕ → ℕ
first_place test [] = 0
first_place test (b ∷ rest) = if test (b ∷ rest) then 0 else suc (first_place test rest)

-- the least such place at or after a start
abbrev pub place_from : (List ℕ → Bool) → List ℕ → ℕ → ℕ
place_from test bytes start = start + first_place test (drop start bytes)

-- there are no bytes
abbrev pub is_empty : List ℕ → Bool
is_empty [] = true
is_empty (b ∷ rest) = false

-- the first byte passes the test
abbrev pub begins : (ℕ → Bool) → List ℕ → Bool
begins test [] = false
begins test (b ∷ rest) = test b

-- the bytes begin with that text
abbrev pub has_prefix : List ℕ → List ℕ → Bool
has_prefix text bytes = starts_with nat_eq bytes text

-- the least place whose rest passes the test, if there is one
abbrev pub place : (List ℕ → Bool) → List ℕ → Option ℕ
place test bytes =
    let p = first_place test bytes in
    if nat_lt p (length bytes) then Some p else None

-- the first place of a byte
abbrev pub byte_place : List ℕ → ℕ → Option ℕ
byte_place bytes byte = place (begins (λ b. b == byte)) bytes

-- the first place of either of two bytes
abbrev pub either_place : List ℕ → ℕ → ℕ → Option ℕ
either_place bytes first second = place (begins (λ b. b == first || b == second)) bytes

-- the first place where a text occurs; the empty text does not occur
abbrev pub text_place : List ℕ → List ℕ → Option ℕ
text_place bytes text = if length text == 0 then None else place (has_prefix text) bytes

-- p is the least place whose rest passes the test, or the length if no rest does
pub record IsFirstPlace (test : List ℕ → Bool) (bytes : List ℕ) (p : ℕ) : Type 0 where
  pub within : p ≤ length bytes
  pub passes : p < length bytes → test (drop p bytes) ≡ true
  pub before : (k : ℕ) → k < p → test (drop k bytes) ≡ false

-- p is the least place at or after s whose rest passes the test, or the length if no such rest does
pub record IsFirstPlaceFrom (test : List ℕ → Bool) (bytes : List ℕ) (s p : ℕ) : Type 0 where
  pub after : s ≤ p
  pub within : p ≤ length bytes
  pub passes : p < length bytes → test (drop p bytes) ≡ true
  pub before : (k : ℕ) → s ≤ k → k < p → test (drop k bytes) ≡ false

-- the byte is at place p
abbrev pub HasByteAt : List ℕ → ℕ → ℕ → Type 0
HasByteAt bytes byte p = (p < length bytes) × (slice_index bytes p ≡ byte)

-- one of the two bytes is at place p
abbrev pub HasEitherAt : List ℕ → ℕ → ℕ → ℕ → Type 0
HasEitherAt bytes first second p =
    (p < length bytes) × ((slice_index bytes p ≡ first) ⊎ (slice_index bytes p ≡ second))

-- the text, which is not empty, occurs at place p
abbrev pub HasTextAt : List ℕ → List ℕ → ℕ → Type 0
HasTextAt bytes text p = (text ≢ []) × (take (length text) (drop p bytes) ≡ text)

-- the first place with a property, or `None` if no place has it
abbrev pub IsFirstOf : (ℕ → Type 0) → Option ℕ → Type 0
IsFirstOf Has (Some p) = Has p × ((k : ℕ) → k < p → ¬ Has k)
IsFirstOf Has None = (k : ℕ) → ¬ Has k

-- the least number below the bound that passes the test, or the bound if there is none
abbrev pub least : (ℕ → Bool) → ℕ → ℕ
least test zero = 0
least test (suc bound) = if test 0 then 0 else suc (least (λ n. test (suc n)) bound)

-- the values of a function at the numbers below n, in order
abbrev pub values_below : {X : Type 0} → ℕ → (ℕ → X) → List X
values_below zero f = []
values_below (suc n) f = f 0 ∷ values_below n (λ k. f (suc k))

-- the bytes that are not ASCII whitespace (space, tab, LF, FF, CR), in order
abbrev pub without_ascii_whitespace : List ℕ → List ℕ
without_ascii_whitespace bytes = filter (λ b. not (is_ascii_whitespace b)) bytes

-- the bytes without those at the start that pass the test
abbrev pub trimmed_at_start : (ℕ → Bool) → List ℕ → List ℕ
trimmed_at_start test bytes = drop (prefix_len test bytes) bytes

-- the bytes without those at the end that pass it
abbrev pub trimmed_at_end : (ℕ → Bool) → List ℕ → List ℕ
trimmed_at_end test bytes = take (length bytes - suffix_len test bytes) bytes
