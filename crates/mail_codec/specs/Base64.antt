-- Base64 as mail carries it: the groups of four of RFC 4648, section 4. It is this crate's own rule
-- that line ends are dropped everywhere, that padded groups may occur anywhere, and that bits which
-- do not make a whole byte are ignored.
use Rattle.std.specs.Prelude.{◌≡◌, ℕ, suc, ◌+◌, ◌*◌, ◌/◌, ◌%◌, ◌^◌, ◌<◌, ◌==◌, Bool, not, ◌||◌, if◌then◌else◌, List, [], ◌∷◌, ◌++◌, length, take, drop, filter, slice_index, codes, All, Option, Some, None, Result, Ok, Err}
use Rattle.std.specs.List.{flat_map, position}
use Rattle.std.specs.Global.{Vec}
use Rattle.mail_codec.specs.Ascii.{line_feed, carriage_return, equals_sign}

-- the 64 letters, in the order of their values (RFC 4648, table 1)
abbrev pub alphabet : List ℕ
alphabet = codes "ABCDEFGHIJKLMNOPQRSTUVWXYZabcdefghijklmnopqrstuvwxyz0123456789+/"

-- the letter of a value below 64
abbrev pub letter : ℕ → ℕ
letter value = slice_index alphabet value

-- `=`, which takes the place of a missing letter of a group
abbrev pub padding : ℕ
padding = equals_sign

-- the number of 24 bits that the values of four letters make
abbrev pub group_number : ℕ → ℕ → ℕ → ℕ → ℕ
group_number a b c d = a * 2 ^ 18 + b * 2 ^ 12 + c * 2 ^ 6 + d

-- the three bytes of a number of 24 bits, the highest first
abbrev pub three_bytes : ℕ → List ℕ
three_bytes n = (n / 2 ^ 16) ∷ (n / 2 ^ 8 % 2 ^ 8) ∷ (n % 2 ^ 8) ∷ []

-- a group and its bytes: four letters encode three bytes, three letters and `=` for two, two
-- letters and `==` for one; the bits of a missing letter count as 0
pub data IsGroup (group bytes : List ℕ) : Type 0 where
  four_letters : (a b c d : ℕ) → a < 64 → b < 64 → c < 64 → d < 64
      → group ≡ letter a ∷ letter b ∷ letter c ∷ letter d ∷ []
      → bytes ≡ three_bytes (group_number a b c d) → IsGroup group bytes
  three_letters : (a b c : ℕ) → a < 64 → b < 64 → c < 64
      → group ≡ letter a ∷ letter b ∷ letter c ∷ padding ∷ []
      → bytes ≡ take 2 (three_bytes (group_number a b c 0)) → IsGroup group bytes
  two_letters : (a b : ℕ) → a < 64 → b < 64
      → group ≡ letter a ∷ letter b ∷ padding ∷ padding ∷ []
      → bytes ≡ take 1 (three_bytes (group_number a b 0 0)) → IsGroup group bytes

-- a byte that is neither CR nor LF
abbrev pub is_kept : ℕ → Bool
is_kept b = not (b == carriage_return || b == line_feed)

-- a text without its CR and LF
abbrev pub without_line_ends : List ℕ → List ℕ
without_line_ends text = filter is_kept text

-- the text encodes the bytes: without CR and LF it is a sequence of groups, and the bytes are
-- theirs, in order
abbrev pub IsBase64 : List ℕ → List ℕ → Type 0
IsBase64 text bytes = (groups : List (List ℕ × List ℕ))
    × All (λ g. IsGroup g.0 g.1) groups
    × (without_line_ends text ≡ flat_map (λ g. g.0) groups)
    × (bytes ≡ flat_map (λ g. g.1) groups)

-- group n of a text without line ends, counted from 0: four bytes, or what is left
abbrev pub group_at : List ℕ → ℕ → List ℕ
group_at letters n = take 4 (drop (4 * n) letters)

-- the fault of a text is the index of its first group that encodes no bytes
abbrev pub IsBase64Fault : List ℕ → ℕ → Type 0
IsBase64Fault text n = let letters = without_line_ends text in
    (4 * n < length letters)
    × ((bytes : List ℕ) → ¬ IsGroup (group_at letters n) bytes)
    × ((k : ℕ) → k < n → (bytes : List ℕ) × IsGroup (group_at letters k) bytes)

-- ---- the same as functions, which contracts cite

-- the value of a letter, if the byte is one
unfoldable pub letter_value : ℕ → Option ℕ
letter_value b = position (λ x. x == b) alphabet

-- the first n bytes of the group of four values, if there are four
abbrev pub bytes_of_values : ℕ → Option ℕ → Option ℕ → Option ℕ → Option ℕ → Option (List ℕ)
bytes_of_values n (Some a) (Some b) (Some c) (Some d) =
    Some (take n (three_bytes (group_number a b c d)))
bytes_of_values n _ _ _ _ = None

-- the bytes that four bytes encode, if they are a group
unfoldable pub group_bytes : ℕ → ℕ → ℕ → ℕ → Option (List ℕ)
group_bytes p q r s =
    if not (s == padding)
    then bytes_of_values 3 (letter_value p) (letter_value q) (letter_value r) (letter_value s)
    else if not (r == padding)
    then bytes_of_values 2 (letter_value p) (letter_value q) (letter_value r) (Some 0)
    else bytes_of_values 1 (letter_value p) (letter_value q) (Some 0) (Some 0)

-- bytes before those that were read; a fault stays
abbrev pub prepend : List ℕ → Result (List ℕ) ℕ → Result (List ℕ) ℕ
prepend bytes (Ok more) = Ok (bytes ++ more)
prepend bytes (Err n) = Err n

-- a group's bytes and then those read after it, or the fault at its index
abbrev pub after_group : ℕ → Option (List ℕ) → Result (List ℕ) ℕ → Result (List ℕ) ℕ
after_group n (Some bytes) more = prepend bytes more
after_group n None more = Err n

-- the bytes of the groups of a text without line ends, of which the first has index n, or the index
-- of the first invalid one
unfoldable pub groups_from : ℕ → List ℕ → Result (List ℕ) ℕ
groups_from n [] = Ok []
groups_from n (p ∷ []) = Err n
groups_from n (p ∷ q ∷ []) = Err n
groups_from n (p ∷ q ∷ r ∷ []) = Err n
groups_from n (p ∷ q ∷ r ∷ s ∷ rest)
    = after_group n (group_bytes p q r s) (groups_from (suc n) rest)

-- the bytes that a text encodes, or its fault
unfoldable pub base64 : List ℕ → Result (List ℕ) ℕ
base64 text = groups_from 0 (without_line_ends text)

-- the result of a decoder, with its bytes as a list
abbrev pub items_or_fault : Result (Vec ℕ) ℕ → Result (List ℕ) ℕ
items_or_fault (Ok bytes) = Ok bytes.items
items_or_fault (Err n) = Err n
