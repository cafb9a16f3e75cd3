-- Words for contracts on vectors of bytes, each seen as the list of its lanes; this crate's own
-- words.
use Rattle.std.specs.Prelude.{◌≡◌, ℕ, ◌+◌, ◌*◌, ◌/◌, ◌%◌, ◌^◌, ◌<◌, ◌≤◌, ◌==◌, ◌&&◌, Bool, map, List, [], ◌∷◌, length, Option, Some, slice_index, bit_and, if◌then◌else◌}
use Rattle.std.specs.List.{prefix_len}
use Rattle.std.specs.Option.{is_some}
use Rattle.std.specs.Simd.Lanes.{mask_l, zip2}
use Rattle.mail_codec.specs.Ascii.{slash}
use Rattle.mail_codec.specs.Base64.{letter_value, group_bytes, group_number}

-- a bit for each lane, 1 if the lane passes the test; the lowest bit is that of the first lane
abbrev pub lane_mask : (ℕ → Bool) → List ℕ → ℕ
lane_mask test lanes = mask_l (map test lanes)

-- for each lane of two vectors, 1 if one byte is in the first and another in the second, else 0
abbrev pub pair_flags : ℕ → ℕ → List ℕ → List ℕ → List ℕ
pair_flags first second lanes next =
    zip2 (λ b c. if b == first && c == second then 1 else 0) lanes next

-- such a flag is set
abbrev pub is_set : ℕ → Bool
is_set flag = flag == 1

-- the ASCII whitespace with the same lower half as a byte, or 0 if there is none
abbrev pub whitespace_of_half : ℕ → ℕ
whitespace_of_half b =
    slice_index (32 ∷ 0 ∷ 0 ∷ 0 ∷ 0 ∷ 0 ∷ 0 ∷ 0 ∷ 0 ∷ 9 ∷ 10 ∷ 0 ∷ 12 ∷ 13 ∷ 0 ∷ 0 ∷ [])
    (bit_and b 15)

-- the byte is a letter of Base64
abbrev pub is_letter : ℕ → Bool
is_letter b = is_some (letter_value b)

-- what may be wrong with a byte, by its upper half and by its lower half
abbrev pub upper_faults : List ℕ
upper_faults = 16 ∷ 16 ∷ 1 ∷ 2 ∷ 4 ∷ 8 ∷ 4 ∷ 8 ∷ 16 ∷ 16 ∷ 16 ∷ 16 ∷ 16 ∷ 16 ∷ 16 ∷ 16 ∷ []

abbrev pub lower_faults : List ℕ
lower_faults = 21 ∷ 17 ∷ 17 ∷ 17 ∷ 17 ∷ 17 ∷ 17 ∷ 17 ∷ 17 ∷ 17 ∷ 19 ∷ 26 ∷ 27 ∷ 27 ∷ 27 ∷ 26 ∷ []

-- what is wrong with a byte by both halves; 0 for letters alone
abbrev pub fault_of : ℕ → ℕ
fault_of b = bit_and (slice_index upper_faults (b / 16)) (slice_index lower_faults (bit_and b 15))

-- 255, which is -1 modulo 256, for `/`; 0 for every other byte
abbrev pub slash_offset : ℕ → ℕ
slash_offset b = if b == slash then 255 else 0

-- the index of a letter in the table of additions
abbrev pub addition_place : ℕ → ℕ
addition_place b = (b / 16 + slash_offset b) % 256

-- what is added to a letter to get its value, by that index
abbrev pub additions : List ℕ
additions = 0 ∷ 16 ∷ 19 ∷ 4 ∷ 191 ∷ 191 ∷ 185 ∷ 185 ∷ 0 ∷ 0 ∷ 0 ∷ 0 ∷ 0 ∷ 0 ∷ 0 ∷ 0 ∷ []

-- what is added to this letter
abbrev pub addition_of : ℕ → ℕ
addition_of b = slice_index additions (addition_place b)

-- the value of a letter
abbrev pub value_of : ℕ → ℕ
value_of b = (b + addition_of b) % 256

-- the n numbers that the values of groups make
pub record AreNumbers (n : ℕ) (values numbers : List ℕ) : Type 0 where
  pub len : length numbers ≡ n
  pub fits : (k : ℕ) → k < n → slice_index numbers k < 2 ^ 32
  pub lanes : (k : ℕ) → k < n
      → slice_index values (4 * k + 2) < 64 → slice_index values (4 * k + 3) < 64
      → slice_index numbers k ≡ group_number (slice_index values (4 * k))
      (slice_index values (4 * k + 1)) (slice_index values (4 * k + 2))
      (slice_index values (4 * k + 3))

-- the bytes of group k of some letters, if it is a group
abbrev pub group_of : List ℕ → ℕ → Option (List ℕ)
group_of letters k =
    group_bytes (slice_index letters (4 * k)) (slice_index letters (4 * k + 1))
    (slice_index letters (4 * k + 2)) (slice_index letters (4 * k + 3))

-- the three bytes from place 3k onwards
abbrev pub three_at : List ℕ → ℕ → List ℕ
three_at bytes k =
    slice_index bytes (3 * k) ∷ slice_index bytes (3 * k + 1) ∷ slice_index bytes (3 * k + 2) ∷ []

-- the bytes of the groups of letters, three for each, up to the first byte that is no letter
abbrev pub Packs : List ℕ → List ℕ → Type 0
Packs letters bytes = (k : ℕ) → 4 * k + 4 ≤ prefix_len is_letter letters
    → group_of letters k ≡ Some (three_at bytes k)

-- what may make a byte need an escape, by its upper half and by its lower half
abbrev pub upper_escapes : List ℕ
upper_escapes = 1 ∷ 1 ∷ 2 ∷ 0 ∷ 0 ∷ 4 ∷ 0 ∷ 8 ∷ 0 ∷ 0 ∷ 0 ∷ 0 ∷ 2 ∷ 16 ∷ 2 ∷ 0 ∷ []

abbrev pub lower_escapes : List ℕ
lower_escapes = 1 ∷ 1 ∷ 3 ∷ 1 ∷ 1 ∷ 1 ∷ 1 ∷ 1 ∷ 17 ∷ 1 ∷ 1 ∷ 1 ∷ 5 ∷ 1 ∷ 1 ∷ 9 ∷ []

-- what makes it need one by both halves; 0 if nothing does
abbrev pub escape_class : ℕ → ℕ
escape_class b =
    bit_and (slice_index upper_escapes (b / 16)) (slice_index lower_escapes (bit_and b 15))
