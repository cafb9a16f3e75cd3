-- The characters at the front of bytes in an encoding, and the number of bytes they take (the WHATWG Encoding Standard, sections 4.1 and 5).
use Rattle.std.specs.Prelude.{ℕ, ◌-◌, ◌<◌, ◌≤◌, ◌||◌, ◌==◌, List, [], ◌∷◌, length, slice_index, nat_lt, Option, None, Some, if◌then◌else◌}
use Rattle.std.specs.Int.{is_in_range}
use Rattle.mail_codec.specs.Charset.{replacement}
use Rattle.mail_codec.specs.Front.{Taken}
use Rattle.mail_charsets.specs.declared.front.Characters.{Characters}
use Rattle.mail_charsets.specs.declared.front.Characters.TheVariants.{Nothing, One, Two}
use Rattle.mail_charsets.specs.declared.front.Front.{Front}

-- of `count` bytes, at least one is taken, at most four, and no more than `count`
abbrev pub TakesFew : ℕ → Taken → Type 0
TakesFew count taken = (0 < taken.1) × (taken.1 ≤ count) × (taken.1 ≤ 4)

-- `taken` bytes that are invalid
abbrev pub fault : ℕ → Taken
fault taken = (replacement ∷ [], taken)

-- a character of one byte, if there is one
abbrev pub one_or : Option ℕ → Taken → Taken
one_or None other = other
one_or (Some character) other = (character ∷ [], 1)

-- a sequence of more than two bytes, if there is one
abbrev pub long_or : Option Taken → Taken → Taken
long_or None other = other
long_or (Some taken) other = taken

-- `taken` bytes with these characters; without characters, `faulty` invalid bytes
abbrev pub whole_or : List ℕ → ℕ → ℕ → Taken
whole_or [] taken faulty = fault faulty
whole_or (character ∷ others) taken faulty = (character ∷ others, taken)

-- how many of `taken` bytes are invalid together: all, except that an ASCII byte at their end is read again
abbrev pub faulty : ℕ → ℕ → ℕ
faulty last taken = if nat_lt last 0x80 then taken - 1 else taken

-- the column of a trail byte, where the trail bytes begin at 40 and 7F is left out
abbrev pub column : ℕ → ℕ
column trail = if nat_lt trail 0x7F then trail - 0x40 else trail - 0x41

-- a lead byte and the byte after it, with their characters, if they have any
abbrev pub pair : List ℕ → ℕ → Taken
pair characters trail = whole_or characters 2 (faulty trail 2)

-- The characters at the front, where ASCII bytes are themselves: a byte for which `single` has a character is that character, and any
-- other byte is a lead byte. A lead byte at the end is invalid. A lead byte may begin a longer sequence with the bytes after it (`long`);
-- otherwise it has its characters with the byte after it (`pairs`).
unfoldable pub front_by : (List ℕ → Option Taken) → (ℕ → Option ℕ) → (ℕ → ℕ → List ℕ) → List ℕ → Taken
front_by long single pairs bytes =
    let byte = slice_index bytes 0 in let trail = slice_index bytes 1 in
    if nat_lt byte 0x80 then (byte ∷ [], 1) else
    one_or (single byte) (if nat_lt (length bytes) 2 then fault 1 else long_or (long bytes) (pair (pairs byte trail) trail))

-- no sequence is longer than two bytes
abbrev pub no_long : List ℕ → Option Taken
no_long bytes = None

-- the characters of a code: one, or none if it is 0 or a surrogate
abbrev pub code_chars : ℕ → List ℕ
code_chars code = if (code == 0) || is_in_range 0xD800 0xDFFF code then [] else code ∷ []

-- the characters that an index has at a pointer (section 5): none if the entry is 0
abbrev pub chars_at : List ℕ → ℕ → List ℕ
chars_at index pointer = code_chars (slice_index index pointer)

-- the characters of the enum in the code
abbrev pub characters_of : Characters → List ℕ
characters_of Nothing = []
characters_of (One character) = character ∷ []
characters_of (Two first second) = first ∷ second ∷ []

-- the front of the code as the definitions take it
abbrev pub taken_of : Front → Taken
taken_of front = (characters_of front.characters, front.taken)
