-- How bytes are decoded from the front: the characters there, and how many bytes they take; then
-- the same for the bytes after those (the WHATWG Encoding Standard, section 4.1).
use Rattle.std.specs.Prelude.{ℕ, zero, suc, ◌-◌, List, [], ◌∷◌, ◌++◌, encode_utf8_all}

-- characters, and the number of bytes they take
abbrev pub Taken : Type 0
Taken = List ℕ × ℕ

-- the characters of the bytes after some that have been read already, where `front` reads the first
-- of them
abbrev pub chars_after : ℕ → (List ℕ → Taken) → List ℕ → List ℕ
chars_after skipped front [] = []
chars_after zero front (byte ∷ bytes) =
    (front (byte ∷ bytes)).0 ++ chars_after ((front (byte ∷ bytes)).1 - 1) front bytes
chars_after (suc skipped) front (byte ∷ bytes) = chars_after skipped front bytes

-- the characters of bytes of which `front` reads the first
abbrev pub chars_by : (List ℕ → Taken) → List ℕ → List ℕ
chars_by front bytes = chars_after 0 front bytes

-- the text of bytes of which `front` reads the first
unfoldable pub text_by : (List ℕ → Taken) → List ℕ → List ℕ
text_by front bytes = encode_utf8_all (chars_by front bytes)
