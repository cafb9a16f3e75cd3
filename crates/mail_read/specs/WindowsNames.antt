-- Names of files that Windows takes ("Naming Files, Paths, and Namespaces", Microsoft; "Naming
-- conventions"). A text is the list of its bytes in UTF-8.
use Rattle.std.specs.Prelude.{◌≡◌, ℕ, Bool, true, false, not, ◌&&◌, ◌||◌, ◌==◌, nat_le, List, [], ◌∷◌, drop, chars, encode_utf8_all, codes, if◌then◌else◌}
use Rattle.std.specs.Char.{to_ascii_lowercase}
use Rattle.std.specs.List.{list_all}
use Rattle.mail_codec.specs.Ascii.{asterisk, colon, quote, space, underscore}
use Rattle.mail_read.specs.FileNames.{IsSafeName, dot, fits, safe_name}

-- a character that no name on Windows has, beside those that no safe name has: `"`, `*`, `:`, `<`,
-- `>`, `?` or `|`
abbrev pub is_forbidden : ℕ → Bool
is_forbidden c =
    c == quote || (c == asterisk || (c == colon || (c == 60 || (c == 62 || (c == 63 || c == 124)))))

-- a character with which no name ends: a dot or a space
abbrev pub is_no_end : ℕ → Bool
is_no_end c = c == dot || c == space

-- the last of the characters, if there is one, passes a test
abbrev pub ends_in : (ℕ → Bool) → List ℕ → Bool
ends_in test [] = false
ends_in test (c ∷ []) = test c
ends_in test (c ∷ (d ∷ cs)) = ends_in test (d ∷ cs)

-- ---- devices

-- three characters are a word of three letters, ignoring ASCII case
abbrev pub spells : ℕ → ℕ → ℕ → List ℕ → Bool
spells a b c (x ∷ (y ∷ (z ∷ []))) =
    to_ascii_lowercase a == x && (to_ascii_lowercase b == y && to_ascii_lowercase c == z)
spells a b c _ = false

-- three characters are the name of a device
abbrev pub is_device_word : ℕ → ℕ → ℕ → Bool
is_device_word a b c =
    spells a b c (codes "con")
    || (spells a b c (codes "prn") || (spells a b c (codes "aux") || spells a b c (codes "nul")))

-- three characters are the name of a port without its number
abbrev pub is_port_word : ℕ → ℕ → ℕ → Bool
is_port_word a b c = spells a b c (codes "com") || spells a b c (codes "lpt")

-- the number of a port: `1` to `9`, or one of U+00B9, U+00B2 and U+00B3, which are 1, 2 and 3
abbrev pub is_port_number : ℕ → Bool
is_port_number c = (nat_le 49 c && nat_le c 57) || (c == 185 || (c == 178 || c == 179))

-- what follows the name of a device in a reserved name: spaces, and then nothing or a dot
abbrev pub is_after_device : List ℕ → Bool
is_after_device [] = true
is_after_device (c ∷ cs) = c == dot || (c == space && is_after_device cs)

-- what follows the name of a port in a reserved name: its number first
abbrev pub is_after_port : List ℕ → Bool
is_after_port [] = false
is_after_port (c ∷ cs) = is_port_number c && is_after_device cs

-- a name is that of a device, with or without an ending
abbrev pub is_device : List ℕ → Bool
is_device (a ∷ (b ∷ (c ∷ cs))) =
    (is_device_word a b c && is_after_device cs) || (is_port_word a b c && is_after_port cs)
is_device _ = false

-- ---- names

-- Windows takes a name: it is safe, contains no forbidden character, ends in neither a dot nor a
-- space, and is not that of a device
pub record IsWindowsName (name : List ℕ) : Type 0 where
  pub safe : IsSafeName name
  pub characters : list_all (λ c. not (is_forbidden c)) (chars name) ≡ true
  pub end : ends_in is_no_end (chars name) ≡ false
  pub free : is_device (chars name) ≡ false

-- the character, or `_` in the place of a forbidden one
abbrev pub allowed : ℕ → ℕ
allowed c = if is_forbidden c then underscore else c

-- the last character of a name, or `_` in the place of one that may not be there
abbrev pub allowed_last : ℕ → ℕ
allowed_last c = if is_no_end c then underscore else allowed c

-- the characters, and `_` in the place of each that may not be where it is
abbrev pub all_allowed : List ℕ → List ℕ
all_allowed [] = []
all_allowed (c ∷ []) = allowed_last c ∷ []
all_allowed (c ∷ (d ∷ cs)) = allowed c ∷ all_allowed (d ∷ cs)

-- what of the name of a device follows a `_`: all of it, or if that does not fit, all but its first
-- character
abbrev pub after_underscore : List ℕ → List ℕ
after_underscore cs = if fits 254 cs then cs else drop 1 cs

-- the characters, with a `_` before the name of a device
abbrev pub no_device : List ℕ → List ℕ
no_device cs = if is_device cs then underscore ∷ after_underscore cs else cs

-- the name made safe, and then changed so that Windows takes it
unfoldable pub windows_name : List ℕ → List ℕ
windows_name name = encode_utf8_all (no_device (all_allowed (chars (safe_name name))))
