-- Names of files that are safe in any directory; the crate's own rule. A text is the list of its
-- bytes in UTF-8.
use Rattle.std.specs.Prelude.{◌≡◌, ◌≢◌, ℕ, suc, ◌-◌, ◌≤◌, Bool, true, false, not, ◌&&◌, ◌||◌, ◌==◌, nat_lt, List, [], ◌∷◌, ◌++◌, length, take, drop, map, chars, encode_utf8_all, codes, if◌then◌else◌}
use Rattle.std.specs.Char.{is_ascii_alphabetic}
use Rattle.std.specs.Int.{is_in_range}
use Rattle.std.specs.List.{list_all, suffix_len}
use Rattle.std.specs.Str.{bytes_eq}
use Rattle.mail_codec.specs.Ascii.{backslash, colon, slash, underscore}
use Rattle.mail_codec.specs.Hidden.{is_hidden}
use Rattle.mail_codec.specs.Places.{is_empty, least}

-- a character that is shown as nothing: a soft hyphen, a space without width, one that does or does not join, the joiner of
-- words, or a byte order mark
abbrev pub is_invisible : ℕ → Bool
is_invisible c = c == 0xAD || is_in_range 0x200B 0x200D c || c == 0x2060 || c == 0xFEFF

-- a character that no safe name contains: `/`, `\`, a hidden character, such as a control, or one that is shown as nothing
abbrev pub is_unsafe : ℕ → Bool
is_unsafe c = c == slash || c == backslash || is_hidden c || is_invisible c

-- a name of no file: no text, or the name of a directory
abbrev pub is_reserved : List ℕ → Bool
is_reserved name = is_empty name || bytes_eq name (codes ".") || bytes_eq name (codes "..")

-- a name is safe: it names a file in the directory where it is used, has at most 255 bytes, and
-- contains no unsafe character
pub record IsSafeName (name : List ℕ) : Type 0 where
  pub some : name ≢ []
  pub not_here : name ≢ codes "."
  pub not_above : name ≢ codes ".."
  pub short : length name ≤ 255
  pub characters : list_all (λ c. not (is_unsafe c)) (chars name) ≡ true

-- the character, or `_` in the place of an unsafe one
abbrev pub made_safe : ℕ → ℕ
made_safe c = if is_unsafe c then underscore else c

-- ---- What is kept of a name.

-- characters are a Windows path: they begin with a drive, which is a letter and `:\`, or with `\\`,
-- and there are at least three
abbrev pub is_windows_path : List ℕ → Bool
is_windows_path (a ∷ (b ∷ (c ∷ cs))) =
    (is_ascii_alphabetic a && (b == colon && c == backslash)) || (a == backslash && b == backslash)
is_windows_path _ = false

-- the number of characters after the last that is c, or of all characters if none is
abbrev pub trailing : ℕ → List ℕ → ℕ
trailing c cs = suffix_len (λ d. not (d == c)) cs

-- the last component of a Windows path; all other characters stay
abbrev pub last_component : List ℕ → List ℕ
last_component cs = if is_windows_path cs then drop (length cs - trailing backslash cs) cs else cs

-- the bytes of characters
abbrev pub size : List ℕ → ℕ
size cs = length (encode_utf8_all cs)

-- the number of leading characters that fit into that many bytes: the least for which one more does not fit, or all of them
abbrev pub front_length : ℕ → List ℕ → ℕ
front_length capacity cs = least (λ n. nat_lt capacity (size (take (suc n) cs))) (length cs)

-- the most bytes of a name
abbrev pub most : ℕ
most = 255

abbrev pub dot : ℕ
dot = 46

-- characters fit into that many bytes
abbrev pub fits : ℕ → List ℕ → Bool
fits capacity cs = front_length capacity cs == length cs

-- the last dot and what follows it, or all characters if there is no dot
abbrev pub after_dot : List ℕ → List ℕ
after_dot cs = drop (length cs - suc (trailing dot cs)) cs

-- the ending: the last dot and what follows it, if that fits into 17 bytes and there is something before it
abbrev pub ending : List ℕ → List ℕ
ending cs = if nat_lt (suc (trailing dot cs)) (length cs) && fits 17 (after_dot cs) then after_dot cs else []

-- the ending that is kept: that of a name that is too long
abbrev pub kept_ending : List ℕ → List ℕ
kept_ending cs = if fits most cs then [] else ending cs

-- the leading characters and the ending, as many as fit
abbrev pub shortened : List ℕ → List ℕ
shortened cs = take (front_length (most - size (kept_ending cs)) cs) cs ++ kept_ending cs

-- the characters of a name, or of its last component, made safe, as many as fit
unfoldable pub front_name : List ℕ → List ℕ
front_name name = encode_utf8_all (shortened (map made_safe (last_component (chars name))))

-- the name made safe: these, or `_` if they are no name of a file
unfoldable pub safe_name : List ℕ → List ℕ
safe_name name = if is_reserved (front_name name) then codes "_" else front_name name
