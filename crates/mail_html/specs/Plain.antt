-- What the laws speak of: plain text, of which HTML means the text itself, and what is put between runs of text.
use Rattle.std.specs.Prelude.{ℕ, Bool, true, false, not, ◌||◌, ◌&&◌, ◌==◌, List, [], ◌∷◌, codes, if◌then◌else◌}
use Rattle.std.specs.Char.{is_ascii_whitespace}
use Rattle.mail_codec.specs.Ascii.{less_than, space}
use Rattle.mail_codec.specs.Places.{is_empty}

-- a byte that begins markup or a reference
abbrev pub begins_markup : ℕ → Bool
begins_markup b = b == less_than || b == 0x26

-- bytes without `<` and `&` whose only whitespace is single spaces between other bytes; whether a space, or nothing, is before them
abbrev pub is_plain_after : Bool → List ℕ → Bool
is_plain_after is_spaced [] = not is_spaced
is_plain_after is_spaced (b ∷ rest) =
    if b == space then not is_spaced && is_plain_after true rest
    else not (is_ascii_whitespace b) && (not (begins_markup b) && is_plain_after false rest)

-- a text without `<` and `&` whose only whitespace is single spaces between other characters
abbrev pub is_plain : List ℕ → Bool
is_plain text = is_empty text || is_plain_after true text

-- what is put between runs of text, and around alternative texts: space, tab, LF and brackets
abbrev pub separators : List ℕ
separators = 32 ∷ 9 ∷ 10 ∷ 91 ∷ 93 ∷ []

-- what the numbers of links add
abbrev pub link_digits : List ℕ
link_digits = codes "0123456789"
