-- Characters that are not shown as they are, since they would move the cursor of a terminal, end a line or change the direction
-- of text; our own rule.
use Rattle.std.specs.Prelude.{◌≡◌, ℕ, Bool, true, not, ◌||◌, ◌==◌, nat_lt, List}
use Rattle.std.specs.Char.{is_control}
use Rattle.std.specs.Int.{is_in_range}
use Rattle.std.specs.List.{list_all}
use Rattle.std.specs.Str.{encode_utf8_all}

-- a character that changes the direction of text (UAX 9, section 2)
abbrev pub is_direction : ℕ → Bool
is_direction c =
    c == 0x061C || is_in_range 0x200E 0x200F c || is_in_range 0x202A 0x202E c || is_in_range 0x2066 0x2069 c

-- a number is that of no character: it is one of the surrogates, or greater than all
abbrev pub is_no_character : ℕ → Bool
is_no_character c = is_in_range 0xD800 0xDFFF c || nat_lt 0x10FFFF c

-- a character is hidden: a control, a separator of lines or paragraphs, one that changes the direction of text, or none
unfoldable pub is_hidden : ℕ → Bool
is_hidden c = is_control c || is_in_range 0x2028 0x2029 c || is_direction c || is_no_character c

-- a text is UTF-8 of characters none of which is hidden; LF is a hidden one
abbrev pub IsShown : List ℕ → Type 0
IsShown text = (cs : List ℕ) × (list_all (λ c. not (is_hidden c)) cs ≡ true) × (text ≡ encode_utf8_all cs)
