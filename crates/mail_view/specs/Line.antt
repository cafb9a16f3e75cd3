-- The lines of a view; the program's own form.
use Rattle.std.specs.Prelude.{◌≡◌, ℕ, Bool, not, ◌||◌, ◌&&◌, ◌==◌, nat_le, ◌⊎◌, List, [], ◌++◌, flat_map, codes}
use Rattle.std.specs.List.{AllByRecursion}
use Rattle.mail_address.specs.Tokens.{delete}
use Rattle.mail_codec.specs.Ascii.{line_feed, space}
use Rattle.mail_codec.specs.Hidden.{IsShown}
use Rattle.mail_view.specs.Visible.{visible}
use Rattle.mail_view.specs.declared.line.Prefix.{Prefix}
use Rattle.mail_view.specs.declared.line.Prefix.TheVariants.{Title, Refused, From, ReplyTo, To, Cc, Date, Subject, Heading, Text, Part, Found, Before, Bytes, After}

-- the fixed text at the front of a line
abbrev pub prefix_text : Prefix → List ℕ
prefix_text Title = codes "-- "
prefix_text Refused = codes "Refused:  "
prefix_text From = codes "From:     "
prefix_text ReplyTo = codes "Reply-To: "
prefix_text To = codes "To:       "
prefix_text Cc = codes "Cc:       "
prefix_text Date = codes "Date:     "
prefix_text Subject = codes "Subject:  "
prefix_text Heading = codes "Text:     "
prefix_text Text = codes "  "
prefix_text Part = codes "Part:     "
prefix_text Found = codes "Found:    "
prefix_text Before = codes "Before:   "
prefix_text Bytes = codes "Bytes:    "
prefix_text After = codes "After:    "

-- a line: an empty one, or a text after a prefix
pub data Line : Type 0 where
  empty : Line
  line : Prefix → List ℕ → Line

-- a line without its LF
abbrev pub line_content : Line → List ℕ
line_content empty = []
line_content (line prefix text) = prefix_text prefix ++ visible text

-- the text that is written of a line
unfoldable pub line_text : Line → List ℕ
line_text l = line_content l ++ codes "\n"

-- the text that is written of lines
abbrev pub lines_text : List Line → List ℕ
lines_text lines = flat_map line_text lines

-- ---- what no mail changes

-- a content of a line is empty, or begins with the text of a prefix
abbrev pub BeginsFixed : List ℕ → Type 0
BeginsFixed content = (content ≡ []) ⊎ ((prefix : Prefix) × (rest : List ℕ) × (content ≡ prefix_text prefix ++ rest))

-- a text consists of lines of this form, each with its LF
abbrev pub AreSafeLines : List ℕ → Type 0
AreSafeLines text =
    (contents : List (List ℕ)) × AllByRecursion (λ content. IsShown content × BeginsFixed content) contents
    × (text ≡ flat_map (λ content. content ++ codes "\n") contents)

-- a byte is LF, or it is neither below the space nor DEL
abbrev pub is_plain_byte : ℕ → Bool
is_plain_byte b = b == line_feed || (nat_le space b && not (b == delete))
