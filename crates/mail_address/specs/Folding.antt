-- What quoted strings and domain literals contain without meaning it: the line ends of folding (RFC 5322, sections 2.2.3 and
-- 3.2.4), and whitespace in literals (section 3.4.1). And control characters, which no address contains.
use Rattle.std.specs.Prelude.{ℕ, Bool, false, not, ◌&&◌, ◌||◌, ◌==◌, nat_lt, List, [], ◌∷◌, if◌then◌else◌}
use Rattle.std.specs.List.{list_all}
use Rattle.mail_codec.specs.Ascii.{backslash, carriage_return, line_feed, space, tab}
use Rattle.mail_codec.specs.Places.{begins}
use Rattle.mail_address.specs.Tokens.{delete, is_white}

-- a space or a tab
abbrev pub is_blank : ℕ → Bool
is_blank b = b == space || b == tab

-- a LF before a blank
abbrev pub is_folded_feed : List ℕ → Bool
is_folded_feed [] = false
is_folded_feed (b ∷ rest) = b == line_feed && begins is_blank rest

-- the first byte is one of folding: of a LF or a CR LF before a blank
abbrev pub is_fold : List ℕ → Bool
is_fold [] = false
is_fold (b ∷ rest) = is_folded_feed (b ∷ rest) || (b == carriage_return && is_folded_feed rest)

-- the bytes without those of folding
abbrev pub unfolded : List ℕ → List ℕ
unfolded [] = []
unfolded (b ∷ rest) = if is_fold (b ∷ rest) then unfolded rest else b ∷ unfolded rest

-- the bytes without whitespace, but with each byte that a backslash quotes; the first byte is quoted or not
abbrev pub without_white : Bool → List ℕ → List ℕ
without_white quoted [] = []
without_white quoted (b ∷ rest) =
    if not quoted && is_white b then without_white false rest else b ∷ without_white (not quoted && b == backslash) rest

-- a control character of ASCII
abbrev pub is_control : ℕ → Bool
is_control b = nat_lt b space || b == delete

-- a text without control characters
abbrev pub has_no_control : List ℕ → Bool
has_no_control text = list_all (λ b. not (is_control b)) text
