-- The line ends before blanks, which continue a header: RFC 5322, section 2.2.3.
use Rattle.std.specs.Prelude.{ℕ, Bool, false, ◌&&◌, ◌||◌, ◌==◌, List, [], ◌∷◌, if◌then◌else◌}
use Rattle.mail_codec.specs.Ascii.{carriage_return, line_feed, space, tab}
use Rattle.mail_codec.specs.Places.{begins}

-- a space or a tab
abbrev pub is_blank : ℕ → Bool
is_blank b = b == space || b == tab

-- a LF before a blank
abbrev pub is_folded_feed : List ℕ → Bool
is_folded_feed [] = false
is_folded_feed (b ∷ rest) = b == line_feed && begins is_blank rest

-- the first byte is one of folding: of a LF or a CR LF before a blank
abbrev pub is_fold : List ℕ → Bool
is_fold [] = false
is_fold (b ∷ rest) = is_folded_feed (b ∷ rest) || (b == carriage_return && is_folded_feed rest)

-- the bytes without those of folding
abbrev pub unfolded : List ℕ → List ℕ
unfolded [] = []
unfolded (b ∷ rest) = if is_fold (b ∷ rest) then unfolded rest else b ∷ unfolded rest
