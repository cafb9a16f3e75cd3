-- The headers of a message that was read are the first ones of its bytes, without the blanks at the end of their keys.
use Rattle.std.specs.Prelude.{◌≡◌, ℕ, List, [], ◌∷◌, length}
use Rattle.mail_codec.specs.Places.{values_below}
use Rattle.mailparse.specs.Block.{bare_header, rest_at}
use Rattle.mailparse.specs.Header.{Header, header_of}
use Rattle.mailparse.specs.Mail.{Tree, root}

-- these headers are the first ones of these bytes
abbrev pub AreFirstHeaders : List ℕ → List Header → Type 0
AreFirstHeaders bytes headers = headers ≡ values_below (length headers) (λ j. bare_header (header_of (rest_at bytes j)))

-- so are the headers of this message
abbrev pub HasOwnHeaders : Tree → Type 0
HasOwnHeaders t = AreFirstHeaders (root t).bytes (root t).headers

-- and those of each of these messages
abbrev pub AllOwn : List Tree → Type 0
AllOwn [] = Unit
AllOwn (t ∷ ts) = HasOwnHeaders t × AllOwn ts
