-- The parts of a mail: what their parameters are, which are attachments, and which are read; our own rules.
use Rattle.std.specs.Prelude.{◌≡◌, ℕ, Bool, true, false, not, ◌&&◌, List, map, Option, Some, None, codes}
use Rattle.std.specs.Cmp.Lexicographic.{slice_cmp}
use Rattle.std.specs.List.Sorted.{IsStrictlySortedBy}
use Rattle.std.specs.Map.{lookup}
use Rattle.std.specs.Ordering.{nat_cmp}
use Rattle.std.specs.Str.{bytes_eq}
use Rattle.mail_codec.specs.Places.{has_prefix}
use Rattle.mailparse.specs.Disposition.{Kind}
use Rattle.mailparse.specs.Mail.{Node, Tree}
use Rattle.mailparse.specs.Pairs.{Texts}
use Rattle.mail_read.specs.Attachments.{describes_attachment, is_attachment_disposition}
use Rattle.mail_read.specs.Files.{is_leaf}
use Rattle.mail_data.specs.Texts.{text_type_of}
use Rattle.mail_read.specs.lenient.Content.{Content, message_content}

-- pairs list texts: each name once, the names in the order of their bytes, and each with its text
pub record Lists (texts : Texts) (pairs : List (List ℕ × List ℕ)) : Type 0 where
  pub ordered : IsStrictlySortedBy (slice_cmp nat_cmp) (map (λ p. p.0) pairs)
  pub same : (name : List ℕ) → lookup (bytes_eq name) pairs ≡ texts name

-- a part of this disposition, or of none, and with this file name, or with none, is an attachment: it has no parts, and
-- the two are those of one
abbrev pub is_attachment : Tree → Option Kind → Option (List ℕ) → Bool
is_attachment part disposition name = is_leaf part && describes_attachment disposition name

-- a part of this disposition has a text that is shown: it is not marked as an attachment, has no parts, and is read as a
-- text
abbrev pub is_read : Tree → Option Kind → Bool
is_read part disposition =
    not (is_attachment_disposition disposition) && is_leaf part && has_prefix (codes "text/") (text_type_of part)

-- the content of a body, if bodies are decoded
abbrev pub content_if : Bool → Node → Option Content
content_if true node = Some (message_content node)
content_if false node = None
