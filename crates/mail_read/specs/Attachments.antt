-- Which messages are the files of a mail (RFC 2183, sections 2.1 to 2.3).
use Rattle.std.specs.Prelude.{ℕ, Bool, true, false, not, ◌&&◌, ◌||◌, List, filter, Option, Some, is_some}
use Rattle.mail_codec.specs.Charset.{Charsets}
use Rattle.mailparse.specs.Disposition.{Kind, attachment}
use Rattle.mailparse.specs.Mail.{Tree, root}
use Rattle.mail_read.specs.Files.{is_leaf, is_shown, whole_path, with_paths}
use Rattle.mail_read.specs.lenient.Dispositions.{lenient_disposition}
use Rattle.mail_read.specs.lenient.FileNames.{lenient_file_name}

-- there is a disposition, and it is `attachment`
abbrev pub is_attachment_disposition : Option Kind → Bool
is_attachment_disposition (Some attachment) = true
is_attachment_disposition _ = false

-- a disposition and a file name are those of a file: the disposition is `attachment`, or there is a
-- file name
abbrev pub describes_attachment : Option Kind → Option (List ℕ) → Bool
describes_attachment disposition name = is_attachment_disposition disposition || is_some name

-- Under the charsets that are known.
module _ (known : Charsets) where
  -- a message is a file: it has no parts, and its disposition and its file name, both read leniently,
  -- are those of a file
  unfoldable pub is_attachment : Tree → Bool
  is_attachment t =
      is_leaf t
      && describes_attachment (lenient_disposition known (root t)) (lenient_file_name known (root t))

  -- a message is saved when a mail is extracted: it has no parts and is no text that mail readers
  -- show, or it is a file
  abbrev pub is_extracted : Tree → Bool
  is_extracted t = (is_leaf t && not (is_shown (root t))) || is_attachment t

  -- the files among messages with paths
  abbrev pub files_among : List (List ℕ × Tree) → List (List ℕ × Tree)
  files_among messages = filter (λ p. is_attachment p.1) messages

  -- the files of a whole message, with their paths
  abbrev pub attachments : Tree → List (List ℕ × Tree)
  attachments t = files_among (with_paths (whole_path t) t)
