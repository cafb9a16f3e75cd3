-- The file names in the headers of a message (RFC 2183, section 2.3; RFC 2047, section 5): a header is cut into parameters while its
-- encoded words stay as they are, and those in the name are decoded after that, leniently.
use Rattle.std.specs.Prelude.{ℕ, List, Option, Some, option_and_then, option_map, codes}
use Rattle.mail_codec.specs.Charset.{Charsets}
use Rattle.mailparse.specs.ContentType.{content_type_in}
use Rattle.mailparse.specs.Disposition.{disposition_in}
use Rattle.mailparse.specs.Mail.{Node}
use Rattle.mailparse.specs.Map.{first_with_key}
use Rattle.mail_read.specs.Files.{filled, first_text, shown_name, text_of_octets, typed_name}
use Rattle.mail_read.specs.lenient.Names.{name_text}
use Rattle.mail_read.specs.lenient.Undecoded.{undecoded}

-- the text of a raw value, unfolded, in which encoded words stay as they are; bytes that are not UTF-8 are windows-1252
unfoldable pub cut_text : List ℕ → List ℕ
cut_text value = undecoded (text_of_octets value)

-- the file name in the first header with a name, given how one is read in the text of that header
abbrev pub name_from : (List ℕ → Option (List ℕ)) → List ℕ → Node → Option (List ℕ)
name_from read header node =
    option_and_then read (option_map (λ h. cut_text h.value) (first_with_key header node.headers))

-- Under the charsets that are known.
module _ (known : Charsets) where
  -- a name that was found, with its encoded words decoded; whitespace counts as missing
  abbrev pub decoded_name : Option (List ℕ) → Option (List ℕ)
  decoded_name found = option_and_then (λ name. filled (Some (name_text known name))) found

  -- the file name of a message, given how one is read in a disposition and in a type: that of the
  -- disposition, otherwise that of the type
  abbrev pub name_by : (List ℕ → Option (List ℕ)) → (List ℕ → Option (List ℕ)) → Node → Option (List ℕ)
  name_by shown typed node =
      decoded_name (first_text (name_from shown (codes "Content-Disposition") node)
      (name_from typed (codes "Content-Type") node))

  -- the file name of a message, whose texts are read under these charsets
  unfoldable pub file_name : Node → Option (List ℕ)
  file_name node =
      name_by (λ text. shown_name (disposition_in known text)) (λ text. typed_name (content_type_in known text)) node
