-- File names, read leniently (RFC 2183, section 2.3; RFC 2231, section 4; RFC 6266, section 4.3): an
-- extended name counts before one that is not, whatever its charset is.
use Rattle.std.specs.Prelude.{ℕ, List, Option, option_map, unwrap_or, codes}
use Rattle.mail_codec.specs.Charset.{Charsets}
use Rattle.mailparse.specs.ContentType.{content_type_in}
use Rattle.mailparse.specs.Disposition.{disposition_in}
use Rattle.mailparse.specs.ExtendedValues.{label_in, text_in}
use Rattle.mailparse.specs.Mail.{Node}
use Rattle.mailparse.specs.Pairs.{Texts}
use Rattle.mail_read.specs.Files.{filled, first_text}
use Rattle.mail_read.specs.HeaderNames.{cut_text, decoded_name, name_by}
use Rattle.mail_read.specs.lenient.Guess.{guessed, or_guessed}
use Rattle.mail_read.specs.lenient.Repairs.{repaired}
use Rattle.percent_encoding.specs.Percent.{percent_decode}

-- Under the charsets that are known.
module _ (known : Charsets) where
  -- the text of an extended value, in the charset of its label or in a guessed one
  unfoldable pub extended_text : List ℕ → List ℕ
  extended_text value = unwrap_or (known (label_in value)) guessed (percent_decode (text_in value))

  -- the name among parameters: the text of the extended key, otherwise that of the other key;
  -- whitespace counts as missing
  abbrev pub name_among : Texts → List ℕ → List ℕ → Option (List ℕ)
  name_among params key extended =
      first_text (filled (option_map extended_text (params extended))) (filled (params key))

  -- the name in a disposition, with what its parameters lack, and that in a type
  unfoldable pub shown_name : List ℕ → Option (List ℕ)
  shown_name text =
      let params = (disposition_in (or_guessed known) (repaired text)).params in
      name_among params (codes "filename") (codes "filename*")

  unfoldable pub typed_name : List ℕ → Option (List ℕ)
  typed_name text =
      let params = (content_type_in (or_guessed known) (repaired text)).params in
      name_among params (codes "name") (codes "name*")

  -- the file name of a message, whose texts are read so
  unfoldable pub lenient_file_name : Node → Option (List ℕ)
  lenient_file_name node = name_by known shown_name typed_name node

  -- the file name in the raw values of a disposition and of a type, which is read in the same way
  unfoldable pub lenient_name_in : List ℕ → List ℕ → Option (List ℕ)
  lenient_name_in disposition ctype =
      decoded_name known (first_text (shown_name (cut_text disposition)) (typed_name (cut_text ctype)))
