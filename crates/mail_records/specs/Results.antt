-- The calls whose results are bytes; the crate's own form.
use Rattle.std.specs.Prelude.{◌≡◌, ◌^◌, ◌-◌, ℕ, Bool, true, false, List, ◌++◌, codes, flat_map, slice_get, Option, Some, None, option_map, Ok, Err, if◌then◌else◌}
use Rattle.std.specs.Str.{is_utf8}
use Rattle.mail_codec.specs.Charset.{Charsets, four_charsets}
use Rattle.mailparse.specs.Block.{read_block}
use Rattle.mailparse.specs.Header.{Header}
use Rattle.mailparse.specs.Mail.{root}
use Rattle.mailparse.specs.Map.{all_with_key}
use Rattle.mailparse.specs.Refusal.{◌>>=◌, Reads, encoding}
use Rattle.mail_read.specs.Reading.{mail_reading}
use Rattle.mail_read.specs.lenient.Content.{message_content, whole}
use Rattle.mail_read.specs.lenient.Ids.{found_ids}
use Rattle.mail_read.specs.lenient.Texts.{body_text}
use Rattle.mail_read.specs.lenient.Values.{header_text}
use Rattle.mail_data.specs.Readable.{readable_text}
use Rattle.mail_html.specs.Text.{html_text}
use Rattle.mail_html.specs.declared.links.Links.{Links}
use Rattle.mail_html.specs.declared.links.Links.TheVariants.{Omitted, Footnotes}
use Rattle.mail_html.specs.declared.references.References.{References}
use Rattle.mail_records.specs.Buffer.{Found}

-- the bytes as a text, if they are UTF-8
abbrev pub text_in : List ℕ → Reads (List ℕ)
text_in bytes = if is_utf8 bytes then Ok bytes else Err (encoding (codes "The text is not UTF-8"))

-- the limit of the calls that have none: no mail has more messages, parts and headers
abbrev pub no_limit : ℕ
no_limit = 2 ^ 64 - 1

-- the decoded bytes of the body of a message
unfoldable pub content : List ℕ → Found
content raw = do
  mail ← mail_reading four_charsets no_limit raw
  bytes ← whole (message_content (root mail))
  Ok (Some bytes)

-- the header with this name and this number, counting from 0
abbrev pub header_at : List ℕ → ℕ → List Header → Option Header
header_at name number headers = slice_get (all_with_key name headers) number

-- its raw value
unfoldable pub raw_value : List ℕ → List ℕ → ℕ → Found
raw_value raw name number = do
  key ← text_in name
  block ← read_block true raw
  Ok (option_map (λ header. header.value) (header_at key number block.headers))

-- what becomes of the targets of links
abbrev pub links_if : Bool → Links
links_if true = Footnotes
links_if false = Omitted

-- the text of HTML
unfoldable pub text_of_html : Bool → References → List ℕ → Found
text_of_html shows_links references bytes = do
  html ← text_in bytes
  Ok (Some (html_text (links_if shows_links) references html))

-- Under the charsets that are known.
module _ (known : Charsets) where
  -- the text of the body of a message
  unfoldable pub text : List ℕ → Found
  text raw = do
    mail ← mail_reading known no_limit raw
    Ok (Some (body_text known (root mail)).text)

  -- the text to be read of a mail
  unfoldable pub readable : Bool → References → List ℕ → Found
  readable shows_links references raw = do
    mail ← mail_reading known no_limit raw
    Ok (option_map (λ read. read.text) (readable_text known (links_if shows_links) references mail))

  -- the text of that header
  unfoldable pub value : List ℕ → List ℕ → ℕ → Found
  value raw name number = do
    key ← text_in name
    block ← read_block true raw
    Ok (option_map (λ header. header_text known header.value) (header_at key number block.headers))

-- an id between angle brackets
abbrev pub bracketed : List ℕ → List ℕ
bracketed id = codes "<" ++ (id ++ codes ">")

-- the ids in a text, each between angle brackets; only those with an `@` if one is needed
unfoldable pub ids : Bool → List ℕ → Found
ids needs_at bytes = do
  text ← text_in bytes
  Ok (Some (flat_map bracketed (found_ids needs_at text)))
