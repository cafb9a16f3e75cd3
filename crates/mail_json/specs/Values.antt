-- The JSON values of the lines, in the form that the kit's parser of JSON returns; the program's own form.
use Rattle.std.specs.Prelude.{◌≡◌, ℕ, Bool, true, false, ◌&&◌, List, [], ◌∷◌, ◌++◌, length, map, Option, Some, None, option_map, Ok, Err, codes, if◌then◌else◌}
use Rattle.json.specs.Json.{Json, null, boolean, string}
use Rattle.mail_codec.specs.Charset.{Charsets}
use Rattle.mail_codec.specs.Latin1.{latin1_text}
use Rattle.mailparse.specs.ContentType.{ContentType}
use Rattle.mailparse.specs.Disposition.{Kind}
use Rattle.mailparse.specs.Header.{Header, key_text}
use Rattle.mailparse.specs.Mail.{Node, Tree, root}
use Rattle.mailparse.specs.Map.{first_with_key}
use Rattle.mailparse.specs.Refusal.{Reads, Refusal}
use Rattle.mail_data.specs.Archive.{ids_of}
use Rattle.mail_data.specs.Bounce.{Delivery, original_message_id}
use Rattle.mail_read.specs.Attachments.{is_extracted}
use Rattle.mail_read.specs.lenient.Dispositions.{lenient_disposition}
use Rattle.mail_read.specs.lenient.FileNames.{lenient_file_name}
use Rattle.mail_read.specs.PartPlaces.{Place, places}
use Rattle.mail_read.specs.lenient.Date.{Dated, Zoned, zoned_date_of}
use Rattle.mail_read.specs.lenient.Content.{Content}
use Rattle.mail_read.specs.lenient.Encoding.{lenient_body_kind}
use Rattle.mail_read.specs.lenient.Refused.{kept_for}
use Rattle.mail_read.specs.lenient.Texts.{text_read}
use Rattle.mail_read.specs.lenient.Values.{header_text}
use Rattle.mail_check.specs.Findings.{Finding}
use Rattle.mail_check.specs.Inside.{path_shown}
use Rattle.mail_check.specs.Names.{class_text, sentence_of, text_of}
use Rattle.mail_check.specs.Reading.{mail_findings}
use Rattle.mail_address.specs.Addresses.{Element, Single, single, group}
use Rattle.mail_address.specs.Lenient.{lenient_addresses_of}
use Rattle.mail_address.specs.Mailbox.{Parts}
use Rattle.mail_address.specs.ShownNames.{shown_display_name}
use Rattle.mail_json.specs.Addresses.{canonical, unless_empty}
use Rattle.mail_json.specs.Body.{encoding_text}
use Rattle.mail_json.specs.Fields.{content_id, date_fault_text, kind_text, value_of}
use Rattle.mail_read.specs.InnerMails.{InnerMail, places_under}
use Rattle.mail_read.specs.Reading.{mail_placements}
use Rattle.mail_parts.specs.Inside.{Listed, mails_among, mails_inside, parts_inside, without_bytes}
use Rattle.mail_json.specs.Origin.{Origin}
use Rattle.mail_parts.specs.Part.{Lists, content_if, is_attachment, is_read}
use Rattle.mail_json.specs.Part.{hash_of, html_shown, place_in, recipients_if, report_if, text_shown}
use Rattle.mail_json.specs.TextFiles.{ListedFile, files_if}
use Rattle.mail_json.specs.Options.{Options}
use Rattle.mail_json.specs.Reports.{delivery_value}
use Rattle.mail_html.specs.declared.references.References.{References}
use Rattle.mail_program.specs.Refusal.{refusal_text}
use Rattle.mail_json_text.specs.Printed.{Member, list_of, number_or_null, number_value, object_of, one, pair_value, seconds_value, string_or_null, strings}

-- the members of the number of this schema and of a file's name
abbrev pub file_members : Option (List ℕ) → List Member
file_members file = one (codes "schema") (number_value 6) ++ one (codes "file") (string_or_null file)

-- the members of the offsets at which a mail begins and ends
abbrev pub bounds_members : ℕ → ℕ → List Member
bounds_members start end = one (codes "start") (number_value start) ++ one (codes "end") (number_value end)

-- the first members of the line of a mail
abbrev pub origin_members : Origin → List Member
origin_members origin = file_members origin.file ++ one (codes "number") (number_or_null origin.number) ++ bounds_members origin.start origin.end

-- the object of an error
abbrev pub error_value : Origin → List ℕ → Json
error_value origin text = object_of (origin_members origin ++ one (codes "error") (string text))

-- the object of a finding
abbrev pub finding_value : Finding → Json
finding_value finding =
    object_of (one (codes "name") (string (text_of finding.name)) ++ one (codes "class") (string (class_text finding.class))
    ++ one (codes "path") (string finding.path) ++ bounds_members finding.range.start finding.range.end
    ++ one (codes "sentence") (string (sentence_of finding.name)))

-- the member of these findings
abbrev pub findings_member : List Finding → List Member
findings_member found = one (codes "findings") (list_of (map finding_value found))

-- the members of what is found in a mail, or of why that is refused; there are none if it is not asked for
abbrev pub found_members : Option (Reads (List Finding)) → List Member
found_members None = []
found_members (Some (Ok found)) = findings_member found
found_members (Some (Err refusal)) = one (codes "findings") null ++ one (codes "findings_error") (string (refusal_text refusal))

-- the object of an input that could not be read
abbrev pub unread_value : Option (List ℕ) → List ℕ → Json
unread_value file text =
    object_of (file_members file ++ (one (codes "number") null ++ one (codes "start") null ++ one (codes "end") null ++ one (codes "error") (string text)))

-- a parameter, by its name and its value
abbrev pub parameter_member : List ℕ × List ℕ → Member
parameter_member pair = (pair.0, string pair.1)

-- the members of a type
abbrev pub type_members : List ℕ → List ℕ → List (List ℕ × List ℕ) → List Member
type_members mimetype charset pairs =
    one (codes "type") (string mimetype) ++ one (codes "charset") (string charset) ++ one (codes "params") (object_of (map parameter_member pairs))

-- the member of the refusal of a part that was kept
abbrev pub refusal_members : Node → List Member
refusal_members node = one (codes "refusal") (string_or_null (option_map refusal_text (kept_for node)))

-- the members of the offsets of a part, given those in its mail, and the offset at which that begins
abbrev pub bounds_in : Option ℕ → ℕ → ℕ → List Member
bounds_in mail start end =
    one (codes "start") (number_or_null (place_in mail start)) ++ one (codes "end") (number_or_null (place_in mail end))

-- the member of the size of a decoded body, or of the reason why it is refused
abbrev pub size_members : Option Refusal → ℕ → List Member
size_members None size = one (codes "decoded_size") (number_value size)
size_members (Some refusal) size = one (codes "decoded_size") null ++ one (codes "error") (string (refusal_text refusal))

-- the same of a body that is decoded or not
abbrev pub decoded_members : Option Content → List Member
decoded_members (Some content) = size_members content.fault (length content.bytes)
decoded_members None = one (codes "decoded_size") null

-- the object of a mail inside, given the offset of the whole mail in the input
abbrev pub inside_value : ℕ → Listed → Json
inside_value origin mail =
    object_of (one (codes "path") (string mail.path) ++ one (codes "start") (number_or_null (place_in mail.start origin))
    ++ one (codes "error") (string_or_null (option_map refusal_text mail.refusal)))

abbrev pub inner_value : ℕ → InnerMail → Json
inner_value origin inner = inside_value origin (without_bytes inner)

-- the member that says that a body is damaged
abbrev pub damaged_members : Bool → List Member
damaged_members true = one (codes "damaged") (boolean true)
damaged_members false = []

-- the members of a text that is not shown; and of one that is shown or not, given the text of its HTML
abbrev pub no_text_members : List Member
no_text_members = one (codes "text") null ++ one (codes "html_text") null

abbrev pub text_members : Bool → List ℕ → Option (List ℕ) → List ℕ → Bool → List Member
text_members false text html charset is_damaged = no_text_members
text_members true text html charset is_damaged =
    one (codes "text") (string text) ++ one (codes "html_text") (string_or_null html) ++ one (codes "text_charset") (string charset)
    ++ damaged_members is_damaged

-- the member that says that the zone of a date is not known
abbrev pub zone_members : Bool → List Member
zone_members true = []
zone_members false = one (codes "date_zone_unknown") (boolean true)

-- the members of a date, or of why it is refused
abbrev pub date_members : Option (Dated Zoned) → List Member
date_members None = one (codes "date") null
date_members (Some (Ok date)) = one (codes "date") (seconds_value date.0) ++ zone_members date.1
date_members (Some (Err fault)) = one (codes "date") null ++ one (codes "date_error") (string (date_fault_text fault))

-- the blocks of a report, each a list of its fields; and the same or `null`
abbrev pub block_value : List (List ℕ × List ℕ) → Json
block_value fields = list_of (map pair_value fields)

abbrev pub report_value : Option (List (List (List ℕ × List ℕ))) → Json
report_value (Some blocks) = list_of (map block_value blocks)
report_value None = null

-- the object of a file in the text of a part; and the files in such a text or `null`
abbrev pub file_value : ListedFile → Json
file_value file =
    object_of (one (codes "path") (string file.path) ++ one (codes "file_name") (string file.name) ++ one (codes "body_start") (number_value file.block.start)
    ++ one (codes "body_end") (number_value file.block.end) ++ size_members file.content.fault (length file.content.bytes)
    ++ one (codes "sha256") (string_or_null file.sha256))

abbrev pub files_value : Option (List ListedFile) → Json
files_value (Some files) = list_of (map file_value files)
files_value None = null

-- the recipients that a mail reports, or `null`
abbrev pub recipients_value : Option (List Delivery) → Json
recipients_value (Some found) = list_of (map delivery_value found)
recipients_value None = null

-- the object of text that is not an address
abbrev pub unknown_value : List ℕ → Json
unknown_value text = object_of (one (codes "unknown") (string (latin1_text text)))

-- the raw value of the first header with a name: each byte is the character of its number
abbrev pub raw_value : List ℕ → Node → Json
raw_value key node = string_or_null (option_map (λ header. latin1_text header.value) (first_with_key key node.headers))

-- the raw values of addresses
abbrev pub raw_values : Node → Json
raw_values node =
    object_of (one (codes "from") (raw_value (codes "From") node) ++ one (codes "to") (raw_value (codes "To") node)
    ++ one (codes "cc") (raw_value (codes "Cc") node) ++ one (codes "bcc") (raw_value (codes "Bcc") node)
    ++ one (codes "reply_to") (raw_value (codes "Reply-To") node) ++ one (codes "sender") (raw_value (codes "Sender") node))

-- the ids in the first header with a name
abbrev pub id_list : Bool → List ℕ → Node → Json
id_list needs_at key node = strings (ids_of needs_at key node.headers)

-- the members that are ids of headers
abbrev pub ids_members : Node → List Member
ids_members node =
    one (codes "message_id") (id_list false (codes "Message-ID") node) ++ one (codes "in_reply_to") (id_list true (codes "In-Reply-To") node)
    ++ one (codes "references") (id_list true (codes "References") node)

-- each value is that of the item at its position
abbrev pub AreValues : {A : Type 0} → (A → Json → Type 0) → List A → List Json → Type 0
AreValues Is [] values = values ≡ []
AreValues Is (x ∷ xs) values = (first : Json) × (others : List Json) × Is x first × AreValues Is xs others × (values ≡ first ∷ others)

-- the members of a disposition, of a file's name, and of the id of the content
abbrev pub disposition_members : Option Kind → Option (List ℕ) → Node → List Member
disposition_members disposition name node =
    one (codes "disposition") (string_or_null (option_map kind_text disposition)) ++ one (codes "file_name") (string_or_null name)
    ++ one (codes "content_id") (string_or_null (content_id node))

-- Under the charsets that are known.
module _ (known : Charsets) where
  -- a header: its name and the text of its value
  abbrev pub header_value : Header → Json
  header_value header = pair_value (key_text header, header_text known header.value)

  -- the members of the text of a body that is shown or not
  abbrev pub shown_members : Bool → Option References → Bool → ContentType → Content → List Member
  shown_members joins html shows ctype content =
      let read = text_read known ctype.charset content in
      let text = text_shown joins ctype read.text in
      text_members shows text (html_shown html ctype text) read.charset read.is_damaged

  -- the same of a body that is decoded or not
  abbrev pub body_members : Bool → Option References → Bool → ContentType → Option Content → List Member
  body_members joins html shows ctype (Some content) = shown_members joins html shows ctype content
  body_members joins html shows ctype None = no_text_members

  -- the text of the first header with a name
  abbrev pub value_or_null : List ℕ → Node → Json
  value_or_null key node = string_or_null (value_of known key node)

  -- the object of a mailbox; of an element without members; of a group; of an element of a list
  abbrev pub mailbox_value : Parts → Json
  mailbox_value parts =
      object_of (one (codes "name") (string_or_null (unless_empty (shown_display_name known parts.display_name))) ++ one (codes "address") (string (canonical parts)))

  abbrev pub single_or_unknown_value : Option Parts → List ℕ → Json
  single_or_unknown_value (Some parts) text = mailbox_value parts
  single_or_unknown_value None text = unknown_value text

  abbrev pub single_value : Single → Json
  single_value s = single_or_unknown_value s.mailbox s.text

  abbrev pub group_value : List ℕ → List Single → Json
  group_value name members =
      object_of (one (codes "group") (string (shown_display_name known name)) ++ one (codes "members") (list_of (map single_value members)))

  abbrev pub element_value : Element → Json
  element_value (single s) = single_value s
  element_value (group g) = group_value g.display_name g.members

  -- the addresses in all headers with a name
  abbrev pub address_list : List ℕ → Node → Json
  address_list key node = list_of (map element_value (lenient_addresses_of key node.headers))

  -- the members of the authors and recipients of a mail
  abbrev pub addresses_members : Node → List Member
  addresses_members node =
      one (codes "from") (address_list (codes "From") node) ++ one (codes "to") (address_list (codes "To") node)
      ++ one (codes "cc") (address_list (codes "Cc") node) ++ one (codes "bcc") (address_list (codes "Bcc") node)
      ++ one (codes "reply_to") (address_list (codes "Reply-To") node) ++ one (codes "sender") (address_list (codes "Sender") node)

  -- the members that are values of headers
  abbrev pub values_members : Node → List Member
  values_members node = one (codes "subject") (value_or_null (codes "Subject") node) ++ addresses_members node

  -- the members of a mail with this origin before those of its parts
  abbrev pub head_members : Bool → Origin → Tree → List Member
  head_members decodes origin mail =
      let node = root mail in
      origin_members origin ++ values_members node ++ one (codes "raw") (raw_values node)
      ++ date_members (option_map zoned_date_of (value_of known (codes "Date") node)) ++ ids_members node
      ++ one (codes "bounced_id") (string_or_null (original_message_id mail))
      ++ one (codes "recipients") (recipients_value (recipients_if known decodes mail))

  -- the members of a mail with this origin and these mails inside, whose parts have these values
  abbrev pub mail_members : Bool → Origin → Tree → List InnerMail → List Json → List Member
  mail_members decodes origin mail inside parts =
      head_members decodes origin mail ++ one (codes "parts") (list_of parts)
      ++ one (codes "forwarded") (list_of (map (inner_value origin.start) inside))

-- Under these options.
module _ (options : Options) where
  -- the members of a part of a mail that is in the part with the path `inside`, or in none, and that begins at this
  -- offset; the type of the part has these parameters: those before its size when it is decoded, and all of them
  abbrev pub front_members : Option (List ℕ) → Option ℕ → Place → List (List ℕ × List ℕ) → List Member
  front_members inside start place pairs =
      let node = root place.part in
      let disposition = lenient_disposition options.known node in
      let name = lenient_file_name options.known node in
      one (codes "path") (string (path_shown inside place.path)) ++ one (codes "inside") (string_or_null inside)
      ++ type_members node.ctype.mimetype node.ctype.charset pairs
      ++ disposition_members disposition name node ++ one (codes "attachment") (boolean (is_attachment place.part disposition name))
      ++ one (codes "extracted") (boolean (is_extracted options.known place.part))
      ++ one (codes "encoding") (string (encoding_text (lenient_body_kind node)))
      ++ bounds_in start place.placement.whole.start place.placement.whole.end ++ one (codes "size") (number_value (length node.body)) ++ refusal_members node

  abbrev pub part_members : Option (List ℕ) → Option ℕ → Place → List (List ℕ × List ℕ) → List Member
  part_members inside start place pairs =
      let node = root place.part in
      let content = content_if options.decodes_bodies node in
      let disposition = lenient_disposition options.known node in
      front_members inside start place pairs ++ decoded_members content
      ++ one (codes "sha256") (string_or_null (hash_of (options.hashes && is_extracted options.known place.part) content))
      ++ one (codes "report") (report_value (report_if options.known options.decodes_bodies node))
      ++ one (codes "text_files") (files_value (files_if options.limit options.hashes (is_extracted options.known place.part) place content))
      ++ one (codes "headers") (list_of (map (header_value options.known) node.headers))
      ++ body_members options.known options.joins_flowed options.html (is_read place.part disposition) node.ctype content

  -- a value is the object of a part of a mail that is in this part, or in none, and that begins at this offset
  abbrev pub IsPartValue : Option (List ℕ) → Option ℕ → Place → Json → Type 0
  IsPartValue inside start place value =
      (pairs : List (List ℕ × List ℕ)) × Lists (root place.part).ctype.params pairs × (value ≡ object_of (part_members inside start place pairs))

  -- values are the objects of the parts of mails inside
  abbrev pub AreInsideValues : ℕ → List InnerMail → List Json → Type 0
  AreInsideValues start [] values = values ≡ []
  AreInsideValues start (inner ∷ mails) values =
      (first : List Json) × (others : List Json) × AreValues (IsPartValue (Some inner.path) (place_in inner.start start)) (parts_inside options.known options.limit inner) first
      × AreInsideValues start mails others × (values ≡ first ++ others)

  -- values are the objects of the parts of a mail that is inside the part with this path and begins at this offset of the
  -- whole mail, if it is not encoded, and then of those of the mails inside it, at most `most` mails deep
  abbrev pub AreReadValues : ℕ → ℕ → Option ℕ → List ℕ → Tree → List Json → Type 0
  AreReadValues start most at path mail values =
      let found = places_under path mail (mail_placements mail) in
      (first : List Json) × (others : List Json) × AreValues (IsPartValue (Some path) (place_in at start)) found first
      × AreInsideValues start (mails_among options.known options.limit most at found) others × (values ≡ first ++ others)

  -- values are the objects of the parts of a mail that begins at this offset, and then of those of the mails inside
  abbrev pub ArePartValues : ℕ → Tree → List Json → Type 0
  ArePartValues start mail values =
      (parts : List Json) × (others : List Json) × AreValues (IsPartValue None (Some start)) (places mail (mail_placements mail)) parts
      × AreInsideValues start (mails_inside options.known options.limit mail) others × (values ≡ parts ++ others)

  -- what is found in the bytes of a mail, if that is asked for
  abbrev pub findings_if : List ℕ → Option (Reads (List Finding))
  findings_if bytes = if options.lists_findings then Some (mail_findings options.known options.limit bytes) else None

  -- a value is the object of a mail with this origin
  abbrev pub IsMailValue : Origin → Tree → Json → Type 0
  IsMailValue origin mail value =
      (parts : List Json) × ArePartValues origin.start mail parts
      × (value ≡ object_of (mail_members options.known options.decodes_bodies origin mail (mails_inside options.known options.limit mail) parts
      ++ found_members (findings_if (root mail).bytes)))

  -- a value is that of the line of a mail with this origin, or of its refusal
  abbrev pub IsLineValue : Origin → Reads Tree → Json → Type 0
  IsLineValue origin (Ok mail) value = IsMailValue origin mail value
  IsLineValue origin (Err refusal) value = value ≡ error_value origin (refusal_text refusal)
