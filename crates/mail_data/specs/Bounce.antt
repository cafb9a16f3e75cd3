-- The recipients that delivery status notifications report (RFC 3464, sections 2.1 to 2.3): the
-- fields on each of them in the parts `message/delivery-status`, and in UTF-8 (RFC 6533) in the
-- parts `message/global-delivery-status`. The header `X-Failed-Recipients` is in no standard.
use Rattle.std.specs.Prelude.{ℕ, Bool, ◌==◌, ◌||◌, List, [], ◌∷◌, ◌++◌, flat_map, Option, Some, None, option_map, option_to_list, codes, if◌then◌else◌}
use Rattle.std.specs.List.{list_any, after_first, slice_split}
use Rattle.std.specs.Option.{option_map_or}
use Rattle.std.specs.Str.{trim}
use Rattle.mail_codec.specs.Ascii.{comma, semicolon}
use Rattle.mail_codec.specs.Charset.{Charsets}
use Rattle.mail_codec.specs.Places.{is_empty}
use Rattle.mailparse.specs.Header.{Header}
use Rattle.mailparse.specs.Mail.{Node, Tree, Forest, tree, no_parts, part_and, root, trees_within}
use Rattle.mailparse.specs.Map.{all_values_in, first_value_in}
use Rattle.mail_data.specs.AddressEscapes.{typed_address}
use Rattle.mail_data.specs.Archive.{id_among}
use Rattle.mail_read.specs.lenient.Comments.{without_comments}
use Rattle.mail_read.specs.lenient.Content.{message_content}
use Rattle.mail_data.specs.Reports.{blocks, fields, has_status, has_type}

-- a part is the mail that was returned, or its headers (RFC 3464, section 2; RFC 6533, section 3)
abbrev pub has_original : Node → Bool
has_original node =
    has_type (codes "message/rfc822") node
    || (has_type (codes "text/rfc822-headers") node
    || (has_type (codes "message/global") node || has_type (codes "message/global-headers") node))

-- the first of some parts that passes a test
abbrev pub first_part : (Node → Bool) → Forest → Option Tree
first_part test no_parts = None
first_part test (part_and t ts) = if test (root t) then Some t else first_part test ts

-- of a `multipart/report`, the first of its own parts that passes a test
abbrev pub report_part : (Node → Bool) → Tree → Option Tree
report_part test (tree node parts) =
    if has_type (codes "multipart/report") node then first_part test parts else None

-- the id of the mail that a report is about, in the headers that it returns
unfoldable pub original_message_id : Tree → Option (List ℕ)
original_message_id t =
    option_map_or (λ part. id_among (fields (message_content (root part)).bytes))
    (report_part has_original t) None

-- the text after the first `;`, or the whole text if it contains no `;`
unfoldable pub after_type : List ℕ → List ℕ
after_type text =
    if list_any (λ b. b == semicolon) text then after_first (λ b. b == semicolon) text else text

-- the text of a field without comments and without whitespace around it
abbrev pub plain_text : List ℕ → List ℕ
plain_text text = trim (without_comments text)

-- the text of a field without its type and without whitespace around it
abbrev pub typed_text : List ℕ → List ℕ
typed_text text = trim (after_type text)

-- the address in a field: its text without comments and then without its type
abbrev pub address_text : List ℕ → List ℕ
address_text text = trim (typed_address (without_comments text))

-- the text of the first field with this name, cleaned so
abbrev pub field : (List ℕ → List ℕ) → Charsets → List ℕ → List Header → Option (List ℕ)
field clean known name headers = option_map clean (first_value_in known name headers)

-- a recipient: the fields on it
pub record Delivery : Type 0 where
  pub final_recipient : Option (List ℕ)
  pub original_recipient : Option (List ℕ)
  pub action : Option (List ℕ)
  pub status : Option (List ℕ)
  pub diagnostic_code : Option (List ℕ)

-- a recipient of whom only the address is known
abbrev pub only_address : List ℕ → Delivery
only_address address = record {
  final_recipient = Some address;
  original_recipient = None;
  action = None;
  status = None;
  diagnostic_code = None;
}

-- the recipient in a text, unless that consists of whitespace
abbrev pub named_in : List ℕ → List Delivery
named_in text = if is_empty (trim text) then [] else only_address (trim text) ∷ []

-- the recipients in a list of addresses: one between any two commas
unfoldable pub listed : List ℕ → List Delivery
listed text = flat_map named_in (slice_split (λ b. b == comma) text)

-- Under the charsets that are known.
module _ (known : Charsets) where
  -- the fields on a recipient beside its address
  abbrev pub delivery_to : List ℕ → List Header → Delivery
  delivery_to address headers = record {
    final_recipient = Some address;
    original_recipient = field address_text known (codes "Original-Recipient") headers;
    action = field plain_text known (codes "Action") headers;
    status = field plain_text known (codes "Status") headers;
    diagnostic_code = field typed_text known (codes "Diagnostic-Code") headers;
  }

  -- the recipient that a block is about: none if it has no `Final-Recipient`
  unfoldable pub delivery_in : List ℕ → Option Delivery
  delivery_in block =
      option_map (λ address. delivery_to address (fields block))
      (field address_text known (codes "Final-Recipient") (fields block))

  -- the recipient of a block as a list
  abbrev pub delivery_or_none : List ℕ → List Delivery
  delivery_or_none block = option_to_list (delivery_in block)

  -- the recipients in the status of deliveries that a part has; none in any other part
  unfoldable pub deliveries : Node → List Delivery
  deliveries node =
      if has_status node then flat_map delivery_or_none (blocks (message_content node).bytes) else []

  -- the recipients in the headers of a mail
  unfoldable pub failed_recipients : Node → List Delivery
  failed_recipients node =
      flat_map listed (all_values_in known (codes "X-Failed-Recipients") node.headers)

  -- the recipients that the parts of a mail report
  abbrev pub reported : List Tree → List Delivery
  reported parts = flat_map (λ part. deliveries (root part)) parts

  -- the recipients that a mail reports: those in its parts, and then those in its headers
  unfoldable pub recipients : Tree → List Delivery
  recipients t = reported (trees_within t) ++ failed_recipients (root t)
