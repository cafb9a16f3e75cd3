-- The line of a mail whose bodies are not decoded is the whole line without what needs that.
use Rattle.std.proofs.Common.{◌≡◌, ℕ, ℤ, Bool, true, false, List, [], ◌∷◌, ◌++◌, length, map, Option, Some, None, Ok, Err, refl, sym, ap, ap₂, ◌∙◌}
use Rattle.std.specs.Prelude.{codes, option_map, ◌&&◌}
use Rattle.json.specs.Json.{Json, null, object, array, Members, item, member}
use Rattle.json.specs.Value.{items_of}
use Rattle.mailparse.specs.Mail.{Node, Tree, root}
use Rattle.mailparse.specs.Refusal.{Reads, Refusal}
use Rattle.mail_data.specs.Bounce.{original_message_id}
use Rattle.mail_read.specs.Attachments.{is_extracted}
use Rattle.mail_read.specs.lenient.Dispositions.{lenient_disposition}
use Rattle.mail_read.specs.InnerMails.{InnerMail}
use Rattle.mail_read.specs.PartPlaces.{Place, places}
use Rattle.mail_read.specs.Reading.{mail_placements}
use Rattle.mail_read.specs.lenient.Content.{message_content}
use Rattle.mail_read.specs.lenient.Date.{Dated, Zoned, zoned_date_of}
use Rattle.mail_read.specs.lenient.Texts.{text_read}
use Rattle.mail_check.specs.Findings.{Finding}
use Rattle.mail_json.specs.Fields.{value_of}
use Rattle.mail_parts.specs.Inside.{mails_inside, parts_inside}
use Rattle.mail_json.specs.Options.{Options, decoding}
use Rattle.mail_json.specs.Origin.{Origin}
use Rattle.mail_json.specs.Part.{hash_of, html_shown, place_in, recipients_if, report_if, text_shown}
use Rattle.mail_parts.specs.Part.{is_read}
use Rattle.mail_json_text.specs.Printed.{Member, list_of, members_of, object_of, one, string_or_null}
use Rattle.mail_json.specs.TextFiles.{files_if}
use Rattle.mail_json.specs.Values.{AreInsideValues, AreValues, IsLineValue, IsMailValue, IsPartValue, date_members, files_value, findings_if, found_members, front_members, header_value, ids_members, inner_value, mail_members, no_text_members, origin_members, part_members, raw_values, recipients_value, report_value, size_members, text_members, values_members}
use Rattle.mail_json.specs.WithoutText.{items_without_text, object_without_text, part_without_text, parts_without_text, without_text}

-- the members that need a decoded body, whether it is refused or not, and whatever the text is
tail_without : (fault : Option Refusal) (size : ℕ) (hash report files headers : Json) (shows : Bool) (text : List ℕ) (html : Option (List ℕ)) (charset : List ℕ) (is_damaged : Bool)
    → members_of (one (codes "decoded_size") null ++ one (codes "sha256") null ++ one (codes "report") null ++ one (codes "text_files") null ++ one (codes "headers") headers ++ no_text_members)
    ≡ part_without_text (members_of (size_members fault size ++ one (codes "sha256") hash ++ one (codes "report") report ++ one (codes "text_files") files ++ one (codes "headers") headers
    ++ text_members shows text html charset is_damaged))
tail_without None size hash report files headers false text html charset is_damaged = refl
tail_without None size hash report files headers true text html charset true = refl
tail_without None size hash report files headers true text html charset false = refl
tail_without (Some refusal) size hash report files headers false text html charset is_damaged = refl
tail_without (Some refusal) size hash report files headers true text html charset true = refl
tail_without (Some refusal) size hash report files headers true text html charset false = refl

no_hash : (is_wanted : Bool) → string_or_null (hash_of is_wanted None) ≡ null
no_hash true = refl
no_hash false = refl

-- members before others
abbrev members_then : List Member → Members → Members
members_then [] rest = rest
members_then (m ∷ ms) rest = member m.0 m.1 (members_then ms rest)

module _ (options : Options) where
  part_without : (inside : Option (List ℕ)) (start : Option ℕ) (place : Place) (pairs : List (List ℕ × List ℕ))
      → object_of (part_members (decoding false options) inside start place pairs)
      ≡ object_without_text (object_of (part_members (decoding true options) inside start place pairs))
  part_without inside start place pairs =
      let node = root place.part in
      let content = message_content node in
      let disposition = lenient_disposition options.known node in
      let read = text_read options.known node.ctype.charset content in
      let wanted = options.hashes && is_extracted options.known place.part in
      let report = report_value (report_if options.known true node) in
      let files = files_value (files_if options.limit options.hashes (is_extracted options.known place.part) place (Some content)) in
      let headers = list_of (map (header_value options.known) node.headers) in
      let front : Members → Json = λ rest. object (members_then (front_members options inside start place pairs) rest) in
      let bare : Json → Members =
      λ hash. members_of (one (codes "decoded_size") null ++ one (codes "sha256") hash ++ one (codes "report") null ++ one (codes "text_files") null ++ one (codes "headers") headers ++ no_text_members) in
      ap (λ hash. front (bare hash)) (no_hash wanted)
      ∙ ap front (tail_without content.fault (length content.bytes) (string_or_null (hash_of wanted (Some content))) report files headers (is_read place.part disposition)
      (text_shown options.joins_flowed node.ctype read.text) (html_shown options.html node.ctype (text_shown options.joins_flowed node.ctype read.text)) read.charset read.is_damaged)

  parts_whole : (inside : Option (List ℕ)) (start : Option ℕ) (all : List Place) (values : List Json) → AreValues (IsPartValue (decoding false options) inside start) all values
      → (wholes : List Json) × AreValues (IsPartValue (decoding true options) inside start) all wholes × (values ≡ map object_without_text wholes)
  parts_whole inside start [] values is = ([], refl, is)
  parts_whole inside start (place ∷ all) values is =
      let whole = object_of (part_members (decoding true options) inside start place is.2.0) in
      let rest = parts_whole inside start all is.1 is.3 in (
        whole ∷ rest.0,
        (whole, rest.0, (is.2.0, is.2.1, refl), rest.1, refl),
        is.4 ∙ ap₂ (λ (a : Json) (b : List Json). a ∷ b) (is.2.2 ∙ part_without inside start place is.2.0) rest.2,
      )

  map_then : (a b : List Json) → map object_without_text a ++ map object_without_text b ≡ map object_without_text (a ++ b)
  map_then [] b = refl
  map_then (x ∷ a) b = ap (λ js. object_without_text x ∷ js) (map_then a b)

  insides_whole : (start : ℕ) (mails : List InnerMail) (values : List Json) → AreInsideValues (decoding false options) start mails values
      → (wholes : List Json) × AreInsideValues (decoding true options) start mails wholes × (values ≡ map object_without_text wholes)
  insides_whole start [] values is = ([], refl, is)
  insides_whole start (inner ∷ mails) values is =
      let first = parts_whole (Some inner.path) (place_in inner.start start) (parts_inside options.known options.limit inner) is.0 is.2 in
      let rest = insides_whole start mails is.1 is.3 in (
        first.0 ++ rest.0,
        (first.0, rest.0, first.1, rest.1, refl),
        is.4 ∙ ap₂ (λ (a b : List Json). a ++ b) first.2 rest.2 ∙ map_then first.0 rest.0,
      )

  items_whole : (js : List Json) → items_of (map object_without_text js) ≡ items_without_text (items_of js)
  items_whole [] = refl
  items_whole (j ∷ js) = ap (λ items. item (object_without_text j) items) (items_whole js)

  -- the members of a line, whether there is a date or not, and whatever is found
  abbrev line_members : Origin → Node → Option (Dated Zoned) → Json → Json → Json → Json → Option (Reads (List Finding)) → List Member
  line_members origin node date bounced recipients parts inside found =
      origin_members origin ++ values_members options.known node ++ one (codes "raw") (raw_values node) ++ date_members date
      ++ ids_members node ++ one (codes "bounced_id") bounced ++ one (codes "recipients") recipients ++ one (codes "parts") parts
      ++ one (codes "forwarded") inside ++ found_members found

  zoned_without : (origin : Origin) (node : Node) (seconds : ℤ) (is_known : Bool) (bounced recipients parts inside : Json) (found : Option (Reads (List Finding)))
      → object_of (line_members origin node (Some (Ok (seconds, is_known))) bounced null (parts_without_text parts) inside found)
      ≡ without_text (object_of (line_members origin node (Some (Ok (seconds, is_known))) bounced recipients parts inside found))
  zoned_without origin node seconds true bounced recipients parts inside None = refl
  zoned_without origin node seconds true bounced recipients parts inside (Some (Ok found)) = refl
  zoned_without origin node seconds true bounced recipients parts inside (Some (Err refusal)) = refl
  zoned_without origin node seconds false bounced recipients parts inside None = refl
  zoned_without origin node seconds false bounced recipients parts inside (Some (Ok found)) = refl
  zoned_without origin node seconds false bounced recipients parts inside (Some (Err refusal)) = refl

  line_without : (origin : Origin) (node : Node) (date : Option (Dated Zoned)) (bounced recipients parts inside : Json) (found : Option (Reads (List Finding)))
      → object_of (line_members origin node date bounced null (parts_without_text parts) inside found)
      ≡ without_text (object_of (line_members origin node date bounced recipients parts inside found))
  line_without origin node None bounced recipients parts inside None = refl
  line_without origin node None bounced recipients parts inside (Some (Ok found)) = refl
  line_without origin node None bounced recipients parts inside (Some (Err refusal)) = refl
  line_without origin node (Some (Ok date)) bounced recipients parts inside found = zoned_without origin node date.0 date.1 bounced recipients parts inside found
  line_without origin node (Some (Err fault)) bounced recipients parts inside None = refl
  line_without origin node (Some (Err fault)) bounced recipients parts inside (Some (Ok found)) = refl
  line_without origin node (Some (Err fault)) bounced recipients parts inside (Some (Err refusal)) = refl

  mail_whole : (origin : Origin) (mail : Tree) (value : Json) → IsMailValue (decoding false options) origin mail value
      → (whole : Json) × IsMailValue (decoding true options) origin mail whole × (value ≡ without_text whole)
  mail_whole origin mail value is =
      let known = options.known in
      let found = is.1 in
      let parts = parts_whole None (Some origin.start) (places mail (mail_placements mail)) found.0 found.2 in
      let others = insides_whole origin.start (mails_inside known options.limit mail) found.1 found.3 in
      let all = parts.0 ++ others.0 in
      let same : is.0 ≡ map object_without_text all =
      found.4 ∙ ap₂ (λ (a b : List Json). a ++ b) parts.2 others.2 ∙ map_then parts.0 others.0 in
      let date = option_map zoned_date_of (value_of known (codes "Date") (root mail)) in
      let bounced = string_or_null (original_message_id mail) in
      let recipients = recipients_value (recipients_if known true mail) in
      let inside = list_of (map (inner_value origin.start) (mails_inside known options.limit mail)) in
      let found_if = findings_if options (root mail).bytes in (
        object_of (mail_members known true origin mail (mails_inside known options.limit mail) all ++ found_members found_if),
        (all, (parts.0, others.0, parts.1, others.1, refl), refl),
        is.2 ∙ ap (λ (js : List Json). object_of (mail_members known false origin mail (mails_inside known options.limit mail) js ++ found_members found_if)) same
            ∙ ap (λ items. object_of (line_members origin (root mail) date bounced null (array items) inside found_if)) (items_whole all)
            ∙ line_without origin (root mail) date bounced recipients (list_of all) inside found_if,
      )

  pub line_whole : (origin : Origin) (mail : Reads Tree) (value : Json) → IsLineValue (decoding false options) origin mail value
      → (whole : Json) × IsLineValue (decoding true options) origin mail whole × (value ≡ without_text whole)
  line_whole origin (Ok mail) value is = mail_whole origin mail value is
  line_whole origin (Err refusal) value is = (value, is, is ∙ ap without_text (sym is))
