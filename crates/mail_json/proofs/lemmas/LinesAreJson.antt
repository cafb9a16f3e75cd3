-- Each line is JSON: the values of parts, of mails and of errors are good.
use Rattle.std.proofs.Common.{◌≡◌, ℕ, ℤ, zero, suc, Bool, true, false, List, [], ◌∷◌, ◌++◌, length, map, take, Option, Some, None, Ok, Err, refl, sym, ap, subst, ◌∙◌, arith, append-nil}
use Rattle.std.proofs.lemmas.Grind.{flat_map-append}
use Rattle.std.specs.Prelude.{codes, option_map, ◌&&◌}
use Rattle.std.specs.Cmp.Lexicographic.{slice_cmp}
use Rattle.std.specs.List.{AllByRecursion}
use Rattle.std.specs.List.Sorted.{IsStrictlySortedBy}
use Rattle.std.specs.Ordering.{nat_cmp}
use Rattle.json.specs.Json.{Json, string}
use Rattle.json.specs.Strict.{keys}
use Rattle.mail_codec.specs.Charset.{Charsets}
use Rattle.mailparse.specs.ContentType.{ContentType}
use Rattle.mailparse.specs.Header.{Header, key_text}
use Rattle.mailparse.specs.Mail.{Node, Tree, root}
use Rattle.mailparse.specs.Refusal.{Reads, Refusal}
use Rattle.mail_read.specs.lenient.Values.{header_text}
use Rattle.mail_data.specs.Archive.{ids_of}
use Rattle.mail_data.specs.Bounce.{Delivery, original_message_id}
use Rattle.mail_read.specs.Attachments.{is_extracted}
use Rattle.mail_read.specs.lenient.Dispositions.{lenient_disposition}
use Rattle.mail_read.specs.lenient.FileNames.{lenient_file_name}
use Rattle.mail_data.specs.Mailbox.{front_length}
use Rattle.mail_data.specs.MailboxFormats.{entries_in, mail_in}
use Rattle.mail_data.specs.MailboxParts.{Placed, in_range, part_start, placed_from}
use Rattle.mail_read.specs.PartPlaces.{Place, places}
use Rattle.mail_read.specs.Reading.{mail_placements}
use Rattle.mail_data.specs.declared.mailbox.formats.Format.{Format}
use Rattle.mail_read.specs.lenient.Date.{Dated, Zoned, zoned_date_of}
use Rattle.mail_read.specs.lenient.Content.{Content}
use Rattle.mail_read.specs.lenient.Texts.{text_read}
use Rattle.mail_address.specs.Addresses.{Element, single, group}
use Rattle.mail_address.specs.Lenient.{lenient_addresses_of}
use Rattle.mail_address.specs.Mailbox.{Parts}
use Rattle.mail_json.specs.Fields.{value_of}
use Rattle.mail_check.specs.Findings.{Finding}
use Rattle.mail_json.specs.FindingsLine.{findings_value}
use Rattle.mail_read.specs.InnerMails.{InnerMail}
use Rattle.mail_parts.specs.DecodedSize.{bounded_reading}
use Rattle.mail_json.specs.Selection.{AreChosenOf, OnlyIf}
use Rattle.mail_json.specs.JsonLines.{AreLines, AreMailboxLines, IsFront, IsLineOf, origin_at}
use Rattle.mail_walk.specs.Kind.{format_of, is_mailbox}
use Rattle.mail_json.specs.Options.{Options}
use Rattle.mail_json.specs.Range.{ArePartLines, placed_in}
use Rattle.mail_json.specs.declared.selection.Selection.TheVariants.{Within}
use Rattle.mail_walk.specs.declared.kind.InputKind.{InputKind}
use Rattle.mail_parts.specs.Inside.{mails_inside, parts_inside}
use Rattle.mail_program.specs.Refusal.{refusal_text}
use Rattle.mail_json.specs.Origin.{Origin}
use Rattle.mail_json.specs.Reports.{delivery_value}
use Rattle.mail_html.specs.declared.references.References.{References}
use Rattle.mail_parts.specs.Part.{content_if, is_attachment, is_read}
use Rattle.mail_json.specs.Part.{hash_of, html_shown, place_in, recipients_if, report_if, text_shown}
use Rattle.mail_json.specs.TextFiles.{ListedFile, files_if}
use Rattle.mail_json_text.specs.Printed.{line_of, list_of, members_of, number_value, object_of, one, seconds_value, string_or_null, text_of}
use Rattle.mail_json.specs.Values.{address_list, AreInsideValues, AreValues, IsLineValue, IsMailValue, IsPartValue, block_value, body_members, date_members, decoded_members, element_value, error_value, file_value, files_value, finding_value, findings_if, found_members, front_members, header_value, id_list, ids_members, inner_value, origin_members, parameter_member, part_members, raw_values, recipients_value, report_value, single_or_unknown_value, single_value, size_members, text_members, unread_value, values_members, zone_members}
use Rattle.mail_json_text.specs.JsonLine.{AreJsonLines, IsJsonLine}
use Rattle.mail_json_text.specs.Printed.{pair_value}
use Rattle.mail_json_text.proofs.lemmas.JsonLine.{AreGood, IsGood, all_distinct, all_then, flag_good, json_line, list_good, mapped_good, members_then, named_good, null_good, number_good, number_or_null_good, object_good, optional_good, seconds_good, sorted_names, string_good}

-- ---- the object of a part

parameters_good : (d : ℕ) (pairs : List (List ℕ × List ℕ)) → AreGood d (map parameter_member pairs)
parameters_good d [] = tt
parameters_good d (pair ∷ pairs) = (string_good d pair.1, parameters_good d pairs)

parameter_names : (pairs : List (List ℕ × List ℕ)) → map (λ p. p.0) pairs ≡ keys (members_of (map parameter_member pairs))
parameter_names [] = refl
parameter_names (pair ∷ pairs) = ap (λ ns. pair.0 ∷ ns) (parameter_names pairs)

params_good : (d : ℕ) (pairs : List (List ℕ × List ℕ)) → IsStrictlySortedBy (slice_cmp nat_cmp) (map (λ p. p.0) pairs)
    → IsGood (suc d) (object_of (map parameter_member pairs))
params_good d pairs ordered =
    object_good d (members_of (map parameter_member pairs))
    (sorted_names (keys (members_of (map parameter_member pairs))) (subst (IsStrictlySortedBy (slice_cmp nat_cmp)) (parameter_names pairs) ordered))
    (parameters_good d pairs)

size_good : (d : ℕ) (fault : Option Refusal) (size : ℕ) → AreGood d (size_members fault size)
size_good d None size = (number_good d size, tt)
size_good d (Some refusal) size = (null_good d, (string_good d (refusal_text refusal), tt))

text_good : (d : ℕ) (shows : Bool) (text : List ℕ) (html : Option (List ℕ)) (charset : List ℕ) (is_damaged : Bool) → AreGood d (text_members shows text html charset is_damaged)
text_good d false text html charset is_damaged = (null_good d, (null_good d, tt))
text_good d true text html charset false = (string_good d text, (optional_good d html, (string_good d charset, tt)))
text_good d true text html charset true = (string_good d text, (optional_good d html, (string_good d charset, (flag_good d true, tt))))

pair_good : (d : ℕ) (pair : List ℕ × List ℕ) → IsGood (suc d) (pair_value pair)
pair_good d pair = list_good d (string pair.0 ∷ string pair.1 ∷ []) (string_good d pair.0, (string_good d pair.1, tt))

header_good : (known : Charsets) (d : ℕ) (header : Header) → IsGood (suc d) (header_value known header)
header_good known d header = pair_good d (key_text header, header_text known header.value)

block_good : (d : ℕ) (fields : List (List ℕ × List ℕ)) → IsGood (suc (suc d)) (block_value fields)
block_good d fields = mapped_good (suc d) pair_value (pair_good d) fields

report_good : (d : ℕ) (report : Option (List (List (List ℕ × List ℕ)))) → IsGood (suc (suc (suc d))) (report_value report)
report_good d (Some blocks) = mapped_good (suc (suc d)) block_value (block_good d) blocks
report_good d None = null_good (suc (suc (suc d)))

file_good : (d : ℕ) (file : ListedFile) (fault : Option Refusal) (size : ℕ) → IsGood (suc d) (object_of (one (codes "path") (string file.path) ++ one (codes "file_name") (string file.name)
    ++ one (codes "body_start") (number_value file.block.start) ++ one (codes "body_end") (number_value file.block.end) ++ size_members fault size ++ one (codes "sha256") (string_or_null file.sha256)))
file_good d file None size = named_good refl (string_good d _, (string_good d _, (number_good d _, (number_good d _, (number_good d _, (optional_good d _, tt))))))
file_good d file (Some refusal) size = named_good refl (string_good d _, (string_good d _, (number_good d _, (number_good d _, (null_good d, (string_good d _, (optional_good d _, tt)))))))

files_good : (d : ℕ) (files : Option (List ListedFile)) → IsGood (suc (suc d)) (files_value files)
files_good d (Some files) = mapped_good (suc d) file_value (λ file. file_good d file file.content.fault (length file.content.bytes)) files
files_good d None = null_good (suc (suc d))

decoded_good : (d : ℕ) (content : Option Content) → AreGood d (decoded_members content)
decoded_good d (Some content) = size_good d content.fault (length content.bytes)
decoded_good d None = (null_good d, tt)

body_good : (d : ℕ) (known : Charsets) (joins : Bool) (html : Option References) (shows : Bool) (ctype : ContentType) (content : Option Content) → AreGood d (body_members known joins html shows ctype content)
body_good d known joins html shows ctype (Some content) =
    let read = text_read known ctype.charset content in
    let text = text_shown joins ctype read.text in text_good d shows text (html_shown html ctype text) read.charset read.is_damaged
body_good d known joins html shows ctype None = (null_good d, (null_good d, tt))

module _ (options : Options) where
  -- no name occurs twice, whether the size is known or not, and whatever the members of the text are
  shown_distinct : (inside : Option (List ℕ)) (start : Option ℕ) (place : Place) (pairs : List (List ℕ × List ℕ)) (fault : Option Refusal) (size : ℕ) (hash report files headers : Json) (shows : Bool)
      (text : List ℕ) (html : Option (List ℕ)) (charset : List ℕ) (is_damaged : Bool)
      → all_distinct (keys (members_of (front_members options inside start place pairs ++ size_members fault size ++ one (codes "sha256") hash ++ one (codes "report") report ++ one (codes "text_files") files ++ one (codes "headers") headers
      ++ text_members shows text html charset is_damaged))) ≡ true
  shown_distinct inside start place pairs None size hash report files headers false text html charset is_damaged = refl
  shown_distinct inside start place pairs None size hash report files headers true text html charset true = refl
  shown_distinct inside start place pairs None size hash report files headers true text html charset false = refl
  shown_distinct inside start place pairs (Some refusal) size hash report files headers false text html charset is_damaged = refl
  shown_distinct inside start place pairs (Some refusal) size hash report files headers true text html charset true = refl
  shown_distinct inside start place pairs (Some refusal) size hash report files headers true text html charset false = refl

  part_distinct : (inside : Option (List ℕ)) (start : Option ℕ) (place : Place) (pairs : List (List ℕ × List ℕ)) (content : Option Content) (hash report files headers : Json) (shows : Bool)
      → all_distinct (keys (members_of (front_members options inside start place pairs ++ decoded_members content ++ one (codes "sha256") hash ++ one (codes "report") report ++ one (codes "text_files") files ++ one (codes "headers") headers
      ++ body_members options.known options.joins_flowed options.html shows (root place.part).ctype content))) ≡ true
  part_distinct inside start place pairs None hash report files headers shows = refl
  part_distinct inside start place pairs (Some content) hash report files headers shows =
      let read = text_read options.known (root place.part).ctype.charset content in
      shown_distinct inside start place pairs content.fault (length content.bytes) hash report files headers shows
      (text_shown options.joins_flowed (root place.part).ctype read.text) (html_shown options.html (root place.part).ctype (text_shown options.joins_flowed (root place.part).ctype read.text)) read.charset read.is_damaged

  part_good : (inside : Option (List ℕ)) (start : Option ℕ) (place : Place) (pairs : List (List ℕ × List ℕ)) → IsStrictlySortedBy (slice_cmp nat_cmp) (map (λ p. p.0) pairs)
      → IsGood 4 (object_of (part_members options inside start place pairs))
  part_good inside start place pairs ordered =
      let node = root place.part in
      let content = content_if options.decodes_bodies node in
      let disposition = lenient_disposition options.known node in
      let shows = is_read place.part disposition in
      let attached = is_attachment place.part disposition (lenient_file_name options.known node) in
      let extracted = is_extracted options.known place.part in
      let size = decoded_members content in
      let hash = string_or_null (hash_of (options.hashes && extracted) content) in
      let report = report_value (report_if options.known options.decodes_bodies node) in
      let files = files_value (files_if options.limit options.hashes extracted place content) in
      let headers = list_of (map (header_value options.known) node.headers) in
      let text = body_members options.known options.joins_flowed options.html shows node.ctype content in
      let hashed = size ++ one (codes "sha256") hash in
      let noted = hashed ++ one (codes "report") report in
      let filed = noted ++ one (codes "text_files") files in
      let sized : AreGood 3 hashed = members_then 3 size (one (codes "sha256") hash) (decoded_good 3 content) (optional_good 3 _, tt) in
      let reported : AreGood 3 noted = members_then 3 hashed (one (codes "report") report) sized (report_good 0 _, tt) in
      let given : AreGood 3 filed = members_then 3 noted (one (codes "text_files") files) reported (files_good 1 _, tt) in
      let listed : AreGood 3 (filed ++ one (codes "headers") headers) =
      members_then 3 filed (one (codes "headers") headers) given (mapped_good 2 (header_value options.known) (header_good options.known 1) node.headers, tt) in
      let rest : AreGood 3 (filed ++ one (codes "headers") headers ++ text) =
      members_then 3 (filed ++ one (codes "headers") headers) text listed (body_good 3 options.known options.joins_flowed options.html shows node.ctype content) in
      named_good (part_distinct inside start place pairs content hash report files headers shows)
      (string_good 3 _, (optional_good 3 inside, (string_good 3 node.ctype.mimetype, (string_good 3 node.ctype.charset, (params_good 2 pairs ordered, (optional_good 3 _, (optional_good 3 _, (optional_good 3 _, (flag_good 3 attached, (flag_good 3 extracted, (string_good 3 _, (number_or_null_good 3 _, (number_or_null_good 3 _, (number_good 3 (length node.body), (optional_good 3 _, rest)))))))))))))))

  parts_good : (inside : Option (List ℕ)) (start : Option ℕ) (all : List Place) (values : List Json) → AreValues (IsPartValue options inside start) all values
      → AllByRecursion (IsGood 4) values
  parts_good inside start [] values is = subst (AllByRecursion (IsGood 4)) (sym is) tt
  parts_good inside start (place ∷ others) values is =
      let part = is.2 in
      let first = subst (IsGood 4) (sym part.2) (part_good inside start place part.0 part.1.ordered) in
      subst (AllByRecursion (IsGood 4)) (sym is.4) (first, parts_good inside start others is.1 is.3)

  inside_good : (start : ℕ) (mails : List InnerMail) (values : List Json) → AreInsideValues options start mails values → AllByRecursion (IsGood 4) values
  inside_good start [] values is = subst (AllByRecursion (IsGood 4)) (sym is) tt
  inside_good start (inner ∷ mails) values is =
      subst (AllByRecursion (IsGood 4)) (sym is.4)
      (all_then (IsGood 4) is.0 is.1 (parts_good (Some inner.path) (place_in inner.start start) (parts_inside options.known options.limit inner) is.0 is.2) (inside_good start mails is.1 is.3))

-- ---- the object of a mail

id_list_good : (needs_at : Bool) (key : List ℕ) (node : Node) → IsGood 5 (id_list needs_at key node)
id_list_good needs_at key node = mapped_good 4 (λ text. string text) (string_good 4) (ids_of needs_at key node.headers)

module _ (known : Charsets) where
  mailbox_good : (d : ℕ) (parts : Option Parts) (text : List ℕ) → IsGood (suc d) (single_or_unknown_value known parts text)
  mailbox_good d (Some parts) text = named_good refl (optional_good d _, (string_good d _, tt))
  mailbox_good d None text = named_good refl (string_good d _, tt)

  element_good : (d : ℕ) (element : Element) → IsGood (suc (suc (suc d))) (element_value known element)
  element_good d (single s) = mailbox_good (suc (suc d)) s.mailbox s.text
  element_good d (group g) =
      named_good refl
      (string_good (suc (suc d)) _, (mapped_good (suc d) (single_value known) (λ s. mailbox_good d s.mailbox s.text) g.members, tt))

  address_list_good : (key : List ℕ) (node : Node) → IsGood 5 (address_list known key node)
  address_list_good key node = mapped_good 4 (element_value known) (element_good 1) (lenient_addresses_of key node.headers)

  -- no name occurs twice, whether the zone of a date is known or not, and whatever is found
  zone_distinct : (origin : Origin) (node : Node) (bounced recipients parts inside : Json) (seconds : ℤ) (is_known : Bool) (found : Option (Reads (List Finding)))
      → all_distinct (keys (members_of (origin_members origin ++ values_members known node ++ one (codes "raw") (raw_values node)
      ++ (one (codes "date") (seconds_value seconds) ++ zone_members is_known) ++ ids_members node ++ one (codes "bounced_id") bounced
      ++ one (codes "recipients") recipients ++ one (codes "parts") parts ++ one (codes "forwarded") inside ++ found_members found))) ≡ true
  zone_distinct origin node bounced recipients parts inside seconds true None = refl
  zone_distinct origin node bounced recipients parts inside seconds true (Some (Ok found)) = refl
  zone_distinct origin node bounced recipients parts inside seconds true (Some (Err refusal)) = refl
  zone_distinct origin node bounced recipients parts inside seconds false None = refl
  zone_distinct origin node bounced recipients parts inside seconds false (Some (Ok found)) = refl
  zone_distinct origin node bounced recipients parts inside seconds false (Some (Err refusal)) = refl

  -- nor whether there is a date or not
  mail_distinct : (origin : Origin) (node : Node) (bounced recipients parts inside : Json) (date : Option (Dated Zoned)) (found : Option (Reads (List Finding)))
      → all_distinct (keys (members_of (origin_members origin ++ values_members known node ++ one (codes "raw") (raw_values node) ++ date_members date
      ++ ids_members node ++ one (codes "bounced_id") bounced
      ++ one (codes "recipients") recipients ++ one (codes "parts") parts ++ one (codes "forwarded") inside ++ found_members found))) ≡ true
  mail_distinct origin node bounced recipients parts inside None None = refl
  mail_distinct origin node bounced recipients parts inside None (Some (Ok found)) = refl
  mail_distinct origin node bounced recipients parts inside None (Some (Err refusal)) = refl
  mail_distinct origin node bounced recipients parts inside (Some (Ok date)) found = zone_distinct origin node bounced recipients parts inside date.0 date.1 found
  mail_distinct origin node bounced recipients parts inside (Some (Err fault)) None = refl
  mail_distinct origin node bounced recipients parts inside (Some (Err fault)) (Some (Ok found)) = refl
  mail_distinct origin node bounced recipients parts inside (Some (Err fault)) (Some (Err refusal)) = refl

raw_good : (d : ℕ) (node : Node) → IsGood (suc d) (raw_values node)
raw_good d node =
    named_good refl
    (optional_good d _, (optional_good d _, (optional_good d _, (optional_good d _, (optional_good d _, (optional_good d _, tt))))))

zone_good : (d : ℕ) (is_known : Bool) → AreGood d (zone_members is_known)
zone_good d true = tt
zone_good d false = (flag_good d true, tt)

date_good : (d : ℕ) (date : Option (Dated Zoned)) → AreGood d (date_members date)
date_good d None = (null_good d, tt)
date_good d (Some (Ok date)) = (seconds_good d date.0, zone_good d date.1)
date_good d (Some (Err fault)) = (null_good d, (string_good d _, tt))

inner_good : (d start : ℕ) (inner : InnerMail) → IsGood (suc d) (inner_value start inner)
inner_good d start inner = named_good refl (string_good d _, (number_or_null_good d _, (optional_good d _, tt)))

delivery_good : (d : ℕ) (delivery : Delivery) → IsGood (suc d) (delivery_value delivery)
delivery_good d delivery =
    named_good refl (optional_good d _, (optional_good d _, (optional_good d _, (optional_good d _, (optional_good d _, tt)))))

recipients_good : (d : ℕ) (found : Option (List Delivery)) → IsGood (suc (suc d)) (recipients_value found)
recipients_good d (Some found) = mapped_good (suc d) delivery_value (delivery_good d) found
recipients_good d None = null_good (suc (suc d))

finding_good : (d : ℕ) (finding : Finding) → IsGood (suc d) (finding_value finding)
finding_good d finding = named_good refl (string_good d _, (string_good d _, (string_good d _, (number_good d _, (number_good d _, (string_good d _, tt))))))

found_good : (d : ℕ) (found : Option (Reads (List Finding))) → AreGood (suc (suc d)) (found_members found)
found_good d None = tt
found_good d (Some (Ok found)) = (mapped_good (suc d) finding_value (finding_good d) found, tt)
found_good d (Some (Err refusal)) = (null_good _, (string_good _ _, tt))

mail_good : (options : Options) (origin : Origin) (mail : Tree) (value : Json) → IsMailValue options origin mail value → IsGood 6 value
mail_good options origin mail value is =
    let known = options.known in
    let node = root mail in
    let inside = list_of (map (inner_value origin.start) (mails_inside known options.limit mail)) in
    let found = is.1 in
    let parts = list_of is.0 in
    let date = date_members (option_map zoned_date_of (value_of known (codes "Date") node)) in
    let ids = ids_members node in
    let dated : AreGood 5 (date ++ ids) =
    members_then 5 date ids (date_good 5 _)
    (id_list_good false (codes "Message-ID") node, (id_list_good true (codes "In-Reply-To") node, (id_list_good true (codes "References") node, tt))) in
    let bounced = string_or_null (original_message_id mail) in
    let recipients = recipients_value (recipients_if known options.decodes_bodies mail) in
    let own = date ++ ids ++ one (codes "bounced_id") bounced in
    let noted : AreGood 5 own = members_then 5 (date ++ ids) (one (codes "bounced_id") bounced) dated (optional_good 5 _, tt) in
    let reported : AreGood 5 (own ++ one (codes "recipients") recipients) =
    members_then 5 own (one (codes "recipients") recipients) noted (recipients_good 3 _, tt) in
    let listed : AreGood 5 (own ++ one (codes "recipients") recipients ++ one (codes "parts") parts) =
    members_then 5 (own ++ one (codes "recipients") recipients) (one (codes "parts") parts) reported (
      list_good 4 is.0 (subst (AllByRecursion (IsGood 4)) (sym found.4)
          (all_then (IsGood 4) found.0 found.1 (parts_good options None (Some origin.start) (places mail (mail_placements mail)) found.0 found.2)
          (inside_good options origin.start (mails_inside known options.limit mail) found.1 found.3))),
      tt,
    ) in
    let rest : AreGood 5 (own ++ one (codes "recipients") recipients ++ one (codes "parts") parts ++ one (codes "forwarded") inside) =
    members_then 5 (own ++ one (codes "recipients") recipients ++ one (codes "parts") parts) (one (codes "forwarded") inside) listed
    (mapped_good 4 (inner_value origin.start) (inner_good 3 origin.start) (mails_inside known options.limit mail), tt) in
    let found_if = findings_if options node.bytes in
    let noticed : AreGood 5 (own ++ one (codes "recipients") recipients ++ one (codes "parts") parts ++ one (codes "forwarded") inside ++ found_members found_if) =
    members_then 5 (own ++ one (codes "recipients") recipients ++ one (codes "parts") parts ++ one (codes "forwarded") inside) (found_members found_if) rest
    (found_good 3 found_if) in
    subst (IsGood 6) (sym is.2)
    (named_good (mail_distinct known origin node bounced recipients parts inside _ found_if) (number_good 5 6, (optional_good 5 origin.file, (number_or_null_good 5 origin.number, (number_good 5 origin.start, (number_good 5 origin.end, (optional_good 5 _, (address_list_good known (codes "From") node, (address_list_good known (codes "To") node, (address_list_good known (codes "Cc") node, (address_list_good known (codes "Bcc") node, (address_list_good known (codes "Reply-To") node, (address_list_good known (codes "Sender") node, (raw_good 4 node, noticed))))))))))))))

-- ---- lines

error_is_json : (origin : Origin) (text : List ℕ) → IsJsonLine (error_value origin text) (text_of (error_value origin text))
error_is_json origin text =
    json_line 1 (error_value origin text) (omega arith) (named_good refl (number_good 0 6, (optional_good 0 origin.file, (number_or_null_good 0 origin.number, (number_good 0 origin.start, (number_good 0 origin.end, (string_good 0 text, tt)))))))

pub findings_are_json : (origin : Origin) (findings : List Finding)
    → (object : List ℕ) × IsJsonLine (findings_value origin findings) object × (line_of (findings_value origin findings) ≡ object ++ codes "\n")
findings_are_json origin findings =
    let good : IsGood 3 (findings_value origin findings) =
    named_good refl (number_good 2 6, (optional_good 2 origin.file, (number_or_null_good 2 origin.number, (number_good 2 origin.start, (number_good 2 origin.end, (mapped_good 1 finding_value (finding_good 0) findings, tt)))))) in
    (text_of (findings_value origin findings), json_line 3 (findings_value origin findings) (omega arith) good, refl)

pub unread_is_json : (file : Option (List ℕ)) (text : List ℕ)
    → (object : List ℕ) × IsJsonLine (unread_value file text) object × (line_of (unread_value file text) ≡ object ++ codes "\n")
unread_is_json file text =
    let good : IsGood 1 (unread_value file text) = named_good refl (number_good 0 6, (optional_good 0 file, (null_good 0, (null_good 0, (null_good 0, (string_good 0 text, tt)))))) in
    (text_of (unread_value file text), json_line 1 (unread_value file text) (omega arith) good, refl)

pub line_is_json : (options : Options) (origin : Origin) (mail : Reads Tree) (is_clean : Bool) (text : List ℕ) → IsLineOf options origin mail is_clean text
    → (value : Json) × (object : List ℕ) × IsLineValue options origin mail value × IsJsonLine value object × (text ≡ object ++ codes "\n")
line_is_json options origin (Ok mail) is_clean text is =
    (is.1, text_of is.1, is.2, json_line 6 is.1 (omega arith) (mail_good options origin mail is.1 is.2), is.3)
line_is_json options origin (Err refusal) is_clean text is =
    let value = error_value origin (refusal_text refusal) in
    (value, text_of value, refl, error_is_json origin (refusal_text refusal), is.1)

one_json_line : (value : Json) (object text : List ℕ) → IsJsonLine value object → text ≡ object ++ codes "\n" → AreJsonLines text
one_json_line value object text is e = (object ∷ [], ((value, is), tt), e ∙ sym (append-nil (object ++ codes "\n")))

-- the line of a mail or of its refusal
mail_is_line : (options : Options) (origin : Origin) (mail : Reads Tree) (is_clean : Bool) (text : List ℕ) → IsLineOf options origin mail is_clean text → AreJsonLines text
mail_is_line options origin mail is_clean text is = let p = line_is_json options origin mail is_clean text is in one_json_line p.0 p.1 text p.3 p.4

lines_then : (a b : List ℕ) → AreJsonLines a → AreJsonLines b → AreJsonLines (a ++ b)
lines_then a b p q = (
  p.0 ++ q.0,
  all_then (λ line. (value : Json) × IsJsonLine value line) p.0 q.0 p.1 q.1,
  (λ i. p.2 i ++ q.2 i) ∙ sym (flat_map-append (λ line. line ++ codes "\n") p.0 q.0),
)

no_lines : AreJsonLines []
no_lines = ([], tt, refl)

lines_as : (a b : List ℕ) → a ≡ b → AreJsonLines b → AreJsonLines a
lines_as a b e p = subst AreJsonLines (sym e) p

-- Of a file that is a mailbox in a format.
module _ (options : Options) (format : Format) (file : Option (List ℕ)) where
  mails_are_lines : (mails : List Placed) (number : Option ℕ) (is_clean : Bool) (text : List ℕ) → AreLines options format file number mails is_clean text → AreJsonLines text
  mails_are_lines [] number is_clean text is = lines_as text [] is.1 no_lines
  mails_are_lines (mail ∷ mails) number is_clean text is =
      lines_as text (is.2 ++ is.3) is.7
      (lines_then is.2 is.3
      (mail_is_line options (origin_at file number mail.start mail.entry) (bounded_reading options.known options.limit options.most_bytes (mail_in format mail.entry.mail)) is.0 is.2 is.4)
      (mails_are_lines mails _ is.1 is.3 is.5))

  front_is_line : (front : List ℕ) (is_all_whitespace : Bool) (text : List ℕ) → IsFront file front is_all_whitespace text → AreJsonLines text
  front_is_line front true text is = lines_as text [] is.1 no_lines
  front_is_line front false text is =
      let origin : Origin = record { file = file; number = None; start = 0; end = length front } in
      one_json_line _ _ text (error_is_json origin (codes "The mailbox does not begin with a separator")) is.1

pub mailbox_is_lines : (options : Options) (format : Format) (file : Option (List ℕ)) (bytes : List ℕ) (is_clean : Bool) (text : List ℕ)
    → AreMailboxLines options format file bytes is_clean text → AreJsonLines text
mailbox_is_lines options format file bytes is_clean text is =
    lines_as text (is.2 ++ is.3) is.7
    (lines_then is.2 is.3 (front_is_line options format file (take (front_length bytes) bytes) is.0 is.2 is.4) (mails_are_lines options format file (placed_from (front_length bytes) (entries_in format bytes)) _ is.1 is.3 is.5))

-- the first part of an input that is a mailbox in a format, or one mail
first_is_lines : (options : Options) (format : Format) (is_box : Bool) (file : Option (List ℕ)) (to : ℕ) (bytes : List ℕ) (is_clean : Bool) (text : List ℕ)
    → AreChosenOf options format is_box file (Within 0 to) bytes is_clean text → AreJsonLines text
first_is_lines options format true file to bytes is_clean text is =
    lines_as text (is.2 ++ is.3) is.7
    (lines_then is.2 is.3 (front_is_line options format file (take (front_length bytes) bytes) is.0 is.2 is.4) (mails_are_lines options format file (in_range 0 to (placed_in format bytes)) None is.1 is.3 is.5))
first_is_lines options format false file to bytes is_clean text is =
    let origin : Origin = record { file = file; number = None; start = 0; end = length bytes } in
    mail_is_line options origin (bounded_reading options.known options.limit options.most_bytes bytes) is_clean text is

-- mails that have lines, or none
wanted_is_lines : (options : Options) (format : Format) (wanted : Bool) (file : Option (List ℕ)) (mails : List Placed) (is_clean : Bool) (text : List ℕ)
    → OnlyIf wanted (AreLines options format file None mails) is_clean text → AreJsonLines text
wanted_is_lines options format true file mails is_clean text is = mails_are_lines options format file mails None is_clean text is
wanted_is_lines options format false file mails is_clean text is = lines_as text [] is.1 no_lines

pub part_is_lines : (options : Options) (kind : InputKind) (file : Option (List ℕ)) (bytes : List ℕ) (count number : ℕ) (is_clean : Bool) (text : List ℕ)
    → ArePartLines options kind file bytes count number is_clean text → AreJsonLines text
part_is_lines options kind file bytes count zero is_clean text is =
    first_is_lines options (format_of kind) (is_mailbox kind bytes) file (part_start bytes count 1) bytes is_clean text is
part_is_lines options kind file bytes count (suc number) is_clean text is =
    wanted_is_lines options (format_of kind) (is_mailbox kind bytes) file
    (in_range (part_start bytes count (suc number)) (part_start bytes count (suc (suc number))) (placed_in (format_of kind) bytes)) is_clean text is
