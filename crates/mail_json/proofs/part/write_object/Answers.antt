use Rattle.std.proofs.Common.{◌≡◌, Bool, List, ℕ, Option, option_map, length, map, refl, sym, ap, ap₂, subst, ◌∙◌}
use Rattle.json.specs.Json.{boolean}
use Rattle.std.specs.Prelude.{◌&&◌, ◌||◌, not}
use Rattle.mail_read.specs.Attachments.{is_extracted}
use Rattle.mail_read.specs.Files.{is_leaf, is_shown}
use Rattle.mail_read.specs.lenient.Dispositions.{lenient_disposition}
use Rattle.mail_read.specs.lenient.FileNames.{lenient_file_name}
use Rattle.std.proofs.lemmas.Result.{err_from_is_err_and}
use Rattle.json.specs.Json.{string}
use Rattle.mail_json.specs.Options.{options_of}
use Rattle.mailparse.specs.BodyViews.{content_of}
use Rattle.mailparse.specs.ContentType.{ContentType}
use Rattle.mailparse.specs.Disposition.{Kind}
use Rattle.mailparse.specs.Header.{Header}
use Rattle.mailparse.specs.Mail.{root}
use Rattle.mailparse.specs.Map.{text_found}
use Rattle.mailparse.specs.Views.{kind, tree_of}
use Rattle.mail_read.specs.lenient.Content.{Content}
use Rattle.mail_read.specs.lenient.ContentViews.{content_view}
use Rattle.mail_read.specs.lenient.Encoding.{lenient_body_kind}
use Rattle.mail_check.specs.Inside.{path_shown}
use Rattle.mail_parts.specs.Part.{Lists, content_if, is_attachment, is_read}
use Rattle.mail_json.specs.Part.{hash_of}
use Rattle.mail_json_text.specs.Printed.{list_of, number_value, object_of, string_or_null, text_of}
use Rattle.mail_json.specs.TextFiles.{files_if}
use Rattle.mail_json.specs.Values.{IsPartValue, body_members, disposition_members, decoded_members, files_value, header_value, part_members, report_value}
use Rattle.mail_parts.specs.DecodedViews.{decoded_place}
use Rattle.mail_json.proofs.lemmas.Fields.{ok_same}
use Rattle.mail_json_text.proofs.lemmas.Members.{◌⨾◌, closed, renamed, valued, value_renamed}
use Rattle.mail_json_text.proofs.lemmas.Objects.{value_as}
use Rattle.mail_json.proofs.lemmas.Part.{ctype-out, extracted_is, headers-out}
use Rattle.mail_json_text.proofs.lemmas.Written.{writes_one}
use Rattle.mail_json.proofs.part.write_object.Goals as goal

pub returns : goal.returns
returns g c =
    let options = options_of (g.K.KnownCharsets.known c.args.form.known.now) c.args.form.options in
    let known = options.known in
    let inside = option_map (λ path. path.now) c.args.form.inside in
    let m = c.args.decoded.now.place.now.part.now in
    let node = root (tree_of m) in
    let body_kind = lenient_body_kind node in
    let given = content_of node in
    let place = decoded_place c.args.decoded.now in
    let params = c.in_ok-write_params.ensures in
    let is_body = c.requires.body in
    let read = c.requires.content in
    let same : lenient_disposition known node ≡ option_map kind c.in_ok-disposition.disposition = ok_same _ _ c.in_ok-disposition.ensures in
    let named : lenient_file_name known node ≡ text_found c.in_ok-name.name = ok_same _ _ c.in_ok-name.ensures in
    let attached = c.is_attachment-attached.ensures ∙ ap₂ (is_attachment (tree_of m)) (sym same) (sym named) in
    let list = value_as (λ (hs : List Header). list_of (map (header_value known) hs)) _ _ _ _ (c.as_slice.ensures.value ∙ headers-out m) c.in_ok-write_list.ensures in
    let shows = c.is_read-shown.ensures ∙ ap (is_read (tree_of m)) (sym same) in
    let path-is = value_renamed (λ (path : List ℕ). string (path_shown inside path)) _ _ c.in_ok-add_path.ensures c.as_str.ensures.value in
    let type-is = value_renamed (λ t. string t) _ _ c.in_ok-add_text.ensures (c.as_str-2.ensures.value ∙ ap (λ (t : ContentType). t.mimetype) (ctype-out m)) in
    let charset-is = value_renamed (λ t. string t) _ _ c.in_ok-add_text-2.ensures (c.as_str-3.ensures.value ∙ ap (λ (t : ContentType). t.charset) (ctype-out m)) in
    let params-are = valued _ _ _ _ _ refl c.in_ok-write_word.ensures params.2 in
    let extracted = c.is_extracted-extracted.ensures ∙ ap (λ is. (is_leaf (tree_of m) && not (is_shown node)) || is) attached ∙ extracted_is known (tree_of m) in
    let disposition-is = renamed c.in_ok-write_disposition.ensures (ap₂ (λ (d : Option Kind) (name : Option (List ℕ)). disposition_members d name node) (sym same) (sym named)) in
    let attachment-is = value_renamed boolean _ _ c.in_ok-add_flag.ensures attached in
    let extracted-is = value_renamed boolean _ _ c.in_ok-add_flag-2.ensures extracted in
    let report-is = valued _ _ _ _ _ refl c.in_ok-write_word-2.ensures (value_as report_value _ _ _ _ (c.in_ok-report.ensures.read options.decodes_bodies read) c.in_ok-write_report.ensures) in
    let encoding-is = value_renamed (λ t. string t) _ _ c.in_ok-add_text-3.ensures (c.encoding_name.ensures body_kind given is_body) in
    let size-is = value_renamed number_value _ _ c.in_ok-add_number.ensures (ap (λ (raw : List ℕ). length raw) (c.get_raw.ensures.made body_kind given is_body)) in
    let decoded-is = renamed c.in_ok-write_decoded_size.ensures (ap decoded_members read) in
    let hashed =
    c.as_deref.ensures.value ∙ c.in_ok-hash.ensures ∙ ap (λ is. hash_of is (option_map content_view c.args.decoded.now.content)) c.is_hashed.ensures
    ∙ ap (λ is. hash_of (c.args.form.options.hashes && is) (option_map content_view c.args.decoded.now.content)) extracted
    ∙ ap (hash_of (c.args.form.options.hashes && is_extracted known (tree_of m))) read in
    let hash-is = value_renamed string_or_null _ _ c.in_ok-add_optional-2.ensures hashed in
    let files-are =
    value_renamed files_value _ _ c.in_ok-write_text_files.ensures
    (ap₂ (λ (is : Bool) (content : Option Content). files_if options.limit options.hashes is place content) extracted read) in
    let headers-are = valued _ _ _ _ _ refl c.in_ok-write_word-3.ensures list in
    let body-is = renamed (c.in_ok-write_part_text.ensures read) (ap (λ is. body_members known options.joins_flowed options.html is node.ctype (content_if c.args.form.options.decodes_bodies node)) shows) in
    let front = path-is ⨾ c.in_ok-add_optional.ensures ⨾ type-is ⨾ charset-is ⨾ params-are ⨾ disposition-is ⨾ attachment-is ⨾ extracted-is ⨾ encoding-is ⨾ c.in_ok-write_bounds.ensures ⨾ size-is ⨾ c.in_ok-write_refusal.ensures in
    let members = part_members options inside c.args.form.start place params.0 in
    writes_one text_of (IsPartValue options inside c.args.form.start place) _ _ c.write_word-4.result (object_of members)
    (params.0, subst (λ (t : ContentType). Lists t.params params.0) (ctype-out m) params.1, refl)
    (closed _ c.write_word-4.result (object_of members) (front ⨾ decoded-is ⨾ hash-is ⨾ report-is ⨾ files-are ⨾ headers-are ⨾ body-is) c.write_word-4.ensures refl)

pub returns-in_err-write_part_text : goal.returns-in_err-write_part_text
returns-in_err-write_part_text g c =
    let p = err_from_is_err_and c.from_residual-in_err-write_part_text.result c.from_residual-in_err-write_part_text.ensures.1 in
    rw (p.1, p.2) (c.in_err-write_part_text.ensures c.requires.content)
