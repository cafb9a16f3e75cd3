-- Each finding of a message has the path of that message.
use Rattle.std.proofs.Common.{◌≡◌, ◌<◌, ℕ, zero, suc, Bool, true, false, List, [], ◌∷◌, ◌++◌, length, drop, get_or, refl, Option, Some, None, arith}
use Rattle.std.specs.Prelude.{flat_map, is_none, not, ◌&&◌, ◌==◌, codes, if◌then◌else◌}
use Rattle.std.specs.List.{All, list_any}
use Rattle.std.proofs.lemmas.List.Elements.{All-append}
use Rattle.mail_codec.specs.Ascii.{colon}
use Rattle.mail_codec.specs.Charset.{Charsets}
use Rattle.mail_codec.specs.Places.{byte_place}
use Rattle.mailparse.specs.Body.{BodyKind, in_base64, in_quoted_printable, in_7bit, in_8bit, in_binary}
use Rattle.mailparse.specs.ContentType.{ContentType}
use Rattle.mailparse.specs.Disposition.{Disposition}
use Rattle.mailparse.specs.Mail.{Node, body_kind, root, shown_as}
use Rattle.mail_read.specs.Files.{is_leaf}
use Rattle.mail_read.specs.PartPlaces.{Place}
use Rattle.mail_check.specs.Bodies.{is_base64_lines}
use Rattle.mail_check.specs.HiddenBits.{hidden_bits}
use Rattle.mail_check.specs.Bytes.{earlier, first_byte, first_offset, is_bad_escape, is_control, is_end_blank, is_escaped_end, is_high, is_lone_return, is_nul, mixed_line_end}
use Rattle.mail_check.specs.Findings.{Finding, Spot, block_findings, body_findings, byte_findings, delimiter_findings, encoded_findings, extended_name, finding_at, has_none, header_findings, is_far, is_single, file_line, first_findings}
use Rattle.mail_check.specs.Findings.{line_findings, listed, listed_if, message_findings, multipart_findings, parameter_findings, part_findings, quoted_findings, file_findings, name_findings, repeated, sender_findings, strict_findings, word_findings, word_name, worded_findings}
use Rattle.mail_check.specs.Findings.{spot_in, spot_of_body, type_findings, value_findings}
use Rattle.mail_check.specs.FileNames.{has_two_names, has_unsafe_name, has_untyped_name}
use Rattle.mail_check.specs.LineTests.{first_line, is_long_line}
use Rattle.mail_check.specs.Lines.{HeaderLine, ends_block, has_blank_fold, has_comment_fold, has_high_value, header_lines, is_bad_encoding, is_bad_key, is_composite, is_encoding, is_named}
use Rattle.mail_check.specs.Lines.{is_other_message, second_named, single_names}
use Rattle.mail_check.specs.Multiparts.{dash_of, is_bad_boundary, is_close, is_inside, is_tailed, late_delimiter}
use Rattle.mail_check.specs.Senders.{is_bad_sender}
use Rattle.mail_check.specs.Texts.{has_bad_text}
use Rattle.mail_check.specs.Parameters.{has_extended, has_other_name, has_quoted_pair, has_quoted_special, has_repeat, has_word, is_bad_value, none_seen, parameter_names, strict_value}
use Rattle.mail_check.specs.WordBytes.{has_bad_octets}
use Rattle.mail_check.specs.Words.{has_join, is_bad_name, is_bad_piece, is_worded, pieces}
use Rattle.mail_check.specs.declared.names.Name.{Name}
use Rattle.mail_check.specs.declared.names.Name.TheVariants as name

-- all findings have this path
abbrev pub On : List ℕ → List Finding → Type 0
On path found = All (λ (f : Finding). f.path ≡ path) found

module _ (path : List ℕ) where
  none : On path []
  none = λ k d low. absurd (omega arith)

  one : (f : Finding) → f.path ≡ path → (k : ℕ) (d : Finding) → k < length (f ∷ []) → (get_or (f ∷ []) k d).path ≡ path
  one f h zero d low = h
  one f h (suc k) d low = absurd (omega arith)

  both : (xs ys : List Finding) → On path xs → On path ys → On path (xs ++ ys)
  both xs ys h k = All-append (λ (f : Finding). f.path ≡ path) xs ys h k

  each : {X : Type 0} (f : X → List Finding) → ((x : X) → On path (f x)) → (xs : List X) → On path (flat_map f xs)
  each f h [] = none
  each f h (x ∷ xs) = both (f x) (flat_map f xs) (h x) (each f h xs)

-- what is listed for a spot has its path
on_listed : (spot : Spot) (n : Name) (offset : Option ℕ) → On spot.path (listed spot n offset)
on_listed spot n None = none spot.path
on_listed spot n (Some p) = one spot.path (finding_at spot n p) refl

on_listed_if : (spot : Spot) (n : Name) (is : Bool) → On spot.path (listed_if spot n is)
on_listed_if spot n false = none spot.path
on_listed_if spot n true = one spot.path (finding_at spot n 0) refl

on_bytes : (spot : Spot) (bytes : List ℕ) → On spot.path (byte_findings spot bytes)
on_bytes spot bytes =
    both spot.path _ _ (on_listed spot name.Nul (first_offset (is_nul bytes) bytes))
    (both spot.path _ _ (on_listed spot name.LoneCr (first_offset (is_lone_return bytes) bytes)) (on_listed spot name.MixedLineEnds (mixed_line_end bytes)))

on_first : (spot : Spot) (bytes : List ℕ) → On spot.path (first_findings spot bytes)
on_first spot bytes = both spot.path _ _ (on_bytes spot bytes) (on_listed spot name.LongLine (first_line is_long_line bytes))

on_line : (spot : Spot) (size : ℕ) (line : HeaderLine) → On spot.path (line_findings spot size line)
on_line spot size line =
    both spot.path _ _ (on_listed_if spot name.NoBlankLine (ends_block size line))
    (both spot.path _ _ (on_listed_if spot name.BadKey (is_bad_key line))
    (both spot.path _ _ (on_listed_if spot name.BlankFold (has_blank_fold line))
    (both spot.path _ _ (on_listed_if spot name.CommentFold (has_comment_fold line)) (on_listed_if spot name.Header8bit (has_high_value line)))))

on_value : (spot : Spot) (line : HeaderLine) (bytes : List ℕ) → On spot.path (value_findings spot line bytes)
on_value spot line bytes =
    both spot.path _ _ (on_listed_if spot name.QuotedSpecial (has_quoted_special bytes))
    (both spot.path _ _ (on_listed_if spot name.QuotedPair (has_quoted_pair bytes))
    (both spot.path _ _ (on_listed_if spot (extended_name line) (has_extended bytes)) (on_listed_if spot (word_name line) (has_word bytes))))

on_names : (spot : Spot) (line : HeaderLine) (names : List (List ℕ)) → On spot.path (name_findings spot line names)
on_names spot line names =
    both spot.path _ _ (on_listed_if spot name.DuplicateParameter (has_repeat none_seen names)) (on_listed_if spot name.TwoNames (has_other_name line names))

on_strict : (spot : Spot) (line : HeaderLine) (value : Option (List ℕ)) → On spot.path (strict_findings spot line value)
on_strict spot line None = none spot.path
on_strict spot line (Some bytes) = both spot.path _ _ (on_value spot line bytes) (on_names spot line (parameter_names bytes))

on_parameters : (spot : Spot) (line : HeaderLine) → On spot.path (parameter_findings spot line)
on_parameters spot line = both spot.path _ _ (on_listed_if spot name.TypeSyntax (is_bad_value line)) (on_strict spot line (strict_value line))

on_type : (spot : Spot) (ctype : ContentType) (line : HeaderLine) → On spot.path (type_findings spot ctype line)
on_type spot ctype line =
    both spot.path _ _ (on_listed_if spot name.EncodingSyntax (is_bad_encoding line))
    (both spot.path _ _ (on_listed_if spot name.EncodingOnComposite (is_encoding line && is_composite ctype))
    (both spot.path _ _ (on_listed_if spot name.OtherMessage (is_named (codes "Content-Type") line && is_other_message ctype))
    (on_listed_if spot name.BadBoundary (is_named (codes "Content-Type") line && is_bad_boundary ctype))))

on_quoted : (spot : Spot) (body : List ℕ) → On spot.path (quoted_findings spot body)
on_quoted spot body =
    both spot.path _ _ (on_listed spot name.QpSyntax (earlier (first_offset (is_bad_escape body) body) (first_byte is_control body)))
    (both spot.path _ _ (on_listed spot name.QpBlank (earlier (first_offset (is_end_blank body) body) (first_offset (is_escaped_end body) body)))
    (on_listed spot name.EightBitBody (first_byte is_high body)))

on_delimiters : (spot : Spot) (dash text : List ℕ) → On spot.path (delimiter_findings spot dash text)
on_delimiters spot dash text =
    both spot.path _ _ (on_listed spot name.DelimiterInside (first_offset (is_inside dash text) text))
    (both spot.path _ _ (on_listed spot name.DelimiterTail (first_offset (is_tailed dash text) text)) (on_listed spot name.LateDelimiter (late_delimiter dash text)))

on_sender : (number : ℕ) (spot : Spot) (line : HeaderLine) → On spot.path (sender_findings number spot line)
on_sender number spot line = on_listed_if spot name.FromSyntax (number == 0 && is_bad_sender line)

on_words : (known : Charsets) (spot : Spot) (line : HeaderLine) (found : List (List ℕ)) → On spot.path (word_findings known spot line found)
on_words known spot line found =
    both spot.path _ _ (on_listed_if spot name.WordSyntax (list_any is_bad_piece found))
    (both spot.path _ _ (on_listed_if spot name.WordJoin (has_join [] found))
    (both spot.path _ _ (on_listed_if spot name.WordBytes (list_any (has_bad_octets known) found)) (on_listed_if spot name.NameAddress (is_bad_name line found))))

-- what may be found has a path
on_either : (path : List ℕ) (is : Bool) (xs : List Finding) → On path xs → On path (if is then xs else [])
on_either path true xs h = h
on_either path false xs h = none path

on_worded : (known : Charsets) (spot : Spot) (line : HeaderLine) → On spot.path (worded_findings known spot line)
on_worded known spot line = on_either spot.path (is_worded line) _ (on_words known spot line (pieces line.value))

on_files : (spot : Spot) (shown : Disposition) (node : Node) → On spot.path (file_findings spot shown node)
on_files spot shown node =
    both spot.path _ _ (on_listed_if spot name.NoType (has_untyped_name shown node))
    (both spot.path _ _ (on_listed_if spot name.TwoNames (has_two_names shown node.ctype)) (on_listed_if spot name.UnsafeName (has_unsafe_name shown node.ctype)))

module _ (known : Charsets) (place : Place) where
  on_header : (number : ℕ) (line : HeaderLine) → On place.path (header_findings known number place line)
  on_header number line =
      let spot = spot_in place line.start (length line.bytes) in
      both place.path _ _ (on_line spot (length (root place.part).block) line)
      (both place.path _ _ (on_parameters spot line)
      (both place.path _ _ (on_type spot (root place.part).ctype line)
      (both place.path _ _ (on_sender number spot line) (on_worded known spot line))))

  on_repeated : (line : Option HeaderLine) → On place.path (repeated place line)
  on_repeated None = none place.path
  on_repeated (Some line) = one place.path (finding_at (spot_in place line.start (length line.bytes)) name.Duplicate 0) refl

  on_block : (number : ℕ) (lines : List HeaderLine) → On place.path (block_findings known number place lines)
  on_block number lines =
      both place.path _ _ (on_listed_if (spot_in place 0 0) name.NoHeaders (has_none lines))
      (both place.path _ _ (each place.path (header_findings known number place) (on_header number) lines)
      (each place.path (λ (n : List ℕ). repeated place (second_named n lines)) (λ n. on_repeated (second_named n lines)) single_names))

  on_parts : (size : ℕ) (dash text : List ℕ) → On place.path (part_findings place size dash text)
  on_parts size dash text =
      both place.path _ _ (on_listed_if (spot_in place size 0) name.NoDelimiter (is_leaf place.part))
      (on_listed_if (spot_in place size (length text)) name.NoClose (not (is_leaf place.part) && is_none (first_offset (is_close dash text) text)))

  on_multipart : (dash : Option (List ℕ)) → On place.path (multipart_findings place dash)
  on_multipart None = none place.path
  on_multipart (Some dash) =
      let size = length (root place.part).block in
      let text = drop size (root place.part).bytes in
      both place.path _ _ (on_listed (spot_of_body place 1) name.Preamble (byte_place (root place.part).body colon))
      (both place.path _ _ (on_parts size dash text) (on_delimiters (spot_in place size (length dash)) dash text))

  on_encoded : (kind : BodyKind) (body : List ℕ) → On place.path (encoded_findings place kind body)
  on_encoded in_base64 body =
      both place.path _ _ (on_listed_if (spot_of_body place (length body)) name.Base64Syntax (not (is_base64_lines body)))
      (on_listed (spot_of_body place 4) name.Base64Bits (hidden_bits body))
  on_encoded in_quoted_printable body = on_quoted (spot_of_body place 1) body
  on_encoded in_7bit body = on_listed (spot_of_body place 1) name.EightBitBody (first_byte is_high body)
  on_encoded in_8bit body = none place.path
  on_encoded in_binary body = none place.path

  on_body : (node : Node) → On place.path (body_findings known place node)
  on_body node =
      both place.path _ _ (on_encoded (body_kind node) node.body)
      (both place.path _ _ (on_listed (spot_of_body place 1) name.Uuencode (file_line node.ctype node.body))
      (on_listed_if (spot_of_body place (length node.body)) name.Charset (has_bad_text known node)))

  pub paths_are_of_parts : (number : ℕ) → On place.path (message_findings known number place)
  paths_are_of_parts number =
      let node = root place.part in
      both place.path _ _ (on_either place.path (number == 0) _ (on_first (spot_in place 0 1) node.bytes))
      (both place.path _ _ (on_listed_if (spot_in place 0 (length node.bytes)) name.Many (is_far number place))
      (both place.path _ _ (on_block number (header_lines node))
      (both place.path _ _ (on_files (spot_in place 0 (length node.block)) (shown_as node) node)
      (both place.path _ _ (on_multipart (dash_of node.ctype)) (on_either place.path (is_single place.part) _ (on_body node))))))
