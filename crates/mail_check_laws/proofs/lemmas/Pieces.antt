-- Where the findings of a group of names are among those of a mail: what the findings of all messages say is what those of the
-- group say, since all others have other names.
use Rattle.std.proofs.Common.{◌≡◌, ℕ, suc, Bool, true, false, not, List, [], ◌∷◌, ◌++◌, length, drop, sym, subst, Option, Some, None}
use Rattle.std.specs.Prelude.{◌↔◌, ◌&&◌, ◌==◌, is_none, codes, if◌then◌else◌}
use Rattle.std.specs.List.{AllByRecursion, list_all, list_any}
use Rattle.std.proofs.Math.Dec.{eqb-suc-zero}
use Rattle.std.proofs.lemmas.Bool.{and_parts, not-true}
use Rattle.mail_codec.specs.Ascii.{colon}
use Rattle.mail_codec.specs.Charset.{Charsets}
use Rattle.mail_codec.specs.Places.{byte_place}
use Rattle.mailparse.specs.Body.{BodyKind, in_base64, in_quoted_printable, in_7bit, in_8bit, in_binary}
use Rattle.mailparse.specs.ContentType.{ContentType}
use Rattle.mailparse.specs.Disposition.{Disposition}
use Rattle.mailparse.specs.Mail.{Node, body_kind, root, shown_as}
use Rattle.mail_read.specs.Files.{is_leaf}
use Rattle.mail_read.specs.PartPlaces.{Place}
use Rattle.mail_check.specs.Bodies.{is_base64_lines}
use Rattle.mail_check.specs.Bytes.{earlier, first_byte, first_offset, is_bad_escape, is_control, is_end_blank, is_escaped_end, is_high, is_lone_return, is_nul, mixed_line_end}
use Rattle.mail_check.specs.FileNames.{has_two_names, has_unsafe_name, has_untyped_name}
use Rattle.mail_check.specs.Findings.{Finding, Spot, listed_if, block_findings, encoded_findings, extended_name, file_findings, file_line, findings_from, first_findings, has_none, header_findings, is_far, is_single, leaf_findings, line_findings, message_findings, multipart_findings, parameter_findings, repeated, repeated_findings, sender_findings, spot_in, spot_of_body, strict_findings, text_findings, type_findings, word_findings, word_name, worded_findings}
use Rattle.mail_check.specs.HiddenBits.{hidden_bits}
use Rattle.mail_check.specs.LineTests.{first_line, is_long_line}
use Rattle.mail_check.specs.Lines.{HeaderLine, ends_block, has_blank_fold, has_comment_fold, has_high_value, header_lines, is_bad_encoding, is_bad_key, is_composite, is_encoding, is_named, is_other_message, second_named, single_names}
use Rattle.mail_check.specs.Multiparts.{dash_of, is_bad_boundary, is_close, is_inside, is_tailed, late_delimiter}
use Rattle.mail_check.specs.Parameters.{has_extended, has_other_name, has_quoted_pair, has_quoted_special, has_repeat, has_word, is_bad_value, is_type, none_seen, parameter_names, strict_value}
use Rattle.mail_check.specs.Senders.{is_bad_sender}
use Rattle.mail_check.specs.Texts.{has_bad_text}
use Rattle.mail_check.specs.WordBytes.{has_bad_octets}
use Rattle.mail_check.specs.Words.{has_join, is_bad_name, is_bad_piece, is_worded, pieces}
use Rattle.mail_check.specs.declared.names.Name.{Name}
use Rattle.mail_check.specs.declared.names.Name.TheVariants as name
use Rattle.mail_check_laws.specs.Named.{Lacks}
use Rattle.mail_check_laws.proofs.lemmas.Lists.{all_free, both_say, each_lacks, each_says, first_says, free, free_if, if_free, lacks_both, second_says}

-- ---- the names of each list of findings

abbrev pub byte_names : List Name
byte_names = name.Nul ∷ name.LoneCr ∷ name.MixedLineEnds ∷ name.LongLine ∷ []

abbrev pub line_names : List Name
line_names = name.NoBlankLine ∷ name.BadKey ∷ name.BlankFold ∷ name.CommentFold ∷ name.Header8bit ∷ []

abbrev pub strict_names : List Name
strict_names =
    name.QuotedSpecial ∷ name.QuotedPair ∷ name.TypeExtended ∷ name.ExtendedParameter ∷ name.TypeWord ∷ name.WordParameter
    ∷ name.DuplicateParameter ∷ name.TwoNames ∷ []

abbrev pub value_names : List Name
value_names = name.TypeSyntax ∷ strict_names

abbrev pub type_names : List Name
type_names = name.EncodingSyntax ∷ name.EncodingOnComposite ∷ name.OtherMessage ∷ name.BadBoundary ∷ []

abbrev pub word_names : List Name
word_names = name.WordSyntax ∷ name.WordJoin ∷ name.WordBytes ∷ name.NameAddress ∷ []

abbrev pub file_names : List Name
file_names = name.NoType ∷ name.TwoNames ∷ name.UnsafeName ∷ []

abbrev pub part_names : List Name
part_names =
    name.Preamble ∷ name.NoDelimiter ∷ name.NoClose ∷ name.DelimiterInside ∷ name.DelimiterTail ∷ name.LateDelimiter ∷ []

abbrev pub encoded_names : List Name
encoded_names = name.Base64Syntax ∷ name.Base64Bits ∷ name.QpSyntax ∷ name.QpBlank ∷ name.EightBitBody ∷ []

abbrev pub text_names : List Name
text_names = name.Uuencode ∷ name.Charset ∷ []

abbrev pub later_names : List Name
later_names = file_names ++ (part_names ++ (encoded_names ++ text_names))

-- the names of the findings of a header block
abbrev pub block_names : List Name
block_names = name.NoHeaders ∷ name.Duplicate ∷ name.FromSyntax ∷ (line_names ++ (value_names ++ (type_names ++ word_names)))

pub all_left : {X : Type 0} (P : X → Type 0) (xs ys : List X) → AllByRecursion P (xs ++ ys) → AllByRecursion P xs
all_left P [] ys h = tt
all_left P (x ∷ xs) ys h = (h.0, all_left P xs ys h.1)

pub all_right : {X : Type 0} (P : X → Type 0) (xs ys : List X) → AllByRecursion P (xs ++ ys) → AllByRecursion P ys
all_right P [] ys h = h
all_right P (x ∷ xs) ys h = all_right P xs ys h.1

module _ (known : Charsets) (test : Name → Bool) where
  -- none of these names is asked for
  abbrev pub Free : List Name → Type 0
  Free names = AllByRecursion (λ n. test n ≡ false) names

  pub frees : (names : List Name) → list_all (λ n. not (test n)) names ≡ true → Free names
  frees [] h = tt
  frees (n ∷ names) h =
      let both = and_parts (not (test n)) (list_all (λ n. not (test n)) names) h in (not-true (test n) both.0, frees names both.1)

  both : (xs ys : List Finding) → Lacks test xs → Lacks test ys → Lacks test (xs ++ ys)
  both = lacks_both test

  -- ---- lists of which no name is asked for

  pub bytes_free : Free byte_names → (spot : Spot) (bytes : List ℕ) → Lacks test (first_findings spot bytes)
  bytes_free f spot bytes =
      both _ _ (both _ _ (free test spot name.Nul (first_offset (is_nul bytes) bytes) f.0)
      (both _ _ (free test spot name.LoneCr (first_offset (is_lone_return bytes) bytes) f.1.0)
      (free test spot name.MixedLineEnds (mixed_line_end bytes) f.1.1.0)))
      (free test spot name.LongLine (first_line is_long_line bytes) f.1.1.1.0)

  pub line_free : Free line_names → (spot : Spot) (size : ℕ) (line : HeaderLine) → Lacks test (line_findings spot size line)
  line_free f spot size line =
      both _ _ (free_if test spot name.NoBlankLine (ends_block size line) f.0)
      (both _ _ (free_if test spot name.BadKey (is_bad_key line) f.1.0)
      (both _ _ (free_if test spot name.BlankFold (has_blank_fold line) f.1.1.0)
      (both _ _ (free_if test spot name.CommentFold (has_comment_fold line) f.1.1.1.0)
      (free_if test spot name.Header8bit (has_high_value line) f.1.1.1.1.0))))

  -- one of two names
  one_free : (is : Bool) (n m : Name) → test n ≡ false → test m ≡ false → test (if is then n else m) ≡ false
  one_free true n m h k = h
  one_free false n m h k = k

  pub strict_free : Free strict_names → (spot : Spot) (line : HeaderLine) (value : Option (List ℕ)) → Lacks test (strict_findings spot line value)
  strict_free f spot line None = tt
  strict_free f spot line (Some text) =
      let g = f.1.1 in
      both _ _ (both _ _ (free_if test spot name.QuotedSpecial (has_quoted_special text) f.0)
      (both _ _ (free_if test spot name.QuotedPair (has_quoted_pair text) f.1.0)
      (both _ _ (free_if test spot (extended_name line) (has_extended text)
      (one_free (is_type line) name.TypeExtended name.ExtendedParameter g.0 g.1.0))
      (free_if test spot (word_name line) (has_word text) (one_free (is_type line) name.TypeWord name.WordParameter g.1.1.0 g.1.1.1.0)))))
      (both _ _ (free_if test spot name.DuplicateParameter (has_repeat none_seen (parameter_names text)) g.1.1.1.1.0)
      (free_if test spot name.TwoNames (has_other_name line (parameter_names text)) g.1.1.1.1.1.0))

  pub value_free : Free value_names → (spot : Spot) (line : HeaderLine) → Lacks test (parameter_findings spot line)
  value_free f spot line =
      both _ _ (free_if test spot name.TypeSyntax (is_bad_value line) f.0) (strict_free f.1 spot line (strict_value line))

  pub type_free : Free type_names → (spot : Spot) (ctype : ContentType) (line : HeaderLine) → Lacks test (type_findings spot ctype line)
  type_free f spot ctype line =
      both _ _ (free_if test spot name.EncodingSyntax (is_bad_encoding line) f.0)
      (both _ _ (free_if test spot name.EncodingOnComposite (is_encoding line && is_composite ctype) f.1.0)
      (both _ _ (free_if test spot name.OtherMessage (is_named (codes "Content-Type") line && is_other_message ctype) f.1.1.0)
      (free_if test spot name.BadBoundary (is_named (codes "Content-Type") line && is_bad_boundary ctype) f.1.1.1.0)))

  pub sender_free : test name.FromSyntax ≡ false → (number : ℕ) (spot : Spot) (line : HeaderLine) → Lacks test (sender_findings number spot line)
  sender_free f number spot line = free_if test spot name.FromSyntax (number == 0 && is_bad_sender line) f

  pub words_free : Free word_names → (spot : Spot) (line : HeaderLine) → Lacks test (worded_findings known spot line)
  words_free f spot line =
      if_free test (is_worded line) (word_findings known spot line (pieces line.value))
      (both _ _ (free_if test spot name.WordSyntax (list_any is_bad_piece (pieces line.value)) f.0)
      (both _ _ (free_if test spot name.WordJoin (has_join [] (pieces line.value)) f.1.0)
      (both _ _ (free_if test spot name.WordBytes (list_any (has_bad_octets known) (pieces line.value)) f.1.1.0)
      (free_if test spot name.NameAddress (is_bad_name line (pieces line.value)) f.1.1.1.0))))

  pub files_free : Free file_names → (spot : Spot) (shown : Disposition) (node : Node) → Lacks test (file_findings spot shown node)
  files_free f spot shown node =
      both _ _ (free_if test spot name.NoType (has_untyped_name shown node) f.0)
      (both _ _ (free_if test spot name.TwoNames (has_two_names shown node.ctype) f.1.0)
      (free_if test spot name.UnsafeName (has_unsafe_name shown node.ctype) f.1.1.0))

  pub parts_free : Free part_names → (place : Place) (dash : Option (List ℕ)) → Lacks test (multipart_findings place dash)
  parts_free f place None = tt
  parts_free f place (Some dash) =
      let node = root place.part in
      let size = length node.block in
      let text = drop size node.bytes in
      let spot = spot_in place size (length dash) in
      let g = f.1.1.1 in
      both _ _ (free test (spot_of_body place 1) name.Preamble (byte_place node.body colon) f.0)
      (both _ _ (both _ _ (free_if test (spot_in place size 0) name.NoDelimiter (is_leaf place.part) f.1.0)
      (free_if test (spot_in place size (length text)) name.NoClose
      (not (is_leaf place.part) && is_none (first_offset (is_close dash text) text)) f.1.1.0))
      (both _ _ (free test spot name.DelimiterInside (first_offset (is_inside dash text) text) g.0)
      (both _ _ (free test spot name.DelimiterTail (first_offset (is_tailed dash text) text) g.1.0)
      (free test spot name.LateDelimiter (late_delimiter dash text) g.1.1.0))))

  pub encoded_free : Free encoded_names → (place : Place) (kind : BodyKind) (body : List ℕ) → Lacks test (encoded_findings place kind body)
  encoded_free f place in_base64 body =
      both _ _ (free_if test (spot_of_body place (length body)) name.Base64Syntax (not (is_base64_lines body)) f.0)
      (free test (spot_of_body place 4) name.Base64Bits (hidden_bits body) f.1.0)
  encoded_free f place in_quoted_printable body =
      let spot = spot_of_body place 1 in
      both _ _ (free test spot name.QpSyntax (earlier (first_offset (is_bad_escape body) body) (first_byte is_control body)) f.1.1.0)
      (both _ _ (free test spot name.QpBlank (earlier (first_offset (is_end_blank body) body) (first_offset (is_escaped_end body) body)) f.1.1.1.0)
      (free test spot name.EightBitBody (first_byte is_high body) f.1.1.1.1.0))
  encoded_free f place in_7bit body = free test (spot_of_body place 1) name.EightBitBody (first_byte is_high body) f.1.1.1.1.0
  encoded_free f place in_8bit body = tt
  encoded_free f place in_binary body = tt

  pub texts_free : Free text_names → (place : Place) (node : Node) (body : List ℕ) → Lacks test (text_findings known place node body)
  texts_free f place node body =
      both _ _ (free test (spot_of_body place 1) name.Uuencode (file_line node.ctype body) f.0)
      (free_if test (spot_of_body place (length body)) name.Charset (has_bad_text known node) f.1.0)

  pub leaf_free : Free (encoded_names ++ text_names) → (place : Place) → Lacks test (leaf_findings known place)
  leaf_free f place =
      let node = root place.part in
      if_free test (is_single place.part) _
      (both _ _ (encoded_free (all_left (λ n. test n ≡ false) encoded_names text_names f) place (body_kind node) node.body)
      (texts_free (all_right (λ n. test n ≡ false) encoded_names text_names f) place node node.body))

  pub repeats_free : test name.Duplicate ≡ false → (place : Place) (lines : List HeaderLine) → Lacks test (repeated_findings place lines single_names)
  repeats_free f place lines =
      each_lacks test (λ n. repeated place (second_named n lines)) single_names
      (all_free (λ n. Lacks test (repeated place (second_named n lines))) (λ n. once (second_named n lines)) single_names)
    where
      once : (line : Option HeaderLine) → Lacks test (repeated place line)
      once None = tt
      once (Some line) = (f, tt)

  -- what comes after the header block
  pub after_free : Free later_names → (place : Place)
      → Lacks test (file_findings (spot_in place 0 (length (root place.part).block)) (shown_as (root place.part)) (root place.part)
      ++ (multipart_findings place (dash_of (root place.part).ctype) ++ leaf_findings known place))
  after_free f place =
      let rest = all_right (λ n. test n ≡ false) file_names (part_names ++ (encoded_names ++ text_names)) f in
      both _ _ (files_free (all_left (λ n. test n ≡ false) file_names (part_names ++ (encoded_names ++ text_names)) f)
      (spot_in place 0 (length (root place.part).block)) (shown_as (root place.part)) (root place.part))
      (both _ _ (parts_free (all_left (λ n. test n ≡ false) part_names (encoded_names ++ text_names) rest) place (dash_of (root place.part).ctype))
      (leaf_free (all_right (λ n. test n ≡ false) part_names (encoded_names ++ text_names) rest) place))

  pub block_free : Free block_names → (number : ℕ) (place : Place) (lines : List HeaderLine) → Lacks test (block_findings known number place lines)
  block_free f number place lines =
      let all = f.1.1.1 in
      let rest = all_right (λ n. test n ≡ false) line_names (value_names ++ (type_names ++ word_names)) all in
      let last = all_right (λ n. test n ≡ false) value_names (type_names ++ word_names) rest in
      both _ _ (free_if test (spot_in place 0 0) name.NoHeaders (has_none lines) f.0)
      (both _ _ (each_lacks test (header_findings known number place) lines
      (all_free (λ line. Lacks test (header_findings known number place line)) (λ line.
      let spot = spot_in place line.start (length line.bytes) in
      both _ _ (line_free (all_left (λ n. test n ≡ false) line_names (value_names ++ (type_names ++ word_names)) all)
      spot (length (root place.part).block) line)
      (both _ _ (value_free (all_left (λ n. test n ≡ false) value_names (type_names ++ word_names) rest) spot line)
      (both _ _ (type_free (all_left (λ n. test n ≡ false) type_names word_names last) spot (root place.part).ctype line)
      (both _ _ (sender_free f.1.1.0 number spot line)
      (words_free (all_right (λ n. test n ≡ false) type_names word_names last) spot line))))) lines))
      (repeats_free f.1.0 place lines))

  -- ---- what the lists of a header, of a header block and of a message say together

  pub header_says : {A B C D E : Type 0} (number : ℕ) (place : Place) (line : HeaderLine)
      → (Lacks test (line_findings (spot_in place line.start (length line.bytes)) (length (root place.part).block) line) ↔ A)
      → (Lacks test (parameter_findings (spot_in place line.start (length line.bytes)) line) ↔ B)
      → (Lacks test (type_findings (spot_in place line.start (length line.bytes)) (root place.part).ctype line) ↔ C)
      → (Lacks test (sender_findings number (spot_in place line.start (length line.bytes)) line) ↔ D)
      → (Lacks test (worded_findings known (spot_in place line.start (length line.bytes)) line) ↔ E)
      → (Lacks test (header_findings known number place line) ↔ (A × (B × (C × (D × E)))))
  header_says number place line own values types sender words =
      both_say test _ _ own (both_say test _ _ values (both_say test _ _ types (both_say test _ _ sender words)))

  pub block_says : {A C : Type 0} (P : HeaderLine → Type 0) (number : ℕ) (place : Place) (lines : List HeaderLine)
      → (Lacks test (listed_if (spot_in place 0 0) name.NoHeaders (has_none lines)) ↔ A)
      → ((line : HeaderLine) → Lacks test (header_findings known number place line) ↔ P line)
      → (Lacks test (repeated_findings place lines single_names) ↔ C)
      → (Lacks test (block_findings known number place lines) ↔ (A × (AllByRecursion P lines × C)))
  block_says P number place lines none each repeats =
      both_say test _ _ none (both_say test _ _ (each_says test (header_findings known number place) P each lines) repeats)

  -- if neither the bytes of the mail nor the number of a message are asked for
  pub message_says : {A B C D : Type 0} → Free (name.Many ∷ byte_names) → (number : ℕ) (place : Place)
      → (Lacks test (block_findings known number place (header_lines (root place.part))) ↔ A)
      → (Lacks test (file_findings (spot_in place 0 (length (root place.part).block)) (shown_as (root place.part)) (root place.part)) ↔ B)
      → (Lacks test (multipart_findings place (dash_of (root place.part).ctype)) ↔ C)
      → (Lacks test (leaf_findings known place) ↔ D)
      → (Lacks test (message_findings known number place) ↔ (A × (B × (C × D))))
  message_says f number place block files parts leaf =
      second_says test _ _
      (if_free test (number == 0) (first_findings (spot_in place 0 1) (root place.part).bytes)
      (bytes_free f.1 (spot_in place 0 1) (root place.part).bytes))
      (second_says test _ _ (free_if test (spot_in place 0 (length (root place.part).bytes)) name.Many (is_far number place) f.0)
      (both_say test _ _ block (both_say test _ _ files (both_say test _ _ parts leaf))))

  -- the header block alone
  pub block_alone : {A : Type 0} → Free (name.Many ∷ byte_names) → Free later_names → (number : ℕ) (place : Place)
      → (Lacks test (block_findings known number place (header_lines (root place.part))) ↔ A)
      → (Lacks test (message_findings known number place) ↔ A)
  block_alone f g number place says =
      second_says test _ _
      (if_free test (number == 0) (first_findings (spot_in place 0 1) (root place.part).bytes)
      (bytes_free f.1 (spot_in place 0 1) (root place.part).bytes))
      (second_says test _ _ (free_if test (spot_in place 0 (length (root place.part).bytes)) name.Many (is_far number place) f.0)
      (first_says test _ _ says (after_free g place)))

  -- ---- messages

  -- each says something, whatever its number is
  pub places_say : (P : Place → Type 0) → ((number : ℕ) (place : Place) → Lacks test (message_findings known number place) ↔ P place)
      → (number : ℕ) (found : List Place) → (Lacks test (findings_from known number found) ↔ AllByRecursion P found)
  places_say P says number [] = (λ h. tt, λ h. tt)
  places_say P says number (place ∷ found) = both_say test _ _ (says number place) (places_say P says (suc number) found)

  -- only the first does
  pub first_place_says : {A : Type 0} (place : Place) (found : List Place) → (Lacks test (message_findings known 0 place) ↔ A)
      → ((number : ℕ) (place : Place) → Lacks test (message_findings known (suc number) place))
      → (Lacks test (findings_from known 0 (place ∷ found)) ↔ A)
  first_place_says place found says others = first_says test _ _ says (later 0 found)
    where
      later : (number : ℕ) (found : List Place) → Lacks test (findings_from known (suc number) found)
      later number [] = tt
      later number (p ∷ found) = both _ _ (others number p) (later (suc number) found)

  -- the bytes of the mail are asked for in its first message alone
  pub no_bytes : (number : ℕ) (xs : List Finding) → Lacks test (if suc number == 0 then xs else [])
  no_bytes number xs = subst (λ (t : Bool). Lacks test (if t then xs else [])) (sym (eqb-suc-zero number)) tt

  -- what comes after them, if nothing of it is asked for
  pub later_free : Free later_names → (number : ℕ) (place : Place) → Lacks test (block_findings known number place (header_lines (root place.part)))
      → test name.Many ≡ false
      → Lacks test (listed_if (spot_in place 0 (length (root place.part).bytes)) name.Many (is_far number place)
      ++ (block_findings known number place (header_lines (root place.part))
      ++ (file_findings (spot_in place 0 (length (root place.part).block)) (shown_as (root place.part)) (root place.part)
      ++ (multipart_findings place (dash_of (root place.part).ctype) ++ leaf_findings known place))))
  later_free f number place block many =
      both _ _ (free_if test (spot_in place 0 (length (root place.part).bytes)) name.Many (is_far number place) many)
      (both _ _ block (after_free f place))
