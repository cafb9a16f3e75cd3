-- The messages of a mail without findings of some names are those of the grammar of strict mails.
use Rattle.std.proofs.Common.{inl, inr, ◌≡◌, ◌∙◌, ◌<◌, ℕ, suc, Bool, true, false, List, [], ◌∷◌, length, map, take, drop, ◌++◌, ◌+◌, length-take, refl, sym, ap, subst, Option, Some, None, arith}
use Rattle.std.specs.Prelude.{◌↔◌, ◌&&◌, ◌||◌, ◌==◌, ⊤, codes, is_none, is_some, not, if◌then◌else◌}
use Rattle.std.specs.List.{AllByRecursion, list_any}
use Rattle.std.proofs.Math.Dec.{eqb-suc-zero}
use Rattle.std.proofs.lemmas.List.{take-append-drop}
use Rattle.std.proofs.lemmas.Bool.{and_left, and_right, cases_Bool, not-false, not_from_false, not_from_true}
use Rattle.mail_codec.specs.Ascii.{colon}
use Rattle.mail_codec.specs.Charset.{Charsets}
use Rattle.mail_codec.specs.Places.{byte_place}
use Rattle.mailparse.specs.Block.{read_headers}
use Rattle.mailparse.specs.Body.{BodyKind, in_base64, in_quoted_printable, in_7bit, in_8bit, in_binary}
use Rattle.mailparse.specs.Header.{Header}
use Rattle.mailparse.specs.Mail.{Node, Tree, tree, body_kind, root, shown_as, trees_within}
use Rattle.mail_read.specs.Files.{is_leaf}
use Rattle.mail_read.specs.PartPlaces.{Place}
use Rattle.mail_check.specs.Bodies.{is_base64_lines}
use Rattle.mail_check.specs.Bytes.{earlier, first_byte, first_offset, is_bad_escape, is_blank_fold, is_comment_fold, is_control}
use Rattle.mail_check.specs.Bytes.{is_end_blank, is_escaped_end, is_high}
use Rattle.mail_check.specs.FileNames.{has_two_names, has_unsafe_name, has_untyped_name, lacks_type}
use Rattle.mail_check.specs.Findings.{Spot, block_findings, body_findings, encoded_findings, extended_name, file_line, findings_from, first_findings, has_none}
use Rattle.mail_check.specs.Findings.{header_findings, is_far, is_single, line_findings, message_findings, multipart_findings}
use Rattle.mail_check.specs.Findings.{repeated, spot_in, spot_of_body}
use Rattle.mail_check.specs.Findings.{strict_findings, word_name}
use Rattle.mail_check.specs.HiddenBits.{hidden_bits}
use Rattle.mail_check.specs.Lines.{HeaderLine, ends_block, has_blank_fold, has_comment_fold, has_high_value, header_lines, is_bad_encoding}
use Rattle.mail_check.specs.Lines.{is_bad_key, is_composite, is_encoding, is_named, is_other_message, lines_from, second_named, single_names}
use Rattle.mail_check.specs.Multiparts.{dash_of, is_bad_boundary, is_close, is_inside, is_tailed, late_delimiter}
use Rattle.mail_check.specs.Parameters.{has_extended, has_other_name, has_quoted_pair, has_quoted_special, has_repeat, has_word}
use Rattle.mail_check.specs.Parameters.{is_bad_value, is_type, none_seen, parameter_names, strict_value}
use Rattle.mail_check.specs.Senders.{is_bad_sender}
use Rattle.mail_check.specs.Texts.{has_bad_text}
use Rattle.mail_check.specs.declared.names.Name.{Name}
use Rattle.mail_check.specs.declared.names.Name.TheVariants as name
use Rattle.mail_grammar.specs.Bodies.{HasStrictBody, IsEncoded}
use Rattle.mail_grammar.specs.Delimiters.{HasStrictParts, IsSplit}
use Rattle.mail_grammar.specs.Fields.{HasAtMostOne, HasStrictFields, IsBoundary, IsField, once_names}
use Rattle.mail_grammar.specs.FileNames.{HasOwnNames, HasStrictFileName}
use Rattle.mail_grammar.specs.Headers.{IsBlock, is_address_name}
use Rattle.mail_grammar.specs.LineEnds.{IsText}
use Rattle.mail_check_laws.specs.Mail.{AreStrictBodies, AreStrictFields, AreStrictFileNames, AreStrictParameters}
use Rattle.mail_check_laws.specs.Mail.{AreStrictParts, AreStrictSenders, AreStrictTexts, AreStrictWords, HasStrictBlocks}
use Rattle.mail_check_laws.specs.Mail.{HasStrictMessages}
use Rattle.mail_check_laws.specs.Named.{Files, Inside, Lacks, Parameters, Syntax, group_of, is_block_name, is_body_name, is_core, is_field_name}
use Rattle.mail_check_laws.specs.Named.{is_file_name, is_from_name, is_line_name, is_many_name, is_parameter_name}
use Rattle.mail_check_laws.specs.Named.{is_part_name, is_text_name, is_word_name, same_group}
use Rattle.mail_grammar.specs.PlainParameters.{HasPlainValue}
use Rattle.mail_check_laws.specs.Texts.{HasStrictText}
use Rattle.mail_check_laws.specs.Worded.{HasSenderValue, HasWordedValue}
use Rattle.mailparse.proofs.lemmas.Block.{read_headers-bounded}
use Rattle.mail_check.proofs.lemmas.Booleans.{second_false}
use Rattle.mail_check.proofs.lemmas.Clean.{found_nowhere, nowhere_found}
use Rattle.mail_check.proofs.lemmas.Searched.{first_none, none_first}
use Rattle.mail_check_laws.proofs.lemmas.Blocks.{GoodLine, block_lines, lines_block}
use Rattle.mail_check_laws.proofs.lemmas.Bodies.{base64_of, none_earlier, not_earlier, of_base64, of_quoted, quoted_of}
use Rattle.mail_check_laws.proofs.lemmas.Bytes.{no_text_named, text_named}
use Rattle.mail_check_laws.proofs.lemmas.Comments.{comment-opened, comments_nowhere, nowhere_comments}
use Rattle.mail_check_laws.proofs.lemmas.Delimiters.{found_parts, parts_found}
use Rattle.mail_check_laws.proofs.lemmas.Fields.{most_one, one_most}
use Rattle.mail_check_laws.proofs.lemmas.FileNames.{found_names, missing_type, named_some, names_found, names_same, same_names}
use Rattle.mail_check_laws.proofs.lemmas.FileNames.{some_named, type_missing}
use Rattle.mail_check_laws.proofs.lemmas.Keys.{lines_are_headers, of_line}
use Rattle.mail_check_laws.proofs.lemmas.Levels.{AreNear}
use Rattle.mail_check_laws.proofs.lemmas.Lists.{all_alike, all_free, all_map, asked, asked_if, both_say, chain, each_law_lacks, each_says, either_lacks, first_says}
use Rattle.mail_check_laws.proofs.lemmas.Lists.{free, free_if, if_free, if_says, lacks_both, nothing, same_names_lack, second_says}
use Rattle.mail_check_laws.proofs.lemmas.Parts.{dash_made, made_of, not_found, opened_of}
use Rattle.mail_check_laws.proofs.lemmas.Pieces.{after_free, block_alone, block_free, block_names, block_says, byte_names, bytes_free, encoded_free, encoded_names}
use Rattle.mail_check_laws.proofs.lemmas.Pieces.{file_names, files_free, first_place_says, frees, header_says, later_names, leaf_free}
use Rattle.mail_check_laws.proofs.lemmas.Pieces.{line_free, line_names, message_says, part_names, parts_free, places_say, repeats_free}
use Rattle.mail_check_laws.proofs.lemmas.Pieces.{sender_free, strict_free, strict_names, text_names, texts_free, type_free, type_names}
use Rattle.mail_check_laws.proofs.lemmas.Pieces.{value_free, value_names, word_names, words_free}
use Rattle.mail_check_laws.proofs.lemmas.Plain.{ValueLacks}
use Rattle.mail_check_laws.proofs.lemmas.Reading.{AreThere, IsRead, all_of_map, all_with, map_of_all}
use Rattle.mail_check_laws.proofs.lemmas.Senders.{sender_header}
use Rattle.mail_check_laws.proofs.lemmas.Texts.{text_strict}
use Rattle.mail_check_laws.proofs.lemmas.Types.{FieldLacks, field_found, found_field}
use Rattle.mail_check_laws.proofs.lemmas.Values.{found_plain, plain_found}
use Rattle.mail_check_laws.proofs.lemmas.Worded.{worded_names}
use Rattle.mail_grammar.proofs.lemmas.Boundaries.{boundary_inner}

none_some : (o : Option ℕ) → is_some o ≡ false → o ≡ None
none_some None h = refl
none_some (Some p) h = absurd (cc)

-- what is so of the headers of a message that was read, and of their lines
headers_alike : (Q : Header → Type 0) (node : Node) → IsRead node
    → AllByRecursion (λ line. Q (of_line line)) (header_lines node) ↔ AllByRecursion Q node.headers
headers_alike Q node is =
    let same = lines_are_headers node is in (
      λ h. subst (AllByRecursion Q) same (map_of_all of_line Q (header_lines node) h),
      λ h. all_of_map of_line Q (header_lines node) (subst (AllByRecursion Q) (sym same) h),
    )

-- ---- the header block of a message

comment_free : (size : ℕ) (line : HeaderLine) → GoodLine size line → (is_address_name line.key && is_some (first_offset (is_comment_fold line.bytes) line.bytes)) ≡ false
comment_free size line h = elim (cases_Bool (is_address_name line.key)) [
  | inr e ↦ and_left (is_address_name line.key) _ e
  | inl e ↦ and_right (is_address_name line.key) _
      (ap (λ (o : Option ℕ). is_some o) (found_nowhere (is_comment_fold line.bytes) line.bytes (comments_nowhere line.bytes (h.comments e))))
]

line_good : (spot : Spot) (size : ℕ) (line : HeaderLine) → Lacks is_block_name (line_findings spot size line) ↔ GoodLine size line
line_good spot size line =
    let T = is_block_name in
    chain (both_say T _ _ (asked_if T spot name.NoBlankLine (ends_block size line) refl)
    (both_say T _ _ (asked_if T spot name.BadKey (is_bad_key line) refl)
    (both_say T _ _ (asked_if T spot name.BlankFold (has_blank_fold line) refl)
    (both_say T _ _ (asked_if T spot name.CommentFold (has_comment_fold line) refl)
    (asked_if T spot name.Header8bit (has_high_value line) refl))))) (
      λ h. record {
        goes_on = h.0;
        key = h.1.0;
        folds = nowhere_found (is_blank_fold line.bytes) line.bytes (none_some (first_offset (is_blank_fold line.bytes) line.bytes) h.1.1.0);
        ascii = h.1.1.1.1;
        comments = λ e. nowhere_comments line.bytes (nowhere_found (is_comment_fold line.bytes) line.bytes
            (none_some (first_offset (is_comment_fold line.bytes) line.bytes)
            (second_false (is_address_name line.key) _ e (sym (comment-opened line) ∙ h.1.1.1.0))));
      },
      λ g. (
        g.goes_on,
        (
          g.key,
          (
            ap (λ (o : Option ℕ). is_some o) (found_nowhere (is_blank_fold line.bytes) line.bytes g.folds),
            (comment-opened line ∙ comment_free size line g, g.ascii),
          ),
        ),
      ),
    )

-- a header block has a header, and nothing is found in any of them
abbrev BlockLacks : Node → Type 0
BlockLacks node = (has_none (header_lines node) ≡ false) × AllByRecursion (GoodLine (length node.block)) (header_lines node)

block_message : (known : Charsets) (number : ℕ) (place : Place)
    → Lacks is_block_name (message_findings known number place) ↔ BlockLacks (root place.part)
block_message known number place =
    let T = is_block_name in
    let node = root place.part in
    block_alone known T (frees known T (name.Many ∷ byte_names) refl) (frees known T later_names refl) number place
    (chain (block_says known T (GoodLine (length node.block)) number place (header_lines node)
    (asked_if T (spot_in place 0 0) name.NoHeaders (has_none (header_lines node)) refl)
    (λ line.
    let spot = spot_in place line.start (length line.bytes) in
    chain (header_says known T number place line (line_good spot (length node.block) line)
    (nothing T _ (value_free known T (frees known T value_names refl) spot line))
    (nothing T _ (type_free known T (frees known T type_names refl) spot node.ctype line))
    (nothing T _ (sender_free known T refl number spot line))
    (nothing T _ (words_free known T (frees known T word_names refl) spot line)))
    (λ h. h.0, λ g. (g, (tt, (tt, (tt, tt))))))
    (nothing T _ (repeats_free known T refl place (header_lines node))))
    (λ h. (h.0, h.1.0), λ b. (b.0, (b.1, tt))))

some_header : (hs : List Header) (block : List ℕ) → has_none (lines_from hs block 0) ≡ false → 0 < length hs
some_header [] block h = absurd (cc)
some_header (h ∷ hs) block e = omega arith

some_line : (hs : List Header) (block : List ℕ) → 0 < length hs → has_none (lines_from hs block 0) ≡ false
some_line [] block h = absurd (omega arith)
some_line (h ∷ hs) block e = refl

block_strict : (node : Node) → IsRead node → BlockLacks node ↔ IsBlock node.block
block_strict node is = (to, from)
  where
    block_size : length node.block ≡ 0 + is.index
    block_size =
        let size = length-take is.index node.bytes in
        let most = (read_headers-bounded node.bytes (record { headers = node.headers; index = is.index }) is.headers).index in
        let same = ap length is.block in
        omega (arith, size, most, same)

    to : BlockLacks node → IsBlock node.block
    to h =
        let whole : node.block ≡ take is.index node.bytes = is.block in
        subst IsBlock (sym whole)
        (lines_block node.headers is.index 0 (length node.block) node.bytes node.block is.headers block_size whole
        (some_header node.headers node.block h.0) h.1)

    from : IsBlock node.block → BlockLacks node
    from block =
        let whole : node.block ++ drop is.index node.bytes ≡ node.bytes = ap (λ (xs : List ℕ). xs ++ drop is.index node.bytes) is.block ∙ take-append-drop is.index node.bytes in
        let found = block_lines node.block block (drop is.index node.bytes) 0 (length node.block) node.headers is.index node.block (ap read_headers whole ∙ is.headers) refl (omega arith) in
        (some_line node.headers node.block found.1, found.0)

-- ---- what its headers say

-- no header is repeated
repeated_asked : (test : Name → Bool) → test name.Duplicate ≡ true → (place : Place) (line : Option HeaderLine)
    → Lacks test (repeated place line) ↔ (line ≡ None)
repeated_asked test e place None = (λ h. refl, λ h. tt)
repeated_asked test e place (Some line) = (λ h. let no : test name.Duplicate ≡ false = h.0 in absurd (cc), λ h. absurd (cc))

field_line : (known : Charsets) (number : ℕ) (place : Place) (line : HeaderLine)
    → Lacks is_field_name (header_findings known number place line) ↔ FieldLacks (root place.part).ctype line
field_line known number place line =
    let T = is_field_name in
    let ctype = (root place.part).ctype in
    let spot = spot_in place line.start (length line.bytes) in
    chain (header_says known T number place line
    (nothing T _ (line_free known T (frees known T line_names refl) spot (length (root place.part).block) line))
    (first_says T _ _ (asked_if T spot name.TypeSyntax (is_bad_value line) refl)
    (strict_free known T (frees known T strict_names refl) spot line (strict_value line)))
    (both_say T _ _ (asked_if T spot name.EncodingSyntax (is_bad_encoding line) refl)
    (both_say T _ _ (asked_if T spot name.EncodingOnComposite (is_encoding line && is_composite ctype) refl)
    (both_say T _ _ (asked_if T spot name.OtherMessage (is_named (codes "Content-Type") line && is_other_message ctype) refl)
    (asked_if T spot name.BadBoundary (is_named (codes "Content-Type") line && is_bad_boundary ctype) refl))))
    (nothing T _ (sender_free known T refl number spot line))
    (nothing T _ (words_free known T (frees known T word_names refl) spot line))) (
      λ h.
          let types = h.1.1.0 in
          record { syntax = h.1.0; encoding = types.0; composite = types.1.0; message = types.1.1.0; boundary = types.1.1.1 },
      λ f. (tt, (f.syntax, ((f.encoding, (f.composite, (f.message, f.boundary))), (tt, tt)))),
    )

abbrev FieldsLack : Node → Type 0
FieldsLack node =
    AllByRecursion (FieldLacks node.ctype) (header_lines node)
    × AllByRecursion (λ (n : List ℕ). second_named n (header_lines node) ≡ None) single_names

field_message : (known : Charsets) (number : ℕ) (place : Place)
    → Lacks is_field_name (message_findings known number place) ↔ FieldsLack (root place.part)
field_message known number place =
    let T = is_field_name in
    let node = root place.part in
    let lines = header_lines node in
    block_alone known T (frees known T (name.Many ∷ byte_names) refl) (frees known T later_names refl) number place
    (chain (block_says known T (FieldLacks node.ctype) number place lines
    (nothing T _ (free_if T (spot_in place 0 0) name.NoHeaders (has_none lines) refl)) (field_line known number place)
    (each_says T (λ (n : List ℕ). repeated place (second_named n lines)) (λ (n : List ℕ). second_named n lines ≡ None)
    (λ n. repeated_asked T refl place (second_named n lines)) single_names))
    (λ h. h.1, λ h. (tt, h)))

fields_strict : (node : Node) → IsRead node → FieldsLack node ↔ HasStrictFields node
fields_strict node is =
    let same = lines_are_headers node is in
    let fields = chain (all_alike (FieldLacks node.ctype) (λ line. IsField node.ctype (of_line line))
    (λ line. (field_found node.ctype line, found_field node.ctype line)) (header_lines node))
    (headers_alike (IsField node.ctype) node is) in (
      λ h. record {
        once = all_map (λ (n : List ℕ). second_named n (header_lines node) ≡ None) (λ (n : List ℕ). HasAtMostOne n node.headers)
            (λ n e. subst (HasAtMostOne n) same (most_one n (header_lines node) e)) once_names h.1;
        each = fields.0 h.0;
      },
      λ h. (
        fields.1 h.each,
        all_map (λ (n : List ℕ). HasAtMostOne n node.headers) (λ (n : List ℕ). second_named n (header_lines node) ≡ None)
            (λ n most. one_most n node.headers most (header_lines node) same) once_names h.once,
      ),
    )

-- ---- the parameters of its types and dispositions

either_named : (test : Name → Bool) (is : Bool) (n m : Name) → test n ≡ true → test m ≡ true → test (if is then n else m) ≡ true
either_named test true n m h k = h
either_named test false n m h k = k

text_plain : (spot : Spot) (line : HeaderLine) (value : Option (List ℕ)) → Lacks is_parameter_name (strict_findings spot line value)
    ↔ ((text : List ℕ) → value ≡ Some text → ValueLacks text)
text_plain spot line None = (λ h text e. absurd (cc), λ f. tt)
text_plain spot line (Some other) =
    let T = is_parameter_name in
    chain (both_say T _ _ (both_say T _ _ (asked_if T spot name.QuotedSpecial (has_quoted_special other) refl)
    (both_say T _ _ (asked_if T spot name.QuotedPair (has_quoted_pair other) refl)
    (both_say T _ _ (asked_if T spot (extended_name line) (has_extended other)
    (either_named T (is_type line) name.TypeExtended name.ExtendedParameter refl refl))
    (asked_if T spot (word_name line) (has_word other) (either_named T (is_type line) name.TypeWord name.WordParameter refl refl)))))
    (first_says T _ _ (asked_if T spot name.DuplicateParameter (has_repeat none_seen (parameter_names other)) refl)
    (free_if T spot name.TwoNames (has_other_name line (parameter_names other)) refl))) (
      λ h text e.
          let same : other ≡ text = cc in
          subst ValueLacks same (record { special = h.0.0; pair = h.0.1.0; extended = h.0.1.1.0; word = h.0.1.1.1; repeats = h.1 }),
      λ f. let l = f other refl in ((l.special, (l.pair, (l.extended, l.word))), l.repeats),
    )

plain_line : (known : Charsets) (number : ℕ) (place : Place) (line : HeaderLine)
    → Lacks is_parameter_name (header_findings known number place line) ↔ HasPlainValue (of_line line)
plain_line known number place line =
    let T = is_parameter_name in
    let spot = spot_in place line.start (length line.bytes) in
    chain (header_says known T number place line
    (nothing T _ (line_free known T (frees known T line_names refl) spot (length (root place.part).block) line))
    (both_say T _ _ (asked_if T spot name.TypeSyntax (is_bad_value line) refl) (text_plain spot line (strict_value line)))
    (nothing T _ (type_free known T (frees known T type_names refl) spot (root place.part).ctype line))
    (nothing T _ (sender_free known T refl number spot line))
    (nothing T _ (words_free known T (frees known T word_names refl) spot line)))
    (λ h. found_plain line h.1.0.0 h.1.0.1, λ p. let found = plain_found line p in (tt, (found, (tt, (tt, tt)))))

-- the lines of a header block have such values
abbrev Plain : Node → Type 0
Plain node = AllByRecursion (λ line. HasPlainValue (of_line line)) (header_lines node)

-- if nothing but the headers says something
headers_message : (known : Charsets) (test : Name → Bool) (P : HeaderLine → Type 0) (number : ℕ) (place : Place)
    → test name.NoHeaders ≡ false → test name.Duplicate ≡ false
    → ((line : HeaderLine) → Lacks test (header_findings known number place line) ↔ P line)
    → Lacks test (block_findings known number place (header_lines (root place.part))) ↔ AllByRecursion P (header_lines (root place.part))
headers_message known test P number place f g says =
    let lines = header_lines (root place.part) in
    chain (block_says known test P number place lines
    (nothing test _ (free_if test (spot_in place 0 0) name.NoHeaders (has_none lines) f)) says
    (nothing test _ (repeats_free known test g place lines)))
    (λ h. h.1.0, λ h. (tt, (h, tt)))

plain_message : (known : Charsets) (number : ℕ) (place : Place)
    → Lacks is_parameter_name (message_findings known number place) ↔ Plain (root place.part)
plain_message known number place =
    let T = is_parameter_name in
    block_alone known T (frees known T (name.Many ∷ byte_names) refl) (frees known T later_names refl) number place
    (headers_message known T (λ line. HasPlainValue (of_line line)) number place refl refl (plain_line known number place))

-- ---- the names of its file

-- the names of `two-names` and `no-type` alone
abbrev is_own_file_name : Name → Bool
is_own_file_name n = same_group Files (group_of n)

abbrev NamesLack : HeaderLine → Type 0
NamesLack line = (text : List ℕ) → strict_value line ≡ Some text → has_other_name line (parameter_names text) ≡ false

text_names_lack : (spot : Spot) (line : HeaderLine) (value : Option (List ℕ)) → Lacks is_own_file_name (strict_findings spot line value)
    ↔ ((text : List ℕ) → value ≡ Some text → has_other_name line (parameter_names text) ≡ false)
text_names_lack spot line None = (λ h text e. absurd (cc), λ f. tt)
text_names_lack spot line (Some other) =
    let T = is_own_file_name in
    chain (second_says T _ _ (lacks_both T _ _ (free_if T spot name.QuotedSpecial (has_quoted_special other) refl)
    (lacks_both T _ _ (free_if T spot name.QuotedPair (has_quoted_pair other) refl)
    (lacks_both T _ _ (free_if T spot (extended_name line) (has_extended other) (neither_named (is_type line) name.TypeExtended name.ExtendedParameter refl refl))
    (free_if T spot (word_name line) (has_word other) (neither_named (is_type line) name.TypeWord name.WordParameter refl refl)))))
    (second_says T _ _ (free_if T spot name.DuplicateParameter (has_repeat none_seen (parameter_names other)) refl)
    (asked_if T spot name.TwoNames (has_other_name line (parameter_names other)) refl))) (
      λ h text e. let same : other ≡ text = cc in subst (λ (xs : List ℕ). has_other_name line (parameter_names xs) ≡ false) same h,
      λ f. f other refl,
    )
  where
    neither_named : (is : Bool) (n m : Name) → is_own_file_name n ≡ false → is_own_file_name m ≡ false
        → is_own_file_name (if is then n else m) ≡ false
    neither_named true n m h k = h
    neither_named false n m h k = k

-- those in its headers, and those of a message that is to be shown so
abbrev FilesLack : Node → Type 0
FilesLack node =
    AllByRecursion NamesLack (header_lines node)
    × ((has_untyped_name (shown_as node) node ≡ false) × (has_two_names (shown_as node) node.ctype ≡ false))

files_message : (known : Charsets) (number : ℕ) (place : Place)
    → Lacks is_own_file_name (message_findings known number place) ↔ FilesLack (root place.part)
files_message known number place =
    let T = is_own_file_name in
    let node = root place.part in
    let file = spot_in place 0 (length node.block) in
    chain (message_says known T (frees known T (name.Many ∷ byte_names) refl) number place
    (headers_message known T NamesLack number place refl refl (λ line.
    let spot = spot_in place line.start (length line.bytes) in
    chain (header_says known T number place line
    (nothing T _ (line_free known T (frees known T line_names refl) spot (length node.block) line))
    (second_says T _ _ (free_if T spot name.TypeSyntax (is_bad_value line) refl) (text_names_lack spot line (strict_value line)))
    (nothing T _ (type_free known T (frees known T type_names refl) spot node.ctype line))
    (nothing T _ (sender_free known T refl number spot line))
    (nothing T _ (words_free known T (frees known T word_names refl) spot line)))
    (λ h. h.1.0, λ n. (tt, (n, (tt, (tt, tt)))))))
    (both_say T _ _ (asked_if T file name.NoType (has_untyped_name (shown_as node) node) refl)
    (first_says T _ _ (asked_if T file name.TwoNames (has_two_names (shown_as node) node.ctype) refl)
    (free_if T file name.UnsafeName (has_unsafe_name (shown_as node) node.ctype) refl)))
    (nothing T _ (parts_free known T (frees known T part_names refl) place (dash_of node.ctype)))
    (nothing T _ (leaf_free known T (frees known T (encoded_names ++ text_names) refl) place)))
    (λ h. (h.0, h.1.0), λ h. (h.0, (h.1, (tt, tt))))

-- if its values are plain
files_strict : (node : Node) → IsRead node × Plain node → FilesLack node ↔ HasStrictFileName node
files_strict node is =
    let shown = (shown_as node).params (codes "filename") in
    let own = headers_alike HasOwnNames node is.0 in (
      λ h. record {
        names = own.0 (all_map NamesLack (λ line. HasOwnNames (of_line line)) found_names (header_lines node) h.0);
        typed = λ file e some.
            some_named (codes "Content-Type") refl node.headers (type_missing shown (lacks_type node) h.1.0 file e some);
        same = same_names shown (node.ctype.params (codes "name")) h.1.1;
      },
      λ h. (
        all_with (λ line. HasPlainValue (of_line line)) (λ line. HasOwnNames (of_line line)) NamesLack names_found (header_lines node)
            is.1 (own.1 h.names),
        (
          missing_type shown (lacks_type node) (λ file e some. named_some (codes "Content-Type") refl node.headers (h.typed file e some)),
          names_same shown (node.ctype.params (codes "name")) h.same,
        ),
      ),
    )

-- ---- its words

word_message : (known : Charsets) (number : ℕ) (place : Place) → Lacks is_word_name (message_findings known number place)
    ↔ AllByRecursion (λ line. HasWordedValue known (of_line line)) (header_lines (root place.part))
word_message known number place =
    let T = is_word_name in
    block_alone known T (frees known T (name.Many ∷ byte_names) refl) (frees known T later_names refl) number place
    (headers_message known T (λ line. HasWordedValue known (of_line line)) number place refl refl (λ line.
    let spot = spot_in place line.start (length line.bytes) in
    chain (header_says known T number place line
    (nothing T _ (line_free known T (frees known T line_names refl) spot (length (root place.part).block) line))
    (nothing T _ (value_free known T (frees known T value_names refl) spot line))
    (nothing T _ (type_free known T (frees known T type_names refl) spot (root place.part).ctype line))
    (nothing T _ (sender_free known T refl number spot line)) (worded_names known spot line))
    (λ h. h.1.1.1.1, λ w. (tt, (tt, (tt, (tt, w)))))))

-- ---- the senders of the mail itself

sender_message : (known : Charsets) (place : Place) → Lacks is_from_name (message_findings known 0 place)
    ↔ AllByRecursion (λ line. HasSenderValue (of_line line)) (header_lines (root place.part))
sender_message known place =
    let T = is_from_name in
    block_alone known T (frees known T (name.Many ∷ byte_names) refl) (frees known T later_names refl) 0 place
    (headers_message known T (λ line. HasSenderValue (of_line line)) 0 place refl refl (λ line.
    let spot = spot_in place line.start (length line.bytes) in
    chain (header_says known T 0 place line
    (nothing T _ (line_free known T (frees known T line_names refl) spot (length (root place.part).block) line))
    (nothing T _ (value_free known T (frees known T value_names refl) spot line))
    (nothing T _ (type_free known T (frees known T type_names refl) spot (root place.part).ctype line))
    (chain (asked_if T spot name.FromSyntax (is_bad_sender line) refl) (sender_header line))
    (nothing T _ (words_free known T (frees known T word_names refl) spot line)))
    (λ h. h.1.1.1.0, λ s. (tt, (tt, (tt, (s, tt)))))))

no_sender : (known : Charsets) (number : ℕ) (place : Place) → Lacks is_from_name (message_findings known (suc number) place)
no_sender known number place =
    let T = is_from_name in
    let lines = header_lines (root place.part) in
    (block_alone known T (frees known T (name.Many ∷ byte_names) refl) (frees known T later_names refl) (suc number) place
    (headers_message known T (λ line. ⊤) (suc number) place refl refl (λ line.
    let spot = spot_in place line.start (length line.bytes) in
    nothing T _ ((header_says known T (suc number) place line
    (nothing T _ (line_free known T (frees known T line_names refl) spot (length (root place.part).block) line))
    (nothing T _ (value_free known T (frees known T value_names refl) spot line))
    (nothing T _ (type_free known T (frees known T type_names refl) spot (root place.part).ctype line))
    (asked_if T spot name.FromSyntax (suc number == 0 && is_bad_sender line) refl)
    (nothing T _ (words_free known T (frees known T word_names refl) spot line))).1
    (tt, (tt, (tt, (and_left (suc number == 0) (is_bad_sender line) (eqb-suc-zero number), tt)))))))).1 (free_all lines)
  where
    free_all : (lines : List HeaderLine) → AllByRecursion (λ line. ⊤) lines
    free_all [] = tt
    free_all (line ∷ lines) = (tt, free_all lines)

-- ---- how it is split

-- nothing is found of a multipart with this dash-boundary
record PartsLack (t : Tree) (dash : List ℕ) : Type 0 where
  preamble : byte_place (root t).body colon ≡ None
  parts : is_leaf t ≡ false
  closed : (not (is_leaf t) && is_none (first_offset (is_close dash (drop (length (root t).block) (root t).bytes)) (drop (length (root t).block) (root t).bytes))) ≡ false
  inside : first_offset (is_inside dash (drop (length (root t).block) (root t).bytes)) (drop (length (root t).block) (root t).bytes) ≡ None
  tail : first_offset (is_tailed dash (drop (length (root t).block) (root t).bytes)) (drop (length (root t).block) (root t).bytes) ≡ None
  late : late_delimiter dash (drop (length (root t).block) (root t).bytes) ≡ None

abbrev text_after : Tree → List ℕ
text_after t = drop (length (root t).block) (root t).bytes

multipart_says : (place : Place) (dash : Option (List ℕ)) → Lacks is_part_name (multipart_findings place dash)
    ↔ ((d : List ℕ) → dash ≡ Some d → PartsLack place.part d)
multipart_says place None = (λ h d e. absurd (cc), λ f. tt)
multipart_says place (Some dash) =
    let T = is_part_name in
    let size = length (root place.part).block in
    let text = text_after place.part in
    let spot = spot_in place size (length dash) in
    chain (both_say T _ _ (asked T (spot_of_body place 1) name.Preamble (byte_place (root place.part).body colon) refl)
    (both_say T _ _ (both_say T _ _ (asked_if T (spot_in place size 0) name.NoDelimiter (is_leaf place.part) refl)
    (asked_if T (spot_in place size (length text)) name.NoClose (not (is_leaf place.part) && is_none (first_offset (is_close dash text) text)) refl))
    (both_say T _ _ (asked T spot name.DelimiterInside (first_offset (is_inside dash text) text) refl)
    (both_say T _ _ (asked T spot name.DelimiterTail (first_offset (is_tailed dash text) text) refl)
    (asked T spot name.LateDelimiter (late_delimiter dash text) refl))))) (
      λ h d e.
          let same : dash ≡ d = cc in
          subst (PartsLack place.part) same (record {
            preamble = h.0;
            parts = h.1.0.0;
            closed = h.1.0.1;
            inside = h.1.1.0;
            tail = h.1.1.1.0;
            late = h.1.1.1.1;
          }),
      λ f. let l = f dash refl in (l.preamble, ((l.parts, l.closed), (l.inside, (l.tail, l.late)))),
    )

text_split : (t : Tree) (text : List ℕ) → IsBoundary 70 text → PartsLack t (codes "--" ++ text) → IsSplit (codes "--" ++ text) t
text_split t text is h =
    let dash = codes "--" ++ text in
    let inside = nowhere_found (is_inside dash (text_after t)) (text_after t) h.inside in
    let tailed = nowhere_found (is_tailed dash (text_after t)) (text_after t) h.tail in
    let closed = second_false (not (is_leaf t)) _ (not_from_false (is_leaf t) h.parts) h.closed in
    let opened = opened_of dash (text_after t) inside tailed h.late closed in
    record {
      parts = h.parts;
      preamble = none_first (λ b. b == colon) (root t).body h.preamble;
      text = found_parts dash (boundary_inner 70 text is) (omega arith) true (text_after t) opened;
    }

split_text : (t : Tree) (text : List ℕ) → IsBoundary 70 text → IsSplit (codes "--" ++ text) t → PartsLack t (codes "--" ++ text)
split_text t text is h =
    let dash = codes "--" ++ text in
    let none = not_found dash (text_after t) (parts_found dash (boundary_inner 70 text is) (omega arith) true (text_after t) h.text) in
    record {
      preamble = first_none (λ b. b == colon) (root t).body h.preamble;
      parts = h.parts;
      closed = and_right (not (is_leaf t)) _ none.closed;
      inside = none.inside;
      tail = none.tail;
      late = none.late;
    }

part_message : (known : Charsets) (number : ℕ) (place : Place)
    → Lacks is_part_name (message_findings known number place) ↔ HasStrictParts place.part
part_message known number place =
    let T = is_part_name in
    let node = root place.part in
    chain (message_says known T (frees known T (name.Many ∷ byte_names) refl) number place
    (nothing T _ (block_free known T (frees known T block_names refl) number place (header_lines node)))
    (nothing T _ (files_free known T (frees known T file_names refl) (spot_in place 0 (length node.block)) (shown_as node) node))
    (multipart_says place (dash_of node.ctype))
    (nothing T _ (leaf_free known T (frees known T (encoded_names ++ text_names) refl) place))) (
      λ h. record { split = λ text e f is. text_split place.part text is (h.1.1.0 (codes "--" ++ text) (dash_made node.ctype text e f is)) },
      λ h. (
        tt,
        (
          tt,
          (
            λ dash e.
                let made = made_of node.ctype dash e in
                subst (PartsLack place.part) made.made
                (split_text place.part made.text made.is (h.split made.text made.several made.given made.is)),
            tt,
          ),
        ),
      ),
    )

-- ---- its body

encoded_says : (place : Place) (kind : BodyKind) (body : List ℕ) → Lacks is_body_name (encoded_findings place kind body) ↔ IsEncoded kind body
encoded_says place in_base64 body =
    let T = is_body_name in
    chain (first_says T _ _ (asked_if T (spot_of_body place (length body)) name.Base64Syntax (not (is_base64_lines body)) refl)
    (free T (spot_of_body place 4) name.Base64Bits (hidden_bits body) refl))
    (λ h. base64_of body (not-false (is_base64_lines body) h), λ h. not_from_true (is_base64_lines body) (of_base64 body h))
encoded_says place in_quoted_printable body =
    let T = is_body_name in
    let spot = spot_of_body place 1 in
    let escape = first_offset (is_bad_escape body) body in
    let control = first_byte is_control body in
    let blank = first_offset (is_end_blank body) body in
    let tail = first_offset (is_escaped_end body) body in
    chain (both_say T _ _ (asked T spot name.QpSyntax (earlier escape control) refl)
    (first_says T _ _ (asked T spot name.QpBlank (earlier blank tail) refl) (free T spot name.EightBitBody (first_byte is_high body) refl))) (
      λ h.
          let syntax = not_earlier escape control h.0 in
          let blanks = not_earlier blank tail h.1 in
          quoted_of body (record {
            escapes = nowhere_found (is_bad_escape body) body syntax.0;
            ends = nowhere_found (is_escaped_end body) body blanks.1;
            blanks = nowhere_found (is_end_blank body) body blanks.0;
            controls = none_first is_control body syntax.1;
          }),
      λ h. let q = of_quoted body h in (
        none_earlier escape control (found_nowhere (is_bad_escape body) body q.escapes) (first_none is_control body q.controls),
        none_earlier blank tail (found_nowhere (is_end_blank body) body q.blanks) (found_nowhere (is_escaped_end body) body q.ends),
      ),
    )
encoded_says place in_7bit body = (λ h. tt, λ h. free is_body_name (spot_of_body place 1) name.EightBitBody (first_byte is_high body) refl)
encoded_says place in_8bit body = (λ h. tt, λ h. tt)
encoded_says place in_binary body = (λ h. tt, λ h. tt)

-- if only the body says something
leaf_message : (known : Charsets) (test : Name → Bool) {A : Type 0} (number : ℕ) (place : Place)
    → AllByRecursion (λ n. test n ≡ false) (name.Many ∷ byte_names) → AllByRecursion (λ n. test n ≡ false) block_names
    → AllByRecursion (λ n. test n ≡ false) file_names → AllByRecursion (λ n. test n ≡ false) part_names
    → (Lacks test (body_findings known place (root place.part)) ↔ A)
    → Lacks test (message_findings known number place) ↔ (is_single place.part ≡ true → A)
leaf_message known test number place f g h k says =
    let node = root place.part in
    chain (message_says known test f number place (nothing test _ (block_free known test g number place (header_lines node)))
    (nothing test _ (files_free known test h (spot_in place 0 (length node.block)) (shown_as node) node))
    (nothing test _ (parts_free known test k place (dash_of node.ctype)))
    (if_says test (is_single place.part) (body_findings known place node) says))
    (λ h. h.1.1.1, λ a. (tt, (tt, (tt, a))))

body_message : (known : Charsets) (number : ℕ) (place : Place)
    → Lacks is_body_name (message_findings known number place) ↔ HasStrictBody place.part
body_message known number place =
    let T = is_body_name in
    let node = root place.part in
    chain (leaf_message known T number place (frees known T (name.Many ∷ byte_names) refl) (frees known T block_names refl)
    (frees known T file_names refl) (frees known T part_names refl)
    (first_says T _ _ (encoded_says place (body_kind node) node.body) (texts_free known T (frees known T text_names refl) place node node.body)))
    (λ h. record { encoded = h }, λ s. s.encoded)

text_message : (known : Charsets) (number : ℕ) (place : Place)
    → Lacks is_text_name (message_findings known number place) ↔ HasStrictText known place.part
text_message known number place =
    let T = is_text_name in
    let node = root place.part in
    chain (leaf_message known T number place (frees known T (name.Many ∷ byte_names) refl) (frees known T block_names refl)
    (frees known T file_names refl) (frees known T part_names refl)
    (second_says T _ _ (encoded_free known T (frees known T encoded_names refl) place (body_kind node) node.body)
    (second_says T _ _ (free T (spot_of_body place 1) name.Uuencode (file_line node.ctype node.body) refl)
    (chain (asked_if T (spot_of_body place (length node.body)) name.Charset (has_bad_text known node) refl) (text_strict known node)))))
    (λ h. record { readable = h }, λ s. s.readable)

-- ---- how many there are

near_says : (known : Charsets) (number : ℕ) (found : List Place) → Lacks is_many_name (findings_from known number found) ↔ AreNear number found
near_says known number [] = (λ h. tt, λ h. tt)
near_says known number (place ∷ found) =
    let T = is_many_name in
    let node = root place.part in
    both_say T _ _
    (second_says T _ _ (if_free T (number == 0) (first_findings (spot_in place 0 1) node.bytes)
    (bytes_free known T (frees known T byte_names refl) (spot_in place 0 1) node.bytes))
    (first_says T _ _ (asked_if T (spot_in place 0 (length node.bytes)) name.Many (is_far number place) refl)
    (lacks_both T _ _ (block_free known T (frees known T block_names refl) number place (header_lines node))
    (after_free known T (frees known T later_names refl) place))))
    (near_says known (suc number) found)

-- no mail and no part of it is a mail inside that is not read
abbrev is_inside_name : Name → Bool
is_inside_name n = same_group Inside (group_of n)

inside_says : (known : Charsets) (found : List Place) → Lacks is_inside_name (findings_from known 0 found)
inside_says known found = (places_say known is_inside_name (λ place. ⊤) (λ number place.
    let T = is_inside_name in
    let node = root place.part in
    chain (block_alone known T (frees known T (name.Many ∷ byte_names) refl) (frees known T later_names refl) number place
    (nothing T _ (block_free known T (frees known T block_names refl) number place (header_lines node)))) (λ h. h, λ h. h)) 0 found).1
    (all_free (λ place. ⊤) (λ place. tt) found)

-- ---- all names but the notes

-- those of all laws
abbrev laws : List (Name → Bool)
laws =
    is_line_name ∷ is_block_name ∷ is_field_name ∷ is_parameter_name ∷ is_own_file_name ∷ is_from_name ∷ is_word_name
    ∷ is_part_name ∷ is_body_name ∷ is_text_name ∷ is_many_name ∷ is_inside_name ∷ []

abbrev is_covered : Name → Bool
is_covered n = list_any (λ (law : Name → Bool). law n) laws

core_covered : (n : Name) → is_core n ≡ is_covered n
core_covered name.Nul = refl
core_covered name.LoneCr = refl
core_covered name.MixedLineEnds = refl
core_covered name.LongLine = refl
core_covered name.Many = refl
core_covered name.NoHeaders = refl
core_covered name.NoBlankLine = refl
core_covered name.BadKey = refl
core_covered name.BlankFold = refl
core_covered name.CommentFold = refl
core_covered name.Header8bit = refl
core_covered name.Duplicate = refl
core_covered name.TypeSyntax = refl
core_covered name.DuplicateParameter = refl
core_covered name.QuotedSpecial = refl
core_covered name.QuotedPair = refl
core_covered name.ExtendedParameter = refl
core_covered name.TypeExtended = refl
core_covered name.WordParameter = refl
core_covered name.TypeWord = refl
core_covered name.NoType = refl
core_covered name.TwoNames = refl
core_covered name.UnsafeName = refl
core_covered name.FromSyntax = refl
core_covered name.WordSyntax = refl
core_covered name.WordJoin = refl
core_covered name.WordBytes = refl
core_covered name.NameAddress = refl
core_covered name.EncodingSyntax = refl
core_covered name.EncodingOnComposite = refl
core_covered name.OtherMessage = refl
core_covered name.BadBoundary = refl
core_covered name.Preamble = refl
core_covered name.NoDelimiter = refl
core_covered name.DelimiterInside = refl
core_covered name.DelimiterTail = refl
core_covered name.NoClose = refl
core_covered name.LateDelimiter = refl
core_covered name.Base64Syntax = refl
core_covered name.Base64Bits = refl
core_covered name.QpSyntax = refl
core_covered name.QpBlank = refl
core_covered name.EightBitBody = refl
core_covered name.Uuencode = refl
core_covered name.Charset = refl
core_covered name.Refused = refl

-- syntax, parameters and names of files
file_names_covered : (n : Name) → is_file_name n ≡ (is_parameter_name n || is_own_file_name n)
file_names_covered n = moved (same_group Syntax (group_of n)) (same_group Parameters (group_of n)) (same_group Files (group_of n))
  where
    moved : (s t u : Bool) → (s || (t || u)) ≡ ((s || t) || u)
    moved true t u = refl
    moved false t u = refl

-- ---- a whole mail

module _ (known : Charsets) (bytes : List ℕ) (t : Tree) (found : List Place) (are : AreThere bytes t found) where
  -- what is so of the messages at all places is so of all messages
  places_are : (P : Tree → Type 0) → AllByRecursion (λ (p : Place). P p.part) found ↔ AllByRecursion P (trees_within t)
  places_are P = (
    λ h. subst (AllByRecursion P) are.parts (map_of_all (λ (p : Place). p.part) P found h),
    λ h. all_of_map (λ (p : Place). p.part) P found (subst (AllByRecursion P) (sym are.parts) h),
  )

  -- what all messages say, if it says something of each that is known
  messages_say : (test : Name → Bool) (Known B S : Node → Type 0)
      → ((number : ℕ) (place : Place) → Lacks test (message_findings known number place) ↔ B (root place.part))
      → ((node : Node) → Known node → B node ↔ S node) → AllByRecursion (λ (t : Tree). Known (root t)) (trees_within t)
      → Lacks test (findings_from known 0 found) ↔ AllByRecursion S (map root (trees_within t))
  messages_say test Known B S says are_known all =
      let trees = trees_within t in
      chain (places_say known test (λ place. B (root place.part)) says 0 found) (chain (places_are (λ t. B (root t))) (
        λ h. map_of_all root S trees (all_with (λ (t : Tree). Known (root t)) (λ (t : Tree). B (root t)) (λ (t : Tree). S (root t))
            (λ t k. (are_known (root t) k).0) trees all h),
        λ h. all_with (λ (t : Tree). Known (root t)) (λ (t : Tree). S (root t)) (λ (t : Tree). B (root t))
            (λ t k. (are_known (root t) k).1) trees all (all_of_map root S trees h),
      ))

  trees_say : (test : Name → Bool) (S : Tree → Type 0)
      → ((number : ℕ) (place : Place) → Lacks test (message_findings known number place) ↔ S place.part)
      → Lacks test (findings_from known 0 found) ↔ AllByRecursion S (trees_within t)
  trees_say test S says = chain (places_say known test (λ place. S place.part) says 0 found) (places_are S)

  -- what only its first message says
  first_say : (test : Name → Bool) (S : Tree → Type 0) → ((place : Place) → Lacks test (message_findings known 0 place) ↔ S place.part)
      → ((number : ℕ) (place : Place) → Lacks test (message_findings known (suc number) place))
      → Lacks test (findings_from known 0 found) ↔ S t
  first_say test S says others = of_first t found are.parts
    where
      of_first : (t : Tree) (found : List Place) → map (λ (p : Place). p.part) found ≡ trees_within t
          → Lacks test (findings_from known 0 found) ↔ S t
      of_first (tree node parts) [] e = absurd (cc)
      of_first (tree node parts) (place ∷ found) e =
          let same : place.part ≡ tree node parts = cc in
          chain (first_place_says known test place found (says place) others)
          (λ h. subst S same h, λ h. subst S (sym same) h)

  root_read : IsRead (root t)
  root_read = of_first t are.each
    where
      of_first : (t : Tree) → AllByRecursion (λ (t : Tree). IsRead (root t)) (trees_within t) → IsRead (root t)
      of_first (tree node parts) all = all.0

  lines_strict : Lacks is_line_name (findings_from known 0 found) ↔ IsText bytes
  lines_strict =
      chain (first_say is_line_name (λ t. IsText (root t).bytes) (text_named known)
      (no_text_named known))
      (λ h. subst IsText are.whole h, λ h. subst IsText (sym are.whole) h)

  pub blocks_strict : Lacks is_block_name (findings_from known 0 found) ↔ HasStrictBlocks t
  blocks_strict = messages_say is_block_name IsRead BlockLacks (λ (node : Node). IsBlock node.block) (block_message known) block_strict are.each

  pub fields_are_of_grammar : Lacks is_field_name (findings_from known 0 found) ↔ AreStrictFields t
  fields_are_of_grammar = messages_say is_field_name IsRead FieldsLack HasStrictFields (field_message known) fields_strict are.each

  pub parameters_are_of_grammar : Lacks is_parameter_name (findings_from known 0 found) ↔ AreStrictParameters t
  parameters_are_of_grammar =
      messages_say is_parameter_name IsRead Plain (λ (node : Node). AllByRecursion HasPlainValue node.headers) (plain_message known)
      (headers_alike HasPlainValue) are.each

  -- if the values are plain
  own_files : AreStrictParameters t → Lacks is_own_file_name (findings_from known 0 found) ↔ AreStrictFileNames t
  own_files plain =
      messages_say is_own_file_name (λ node. IsRead node × Plain node) FilesLack HasStrictFileName (files_message known) files_strict
      (all_with (λ (t : Tree). IsRead (root t)) (λ (t : Tree). AllByRecursion HasPlainValue (root t).headers)
      (λ (t : Tree). IsRead (root t) × Plain (root t)) (λ t is h. (is, (headers_alike HasPlainValue (root t) is).1 h)) (trees_within t)
      are.each (all_of_map root (λ (node : Node). AllByRecursion HasPlainValue node.headers) (trees_within t) plain))

  pub files_are_of_grammar : Lacks is_file_name (findings_from known 0 found) ↔ (AreStrictParameters t × AreStrictFileNames t)
  files_are_of_grammar =
      let xs = findings_from known 0 found in
      chain (same_names_lack is_file_name (λ n. is_parameter_name n || is_own_file_name n) file_names_covered xs)
      (chain (either_lacks is_parameter_name is_own_file_name xs) (
        λ h. let plain = parameters_are_of_grammar.0 h.0 in (plain, (own_files plain).0 h.1),
        λ h. (parameters_are_of_grammar.1 h.0, (own_files h.0).1 h.1),
      ))

  pub senders_are_of_grammar : Lacks is_from_name (findings_from known 0 found) ↔ AreStrictSenders t
  senders_are_of_grammar =
      chain (first_say is_from_name (λ t. AllByRecursion (λ line. HasSenderValue (of_line line)) (header_lines (root t))) (sender_message known)
      (no_sender known)) (headers_alike HasSenderValue (root t) root_read)

  pub words_are_of_grammar : Lacks is_word_name (findings_from known 0 found) ↔ AreStrictWords known t
  words_are_of_grammar =
      messages_say is_word_name IsRead (λ node. AllByRecursion (λ line. HasWordedValue known (of_line line)) (header_lines node))
      (λ (node : Node). AllByRecursion (HasWordedValue known) node.headers) (word_message known) (headers_alike (HasWordedValue known)) are.each

  pub parts_are_of_grammar : Lacks is_part_name (findings_from known 0 found) ↔ AreStrictParts t
  parts_are_of_grammar = trees_say is_part_name HasStrictParts (part_message known)

  pub bodies_are_of_grammar : Lacks is_body_name (findings_from known 0 found) ↔ AreStrictBodies t
  bodies_are_of_grammar = trees_say is_body_name HasStrictBody (body_message known)

  pub texts_are_of_grammar : Lacks is_text_name (findings_from known 0 found) ↔ AreStrictTexts known t
  texts_are_of_grammar = trees_say is_text_name (HasStrictText known) (text_message known)

  pub many_of_grammar : Lacks is_many_name (findings_from known 0 found) ↔ AreNear 0 found
  many_of_grammar = near_says known 0 found

  pub messages_strict : Lacks is_core (findings_from known 0 found) ↔ (HasStrictMessages known bytes t × AreNear 0 found)
  messages_strict =
      let xs = findings_from known 0 found in
      chain (same_names_lack is_core is_covered core_covered xs) (chain (each_law_lacks laws xs) (
        λ h.
            let plain = parameters_are_of_grammar.0 h.1.1.1.0 in
            let rest = h.1.1.1.1.1 in (
              record {
                lines = lines_strict.0 h.0;
                blocks = blocks_strict.0 h.1.0;
                fields = fields_are_of_grammar.0 h.1.1.0;
                parameters = plain;
                files = (own_files plain).0 h.1.1.1.1.0;
                senders = senders_are_of_grammar.0 rest.0;
                words = words_are_of_grammar.0 rest.1.0;
                parts = parts_are_of_grammar.0 rest.1.1.0;
                bodies = bodies_are_of_grammar.0 rest.1.1.1.0;
                texts = texts_are_of_grammar.0 rest.1.1.1.1.0;
              },
              many_of_grammar.0 rest.1.1.1.1.1.0,
            ),
        λ h.
            let is = h.0 in (
              lines_strict.1 is.lines,
              (
                blocks_strict.1 is.blocks,
                (
                  fields_are_of_grammar.1 is.fields,
                  (
                    parameters_are_of_grammar.1 is.parameters,
                    (
                      (own_files is.parameters).1 is.files,
                      (
                        senders_are_of_grammar.1 is.senders,
                        (
                          words_are_of_grammar.1 is.words,
                          (
                            parts_are_of_grammar.1 is.parts,
                            (
                              bodies_are_of_grammar.1 is.bodies,
                              (
                                texts_are_of_grammar.1 is.texts,
                                (
                                  many_of_grammar.1 h.1,
                                  (inside_says known found, tt),
                                ),
                              ),
                            ),
                          ),
                        ),
                      ),
                    ),
                  ),
                ),
              ),
            ),
      ))
