-- A plain outline is written as a strict mail.
use Rattle.std.proofs.Common.{◌≡◌, ◌∙◌, ⊎_elim, ℕ, true, false, not, List, [], ◌∷◌, ◌++◌, length, Some, Ok, Err, codes, refl, sym, ap, subst, inr, arith}
use Rattle.std.specs.Prelude.{◌&&◌}
use Rattle.std.specs.Char.{is_ascii_alphanumeric}
use Rattle.std.specs.List.{AllByRecursion, list_all}
use Rattle.std.proofs.lemmas.Bool.{and_parts, cases_lt, false≢true}
use Rattle.std.proofs.lemmas.Bool.{and_from}
use Rattle.std.proofs.lemmas.Bool.Decides.{nat_tests}
use Rattle.std.proofs.lemmas.List.{drop_at}
use Rattle.mail_codec.specs.Charset.{Charsets}
use Rattle.mail_codec.specs.Places.{has_prefix, is_empty}
use Rattle.mail_codec.specs.QuotedPrintable.{cr_lf}
use Rattle.mailparse.specs.ContentType.{ContentType, default_type}
use Rattle.mailparse.specs.Header.{Header}
use Rattle.mailparse.specs.Mail.{Node, Tree, tree, Forest, no_parts, root, trees_in, trees_within, read_mail_in}
use Rattle.mailparse.specs.Placement.{placements}
use Rattle.mailparse.specs.Refusal.{recursion_limit}
use Rattle.mail_address.specs.Encode.{is_plain_byte, is_plain_value}
use Rattle.mail_check.specs.Findings.{findings}
use Rattle.mail_grammar.specs.Bodies.{HasStrictBody}
use Rattle.mail_grammar.specs.Delimiters.{IsSplit, HasParts, HasStrictParts}
use Rattle.mail_grammar.specs.Fields.{IsType, IsField, HasStrictFields}
use Rattle.mail_grammar.specs.FileNames.{HasStrictFileName}
use Rattle.mail_grammar.specs.Headers.{IsBlock}
use Rattle.mail_grammar.specs.LineEnds.{AreLines}
use Rattle.mail_check_laws.specs.Mail.{IsStrict}
use Rattle.mail_check_laws.specs.Named.{Lacks, is_core}
use Rattle.mail_grammar.specs.PlainParameters.{HasPlainValue}
use Rattle.mail_check_laws.specs.Texts.{HasStrictText, IsReadableText}
use Rattle.mail_check_laws.specs.Worded.{HasSenderValue, HasWordedValue}
use Rattle.mail_check_laws.proofs.lemmas.Mails.{mail_strict}
use Rattle.mail_check_laws.proofs.lemmas.Reading.{all_joined, all_with, map_of_all}
use Rattle.mail_laws.specs.Boundaries.{boundary_type}
use Rattle.mail_clean.specs.PlainOutlines.{IsPlainHeader, ArePlainHeaders, IsPlainLeaf, IsPlainBranch, IsPlainWithin, ArePlainParts, IsPlainOutline, IsTextOf, in_ascii, in_unicode}
use Rattle.mail_laws.specs.Render.{OutlineTree, OutlineForest, leaf, branch, no_outlines, outline_and, dash_boundary, depth, has_plain_values, header_block, is_key, is_plain_within, are_plain_within, is_well_formed_here, is_well_formed_within, are_well_formed_within, is_within_levels, IsWellFormed, rendered, rendered_parts, stands_for, stand_for, type_of, written_headers}
use Rattle.mail_clean.specs.StrictMails.{IsMail}
use Rattle.mail_clean.proofs.lemmas.PlainHeaders.{all_are, all_so, same_written, block_is_strict, lines_joined, plain_lines, line_end, block_lined, value_worded}
use Rattle.mail_clean.proofs.lemmas.PlainParts.{outline_small, parts_split}
use Rattle.mail_clean.proofs.lemmas.PlainTypes.{IsTyped, untyped, typed, one_typed, none_lack, header_field, header_plain, files_are_strict, default_typed, boundary_typed, parted_is_type, leaf_body, leaf_text, named_type, boundary_plain, boundary_names, ascii_readable, utf_8_readable}
use Rattle.mail_clean.proofs.lemmas.PlainTexts.{text_in_utf_8, utf_8_mimetype, text_content_type, text_is_type, text_no_multipart, text_plain, text_own}
use Rattle.mail_laws.proofs.lemmas.RenderReadings.{IsFormed, IsFormed-from, branch-formed, outline_is_read, outline_is_refused}
use Rattle.mail_clean.proofs.lemmas.WholeMails.{mail_is_derived}

-- ---- lines

alphanumeric_plain : (b : ℕ) → is_ascii_alphanumeric b ≡ true → is_plain_byte b ≡ true
alphanumeric_plain b h = grind (arith, nat_tests)

headers_lined : (headers : List Header) → list_all (λ h. is_key h.key) headers ≡ true → ArePlainHeaders headers
    → AreLines (codes "\r\n") (header_block (written_headers headers))
headers_lined headers keys plain =
    subst (λ (hs : List Header). AreLines (codes "\r\n") (header_block hs)) (sym (same_written headers plain.each))
    (block_lined headers keys plain.each)

boundary_bytes : (boundary : List ℕ) → (list_all is_ascii_alphanumeric boundary && not (is_empty boundary)) ≡ true
    → list_all is_plain_byte (dash_boundary boundary) ≡ true
boundary_bytes boundary h =
    all_so is_ascii_alphanumeric is_plain_byte alphanumeric_plain boundary
    (and_parts (list_all is_ascii_alphanumeric boundary) (not (is_empty boundary)) h).0

mutual
  outline_lined : (outline : OutlineTree) → is_well_formed_within outline ≡ true → IsPlainWithin outline
      → AreLines (codes "\r\n") (rendered outline)
  outline_lined (leaf headers body) formed plain =
      let is = IsFormed-from (leaf headers body) formed in
      lines_joined (codes "\r\n") (header_block (written_headers headers)) body
      (headers_lined headers is.keys plain.headed) plain.lines
  outline_lined (branch headers boundary parts) formed plain =
      let is = branch-formed headers boundary parts formed in
      let both = and_parts (is_well_formed_here (branch headers boundary parts)) (are_well_formed_within parts) formed in
      lines_joined (codes "\r\n") (header_block (written_headers headers)) (rendered_parts boundary parts)
      (headers_lined headers is.keys plain.0.headed)
      (parts_lined boundary (boundary_bytes boundary is.plain) parts both.1 plain.1)

  parts_lined : (boundary : List ℕ) → list_all is_plain_byte (dash_boundary boundary) ≡ true → (parts : OutlineForest)
      → are_well_formed_within parts ≡ true → ArePlainParts boundary parts
      → AreLines (codes "\r\n") (rendered_parts boundary parts)
  parts_lined boundary dashed no_outlines formed plain =
      lines_joined (codes "\r\n") (dash_boundary boundary) (codes "--\r\n") (plain_lines (dash_boundary boundary) dashed)
      (lines_joined (codes "\r\n") (codes "--") (codes "\r\n") (plain_lines (codes "--") refl)
      (line_end [] (plain_lines [] refl)))
  parts_lined boundary dashed (outline_and part parts) formed plain =
      let both = and_parts (is_well_formed_within part) (are_well_formed_within parts) formed in
      lines_joined (codes "\r\n") (dash_boundary boundary) (cr_lf ++ (rendered part ++ (cr_lf ++ rendered_parts boundary parts)))
      (plain_lines (dash_boundary boundary) dashed)
      (line_end (rendered part ++ (cr_lf ++ rendered_parts boundary parts))
      (lines_joined (codes "\r\n") (rendered part) (cr_lf ++ rendered_parts boundary parts) (outline_lined part both.0 plain.1.0)
      (line_end (rendered_parts boundary parts) (parts_lined boundary dashed parts both.1 plain.1.1))))

-- ---- each message

-- a message with its parts is that of a strict mail
record IsStrictTree (known : Charsets) (t : Tree) : Type 0 where
  block : IsBlock (root t).block
  fields : HasStrictFields (root t)
  parameters : AllByRecursion HasPlainValue (root t).headers
  files : HasStrictFileName (root t)
  words : AllByRecursion (HasWordedValue known) (root t).headers
  parts : HasStrictParts t
  body : HasStrictBody t
  text : HasStrictText known t

module _ (known : Charsets) where
  -- a message of an outline's headers, with these as they are written
  abbrev message : List ℕ → List Header → List Header → List ℕ → Node
  message bytes headers written body = record {
    bytes = bytes;
    block = header_block written;
    headers = written;
    ctype = type_of known headers;
    body = body;
  }

  -- what its headers say
  from_headers : (node : Node) (parts : Forest) → node.block ≡ header_block node.headers
      → list_all (λ h. is_key h.key) node.headers ≡ true → ArePlainHeaders node.headers
      → AllByRecursion (IsTyped node.ctype) node.headers → HasStrictParts (tree node parts) → HasStrictBody (tree node parts)
      → HasStrictText known (tree node parts) → IsStrictTree known (tree node parts)
  from_headers node parts block keys plain type split body text = record {
    block = subst IsBlock (sym block) (block_is_strict node.headers plain.some keys plain.each);
    fields = record {
      once = plain.once;
      each = all_with IsPlainHeader (IsTyped node.ctype) (IsField node.ctype)
          (header_field node.ctype) node.headers plain.each type;
    };
    parameters = all_with IsPlainHeader (IsTyped node.ctype) HasPlainValue (header_plain node.ctype) node.headers plain.each type;
    files = files_are_strict node keys plain.each type;
    words = all_are IsPlainHeader (HasWordedValue known) (value_worded known) node.headers plain.each;
    parts = split;
    body = body;
    text = text;
  }

  -- a leaf whose type and text are these
  leaf_made : (headers : List Header) (body : List ℕ) → IsFormed (leaf headers body) → ArePlainHeaders headers
      → (ctype : ContentType)
      → type_of known headers ≡ ctype → has_prefix (codes "multipart/") ctype.mimetype ≡ false
      → AllByRecursion (IsTyped (type_of known headers)) headers → IsReadableText known ctype.charset body
      → IsStrictTree known (stands_for known (leaf headers body))
  leaf_made headers body formed plain ctype type other named text =
      let bytes = rendered (leaf headers body) in
      let node = message bytes headers headers body in
      subst (λ (hs : List Header). IsStrictTree known (tree (message bytes headers hs body) no_parts))
      (sym (same_written headers plain.each))
      (from_headers node no_parts refl formed.keys plain named
      (record {
        split = λ text is named good.
            absurd (false≢true (sym (ap (λ (c : ContentType). has_prefix (codes "multipart/") c.mimetype) type ∙ other) ∙ is));
      })
      (leaf_body node no_parts formed.keys plain.each)
      (leaf_text known node no_parts formed.keys plain.each ctype.charset (ap (λ (c : ContentType). c.charset) type) text))

  text_strict : (headers : List Header) (body : List ℕ) → IsFormed (leaf headers body) → ArePlainHeaders headers
      → AreLines (codes "\r\n") body → IsTextOf headers body → IsStrictTree known (stands_for known (leaf headers body))
  text_strict headers body formed plain lines (in_ascii none ascii) =
      leaf_made headers body formed plain default_type (default_typed known headers none) refl
      (untyped (type_of known headers) headers (none_lack (codes "Content-Type") headers none))
      (ascii_readable known body ascii lines)
  text_strict headers body formed plain lines (in_unicode {value = value} text names utf_8 mark) =
      let ctype = text_in_utf_8 (utf_8_mimetype text) in
      let type = named_type known headers value ctype names (text_content_type known value text) in
      leaf_made headers body formed plain ctype type (text_no_multipart value text)
      (typed value (text_plain value text) (text_own value text) (type_of known headers)
      (subst IsType (sym type) (text_is_type value text)) headers (one_typed value headers plain.once.0 names))
      (utf_8_readable known body utf_8 mark lines)

  leaf_strict : (headers : List Header) (body : List ℕ) → IsFormed (leaf headers body) → IsPlainLeaf headers body
      → IsStrictTree known (stands_for known (leaf headers body))
  leaf_strict headers body formed plain = text_strict headers body formed plain.headed plain.lines plain.text

  branch_strict : (headers : List Header) (boundary : List ℕ) (parts : OutlineForest) → IsFormed (branch headers boundary parts)
      → IsPlainBranch headers boundary → ArePlainParts boundary parts
      → IsStrictTree known (stands_for known (branch headers boundary parts))
  branch_strict headers boundary no_outlines formed plain apart = absurd (false≢true formed.some)
  branch_strict headers [] (outline_and part parts) formed plain apart = absurd (false≢true formed.plain)
  branch_strict headers (b ∷ bs) (outline_and part parts) formed plain apart =
      let all = (and_parts (list_all is_ascii_alphanumeric (b ∷ bs)) true formed.plain).0 in
      let boundary = b ∷ bs in
      let type = boundary_typed known headers boundary formed.names all in
      let is = subst IsType (sym type) (parted_is_type b bs all plain.short) in
      let text = rendered_parts boundary (outline_and part parts) in
      let inner = stand_for known (outline_and part parts) in
      let made : List Header → Tree = λ hs. tree (message (header_block hs ++ text) headers hs []) inner in
      subst (λ hs. IsStrictTree known (made hs)) (sym (same_written headers plain.headed.each))
      (from_headers (message (header_block headers ++ text) headers headers []) inner refl formed.keys plain.headed
      (typed (boundary_type boundary) (boundary_plain b bs all) (boundary_names b bs all) (type_of known headers) is headers
      (one_typed (boundary_type boundary) headers plain.headed.once.0 formed.names))
      (record {
        split = λ named multi found good.
            let both : Some named ≡ Some boundary = sym found ∙ ap (λ (c : ContentType). c.params (codes "boundary")) type in
            let same : boundary ≡ named = cc in
            subst (λ (x : List ℕ). IsSplit (codes "--" ++ x) (made headers)) same
            (record {
              parts = refl;
              preamble = refl;
              text = subst (HasParts (dash_boundary boundary) true)
                  (sym (drop_at (header_block headers) text (length (header_block headers)) refl))
                  (parts_split b bs all part parts apart);
            });
      })
      (record { encoded = λ e. absurd (false≢true e) })
      (record { readable = λ e f. absurd (false≢true e) }))

  mutual
    outline_strict : (outline : OutlineTree) → is_well_formed_within outline ≡ true → IsPlainWithin outline
        → AllByRecursion (IsStrictTree known) (trees_within (stands_for known outline))
    outline_strict (leaf headers body) formed plain = (
      leaf_strict headers body
          (IsFormed-from (leaf headers body) formed) plain,
      tt,
    )
    outline_strict (branch headers boundary parts) formed plain =
        let both = and_parts (is_well_formed_here (branch headers boundary parts)) (are_well_formed_within parts) formed in (
          branch_strict headers boundary parts
              (branch-formed headers boundary parts formed) plain.0 plain.1,
          parts_strict boundary parts both.1 plain.1,
        )

    parts_strict : (boundary : List ℕ) (parts : OutlineForest) → are_well_formed_within parts ≡ true
        → ArePlainParts boundary parts
        → AllByRecursion (IsStrictTree known) (trees_in (stand_for known parts))
    parts_strict boundary no_outlines formed plain = tt
    parts_strict boundary (outline_and part parts) formed plain =
        let both = and_parts (is_well_formed_within part) (are_well_formed_within parts) formed in
        all_joined (IsStrictTree known) (trees_within (stands_for known part)) (trees_in (stand_for known parts))
        (outline_strict part both.0 plain.1.0) (parts_strict boundary parts both.1 plain.1.1)

  -- ---- the mail

  senders_strict : (outline : OutlineTree) → IsPlainWithin outline
      → AllByRecursion HasSenderValue (root (stands_for known outline)).headers
  senders_strict (leaf headers body) plain =
      subst (AllByRecursion HasSenderValue) (sym (same_written headers plain.headed.each))
      (all_are IsPlainHeader HasSenderValue (λ h is. is.sender) headers plain.headed.each)
  senders_strict (branch headers boundary parts) plain =
      subst (AllByRecursion HasSenderValue) (sym (same_written headers plain.0.headed.each))
      (all_are IsPlainHeader HasSenderValue (λ h is. is.sender) headers plain.0.headed.each)

  within_levels : (outline : OutlineTree) → IsWellFormed outline → is_well_formed_within outline ≡ true
  within_levels outline formed = (and_parts (is_well_formed_within outline) (is_within_levels outline) formed).0

  pub plain_is_strict : (outline : OutlineTree) → IsWellFormed outline → IsPlainOutline outline
      → IsStrict known (rendered outline) (stands_for known outline)
  plain_is_strict outline formed plain =
      let inside = within_levels outline formed in
      let t = stands_for known outline in
      let all = trees_within t in
      let each = outline_strict outline inside plain.within in
      record {
        messages = record {
          lines = inr (outline_lined outline inside plain.within);
          blocks = map_of_all root (λ node. IsBlock node.block) all
              (all_are (IsStrictTree known) (λ t. IsBlock (root t).block) (λ t is. is.block) all each);
          fields = map_of_all root HasStrictFields all
              (all_are (IsStrictTree known) (λ t. HasStrictFields (root t)) (λ t is. is.fields) all each);
          parameters = map_of_all root (λ node. AllByRecursion HasPlainValue node.headers) all
              (all_are (IsStrictTree known) (λ t. AllByRecursion HasPlainValue (root t).headers)
              (λ t is. is.parameters) all each);
          files = map_of_all root HasStrictFileName all
              (all_are (IsStrictTree known) (λ t. HasStrictFileName (root t)) (λ t is. is.files) all each);
          senders = senders_strict outline plain.within;
          words = map_of_all root (λ node. AllByRecursion (HasWordedValue known) node.headers) all
              (all_are (IsStrictTree known) (λ t. AllByRecursion (HasWordedValue known) (root t).headers)
              (λ t is. is.words) all each);
          parts = all_are (IsStrictTree known) HasStrictParts (λ t is. is.parts) all each;
          bodies = all_are (IsStrictTree known) HasStrictBody (λ t is. is.body) all each;
          texts = all_are (IsStrictTree known) (HasStrictText known) (λ t is. is.text) all each;
        };
        small = outline_small known outline plain.levels plain.messages;
      }

  -- no value of a plain outline is written as encoded words
  values_plain : (headers : List Header) → AllByRecursion IsPlainHeader headers
      → list_all (λ h. is_plain_value h.value) headers ≡ true
  values_plain [] plain = refl
  values_plain (h ∷ headers) plain =
      and_from (is_plain_value h.value) (list_all (λ x. is_plain_value x.value) headers) plain.0.value
      (values_plain headers plain.1)

  mutual
    words_plain : (outline : OutlineTree) → IsPlainWithin outline → is_plain_within outline ≡ true
    words_plain (leaf headers body) plain = values_plain headers plain.headed.each
    words_plain (branch headers boundary parts) plain =
        and_from (has_plain_values (branch headers boundary parts)) (are_plain_within parts)
        (values_plain headers plain.0.headed.each)
        (words_of_parts_plain boundary parts plain.1)

    words_of_parts_plain : (boundary : List ℕ) (parts : OutlineForest) → ArePlainParts boundary parts
        → are_plain_within parts ≡ true
    words_of_parts_plain boundary no_outlines plain = refl
    words_of_parts_plain boundary (outline_and part parts) plain =
        and_from (is_plain_within part) (are_plain_within parts) (words_plain part plain.1.0)
        (words_of_parts_plain boundary parts plain.1.1)

  pub plain_is_clean : (greatest : ℕ) (outline : OutlineTree) (t : Tree) → IsWellFormed outline → IsPlainOutline outline
      → read_mail_in known greatest (rendered outline) ≡ Ok t → Lacks is_core (findings known t (placements 0 t))
  plain_is_clean greatest outline t formed plain read =
      let inside = within_levels outline formed in
      let able = inr (words_plain outline plain.within) in
      let bytes = rendered outline in
      ⊎_elim (λ deep. let both : Err recursion_limit ≡ Ok t = sym (outline_is_refused known greatest outline able inside deep)
      ∙ read in absurd (cc))
      (λ within.
      let both : Ok (stands_for known outline) ≡ Ok t = sym (outline_is_read known greatest outline able inside within) ∙ read in
      let same : stands_for known outline ≡ t = cc in
      (mail_strict known greatest bytes t read).1 (subst (IsStrict known bytes) same (plain_is_strict outline formed plain)))
      (cases_lt greatest (depth outline))

  pub plain_is_mail : (outline : OutlineTree) → IsWellFormed outline → IsPlainOutline outline
      → IsMail known (rendered outline) (stands_for known outline)
  plain_is_mail outline formed plain =
      let inside = within_levels outline formed in
      let able = inr (words_plain outline plain.within) in
      mail_is_derived known (depth outline) (rendered outline) (stands_for known outline)
      (outline_is_read known (depth outline) outline able inside (omega arith)) (plain_is_strict outline formed plain)
