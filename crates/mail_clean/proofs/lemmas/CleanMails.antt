-- A mail without findings but notes needs no lenient reading.
use Rattle.std.proofs.Common.{◌≡◌, ◌∙◌, ◌+◌, ◌-◌, ℕ, zero, suc, Bool, true, false, not, cond, List, [], ◌∷◌, ◌++◌, length, take}
use Rattle.std.proofs.Common.{drop, map, Option, Some, None, Ok, Err, refl, sym, ap, subst, inl, inr, arith, find}
use Rattle.std.proofs.Common.{take-append-drop}
use Rattle.std.specs.Prelude.{◌⊎◌, ◌&&◌, ◌==◌, codes}
use Rattle.std.specs.List.{AllByRecursion, list_all}
use Rattle.std.specs.Option.{option_map_or}
use Rattle.std.specs.Str.{str_eq_ignore_ascii_case}
use Rattle.std.proofs.lemmas.Bool.{lt-ltb, ltb-false}
use Rattle.std.proofs.lemmas.Bool.{and_from, and_parts, not_from_false}
use Rattle.std.proofs.lemmas.Slice.Eq.{bytes_eq-Decides}
use Rattle.std.proofs.lemmas.Str.{encodes-IsAscii}
use Rattle.mail_codec.specs.Ascii.{colon, line_feed, tilde}
use Rattle.mail_codec.specs.Charset.{Charsets}
use Rattle.mail_codec.specs.Places.{has_prefix}
use Rattle.mailparse.specs.Block.{HeaderList, header_lines_end, is_dash_line, read_headers}
use Rattle.mailparse.specs.ContentType.{ContentType, content_type_in}
use Rattle.mailparse.specs.Delimiters.{Cut}
use Rattle.mailparse.specs.Header.{Header, header_length, key_end, value_end, value_start}
use Rattle.mailparse.specs.Mail.{strict, Node, Tree, tree, Forest, no_parts, part_and, cut_of, cut_of_as, is_digest, node_type}
use Rattle.mailparse.specs.Mail.{node_with, part_type, read_each, read_levels, read_mail_as, read_mail_in, read_parts, root}
use Rattle.mailparse.specs.Mail.{trees_in, trees_within}
use Rattle.mailparse.specs.Map.{first_with_key, has_key}
use Rattle.mailparse.specs.Placement.{placements}
use Rattle.mailparse.specs.Ranges.{slice}
use Rattle.mailparse.specs.Refusal.{◌>>=◌, Reads}
use Rattle.mailparse.specs.Value.{lenient_value_in}
use Rattle.mailparse.proofs.lemmas.Refusal.{read_map}
use Rattle.mail_read.specs.lenient.Agreement.{is_strict_value}
use Rattle.mail_read.specs.lenient.Manner.{lenient}
use Rattle.mail_check.specs.Findings.{findings}
use Rattle.mail_check.specs.Lines.{header_lines, lines_from}
use Rattle.mail_grammar.specs.Delimiters.{HasParts, HasStrictParts}
use Rattle.mail_grammar.specs.Fields.{HasBoundary, of_multipart, of_other, HasStrictFields, IsBoundary, IsField}
use Rattle.mail_grammar.specs.Headers.{is_name_byte, IsValue, value_ends, value_byte, value_folds, IsHeader}
use Rattle.mail_grammar.specs.Headers.{IsBlock, last_header, next_header}
use Rattle.mail_check_laws.specs.Mail.{IsStrict}
use Rattle.mail_check_laws.specs.Named.{Lacks, is_core}
use Rattle.mail_grammar.specs.PlainParameters.{HasPlainValue}
use Rattle.mail_check_laws.proofs.lemmas.Headers.{name_parts}
use Rattle.mail_check_laws.proofs.lemmas.Keys.{lines_are_headers, of_line}
use Rattle.mail_check_laws.proofs.lemmas.Mails.{mail_strict}
use Rattle.mail_check_laws.proofs.lemmas.Reading.{IsRead, all_joined, all_of_map, all_with, mail-there, map_of_all}
use Rattle.mail_laws.specs.LenientAgreement.{are_strict, has_bare_keys, has_no_dash_line, has_strict_headers, has_strict_type}
use Rattle.mail_laws.specs.LenientAgreement.{has_whole_delimiters, is_strict_mail, is_strict_message, offsets}
use Rattle.mail_grammar.proofs.lemmas.FlatPairs.{all_both, is_low, low_ascii}
use Rattle.mail_grammar.proofs.lemmas.FoldedTypes.{plain_type_strict}
use Rattle.mail_clean.proofs.lemmas.BareKeys.{block_bare}
use Rattle.mail_clean.proofs.lemmas.HeaderLines.{block_undashed}
use Rattle.mail_laws.proofs.lemmas.LenientAgreement.{strict-mails-agree}
use Rattle.mail_clean.proofs.lemmas.PlainValues.{type_meant}
use Rattle.mail_clean.proofs.lemmas.WholeLines.{cuts_alike}
use Rattle.mail_grammar.proofs.lemmas.Boundaries.{all_head, all_tail}

-- ---- header blocks are ASCII

name_low : (name : List ℕ) → list_all is_name_byte name ≡ true → list_all is_low name ≡ true
name_low [] all = refl
name_low (b ∷ name) all =
    let most = ltb-false tilde b (name_parts b (all_head is_name_byte b name all)).1 in
    and_from (is_low b) (list_all is_low name) (lt-ltb b 128 (omega (arith, most)))
    (name_low name (all_tail is_name_byte b name all))

value_low : (value : List ℕ) → IsValue value → list_all is_low value ≡ true
value_low value value_ends = refl
value_low value (value_byte {b = b} {rest = more} is left) =
    and_from (is_low b) (list_all is_low more) (and_parts (is_low b) (not (b == line_feed)) is).0 (value_low more left)
value_low value (value_folds {rest = more} blank text left made) =
    subst (λ (xs : List ℕ). list_all is_low xs ≡ true) (sym made) (value_low more left)

header_low : (header : List ℕ) → IsHeader header → list_all is_low header ≡ true
header_low header is =
    subst (λ (xs : List ℕ). list_all is_low xs ≡ true) (sym is.made)
    (all_both is_low (is.first ∷ is.others) (colon ∷ is.value) (name_low (is.first ∷ is.others) is.is_name)
    (value_low is.value is.is_value))

line_low : (line : List ℕ) → (line ≡ codes "\n") ⊎ (line ≡ codes "\r\n") → list_all is_low line ≡ true
line_low line (inl e) = ap (list_all is_low) e
line_low line (inr e) = ap (list_all is_low) e

block_low : (part : List ℕ) → IsBlock part → list_all is_low part ≡ true
block_low part (last_header {header = header} {line = line} is ends made) =
    subst (λ (xs : List ℕ). list_all is_low xs ≡ true) (sym made)
    (all_both is_low header line (header_low header is) (line_low line ends))
block_low part (next_header {header = header} {rest = rest} is more made) =
    subst (λ (xs : List ℕ). list_all is_low xs ≡ true) (sym made)
    (all_both is_low header rest (header_low header is) (block_low rest more))

take_low : (n : ℕ) (xs : List ℕ) → list_all is_low xs ≡ true → list_all is_low (take n xs) ≡ true
take_low zero xs h = refl
take_low (suc n) [] h = refl
take_low (suc n) (b ∷ xs) h =
    and_from (is_low b) (list_all is_low (take n xs)) (all_head is_low b xs h) (take_low n xs (all_tail is_low b xs h))

drop_low : (n : ℕ) (xs : List ℕ) → list_all is_low xs ≡ true → list_all is_low (drop n xs) ≡ true
drop_low zero xs h = h
drop_low (suc n) [] h = refl
drop_low (suc n) (b ∷ xs) h = drop_low n xs (all_tail is_low b xs h)

-- so are the headers
abbrev pub IsLow : Header → Type 0
IsLow header = (list_all is_low header.key ≡ true) × (list_all is_low header.value ≡ true)

lines_low : (headers : List Header) (block : List ℕ) (at : ℕ) → list_all is_low block ≡ true
    → AllByRecursion (λ line. IsLow (of_line line)) (lines_from headers block at)
lines_low [] block at low = tt
lines_low (h ∷ headers) block at low =
    let rest : List ℕ = drop at block in
    let low_rest = drop_low at block low in (
      (
        take_low (key_end rest) rest low_rest,
        take_low (value_end rest - value_start rest) (drop (value_start rest) rest)
            (drop_low (value_start rest) rest low_rest),
      ),
      lines_low headers block (at + header_length rest) low,
    )

pub headers_low : (node : Node) → IsRead node → IsBlock node.block → AllByRecursion IsLow node.headers
headers_low node read is =
    subst (AllByRecursion IsLow) (lines_are_headers node read)
    (map_of_all of_line IsLow (header_lines node) (lines_low node.headers node.block 0 (block_low node.block is)))

-- ---- the types of messages

-- the type of a message is that which its headers name
abbrev pub IsTyped : Charsets → Node → Type 0
IsTyped known node = (in_digest : Bool) × (node.ctype ≡ node_type known in_digest node.headers)

module _ (known : Charsets) where
  abbrev AreTyped : Tree → Type 0
  AreTyped t = AllByRecursion (λ (t : Tree). IsTyped known (root t)) (trees_within t)

  abbrev AllTyped : Forest → Type 0
  AllTyped parts = AllByRecursion (λ (t : Tree). IsTyped known (root t)) (trees_in parts)

  each_typed : (read : List ℕ → Reads Tree) → ((bytes : List ℕ) (t : Tree) → read bytes ≡ Ok t → AreTyped t)
      → (parts : List (List ℕ)) (found : Forest)
      → read_each read parts ≡ Ok found → AllTyped found
  each_typed read good [] found e =
      let same : no_parts ≡ found = cc in
      subst AllTyped same tt
  each_typed read good (part ∷ parts) found e =
      by_part (read part) (read_each read parts) refl refl e (each_typed read good parts)
    where
      by_part : (first : Reads Tree) (rest : Reads Forest) → read part ≡ first → read_each read parts ≡ rest
          → ◌>>=◌ first (λ t. read_map (part_and t) rest) ≡ Ok found
          → ((others : Forest) → read_each read parts ≡ Ok others → AllTyped others) → AllTyped found
      by_part (Err refusal) rest f g h ih = absurd (cc)
      by_part (Ok t) (Err refusal) f g h ih = absurd (cc)
      by_part (Ok t) (Ok others) f g h ih =
          let same : part_and t others ≡ found = cc in
          subst AllTyped same (all_joined (λ (t : Tree). IsTyped known (root t)) (trees_within t) (trees_in others)
          (good part t f) (ih others g))

  levels_typed : (levels : ℕ) (in_digest : Bool) (bytes : List ℕ) (t : Tree)
      → read_levels (strict known) levels in_digest bytes ≡ Ok t → AreTyped t
  unfolding read_levels
  levels_typed zero in_digest bytes t e = absurd (cc)
  levels_typed (suc levels) in_digest bytes t e = by_block (read_headers bytes) e (λ digest. levels_typed levels digest)
    where
      by_parts : (block : HeaderList) (parts : Reads Forest)
          → read_each (read_levels (strict known) levels (is_digest (node_type known in_digest block.headers)))
          (map (slice bytes) (cut_of (node_type known in_digest block.headers) bytes block.index).parts) ≡ parts
          → read_map (tree (node_with bytes block (node_type known in_digest block.headers)
          (cut_of (node_type known in_digest block.headers) bytes block.index))) parts ≡ Ok t
          → ((digest : Bool) (bytes : List ℕ) (t : Tree) → read_levels (strict known) levels digest bytes ≡ Ok t → AreTyped t)
          → AreTyped t
      by_parts block (Err refusal) f h ih = absurd (cc)
      by_parts block (Ok parts) f h ih =
          let ctype = node_type known in_digest block.headers in
          let cut = cut_of ctype bytes block.index in
          let same : tree (node_with bytes block ctype cut) parts ≡ t = cc in
          let more =
          each_typed (read_levels (strict known) levels (is_digest ctype)) (ih (is_digest ctype))
          (map (slice bytes) cut.parts) parts f in
          subst AreTyped same ((in_digest, refl), more)

      by_block : (block : Reads HeaderList)
          → ◌>>=◌ block (λ b. read_parts (strict known) (read_levels (strict known) levels) bytes b
          (node_type known in_digest b.headers)) ≡ Ok t
          → ((digest : Bool) (bytes : List ℕ) (t : Tree) → read_levels (strict known) levels digest bytes ≡ Ok t → AreTyped t)
          → AreTyped t
      by_block (Err refusal) h ih = absurd (cc)
      by_block (Ok block) h ih = by_parts block _ refl h ih

  mail_typed : (greatest : ℕ) (bytes : List ℕ) (t : Tree) → read_mail_in known greatest bytes ≡ Ok t → AreTyped t
  unfolding read_mail_in
  mail_typed greatest bytes t e = levels_typed (suc greatest) false bytes t e

  -- ---- one message

  -- what is so of each message of a mail without findings but notes
  pub record IsClean (t : Tree) : Type 0 where
    pub read : IsRead (root t)
    pub typed : IsTyped known (root t)
    pub block : IsBlock (root t).block
    pub fields : HasStrictFields (root t)
    pub parameters : AllByRecursion HasPlainValue (root t).headers
    pub parts : HasStrictParts t

  -- a header that was found
  found_in : (P : Header → Type 0) (test : Header → Bool) (headers : List Header) (h : Header) → find test headers ≡ Some h
      → AllByRecursion P headers → (test h ≡ true) × P h
  found_in P test [] h e all = let none : None ≡ Some h = e in absurd (cc)
  found_in P test (x ∷ headers) h e all = by_test (test x) refl e (λ f. found_in P test headers h f all.1)
    where
      by_test : (t : Bool) → test x ≡ t → cond t (Some x) (find test headers) ≡ Some h
          → (find test headers ≡ Some h → (test h ≡ true) × P h) → (test h ≡ true) × P h
      by_test true is e ih =
          let same : x ≡ h = cc in
          (sym (ap test same) ∙ is, subst P same all.0)
      by_test false is e ih = ih e

  -- the first `Content-Type` of a message, if there is one
  abbrev pub TypeHeader : Tree → Header → Type 0
  TypeHeader t h =
      (list_all is_low h.value ≡ true) × HasBoundary (root t).ctype × (is_strict_value known h.value ≡ true)

  pub type_found : (in_digest : Bool) (headers : List Header) (h : Header) → first_with_key (codes "Content-Type") headers ≡ Some h
      → node_type known in_digest headers ≡ content_type_in known (lenient_value_in known h.value)
  unfolding node_type
  type_found in_digest headers h e =
      ap (λ (o : Option Header). option_map_or (λ h. content_type_in known (lenient_value_in known h.value)) o
      (part_type in_digest)) e

  pub type_header : (t : Tree) → IsClean t → (h : Header) → first_with_key (codes "Content-Type") (root t).headers ≡ Some h
      → TypeHeader t h
  type_header t is h e =
      let headers : List Header = (root t).headers in
      let low = found_in IsLow (has_key (codes "Content-Type")) headers h e (headers_low (root t) is.read is.block) in
      let named : str_eq_ignore_ascii_case h.key (codes "Content-Type") ≡ true =
      sym (ap (λ (k : List ℕ). str_eq_ignore_ascii_case k (codes "Content-Type"))
      (encodes-IsAscii h.key (low_ascii h.key low.1.0))) ∙ low.0 in
      let plain = (found_in HasPlainValue (has_key (codes "Content-Type")) headers h e is.parameters).1.type named in
      let boundary =
      ((found_in (IsField (root t).ctype)
      (has_key (codes "Content-Type")) headers h e is.fields.each).1.type named).boundary in (
        low.1.1,
        boundary,
        plain_type_strict known h.value low.1.1 (type_meant h.value plain).is
            (subst HasBoundary (is.typed.1 ∙ type_found is.typed.0 headers h e) boundary),
      )

  -- without one it is no multipart
  pub default_single : (in_digest : Bool) → has_prefix (codes "multipart") (part_type in_digest).mimetype ≡ false
  default_single true = refl
  default_single false = refl

  pub no_header : (in_digest : Bool) (headers : List Header) → first_with_key (codes "Content-Type") headers ≡ None
      → node_type known in_digest headers ≡ part_type in_digest
  unfolding node_type
  no_header in_digest headers e =
      ap (λ (o : Option Header). option_map_or (λ h. content_type_in known (lenient_value_in known h.value)) o
      (part_type in_digest)) e

  type_is_strict : (t : Tree) → IsClean t → has_strict_type known (root t).headers ≡ true
  type_is_strict t is = by_header (first_with_key (codes "Content-Type") (root t).headers) refl
    where
      by_header : (o : Option Header) → first_with_key (codes "Content-Type") (root t).headers ≡ o
          → option_map_or (λ h. is_strict_value known h.value) o true ≡ true
      by_header None e = refl
      by_header (Some h) e = (type_header t is h e).2

  -- how it is split
  abbrev Splits : Tree → Type 0
  Splits t =
      (has_prefix (codes "multipart") (root t).ctype.mimetype ≡ false)
      ⊎ ((text : List ℕ) × ((root t).ctype.params (codes "boundary") ≡ Some text) × IsBoundary 70 text × HasParts
      (codes "--" ++ text) true (drop (length (root t).block) (root t).bytes))

  by_boundary : (t : Tree) → HasStrictParts t → HasBoundary (root t).ctype → Splits t
  by_boundary t parts (of_other e none) = inl e
  by_boundary t parts (of_multipart {text = text} e found is) = inr (text, found, is, (parts.split text e found is).text)

  splits : (t : Tree) → IsClean t → Splits t
  splits t is = by_header (first_with_key (codes "Content-Type") (root t).headers) refl
    where
      by_header : (o : Option Header) → first_with_key (codes "Content-Type") (root t).headers ≡ o → Splits t
      by_header None e =
          inl (ap (λ (c : ContentType). has_prefix (codes "multipart") c.mimetype)
          (is.typed.1 ∙ no_header is.typed.0 (root t).headers e) ∙ default_single is.typed.0)
      by_header (Some h) e = by_boundary t is.parts (type_header t is h e).1

  whole_delimiters : (t : Tree) → IsClean t → has_whole_delimiters (root t) ≡ true
  whole_delimiters t is =
      let ctype = (root t).ctype in
      let bytes = (root t).bytes in
      let i = length (root t).block in
      let same = cuts_alike ctype bytes i (splits t is) in
      let ranges : Cut → List ℕ = λ cut. offsets (cut.body ∷ cut.parts) in
      (bytes_eq-Decides (ranges (cut_of_as true ctype bytes i)) (ranges (cut_of ctype bytes i))).1 (ap ranges same)

  -- its header block, and the bytes after it
  whole_bytes : (t : Tree) → (is : IsClean t) → (root t).block ++ drop is.read.index (root t).bytes ≡ (root t).bytes
  whole_bytes t is =
      ap (λ (xs : List ℕ). xs ++ drop is.read.index (root t).bytes) is.read.block ∙ take-append-drop is.read.index (root t).bytes

  bare_keys : (t : Tree) → IsClean t → has_bare_keys (root t).headers ≡ true
  bare_keys t is =
      let node = root t in
      block_bare node.block (drop is.read.index node.bytes) node.headers is.read.index is.block
      (ap read_headers (whole_bytes t is) ∙ is.read.headers)

  no_dash_line : (t : Tree) → IsClean t → has_no_dash_line (root t) ≡ true
  no_dash_line t is =
      let node = root t in
      let whole = whole_bytes t is in
      not_from_false (is_dash_line (drop (header_lines_end node.bytes) node.bytes))
      (subst (λ (xs : List ℕ). is_dash_line (drop (header_lines_end xs) xs) ≡ false) whole
      (block_undashed node.block (drop is.read.index node.bytes) is.block))

  message_strict : (t : Tree) → IsClean t → is_strict_message known (root t) ≡ true
  message_strict t is =
      and_from (has_strict_type known (root t).headers) (has_whole_delimiters (root t) && has_strict_headers (root t))
      (type_is_strict t is)
      (and_from (has_whole_delimiters (root t)) (has_strict_headers (root t)) (whole_delimiters t is)
      (and_from (has_bare_keys (root t).headers) (has_no_dash_line (root t)) (bare_keys t is) (no_dash_line t is)))

  -- ---- all messages

  pub all_split : (xs ys : List Tree) → AllByRecursion IsClean (xs ++ ys) → AllByRecursion IsClean xs × AllByRecursion IsClean ys
  all_split [] ys h = (tt, h)
  all_split (x ∷ xs) ys h = let more = all_split xs ys h.1 in ((h.0, more.0), more.1)

  mutual
    tree_strict : (t : Tree) → AllByRecursion IsClean (trees_within t) → is_strict_mail known t ≡ true
    tree_strict (tree node parts) h =
        and_from (is_strict_message known node) (are_strict known parts) (message_strict (tree node parts) h.0)
        (forest_strict parts h.1)

    forest_strict : (parts : Forest) → AllByRecursion IsClean (trees_in parts) → are_strict known parts ≡ true
    forest_strict no_parts h = refl
    forest_strict (part_and t ts) h =
        let both = all_split (trees_within t) (trees_in ts) h in
        and_from (is_strict_mail known t) (are_strict known ts) (tree_strict t both.0) (forest_strict ts both.1)

  abbrev ReadTyped : Tree → Type 0
  ReadTyped t = IsRead (root t) × IsTyped known (root t)

  abbrev Headed : Tree → Type 0
  Headed t = IsBlock (root t).block × HasStrictFields (root t)

  abbrev Valued : Tree → Type 0
  Valued t = AllByRecursion HasPlainValue (root t).headers × HasStrictParts t

  abbrev Written : Tree → Type 0
  Written t = Headed t × Valued t

  pub all_clean : (greatest : ℕ) (bytes : List ℕ) (t : Tree) → read_mail_in known greatest bytes ≡ Ok t → IsStrict known bytes t
      → AllByRecursion IsClean (trees_within t)
  all_clean greatest bytes t read is =
      let all = trees_within t in
      let messages = is.messages in
      all_with ReadTyped Written IsClean
      (λ t read is. record {
        read = read.0;
        typed = read.1;
        block = is.0.0;
        fields = is.0.1;
        parameters = is.1.0;
        parts = is.1.1;
      }) all
      (all_with (λ (t : Tree). IsRead (root t)) (λ (t : Tree). IsTyped known (root t)) ReadTyped (λ t a b. (a, b)) all
      (mail-there known greatest bytes t read).each (mail_typed greatest bytes t read))
      (all_with Headed Valued Written (λ t a b. (a, b)) all
      (all_with (λ (t : Tree). IsBlock (root t).block) (λ (t : Tree). HasStrictFields (root t)) Headed (λ t a b. (a, b)) all
      (all_of_map root (λ node. IsBlock node.block) all messages.blocks) (all_of_map root HasStrictFields all messages.fields))
      (all_with (λ (t : Tree). AllByRecursion HasPlainValue (root t).headers) HasStrictParts Valued (λ t a b. (a, b)) all
      (all_of_map root (λ node. AllByRecursion HasPlainValue node.headers) all messages.parameters) messages.parts))

  clean_strict : (greatest : ℕ) (bytes : List ℕ) (t : Tree) → read_mail_in known greatest bytes ≡ Ok t → IsStrict known bytes t
      → is_strict_mail known t ≡ true
  clean_strict greatest bytes t read is = tree_strict t (all_clean greatest bytes t read is)

  pub clean_mail_strict : (greatest : ℕ) (bytes : List ℕ) (t : Tree) → read_mail_in known greatest bytes ≡ Ok t
      → Lacks is_core (findings known t (placements 0 t))
      → is_strict_mail known t ≡ true
  clean_mail_strict greatest bytes t read lacks =
      clean_strict greatest bytes t read ((mail_strict known greatest bytes t read).0 lacks)

  pub clean_mails_agree : (greatest : ℕ) (bytes : List ℕ) (t : Tree) → read_mail_in known greatest bytes ≡ Ok t
      → Lacks is_core (findings known t (placements 0 t))
      → read_mail_as (lenient known) greatest bytes ≡ Ok t
  clean_mails_agree greatest bytes t read lacks =
      strict-mails-agree known greatest bytes t read (clean_mail_strict greatest bytes t read lacks)
