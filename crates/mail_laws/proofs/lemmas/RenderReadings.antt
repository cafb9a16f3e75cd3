-- A written outline reads as the message that it represents.
use Rattle.std.proofs.Common.{◌≡◌, ◌⊎◌, inl, ℕ, zero, suc, ◌+◌, ◌-◌, ◌<◌, ◌≤◌, ⊎_elim, true, false, eqb, not, List, [], ◌∷◌, ◌++◌, length, map, take, drop, Option, Some, None, is_some, Ok, Err, codes, refl, sym, ap, ◌∙◌, subst, arith, length-append}
use Rattle.std.specs.Char.{is_ascii_alphanumeric}
use Rattle.std.specs.List.{list_all}
use Rattle.std.specs.Option.{option_map_or}
use Rattle.std.specs.Str.{bytes_eq, is_utf8}
use Rattle.std.proofs.lemmas.Bool.{cond-false, cases_lt, ne_eqb, leb-true, and_parts, or_parts, false≢true, not-true}
use Rattle.std.proofs.lemmas.Bool.Decides.{nat_tests}
use Rattle.std.proofs.lemmas.List.{append_cancel_left, drop_at, map-append, take_at, take_all}
use lib.Pointwise.{bytes_decides}
use Rattle.mail_codec.specs.Charset.{Charsets, four_charsets}
use Rattle.mail_codec.specs.Places.{is_empty, place, has_prefix, text_place}
use Rattle.mailparse.specs.Refusal.{◌>>=◌, Reads, recursion_limit}
use Rattle.mailparse.specs.Header.{Header}
use Rattle.mailparse.specs.Block.{HeaderList, read_headers}
use Rattle.mailparse.specs.ContentType.{ContentType}
use Rattle.mailparse.specs.Ranges.{slice}
use Rattle.mailparse.specs.Delimiters.{Cut, cut_parts}
use Rattle.mailparse.specs.Mail.{strict, Node, Tree, tree, Forest, no_parts, part_and, root, parts_of, nodes, trees_in, trees_within, is_digest, cut_of, node_with, read_each, node_type, read_levels, read_mail_in, read_mail}
use Rattle.mail_laws.specs.Boundaries.{boundary_type}
use Rattle.mail_address.specs.Encode.{KnowUtf8}
use Rattle.mail_laws.specs.Render.{OutlineTree, OutlineForest, leaf, branch, no_outlines, outline_and, header_block, dash_boundary, rendered, rendered_parts, is_key, has_keys, has_texts, type_header, names_its_boundary, has_plain_boundary, is_not_multipart, has_some_part, contains_delimiter, contain_no_delimiter, has_clear_parts, depth, depth_of_parts, is_well_formed_here, is_well_formed_within, are_well_formed_within, type_of, node_of, stands_for, stand_for, is_within_levels, IsWellFormed, written_headers, has_plain_values, is_plain_within, are_plain_within, KnowItsWords, shown_header, headers_within, headers_in}
use Rattle.mail_laws.proofs.lemmas.RenderHeaders.{read_headers-written}
use Rattle.mail_address.proofs.lemmas.Encode.{list_all-weaker}
use Rattle.mail_laws.proofs.lemmas.RenderValues.{AreShown, headers_again, known_first, known_others, same_headers, written_are_shown, written_are_values, written_keys}
use Rattle.mail_laws.proofs.lemmas.RenderParts.{no_return, has_prefix-nowhere, written, IsClear, AreClear, body-written, parts-written}
use Rattle.mail_laws.proofs.lemmas.RenderTypes.{node_type-written, no_parts-leaf, type-branch}

-- ---- the parts of an outline, as they are written

abbrev renderings : OutlineForest → List (List ℕ)
renderings no_outlines = []
renderings (outline_and part parts) = rendered part ∷ renderings parts

rendered_parts-written : (boundary : List ℕ) (parts : OutlineForest) → rendered_parts boundary parts ≡ written (dash_boundary boundary) (renderings parts)
rendered_parts-written boundary no_outlines = refl
rendered_parts-written boundary (outline_and part parts) =
    ap (λ (x : List ℕ). dash_boundary boundary ++ 13 ∷ 10 ∷ (rendered part ++ 13 ∷ 10 ∷ x)) (rendered_parts-written boundary parts)

IsClear-from : (boundary bytes : List ℕ) → contains_delimiter boundary bytes ≡ false → IsClear (dash_boundary boundary) bytes
IsClear-from boundary bytes none =
    let parts = or_parts (has_prefix (dash_boundary boundary) bytes) (is_some (text_place bytes (10 ∷ dash_boundary boundary))) none in
    let some : eqb (length (10 ∷ dash_boundary boundary)) 0 ≡ false = ne_eqb _ 0 (λ e. absurd (omega arith)) in
    let nowhere : is_some (place (has_prefix (10 ∷ dash_boundary boundary)) bytes) ≡ false =
    ap (λ (o : Option ℕ). is_some o) (sym (cond-false (eqb (length (10 ∷ dash_boundary boundary)) 0) None (place (has_prefix (10 ∷ dash_boundary boundary)) bytes) some)) ∙ parts.1 in
    record { first = parts.0; later = has_prefix-nowhere 10 (dash_boundary boundary) bytes nowhere }

AreClear-from : (boundary : List ℕ) (parts : OutlineForest) → contain_no_delimiter boundary parts ≡ true → AreClear (dash_boundary boundary) (renderings parts)
AreClear-from boundary no_outlines none = tt
AreClear-from boundary (outline_and part parts) none =
    let both = and_parts (not (contains_delimiter boundary (rendered part))) (contain_no_delimiter boundary parts) none in
    (IsClear-from boundary (rendered part) (not-true _ both.0), AreClear-from boundary parts both.1)

-- letters and digits are not CR
pub no_return-alphanumeric : (b : ℕ) → is_ascii_alphanumeric b ≡ true → no_return b ≡ true
no_return-alphanumeric b h = grind (arith, nat_tests)

-- ---- the conditions of an outline by itself

pub record IsFormed (outline : OutlineTree) : Type 0 where
  pub keys : has_keys outline ≡ true
  pub values : has_texts outline ≡ true
  pub names : names_its_boundary outline ≡ true
  pub plain : has_plain_boundary outline ≡ true
  pub other : is_not_multipart outline ≡ true
  pub some : has_some_part outline ≡ true
  pub clear : has_clear_parts outline ≡ true

pub IsFormed-from : (outline : OutlineTree) → is_well_formed_here outline ≡ true → IsFormed outline
IsFormed-from outline h =
    let one = and_parts (has_keys outline) _ h in
    let two = and_parts (has_texts outline) _ one.1 in
    let three = and_parts (names_its_boundary outline) _ two.1 in
    let four = and_parts (has_plain_boundary outline) _ three.1 in
    let five = and_parts (is_not_multipart outline) _ four.1 in
    let six = and_parts (has_some_part outline) (has_clear_parts outline) five.1 in
    record { keys = one.0; values = two.0; names = three.0; plain = four.0; other = five.0; some = six.0; clear = six.1 }

pub branch-formed : (headers : List Header) (boundary : List ℕ) (parts : OutlineForest) → is_well_formed_within (branch headers boundary parts) ≡ true → IsFormed (branch headers boundary parts)
branch-formed headers boundary parts formed =
    IsFormed-from (branch headers boundary parts) (and_parts (is_well_formed_here (branch headers boundary parts)) (are_well_formed_within parts) formed).0

-- ---- one message

-- what is read of each part, unless one is refused
each_read : (read : List ℕ → Reads Tree) (part : List ℕ) (parts : List (List ℕ)) (t : Tree) (others : Reads Forest) → read part ≡ Ok t → read_each read parts ≡ others
    → read_each read (part ∷ parts) ≡ ◌>>=◌ others (λ xs. Ok (part_and t xs))
each_read read part parts t others first later = rw (first, later) refl

first_refused : (read : List ℕ → Reads Tree) (part : List ℕ) (parts : List (List ℕ)) → read part ≡ Err recursion_limit
    → read_each read (part ∷ parts) ≡ Err recursion_limit
first_refused read part parts first = rw first refl

-- Under the charsets that are known.
module _ (known : Charsets) where
  -- a message with this block, this type and this cut
  read_levels-cut : (levels : ℕ) (bytes : List ℕ) (block : HeaderList) (ctype : ContentType) (cut : Cut) → read_headers bytes ≡ Ok block
      → node_type known false block.headers ≡ ctype → cut_of ctype bytes block.index ≡ cut
      → read_levels (strict known) (suc levels) false bytes
      ≡ ◌>>=◌ (read_each (read_levels (strict known) levels (is_digest ctype)) (map (slice bytes) cut.parts)) (λ parts. Ok (tree (node_with bytes block ctype cut) parts))
  unfolding read_levels
  read_levels-cut levels bytes block ctype cut read type is = rw (read, type, is) refl

  read_levels-none : (bytes : List ℕ) → read_levels (strict known) zero false bytes ≡ Err recursion_limit
  unfolding read_levels
  read_levels-none bytes = refl

  -- a message of an outline's headers, by its block and its body
  abbrev made : List ℕ → List Header → List ℕ → List ℕ → Node
  made bytes headers block body = record { bytes = bytes; block = block; headers = written_headers headers; ctype = type_of known headers; body = body }

  made-same : (bytes : List ℕ) (headers : List Header) (block body : List ℕ) → block ≡ header_block (written_headers headers) → (whole : List ℕ) → body ≡ whole
      → made bytes headers block body ≡ node_of known bytes headers whole
  made-same bytes headers block body is whole e =
      ap (λ (x : List ℕ). made bytes headers x body) is ∙ ap (made bytes headers (header_block (written_headers headers))) e

  leaf-written : (levels : ℕ) (headers : List Header) (body : List ℕ) → IsFormed (leaf headers body) → AreShown known headers
      → read_levels (strict known) (suc levels) false (rendered (leaf headers body)) ≡ Ok (stands_for known (leaf headers body))
  leaf-written levels headers body formed shown =
      let block = header_block (written_headers headers) in
      let bytes = block ++ body in
      let index = length block in
      let cut : Cut = record { body = record { start = index; end = length bytes }; parts = [] } in
      let none = no_parts-leaf known headers formed.other in
      let size : length bytes - index ≡ length body = let e = length-append block body in omega arith in
      let rest : slice bytes (record { start = index; end = length bytes }) ≡ body =
      ap (λ n. take n (drop index bytes)) size ∙ ap (take (length body)) (drop_at block body index refl) ∙ take_all (length body) body (omega arith) in
      read_levels-cut levels bytes (record { headers = written_headers headers; index = index }) (type_of known headers) cut
      (read_headers-written (written_headers headers) body (written_keys headers formed.keys) (written_are_values headers formed.values)) (node_type-written known headers formed.keys shown)
      (ap (λ (o : Option (List ℕ)). option_map_or (λ d. cut_parts d bytes index) o cut) none)
      ∙ ap (λ (n : Node). Ok (tree n no_parts)) (made-same bytes headers (take index bytes) (slice bytes (record { start = index; end = length bytes })) (take_at block body index refl) body rest)

  -- what is read of an outline with parts, by what is read of the parts
  branch-by_parts : (levels : ℕ) (headers : List Header) (boundary part : List ℕ) (parts : List (List ℕ)) (whole : List ℕ)
      → list_all (λ h. is_key h.key) headers ≡ true → list_all (λ h. is_utf8 h.value) headers ≡ true → AreShown known headers
      → option_map_or (λ h. bytes_eq h.value (boundary_type boundary)) (type_header headers) false ≡ true
      → list_all is_ascii_alphanumeric boundary ≡ true → AreClear (dash_boundary boundary) (part ∷ parts)
      → whole ≡ written (dash_boundary boundary) (part ∷ parts)
      → read_levels (strict known) (suc levels) false (header_block (written_headers headers) ++ whole)
      ≡ ◌>>=◌ (read_each (read_levels (strict known) levels false) (part ∷ parts)) (λ found. Ok (tree (node_of known (header_block (written_headers headers) ++ whole) headers []) found))
  branch-by_parts levels headers boundary part parts whole keys values shown names plain clear is =
      let block = header_block (written_headers headers) in
      let bytes = block ++ whole in
      let index = length block in
      let d = dash_boundary boundary in
      let type = type-branch known headers boundary names plain in
      let free = list_all-weaker is_ascii_alphanumeric no_return no_return-alphanumeric boundary plain in
      let there : drop index bytes ≡ written d (part ∷ parts) = drop_at block whole index refl ∙ is in
      let body : slice bytes (cut_parts d bytes index).body ≡ [] = body-written 45 (45 ∷ boundary) free bytes index part parts clear there in
      let found : map (slice bytes) (cut_parts d bytes index).parts ≡ part ∷ parts = parts-written 45 (45 ∷ boundary) free bytes index part parts clear there in
      read_levels-cut levels bytes (record { headers = written_headers headers; index = index }) (type_of known headers) (cut_parts d bytes index)
      (read_headers-written (written_headers headers) whole (written_keys headers keys) (written_are_values headers values)) (node_type-written known headers keys shown)
      (ap (λ (o : Option (List ℕ)). option_map_or (λ x. cut_parts x bytes index) o (record { body = record { start = index; end = length bytes }; parts = [] })) type.0)
      ∙ ap (λ t. ◌>>=◌ (read_each (read_levels (strict known) levels t) (map (slice bytes) (cut_parts d bytes index).parts))
      (λ xs. Ok (tree (node_with bytes (record { headers = written_headers headers; index = index }) (type_of known headers) (cut_parts d bytes index)) xs))) type.1
      ∙ ap (λ (ps : List (List ℕ)). ◌>>=◌ (read_each (read_levels (strict known) levels false) ps)
      (λ xs. Ok (tree (node_with bytes (record { headers = written_headers headers; index = index }) (type_of known headers) (cut_parts d bytes index)) xs))) found
      ∙ ap (λ (n : Node). ◌>>=◌ (read_each (read_levels (strict known) levels false) (part ∷ parts)) (λ xs. Ok (tree n xs)))
      (made-same bytes headers (take index bytes) (slice bytes (cut_parts d bytes index).body) (take_at block whole index refl) [] body)

  branch-written : (levels : ℕ) (headers : List Header) (boundary : List ℕ) (parts : OutlineForest) → KnowItsWords known (branch headers boundary parts)
      → is_well_formed_within (branch headers boundary parts) ≡ true → (read : Reads Forest) → read_each (read_levels (strict known) levels false) (renderings parts) ≡ read
      → read_levels (strict known) (suc levels) false (rendered (branch headers boundary parts))
      ≡ ◌>>=◌ read (λ found. Ok (tree (node_of known (rendered (branch headers boundary parts)) headers []) found))
  branch-written levels headers boundary no_outlines able well read is = absurd (false≢true (branch-formed headers boundary no_outlines well).some)
  branch-written levels headers boundary (outline_and part parts) able well read is =
      let formed = branch-formed headers boundary (outline_and part parts) well in
      let plain = known_first (has_plain_values (branch headers boundary (outline_and part parts))) (are_plain_within (outline_and part parts)) able in
      branch-by_parts levels headers boundary (rendered part) (renderings parts) (rendered_parts boundary (outline_and part parts))
      formed.keys formed.values (written_are_shown known headers plain formed.values) formed.names (and_parts (list_all is_ascii_alphanumeric boundary) (not (is_empty boundary)) formed.plain).0
      (AreClear-from boundary (outline_and part parts) formed.clear) (rendered_parts-written boundary (outline_and part parts))
      ∙ ap (λ (r : Reads Forest). ◌>>=◌ r (λ found. Ok (tree (node_of known (rendered (branch headers boundary (outline_and part parts))) headers []) found))) is

  -- ---- the charsets know the words of outlines with their parts

  abbrev KnowTheirWords : OutlineForest → Type 0
  KnowTheirWords parts = KnowUtf8 known ⊎ (are_plain_within parts ≡ true)

  shown-parts : (headers : List Header) (boundary : List ℕ) (parts : OutlineForest) → KnowItsWords known (branch headers boundary parts) → KnowTheirWords parts
  shown-parts headers boundary parts = known_others (has_plain_values (branch headers boundary parts)) (are_plain_within parts)

  -- ---- outlines with their parts

  mutual
    reads : (outline : OutlineTree) (n : ℕ) → KnowItsWords known outline → is_well_formed_within outline ≡ true → depth outline ≤ n
        → read_levels (strict known) (suc n) false (rendered outline) ≡ Ok (stands_for known outline)
    reads (leaf headers body) n able formed within =
        let is = IsFormed-from (leaf headers body) formed in
        leaf-written n headers body is (written_are_shown known headers able is.values)
    reads (branch headers boundary parts) n able formed within =
        let both = and_parts (is_well_formed_here (branch headers boundary parts)) (are_well_formed_within parts) formed in
        branch-written n headers boundary parts able formed (Ok (stand_for known parts)) (reads_parts parts n (shown-parts headers boundary parts able) both.1 within)

    reads_parts : (parts : OutlineForest) (n : ℕ) → KnowTheirWords parts → are_well_formed_within parts ≡ true → depth_of_parts parts ≤ n
        → read_each (read_levels (strict known) n false) (renderings parts) ≡ Ok (stand_for known parts)
    reads_parts no_outlines n able formed within = refl
    reads_parts (outline_and part parts) zero able formed within = absurd (omega (arith, within))
    reads_parts (outline_and part parts) (suc n) able formed within =
        let both = and_parts (is_well_formed_within part) (are_well_formed_within parts) formed in
        each_read (read_levels (strict known) (suc n) false) (rendered part) (renderings parts) (stands_for known part) (Ok (stand_for known parts))
        (reads part n (known_first (is_plain_within part) (are_plain_within parts) able) both.0 (omega (arith, within))) (reads_parts parts (suc n) (known_others (is_plain_within part) (are_plain_within parts) able) both.1 (omega (arith, within)))

  mutual
    refuses : (outline : OutlineTree) (n : ℕ) → KnowItsWords known outline → is_well_formed_within outline ≡ true → n < depth outline
        → read_levels (strict known) (suc n) false (rendered outline) ≡ Err recursion_limit
    refuses (leaf headers body) n able formed deep = absurd (omega (arith, deep))
    refuses (branch headers boundary parts) n able formed deep =
        let both = and_parts (is_well_formed_here (branch headers boundary parts)) (are_well_formed_within parts) formed in
        branch-written n headers boundary parts able formed (Err recursion_limit) (refuses_parts parts n (shown-parts headers boundary parts able) both.1 deep)

    refuses_parts : (parts : OutlineForest) (n : ℕ) → KnowTheirWords parts → are_well_formed_within parts ≡ true → n < depth_of_parts parts
        → read_each (read_levels (strict known) n false) (renderings parts) ≡ Err recursion_limit
    refuses_parts no_outlines n able formed deep = absurd (omega (arith, deep))
    refuses_parts (outline_and part parts) zero able formed deep =
        first_refused (read_levels (strict known) zero false) (rendered part) (renderings parts) (read_levels-none (rendered part))
    refuses_parts (outline_and part parts) (suc n) able formed deep =
        let both = and_parts (is_well_formed_within part) (are_well_formed_within parts) formed in
        ⊎_elim (λ below. first_refused (read_levels (strict known) (suc n) false) (rendered part) (renderings parts) (refuses part n (known_first (is_plain_within part) (are_plain_within parts) able) both.0 below))
        (λ within. each_read (read_levels (strict known) (suc n) false) (rendered part) (renderings parts) (stands_for known part) (Err recursion_limit) (reads part n (known_first (is_plain_within part) (are_plain_within parts) able) both.0 within)
        (refuses_parts parts (suc n) (known_others (is_plain_within part) (are_plain_within parts) able) both.1 (omega (arith, deep, within))))
        (cases_lt n (depth part))

  -- an outline no deeper than the limit is read
  pub outline_is_read : (greatest : ℕ) (outline : OutlineTree) → KnowItsWords known outline → is_well_formed_within outline ≡ true → depth outline ≤ greatest
      → read_mail_in known greatest (rendered outline) ≡ Ok (stands_for known outline)
  unfolding read_mail_in
  outline_is_read greatest outline able formed within = reads outline greatest able formed within

  -- and a deeper one is refused for the limit
  pub outline_is_refused : (greatest : ℕ) (outline : OutlineTree) → KnowItsWords known outline → is_well_formed_within outline ≡ true → greatest < depth outline
      → read_mail_in known greatest (rendered outline) ≡ Err recursion_limit
  unfolding read_mail_in
  outline_is_refused greatest outline able formed deep = refuses outline greatest able formed deep

  -- ---- the message that an outline represents determines the outline

  same_parts : (t u : Tree) (ts us : Forest) → part_and t ts ≡ part_and u us → (t ≡ u) × (ts ≡ us)
  same_parts t u ts us e = ((cc), (cc))

  -- an outline with parts represents a message with parts
  some_parts : (headers : List Header) (boundary : List ℕ) (parts : OutlineForest) → has_some_part (branch headers boundary parts) ≡ true → no_parts ≡ stand_for known parts → ⊥
  some_parts headers boundary no_outlines some e = false≢true some
  some_parts headers boundary (outline_and part parts) some e = let f : no_parts ≡ part_and (stands_for known part) (stand_for known parts) = e in cc

  -- its first `Content-Type` determines its boundary
  same_boundary : (found : Option Header) (one two : List ℕ) → option_map_or (λ h. bytes_eq h.value (boundary_type one)) found false ≡ true
      → option_map_or (λ h. bytes_eq h.value (boundary_type two)) found false ≡ true → one ≡ two
  same_boundary None one two e f = absurd (false≢true e)
  same_boundary (Some h) one two e f =
      append_cancel_left (codes "multipart/mixed; boundary=") one two
      (sym ((bytes_decides h.value (boundary_type one)).0 e) ∙ (bytes_decides h.value (boundary_type two)).0 f)

  mutual
    tree-is : (one two : OutlineTree) → is_well_formed_within one ≡ true → is_well_formed_within two ≡ true → stands_for known one ≡ stands_for known two → one ≡ two
    tree-is (leaf headers body) (leaf others rest) formed also e =
        let same : headers ≡ others =
        same_headers headers others (IsFormed-from (leaf headers body) formed).values (IsFormed-from (leaf others rest) also).values (ap (λ (t : Tree). (root t).headers) e) in
        ap (λ (x : List Header). leaf x body) same ∙ ap (leaf others) (ap (λ (t : Tree). (root t).body) e)
    tree-is (leaf headers body) (branch others boundary parts) formed also e =
        absurd (some_parts others boundary parts (branch-formed others boundary parts also).some (ap parts_of e))
    tree-is (branch headers boundary parts) (leaf others rest) formed also e =
        absurd (some_parts headers boundary parts (branch-formed headers boundary parts formed).some (sym (ap parts_of e)))
    tree-is (branch headers boundary parts) (branch others limit rest) formed also e =
        let one = branch-formed headers boundary parts formed in
        let two = branch-formed others limit rest also in
        let same : headers ≡ others = same_headers headers others one.values two.values (ap (λ (t : Tree). (root t).headers) e) in
        let named : option_map_or (λ h. bytes_eq h.value (boundary_type boundary)) (type_header others) false ≡ true =
        subst (λ (hs : List Header). option_map_or (λ h. bytes_eq h.value (boundary_type boundary)) (type_header hs) false ≡ true) same one.names in
        ap (λ (x : List Header). branch x boundary parts) same
        ∙ ap (λ (x : List ℕ). branch others x parts) (same_boundary (type_header others) boundary limit named two.names)
        ∙ ap (branch others limit) (forest-is parts rest (and_parts (is_well_formed_here (branch headers boundary parts)) (are_well_formed_within parts) formed).1
        (and_parts (is_well_formed_here (branch others limit rest)) (are_well_formed_within rest) also).1 (ap parts_of e))

    forest-is : (one two : OutlineForest) → are_well_formed_within one ≡ true → are_well_formed_within two ≡ true → stand_for known one ≡ stand_for known two → one ≡ two
    forest-is no_outlines no_outlines formed also e = refl
    forest-is no_outlines (outline_and part parts) formed also e = let f : no_parts ≡ part_and (stands_for known part) (stand_for known parts) = e in absurd (cc)
    forest-is (outline_and part parts) no_outlines formed also e = let f : part_and (stands_for known part) (stand_for known parts) ≡ no_parts = e in absurd (cc)
    forest-is (outline_and part parts) (outline_and other others) formed also e =
        let one = and_parts (is_well_formed_within part) (are_well_formed_within parts) formed in
        let two = and_parts (is_well_formed_within other) (are_well_formed_within others) also in
        let same = same_parts (stands_for known part) (stands_for known other) (stand_for known parts) (stand_for known others) e in
        ap (λ (x : OutlineTree). outline_and x parts) (tree-is part other one.0 two.0 same.0) ∙ ap (outline_and other) (forest-is parts others one.1 two.1 same.1)

-- outlines that are written as the same bytes are one
pub outlines_are_one : (one two : OutlineTree) → is_well_formed_within one ≡ true → is_well_formed_within two ≡ true → rendered one ≡ rendered two → one ≡ two
outlines_are_one one two formed also same =
    let n = depth one + depth two in
    let read : ◌≡◌ {A = Reads Tree} (Ok (stands_for four_charsets one)) (Ok (stands_for four_charsets two)) =
    sym (outline_is_read four_charsets n one (inl refl) formed (omega arith)) ∙ ap (read_mail_in four_charsets n) same
    ∙ outline_is_read four_charsets n two (inl refl) also (omega arith) in
    tree-is four_charsets one two formed also (cc)

-- a well-formed outline is read
pub outline_is_mail : (outline : OutlineTree) → IsWellFormed outline → read_mail (rendered outline) ≡ Ok (stands_for four_charsets outline)
unfolding read_mail
outline_is_mail outline formed =
    let both = and_parts (is_well_formed_within outline) (is_within_levels outline) formed in
    outline_is_read four_charsets 100 outline (inl refl) both.0 (leb-true (depth outline) 100 both.1)

-- ---- what its headers show

-- the headers of a message, each with the text that its value shows
abbrev pub shown_headers : Charsets → Node → List Header
shown_headers known node = map (shown_header known) node.headers

module _ (known : Charsets) where
  mutual
    pub headers_show : (outline : OutlineTree) → KnowItsWords known outline → is_well_formed_within outline ≡ true
        → map (shown_headers known) (nodes (stands_for known outline)) ≡ headers_within outline
    headers_show (leaf headers body) able formed =
        ap (λ (hs : List Header). hs ∷ []) (headers_again known headers (written_are_shown known headers able (IsFormed-from (leaf headers body) formed).values))
    headers_show (branch headers boundary parts) able formed =
        let both = and_parts (is_well_formed_here (branch headers boundary parts)) (are_well_formed_within parts) formed in
        ap (λ (hs : List Header). hs ∷ map (shown_headers known) (map root (trees_in (stand_for known parts))))
        (headers_again known headers (written_are_shown known headers (known_first (has_plain_values (branch headers boundary parts)) (are_plain_within parts) able) (branch-formed headers boundary parts formed).values))
        ∙ ap (λ (rest : List (List Header)). headers ∷ rest) (headers_of_parts_show parts (shown-parts known headers boundary parts able) both.1)

    headers_of_parts_show : (parts : OutlineForest) → KnowTheirWords known parts → are_well_formed_within parts ≡ true
        → map (shown_headers known) (map root (trees_in (stand_for known parts))) ≡ headers_in parts
    headers_of_parts_show no_outlines able formed = refl
    headers_of_parts_show (outline_and part parts) able formed =
        let both = and_parts (is_well_formed_within part) (are_well_formed_within parts) formed in
        let first = trees_within (stands_for known part) in
        let others = trees_in (stand_for known parts) in
        ap (map (shown_headers known)) (map-append root first others)
        ∙ map-append (shown_headers known) (map root first) (map root others)
        ∙ ap (λ hs. hs ++ map (shown_headers known) (map root others)) (headers_show part (known_first (is_plain_within part) (are_plain_within parts) able) both.0)
        ∙ ap (λ hs. headers_within part ++ hs) (headers_of_parts_show parts (known_others (is_plain_within part) (are_plain_within parts) able) both.1)
