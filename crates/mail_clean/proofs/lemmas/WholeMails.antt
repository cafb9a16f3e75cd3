-- A mail of the grammar of strict mails is read as the tree that its bytes make, and each mail without findings but notes is one.
use Rattle.std.proofs.Common.{◌≡◌, ◌∙◌, ◌+◌, ◌≤◌, ℕ, zero, suc, Bool, true, false, cond, List, [], ◌∷◌, ◌++◌, length, map}
use Rattle.std.proofs.Common.{take, drop, Option, Some, None, Ok, Err, refl, sym, ap, subst, inl, inr, arith, length-drop}
use Rattle.std.proofs.Common.{take-append-drop}
use Rattle.std.specs.Prelude.{◌↔◌, ◌⊎◌, ◌&&◌, ◌==◌, codes, option_map}
use Rattle.std.specs.List.{AllByRecursion}
use Rattle.std.specs.Option.{option_map_or}
use Rattle.std.proofs.lemmas.List.{take_all}
use Rattle.std.proofs.lemmas.Bool.{and_parts}
use Rattle.mail_codec.specs.Charset.{Charsets}
use Rattle.mail_codec.specs.Places.{has_prefix}
use Rattle.mailparse.specs.Block.{HeaderList, read_headers}
use Rattle.mailparse.specs.ContentType.{ContentType}
use Rattle.mailparse.specs.Delimiters.{Cut, cut_parts}
use Rattle.mailparse.specs.Header.{Header}
use Rattle.mailparse.specs.Map.{first_with_key}
use Rattle.mailparse.specs.Mail.{strict, Node, Tree, tree, Forest, no_parts, part_and, cut_of, is_digest, node_type, node_with}
use Rattle.mailparse.specs.Mail.{read_each, read_levels, read_mail_in, read_parts, root, trees_in, trees_within}
use Rattle.mailparse.specs.Placement.{placements}
use Rattle.mailparse.specs.Ranges.{slice}
use Rattle.mailparse.specs.Refusal.{◌>>=◌, Reads}
use Rattle.mailparse.proofs.lemmas.Refusal.{read_map}
use Rattle.mail_check.specs.Findings.{findings}
use Rattle.mail_grammar.specs.Delimiters.{HasParts, HasStrictParts}
use Rattle.mail_grammar.specs.Fields.{HasBoundary, of_multipart, of_other, IsBoundary}
use Rattle.mail_grammar.specs.Levels.{HasLevels, HaveLevels}
use Rattle.mail_check_laws.specs.Mail.{IsStrict}
use Rattle.mail_check_laws.specs.Named.{Lacks, is_core}
use Rattle.mail_check_laws.proofs.lemmas.Headers.{front, past_name}
use Rattle.mail_check_laws.proofs.lemmas.Mails.{mail_strict}
use Rattle.mail_clean.specs.StrictMails.{AreHeaders, IsSplitInto, message_of, IsMessage, single, multipart, AreMessages}
use Rattle.mail_clean.specs.StrictMails.{no_messages, message_and, IsMail}
use Rattle.mail_clean.proofs.lemmas.CleanMails.{IsClean, all_clean, all_split, default_single, no_header, type_header}
use Rattle.mail_clean.proofs.lemmas.StrictHeaderLists.{headers_read, headers_there}
use Rattle.mail_clean.proofs.lemmas.StrictPieces.{pieces_there, split_cut}
use Rattle.mail_grammar.proofs.lemmas.Boundaries.{boundary_inner}

-- a multipart by its whole prefix is one
less_prefix : (one two text : List ℕ) → has_prefix (one ++ two) text ≡ true → has_prefix one text ≡ true
less_prefix [] two text h = refl
less_prefix (x ∷ one) two [] h = h
less_prefix (x ∷ one) two (b ∷ text) h =
    let both = and_parts (x == b) (has_prefix (one ++ two) text) h in
    ap (λ (t : Bool). t && has_prefix one text) both.0 ∙ less_prefix one two text both.1

-- the cut of a message without a dash-boundary
abbrev whole_cut : List ℕ → ℕ → Cut
whole_cut bytes i = record { body = record { start = i; end = length bytes }; parts = [] }

single_cut : (ctype : ContentType) (bytes : List ℕ) (i : ℕ) → has_prefix (codes "multipart") ctype.mimetype ≡ false
    → cut_of ctype bytes i ≡ whole_cut bytes i
single_cut ctype bytes i no_dash =
    ap (λ (t : Bool). option_map_or (λ d. cut_parts d bytes i)
    (cond t (option_map (λ boundary. codes "--" ++ boundary) (ctype.params (codes "boundary"))) None)
    (whole_cut bytes i)) no_dash

parts_cut : (ctype : ContentType) (bytes boundary : List ℕ) (i : ℕ) → has_prefix (codes "multipart") ctype.mimetype ≡ true
    → ctype.params (codes "boundary") ≡ Some boundary
    → cut_of ctype bytes i ≡ cut_parts (codes "--" ++ boundary) bytes i
parts_cut ctype bytes boundary i multi named =
    ap (λ (t : Bool). option_map_or (λ d. cut_parts d bytes i)
    (cond t (option_map (λ boundary. codes "--" ++ boundary) (ctype.params (codes "boundary"))) None)
    (whole_cut bytes i)) multi
    ∙ ap (λ (o : Option (List ℕ)). option_map_or (λ d. cut_parts d bytes i) (option_map (λ boundary. codes "--" ++ boundary) o)
    (whole_cut bytes i)) named

whole_body : (bytes : List ℕ) (i : ℕ) → slice bytes (record { start = i; end = length bytes }) ≡ drop i bytes
whole_body bytes i = let size = length-drop i bytes in
    ap (λ (n : ℕ). take n (drop i bytes)) (sym size) ∙ take_all (length (drop i bytes)) (drop i bytes) (omega arith)

module _ (known : Charsets) where
  -- ---- the grammar is read

  -- a message of which the block, the cut and the parts are known
  reads_with : (levels : ℕ) (in_digest : Bool) (bytes : List ℕ) (block : HeaderList) (cut : Cut) (parts : List (List ℕ))
      (found : Forest) → read_headers bytes ≡ Ok block
      → cut_of (node_type known in_digest block.headers) bytes block.index ≡ cut → map (slice bytes) cut.parts ≡ parts
      → read_each (read_levels (strict known) levels (is_digest (node_type known in_digest block.headers))) parts ≡ Ok found
      → read_levels (strict known) (suc levels) in_digest bytes ≡ Ok
      (tree (node_with bytes block (node_type known in_digest block.headers) cut) found)
  unfolding read_levels
  reads_with levels in_digest bytes block cut parts found read is cuts each =
      let ctype = node_type known in_digest block.headers in
      let with_cut : Cut → Reads Forest → Reads Tree = λ cut parts. read_map (tree (node_with bytes block ctype cut)) parts in
      ap (λ (b : Reads HeaderList). ◌>>=◌ b
      (λ b. read_parts (strict known) (read_levels (strict known) levels) bytes b (node_type known in_digest b.headers))) read
      ∙ ap (λ (c : Cut). with_cut c
      (read_each (read_levels (strict known) levels (is_digest ctype)) (map (slice bytes) c.parts))) is
      ∙ ap (λ (ps : List (List ℕ)). with_cut cut (read_each (read_levels (strict known) levels (is_digest ctype)) ps)) cuts
      ∙ ap (with_cut cut) each

  abbrev node_of : List ℕ → List ℕ → List Header → ContentType → List ℕ → Node
  node_of bytes block headers ctype body = record { bytes = bytes; block = block; headers = headers; ctype = ctype; body = body }

  -- a block and what follows it
  block_read : (headers : List Header) (block text bytes : List ℕ) → AreHeaders headers block → bytes ≡ block ++ text
      → read_headers bytes ≡ Ok (record { headers = headers; index = length block })
  block_read headers block text bytes are made = ap read_headers made ∙ headers_read headers block are text

  block_bytes : (block text bytes : List ℕ) → bytes ≡ block ++ text → take (length block) bytes ≡ block
  block_bytes block text bytes made = ap (take (length block)) made ∙ front block text

  text_bytes : (block text bytes : List ℕ) → bytes ≡ block ++ text → drop (length block) bytes ≡ text
  text_bytes block text bytes made = ap (drop (length block)) made ∙ past_name block text

  single_read : (levels : ℕ) (in_digest : Bool) (block body bytes : List ℕ) (headers : List Header) → AreHeaders headers block
      → has_prefix (codes "multipart") (node_type known in_digest headers).mimetype ≡ false → bytes ≡ block ++ body
      → read_levels (strict known) (suc levels) in_digest bytes ≡ Ok
      (tree (message_of known in_digest bytes block headers body) no_parts)
  single_read levels in_digest block body bytes headers are none made =
      let ctype = node_type known in_digest headers in
      let list : HeaderList = record { headers = headers; index = length block } in
      reads_with levels in_digest bytes list (whole_cut bytes (length block)) [] no_parts
      (block_read headers block body bytes are made)
      (single_cut ctype bytes (length block) none) refl refl
      ∙ ap (λ (b : List ℕ). Ok
      (tree (node_of bytes b headers ctype (slice bytes (whole_cut bytes (length block)).body)) no_parts))
      (block_bytes block body bytes made)
      ∙ ap (λ (b : List ℕ). Ok (tree (node_of bytes block headers ctype b) no_parts))
      (whole_body bytes (length block) ∙ text_bytes block body bytes made)

  multipart_read : (levels : ℕ) (in_digest : Bool) (block text boundary preamble bytes : List ℕ) (headers : List Header)
      (pieces : List (List ℕ)) (parts : Forest)
      → AreHeaders headers block → has_prefix (codes "multipart/") (node_type known in_digest headers).mimetype ≡ true
      → (node_type known in_digest headers).params (codes "boundary") ≡ Some boundary → IsBoundary 70 boundary
      → IsSplitInto (codes "--" ++ boundary) preamble pieces text
      → read_each (read_levels (strict known) levels (is_digest (node_type known in_digest headers))) pieces ≡ Ok parts
      → bytes ≡ block ++ text
      → read_levels (strict known) (suc levels) in_digest bytes ≡ Ok
      (tree (message_of known in_digest bytes block headers preamble) parts)
  multipart_read levels in_digest block text boundary preamble bytes headers pieces parts are multi named is split each made =
      let ctype = node_type known in_digest headers in
      let list : HeaderList = record { headers = headers; index = length block } in
      let dash : List ℕ = codes "--" ++ boundary in
      let cut = cut_parts dash bytes (length block) in
      let cuts = split_cut 45 (45 ∷ boundary) (boundary_inner 70 boundary is) bytes preamble (length block) pieces
      (subst (IsSplitInto dash preamble pieces) (sym (text_bytes block text bytes made)) split) in
      reads_with levels in_digest bytes list cut pieces parts (block_read headers block text bytes are made)
      (parts_cut ctype bytes boundary (length block)
      (less_prefix (codes "multipart") (codes "/") ctype.mimetype multi) named) cuts.1 each
      ∙ ap (λ (b : List ℕ). Ok (tree (node_of bytes b headers ctype (slice bytes cut.body)) parts))
      (block_bytes block text bytes made)
      ∙ ap (λ (b : List ℕ). Ok (tree (node_of bytes block headers ctype b) parts)) cuts.0

  -- a list of parts of which the first is read
  each_more : (read : List ℕ → Reads Tree) (piece : List ℕ) (pieces : List (List ℕ)) (t : Tree) (parts : Forest)
      → read piece ≡ Ok t → read_each read pieces ≡ Ok parts
      → read_each read (piece ∷ pieces) ≡ Ok (part_and t parts)
  each_more read piece pieces t parts first others =
      ap (λ (r : Reads Tree). ◌>>=◌ r (λ t. read_map (part_and t) (read_each read pieces))) first
      ∙ ap (read_map (part_and t)) others

  levels_left : (levels : ℕ) (node : Node) (parts : Forest) (t : Tree) → t ≡ tree node parts → HasLevels (suc levels) t
      → HaveLevels levels parts
  levels_left levels node parts t e h = subst (HasLevels (suc levels)) e h

  mutual
    pub message_read : (levels : ℕ) (in_digest : Bool) (bytes : List ℕ) (t : Tree) → HasLevels levels t
        → IsMessage known in_digest bytes t → read_levels (strict known) levels in_digest bytes ≡ Ok t
    message_read zero in_digest bytes t deep is = absurd deep
    message_read (suc levels) in_digest bytes t deep (single {block = block} {body = body} {headers = headers} are none made e) =
        single_read levels in_digest block body bytes headers are none made ∙ ap Ok (sym e)
    message_read (suc levels) in_digest bytes t deep
        (multipart {block = block} {text = text} {boundary = boundary} {preamble = preamble} {headers = headers}
        {pieces = pieces} {parts = parts} are multi named is split all made e) =
        let ctype = node_type known in_digest headers in
        multipart_read levels in_digest block text boundary preamble bytes headers pieces parts are multi named is split
        (messages_read levels (is_digest ctype) pieces parts
        (levels_left levels (message_of known in_digest bytes block headers preamble) parts t e deep) all) made
        ∙ ap Ok (sym e)

    messages_read : (levels : ℕ) (in_digest : Bool) (pieces : List (List ℕ)) (parts : Forest) → HaveLevels levels parts
        → AreMessages known in_digest pieces parts
        → read_each (read_levels (strict known) levels in_digest) pieces ≡ Ok parts
    messages_read levels in_digest pieces parts deep no_messages = refl
    messages_read levels in_digest pieces parts deep
        (message_and {piece = piece} {pieces = others} {t = t} {parts = left} is more) =
        each_more (read_levels (strict known) levels in_digest) piece others t left
        (message_read levels in_digest piece t deep.0 is)
        (messages_read levels in_digest others left deep.1 more)

  -- more levels
  mutual
    deeper : (n m : ℕ) (t : Tree) → n ≤ m → HasLevels n t → HasLevels m t
    deeper zero m t low h = absurd h
    deeper (suc n) zero t low h = absurd (omega (arith, low))
    deeper (suc n) (suc m) (tree node parts) low h = all_deeper n m parts (omega (arith, low)) h

    all_deeper : (n m : ℕ) (parts : Forest) → n ≤ m → HaveLevels n parts → HaveLevels m parts
    all_deeper n m no_parts low h = tt
    all_deeper n m (part_and t ts) low h = (deeper n m t low h.0, all_deeper n m ts low h.1)

  pub mail_is_read : (greatest : ℕ) (bytes : List ℕ) (t : Tree) → 9 ≤ greatest → IsMail known bytes t
      → read_mail_in known greatest bytes ≡ Ok t
  unfolding read_mail_in
  mail_is_read greatest bytes t low is =
      message_read (suc greatest) false bytes t
      (deeper 10 (suc greatest) t (omega (arith, low)) is.strict.small.levels) is.message

  -- each tree has some number of levels
  mutual
    some_levels : (t : Tree) → (n : ℕ) × HasLevels n t
    some_levels (tree node parts) = let inner = levels_of_parts parts in (suc inner.0, inner.1)

    levels_of_parts : (parts : Forest) → (n : ℕ) × HaveLevels n parts
    levels_of_parts no_parts = (0, tt)
    levels_of_parts (part_and t ts) =
        let first = some_levels t in
        let others = levels_of_parts ts in (
          first.0 + others.0,
          (
            deeper first.0 (first.0 + others.0) t (omega arith) first.1,
            all_deeper others.0 (first.0 + others.0) ts
                (omega arith) others.1,
          ),
        )

  pub one_message : (in_digest : Bool) (bytes : List ℕ) (t u : Tree) → IsMessage known in_digest bytes t
      → IsMessage known in_digest bytes u → t ≡ u
  one_message in_digest bytes t u is also =
      let first = some_levels t in
      let second = some_levels u in
      let most = first.0 + second.0 in
      let same : ◌≡◌ {A = Reads Tree} (Ok t) (Ok u) =
      sym (message_read most in_digest bytes t (deeper first.0 most t (omega arith) first.1) is)
      ∙ message_read most in_digest bytes u (deeper second.0 most u (omega arith) second.1) also in
      cc

  pub one_mail : (bytes : List ℕ) (t u : Tree) → IsMail known bytes t → IsMail known bytes u → t ≡ u
  one_mail bytes t u is also = one_message false bytes t u is.message also.message

  -- ---- what is read is of the grammar

  -- the type of a clean message
  abbrev Shape : Tree → Type 0
  Shape t =
      (has_prefix (codes "multipart") (root t).ctype.mimetype ≡ false)
      ⊎ ((text : List ℕ) × (has_prefix (codes "multipart/") (root t).ctype.mimetype ≡ true)
      × ((root t).ctype.params (codes "boundary") ≡ Some text) × IsBoundary 70 text
      × HasParts (codes "--" ++ text) true (drop (length (root t).block) (root t).bytes))

  by_boundary : (t : Tree) → HasStrictParts t → HasBoundary (root t).ctype → Shape t
  by_boundary t parts (of_other e none) = inl e
  by_boundary t parts (of_multipart {text = text} e found is) = inr (text, e, found, is, (parts.split text e found is).text)

  shape : (t : Tree) → IsClean known t → Shape t
  shape t is = by_header (first_with_key (codes "Content-Type") (root t).headers) refl
    where
      by_header : (o : Option Header) → first_with_key (codes "Content-Type") (root t).headers ≡ o → Shape t
      by_header None e =
          inl (ap (λ (c : ContentType). has_prefix (codes "multipart") c.mimetype)
          (is.typed.1 ∙ no_header known is.typed.0 (root t).headers e)
          ∙ default_single known is.typed.0)
      by_header (Some h) e = by_boundary t is.parts (type_header known t is h e).1

  -- all messages of a tree are clean
  abbrev AllClean : Tree → Type 0
  AllClean t = AllByRecursion (IsClean known) (trees_within t)

  -- a reading makes messages of the grammar
  abbrev Derives : ℕ → Type 0
  Derives levels = (digest : Bool) (bytes : List ℕ) (t : Tree) → read_levels (strict known) levels digest bytes ≡ Ok t
      → AllClean t → IsMessage known digest bytes t

  each_derived : (levels : ℕ) (digest : Bool) → Derives levels → (pieces : List (List ℕ)) (parts : Forest)
      → read_each (read_levels (strict known) levels digest) pieces ≡ Ok parts
      → AllByRecursion (IsClean known) (trees_in parts) → AreMessages known digest pieces parts
  each_derived levels digest derives [] parts e clean =
      let same : no_parts ≡ parts = cc in
      subst (AreMessages known digest []) same no_messages
  each_derived levels digest derives (piece ∷ pieces) parts e clean =
      by_part (read_levels (strict known) levels digest piece)
      (read_each (read_levels (strict known) levels digest) pieces) refl refl e
      (λ others f all. each_derived levels digest derives pieces others f all)
    where
      by_part : (first : Reads Tree) (rest : Reads Forest) → read_levels (strict known) levels digest piece ≡ first
          → read_each (read_levels (strict known) levels digest) pieces ≡ rest
          → ◌>>=◌ first (λ t. read_map (part_and t) rest) ≡ Ok parts
          → ((others : Forest) → read_each (read_levels (strict known) levels digest) pieces ≡ Ok others
          → AllByRecursion (IsClean known) (trees_in others) → AreMessages known digest pieces others)
          → AreMessages known digest (piece ∷ pieces) parts
      by_part (Err refusal) rest f g h ih = absurd (cc)
      by_part (Ok t) (Err refusal) f g h ih = absurd (cc)
      by_part (Ok t) (Ok others) f g h ih =
          let same : part_and t others ≡ parts = cc in
          let both = all_split known (trees_within t) (trees_in others)
          (subst (λ (ps : Forest). AllByRecursion (IsClean known) (trees_in ps)) (sym same) clean) in
          subst (AreMessages known digest (piece ∷ pieces)) same
          (message_and (derives digest piece t f both.0) (ih others g both.1))

  -- the message that is read with these headers and parts
  abbrev read_as : Bool → List ℕ → HeaderList → Forest → Tree
  read_as in_digest bytes block parts =
      tree (node_with bytes block (node_type known in_digest block.headers)
      (cut_of (node_type known in_digest block.headers) bytes block.index)) parts

  abbrev ReadsParts : ℕ → Bool → List ℕ → HeaderList → Forest → Type 0
  ReadsParts levels in_digest bytes block parts =
      read_each (read_levels (strict known) levels (is_digest (node_type known in_digest block.headers)))
      (map (slice bytes) (cut_of (node_type known in_digest block.headers) bytes block.index).parts) ≡ Ok parts

  -- a message that is read with the headers of a block
  module _ (levels : ℕ) (in_digest : Bool) (headers : List Header) (block text bytes : List ℕ) (parts : Forest)
      (derives : Derives levels)
      (are : AreHeaders headers block) (made : bytes ≡ block ++ text) where
    abbrev list : HeaderList
    list = record { headers = headers; index = length block }

    abbrev ctype : ContentType
    ctype = node_type known in_digest headers

    abbrev read : List ℕ → Reads Tree
    read = read_levels (strict known) levels (is_digest ctype)

    abbrev message : Tree
    message = read_as in_digest bytes list parts

    by_single : ReadsParts levels in_digest bytes list parts → has_prefix (codes "multipart") ctype.mimetype ≡ false
        → IsMessage known in_digest bytes message
    by_single each none =
        let cut = single_cut ctype bytes (length block) none in
        let found : Ok parts ≡ Ok no_parts = sym each ∙ ap (λ (c : Cut). read_each read (map (slice bytes) c.parts)) cut in
        let no_more : parts ≡ no_parts = cc in
        single are none made
        (ap (λ (b : List ℕ). tree (node_of bytes b headers ctype (slice bytes (cut_of ctype bytes (length block)).body)) parts)
        (block_bytes block text bytes made)
        ∙ ap (λ (b : List ℕ). tree (node_of bytes block headers ctype b) parts)
        (ap (λ (c : Cut). slice bytes c.body) cut ∙ whole_body bytes (length block) ∙ text_bytes block text bytes made)
        ∙ ap (tree (node_of bytes block headers ctype text)) no_more)

    by_parts : ReadsParts levels in_digest bytes list parts → AllClean message → (boundary : List ℕ)
        → has_prefix (codes "multipart/") ctype.mimetype ≡ true → ctype.params (codes "boundary") ≡ Some boundary
        → IsBoundary 70 boundary
        → HasParts (codes "--" ++ boundary) true text → IsMessage known in_digest bytes message
    by_parts each clean boundary multi named is has =
        let dash : List ℕ = codes "--" ++ boundary in
        let plain = boundary_inner 70 boundary is in
        let there = pieces_there 45 (45 ∷ boundary) plain text has in
        let cut = parts_cut ctype bytes boundary (length block)
        (less_prefix (codes "multipart") (codes "/") ctype.mimetype multi) named in
        let cuts = split_cut 45 (45 ∷ boundary) plain bytes there.0 (length block) there.1
        (subst (IsSplitInto dash there.0 there.1) (sym (text_bytes block text bytes made)) there.2) in
        let found : read_each read there.1 ≡ Ok parts =
        sym (ap (λ (c : Cut). read_each read (map (slice bytes) c.parts)) cut ∙ ap (read_each read) cuts.1) ∙ each in
        multipart are multi named is there.2 (each_derived levels (is_digest ctype) derives there.1 parts found clean.1) made
        (ap (λ (b : List ℕ). tree (node_of bytes b headers ctype (slice bytes (cut_of ctype bytes (length block)).body)) parts)
        (block_bytes block text bytes made)
        ∙ ap (λ (b : List ℕ). tree (node_of bytes block headers ctype b) parts)
        (ap (λ (c : Cut). slice bytes c.body) cut ∙ cuts.0))

    by_shape : ReadsParts levels in_digest bytes list parts → AllClean message → Shape message
        → IsMessage known in_digest bytes message
    by_shape each clean (inl none) = by_single each none
    by_shape each clean (inr (boundary, multi, named, is, has)) =
        by_parts each clean boundary multi named is
        (subst (HasParts (codes "--" ++ boundary) true)
        (ap (λ (b : List ℕ). drop (length b) bytes) (block_bytes block text bytes made)
        ∙ text_bytes block text bytes made) has)

    with_headers : ReadsParts levels in_digest bytes list parts → AllClean message → IsMessage known in_digest bytes message
    with_headers each clean = by_shape each clean (shape message clean.0)

  with_block : (levels : ℕ) (in_digest : Bool) (bytes : List ℕ) (block : HeaderList) (parts : Forest) → Derives levels
      → read_headers bytes ≡ Ok block
      → ReadsParts levels in_digest bytes block parts → AllClean (read_as in_digest bytes block parts)
      → IsMessage known in_digest bytes (read_as in_digest bytes block parts)
  with_block levels in_digest bytes block parts derives read each clean =
      let own : List ℕ = take block.index bytes in
      let text : List ℕ = drop block.index bytes in
      let whole : bytes ≡ own ++ text = sym (take-append-drop block.index bytes) in
      let there = headers_there own clean.0.block in
      let list : HeaderList = record { headers = there.0; index = length own } in
      let again : ◌≡◌ {A = Reads HeaderList} (Ok list) (Ok block) = sym (block_read there.0 own text bytes there.1 whole)
      ∙ read in
      let same : list ≡ block = cc in
      subst (λ (b : HeaderList). ReadsParts levels in_digest bytes b parts → AllClean (read_as in_digest bytes b parts)
      → IsMessage known in_digest bytes (read_as in_digest bytes b parts)) same
      (with_headers levels in_digest there.0 own text bytes parts derives there.1 whole) each clean

  levels_derive : (levels : ℕ) → Derives levels
  unfolding read_levels
  levels_derive zero in_digest bytes t e clean = absurd (cc)
  levels_derive (suc levels) in_digest bytes t e clean = by_block (read_headers bytes) refl e
      (λ digest bytes t e clean. levels_derive levels digest bytes t e clean)
    where
      by_parts : (block : HeaderList) → read_headers bytes ≡ Ok block → (parts : Reads Forest)
          → read_each (read_levels (strict known) levels (is_digest (node_type known in_digest block.headers)))
          (map (slice bytes) (cut_of (node_type known in_digest block.headers) bytes block.index).parts) ≡ parts
          → read_map (tree
          (node_with bytes block (node_type known in_digest block.headers)
          (cut_of (node_type known in_digest block.headers) bytes block.index))) parts ≡ Ok t
          → Derives levels → IsMessage known in_digest bytes t
      by_parts block is (Err refusal) f h ih = absurd (cc)
      by_parts block is (Ok parts) f h ih =
          let same : read_as in_digest bytes block parts ≡ t = cc in
          subst (IsMessage known in_digest bytes) same
          (with_block levels in_digest bytes block parts ih is f (subst AllClean (sym same) clean))

      by_block : (block : Reads HeaderList) → read_headers bytes ≡ block
          → ◌>>=◌ block (λ b. read_parts (strict known) (read_levels (strict known) levels) bytes b
          (node_type known in_digest b.headers)) ≡ Ok t
          → Derives levels → IsMessage known in_digest bytes t
      by_block (Err refusal) is h ih = absurd (cc)
      by_block (Ok block) is h ih = by_parts block is _ refl h ih

  pub mail_is_derived : (greatest : ℕ) (bytes : List ℕ) (t : Tree) → read_mail_in known greatest bytes ≡ Ok t
      → IsStrict known bytes t → IsMail known bytes t
  unfolding read_mail_in
  mail_is_derived greatest bytes t read is =
      record { message = levels_derive (suc greatest) false bytes t read (all_clean known greatest bytes t read is); strict = is }

  pub clean_is_mail : (greatest : ℕ) (bytes : List ℕ) (t : Tree) → read_mail_in known greatest bytes ≡ Ok t
      → Lacks is_core (findings known t (placements 0 t)) ↔ IsMail known bytes t
  clean_is_mail greatest bytes t read =
      let both = mail_strict known greatest bytes t read in
      (λ lacks. mail_is_derived greatest bytes t read (both.0 lacks), λ is. both.1 is.strict)

  pub mail_is_clean : (bytes : List ℕ) (t : Tree) → IsMail known bytes t → Lacks is_core (findings known t (placements 0 t))
  mail_is_clean bytes t is = (clean_is_mail 9 bytes t (mail_is_read 9 bytes t (omega arith) is)).1 is
