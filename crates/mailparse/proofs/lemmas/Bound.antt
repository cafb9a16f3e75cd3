-- A message that was read, with its parts, takes no more than its bytes.
use Rattle.std.proofs.Common.{length-take, ◌≡◌, ℕ, zero, suc, ◌+◌, ◌-◌, ◌*◌, ◌≤◌, Bool, true, false, List, [], ◌∷◌, ◌++◌, length, map, take, drop, Result, Ok, Err, IfOk, refl, ap, ◌∙◌, subst, arith}
use Rattle.std.specs.Prelude.{if◌then◌else◌}
use Rattle.std.specs.List.{sum_by}
use Rattle.std.proofs.lemmas.List.{map-append}
use Rattle.std.proofs.lemmas.List.Sums.{sum_by-cons, sum_by-append}
use Rattle.mail_codec.specs.Charset.{Charsets}
use Rattle.mailparse.specs.Refusal.{◌>>=◌, recursion_limit, Reads}
use Rattle.mailparse.specs.Outcome.{AnswersOrMemory}
use Rattle.mailparse.specs.Block.{HeaderList, read_block}
use Rattle.mailparse.specs.ContentType.{ContentType, default_type}
use Rattle.mailparse.specs.Manner.{Manner}
use Rattle.mailparse.specs.Ranges.{Range, slice}
use Rattle.mailparse.specs.Mail.{Node, Tree, tree, Forest, no_parts, part_and, root, trees_within, trees_in, nodes, is_digest, cut_of_as, node_with, read_each, kept_message, kept_if_refused, or_kept, read_parts, read_message, read_levels, read_mail_as, read_mail_in, strict}
use Rattle.mailparse.specs.Bound.{IsBounded}
use Rattle.mailparse.specs.Views.{tree_of}
use Rattle.mailparse.specs.declared.error.MailParseError.{MailParseError}
use Rattle.mailparse.specs.declared.mail.message.ParsedMail.{ParsedMail}
use Rattle.mailparse.proofs.lemmas.Refusal.{read_map}
use Rattle.mailparse.proofs.lemmas.Ranges.{cut_of_as-apart, Apart-sum}
use Rattle.mailparse.proofs.lemmas.HeaderPart.{FitsIn, read_block-bounded}

-- ---- what messages take together

-- the headers, the bytes of the bodies, and three bytes for each message
unfoldable weight : List Node → ℕ
weight found = sum_by (λ node. length node.headers + length node.body + 3) found

weight-cons : (node : Node) (found : List Node) → weight (node ∷ found) ≡ length node.headers + length node.body + 3 + weight found
unfolding weight
weight-cons node found = sum_by-cons (λ (x : Node). length x.headers + length x.body + 3) node found

weight-append : (front rest : List Node) → weight (front ++ rest) ≡ weight front + weight rest
unfolding weight
weight-append front rest = sum_by-append (λ (x : Node). length x.headers + length x.body + 3) front rest

weight-none : weight [] ≡ 0
unfolding weight
weight-none = refl

weight-sums : (found : List Node) → weight found ≡ sum_by (λ node. length node.headers) found + sum_by (λ node. length node.body) found + 3 * length found
weight-sums [] = weight-none
weight-sums (node ∷ found) =
    let here = weight-cons node found in
    let rest = weight-sums found in
    let headers = sum_by-cons (λ (x : Node). length x.headers) node found in
    let bodies = sum_by-cons (λ (x : Node). length x.body) node found in
    omega (arith, here, rest, headers, bodies)

-- those of parts
unfoldable weight_in : Forest → ℕ
weight_in parts = weight (map root (trees_in parts))

weight_in-none : weight_in no_parts ≡ 0
unfolding weight_in
weight_in-none = weight-none

weight_in-and : (t : Tree) (parts : Forest) → weight_in (part_and t parts) ≡ weight (nodes t) + weight_in parts
unfolding weight_in
weight_in-and t parts = ap weight (map-append root (trees_within t) (trees_in parts)) ∙ weight-append (nodes t) (map root (trees_in parts))

weight-tree : (node : Node) (parts : Forest) → weight (nodes (tree node parts)) ≡ length node.headers + length node.body + 3 + weight_in parts
unfolding weight_in
weight-tree node parts = weight-cons node (map root (trees_in parts))

-- the three bytes of the message itself do not count
IsBounded-by_weight : (size : ℕ) (t : Tree) → weight (nodes t) ≤ size + 3 → IsBounded t size
IsBounded-by_weight size (tree node parts) fits =
    let sums = weight-sums (nodes (tree node parts)) in
    omega (arith, fits, sums)

-- ---- what is read

-- a reading takes no more than the bytes, the three of the message itself aside
abbrev Fits : (List ℕ → Reads Tree) → Type 0
Fits read = (bytes : List ℕ) (t : Tree) → read bytes ≡ Ok t → weight (nodes t) ≤ length bytes + 3

take-length : (n : ℕ) (bytes : List ℕ) → length (take n bytes) ≤ n
take-length n bytes = let len = length-take n bytes in omega arith

slice-length : (bytes : List ℕ) (range : Range) → length (slice bytes range) ≤ range.end - range.start
slice-length bytes range = take-length (range.end - range.start) (drop range.start bytes)

-- so the parts take no more than their ranges and three bytes before each
read_each-fits : (read : List ℕ → Reads Tree) → Fits read → (bytes : List ℕ) (ranges : List Range) (parts : Forest)
    → read_each read (map (slice bytes) ranges) ≡ Ok parts → weight_in parts ≤ sum_by (λ r. r.end - r.start + 3) ranges
read_each-fits read fits bytes [] parts e =
    let same : no_parts ≡ parts = cc in
    let none = weight_in-none in
    subst (λ (f : Forest). weight_in f ≤ 0) same (omega (arith, none))
read_each-fits read fits bytes (range ∷ ranges) parts e =
    by_part (read (slice bytes range)) (read_each read (map (slice bytes) ranges)) refl refl e
    (λ others more. read_each-fits read fits bytes ranges others more)
  where
    by_part : (first : Reads Tree) (rest : Reads Forest) → read (slice bytes range) ≡ first → read_each read (map (slice bytes) ranges) ≡ rest
        → ◌>>=◌ first (λ t. read_map (part_and t) rest) ≡ Ok parts
        → ((others : Forest) → read_each read (map (slice bytes) ranges) ≡ Ok others → weight_in others ≤ sum_by (λ r. r.end - r.start + 3) ranges)
        → weight_in parts ≤ sum_by (λ r. r.end - r.start + 3) (range ∷ ranges)
    by_part (Err refusal) rest f g h ih = absurd (cc)
    by_part (Ok t) (Err refusal) f g h ih = absurd (cc)
    by_part (Ok t) (Ok others) f g h ih =
        let same : part_and t others ≡ parts = cc in
        let both = weight_in-and t others in
        let first = fits (slice bytes range) t f in
        let size = slice-length bytes range in
        let more = ih others g in
        let sum = sum_by-cons (λ (r : Range). r.end - r.start + 3) range ranges in
        subst (λ (f : Forest). weight_in f ≤ sum_by (λ r. r.end - r.start + 3) (range ∷ ranges)) same (omega (arith, both, first, size, more, sum))

-- a message with this block, this type and these parts
node-fits : (whole : Bool) (bytes : List ℕ) (block : HeaderList) (ctype : ContentType) (parts : Forest) → FitsIn bytes block
    → weight_in parts ≤ sum_by (λ r. r.end - r.start + 3) (cut_of_as whole ctype bytes block.index).parts
    → weight (nodes (tree (node_with bytes block ctype (cut_of_as whole ctype bytes block.index)) parts)) ≤ length bytes + 3
node-fits whole bytes block ctype parts bounded fits =
    let cut = cut_of_as whole ctype bytes block.index in
    let apart = cut_of_as-apart whole ctype bytes block.index bounded.index in
    let ranges = Apart-sum 3 cut.body.end cut.parts (length bytes) apart.2 in
    let body = slice-length bytes cut.body in
    let whole = weight-tree (node_with bytes block ctype cut) parts in
    omega (arith, bounded.headers, apart.0, apart.1, ranges, body, whole, fits)

-- In a manner of reading.
module _ (manner : Manner) where
  -- a refused message that is kept has only its body
  kept-fits : (bytes : List ℕ) → weight (nodes (kept_message bytes)) ≤ length bytes + 3
  kept-fits bytes =
      let all = weight-tree (record { bytes = bytes; block = []; headers = []; ctype = default_type; body = bytes }) no_parts in
      let none = weight_in-none in
      omega (arith, all, none)

  -- a message fits if its reading does
  or_kept-fits : (bytes : List ℕ) (reading : Reads Tree) (t : Tree) → or_kept manner bytes reading ≡ Ok t
      → (reading ≡ Ok t → weight (nodes t) ≤ length bytes + 3) → weight (nodes t) ≤ length bytes + 3
  or_kept-fits bytes reading t e fits = by_manner manner.keeps_refused reading e fits
    where
      by_manner : (k : Bool) (r : Reads Tree) → if k then kept_if_refused bytes r else r ≡ Ok t → (r ≡ Ok t → weight (nodes t) ≤ length bytes + 3) → weight (nodes t) ≤ length bytes + 3
      by_manner false r h fits = fits h
      by_manner true (Ok u) h fits = fits h
      by_manner true (Err refusal) h fits =
          let here : ◌≡◌ {A = Reads Tree} (Ok (kept_message bytes)) (Ok t) = h in
          let same : kept_message bytes ≡ t = cc in
          subst (λ (u : Tree). weight (nodes u) ≤ length bytes + 3) same (kept-fits bytes)

  read_levels-fits : (levels : ℕ) (in_digest : Bool) → Fits (read_levels manner levels in_digest)
  unfolding read_levels
  read_levels-fits zero in_digest bytes t e = or_kept-fits bytes (Err recursion_limit) t e (λ h. absurd (cc))
  read_levels-fits (suc levels) in_digest bytes t e =
      or_kept-fits bytes (read_message manner (read_levels manner levels) in_digest bytes) t e (λ h. by_block (read_block manner.lenient_headers bytes) refl h (λ digest. read_levels-fits levels digest))
    where
      by_parts : (block : HeaderList) (ctype : ContentType) → read_block manner.lenient_headers bytes ≡ Ok block → (parts : Reads Forest)
          → read_each (read_levels manner levels (is_digest ctype)) (map (slice bytes) (cut_of_as manner.whole_lines ctype bytes block.index).parts) ≡ parts
          → read_map (tree (node_with bytes block ctype (cut_of_as manner.whole_lines ctype bytes block.index))) parts ≡ Ok t
          → Fits (read_levels manner levels (is_digest ctype)) → weight (nodes t) ≤ length bytes + 3
      by_parts block ctype read (Err refusal) f h ih = absurd (cc)
      by_parts block ctype read (Ok parts) f h ih =
          let cut = cut_of_as manner.whole_lines ctype bytes block.index in
          let same : tree (node_with bytes block ctype cut) parts ≡ t = cc in
          let all = read_each-fits (read_levels manner levels (is_digest ctype)) ih bytes cut.parts parts f in
          subst (λ (u : Tree). weight (nodes u) ≤ length bytes + 3) same (node-fits manner.whole_lines bytes block ctype parts (read_block-bounded manner.lenient_headers bytes block read) all)

      by_block : (block : Reads HeaderList) → read_block manner.lenient_headers bytes ≡ block
          → ◌>>=◌ block (λ b. read_parts manner (read_levels manner levels) bytes b (manner.type_of in_digest b.headers)) ≡ Ok t
          → ((digest : Bool) → Fits (read_levels manner levels digest)) → weight (nodes t) ≤ length bytes + 3
      by_block (Err refusal) read h ih = absurd (cc)
      by_block (Ok block) read h ih = by_parts block (manner.type_of in_digest block.headers) read _ refl h (ih (is_digest (manner.type_of in_digest block.headers)))

-- however deep parts may be nested
pub read_mail_as-bounded : (manner : Manner) (greatest : ℕ) (bytes : List ℕ) (t : Tree) → read_mail_as manner greatest bytes ≡ Ok t → IsBounded t (length bytes)
read_mail_as-bounded manner greatest bytes t e = IsBounded-by_weight (length bytes) t (read_levels-fits manner (suc greatest) false bytes t e)

-- and whatever charsets are known
pub read_mail_in-bounded : (known : Charsets) (greatest : ℕ) (bytes : List ℕ) (t : Tree) → read_mail_in known greatest bytes ≡ Ok t → IsBounded t (length bytes)
unfolding read_mail_in
read_mail_in-bounded known greatest bytes t e = read_mail_as-bounded (strict known) greatest bytes t e

-- and so what a call returned that reads a message
pub answer-bounded : (manner : Manner) (result : Result ParsedMail MailParseError) (levels : ℕ) (in_digest : Bool) (bytes : List ℕ)
    → AnswersOrMemory tree_of result (read_levels manner levels in_digest bytes) → IfOk result (λ mail. IsBounded (tree_of mail) (length bytes))
answer-bounded manner (Err e) levels in_digest bytes h = tt
answer-bounded manner (Ok mail) levels in_digest bytes h = IsBounded-by_weight (length bytes) (tree_of mail) (read_levels-fits manner levels in_digest bytes (tree_of mail) h)

-- the bound of an answer
pub ruleset bounds = (answer-bounded)
