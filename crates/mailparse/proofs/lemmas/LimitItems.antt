-- What is met in a message that is read is what its tree contains.
use Rattle.std.proofs.Common.{◌≡◌, ℕ, zero, suc, ◌+◌, ◌≤◌, Bool, true, false, cond, is_ok, List, [], ◌∷◌, ◌++◌, length, map, Some, Result, Ok, Err, IfOk, refl, sym, ap, ◌∙◌, subst, arith, length-append}
use Rattle.std.specs.Prelude.{if◌then◌else◌}
use Rattle.std.specs.List.{sum_by}
use Rattle.std.proofs.lemmas.Bool.{false≢true}
use Rattle.std.proofs.lemmas.List.{map-append}
use Rattle.std.proofs.lemmas.List.Sums.{sum_by-cons, sum_by-append}
use Rattle.mailparse.specs.Refusal.{◌>>=◌, Refusal, recursion_limit, Reads}
use Rattle.mailparse.specs.Outcome.{AnswersOrMemory}
use Rattle.mailparse.specs.Block.{HeaderList, read_block}
use Rattle.mailparse.specs.ContentType.{ContentType, default_type}
use Rattle.mailparse.specs.Manner.{Manner}
use Rattle.mailparse.specs.Ranges.{slice}
use Rattle.mailparse.specs.Mail.{Node, Tree, tree, Forest, no_parts, part_and, root, trees_within, trees_in, nodes, is_digest, cut_of_as, node_with, read_each, kept_message, kept_if_refused, or_kept, read_parts, read_message, read_levels}
use Rattle.mailparse.specs.Bound.{IsBounded, items_within}
use Rattle.mailparse.specs.Limit.{headers_met, limited, met_in_each, met_in_parts, met_after, items_met}
use Rattle.mailparse.specs.Views.{tree_of}
use Rattle.mailparse.specs.declared.error.MailParseError.{MailParseError}
use Rattle.mailparse.specs.declared.mail.message.ParsedMail.{ParsedMail}
use Rattle.mailparse.proofs.lemmas.Refusal.{read_map}
use Rattle.mailparse.proofs.lemmas.Mail.{refuses}
use Rattle.mailparse.proofs.lemmas.Bound.{answer-bounded}
use Rattle.mailparse.proofs.lemmas.Limit.{limited-read, within_limit}

-- ---- the messages and headers of a list

unfoldable items : List Node → ℕ
items found = length found + sum_by (λ node. length node.headers) found

items-cons : (node : Node) (found : List Node) → items (node ∷ found) ≡ 1 + (length node.headers + items found)
unfolding items
items-cons node found =
    let headers = sum_by-cons (λ (x : Node). length x.headers) node found in
    omega (arith, headers)

items-append : (front rest : List Node) → items (front ++ rest) ≡ items front + items rest
unfolding items
items-append front rest =
    let headers = sum_by-append (λ (x : Node). length x.headers) front rest in
    let size = length-append front rest in
    omega (arith, headers, size)

items-none : items [] ≡ 0
unfolding items
items-none = refl

items-within : (t : Tree) → items (nodes t) ≡ items_within t
unfolding items
items-within t = refl

-- those of parts
unfoldable items_in : Forest → ℕ
items_in parts = items (map root (trees_in parts))

items_in-none : items_in no_parts ≡ 0
unfolding items_in
items_in-none = items-none

items_in-and : (t : Tree) (parts : Forest) → items_in (part_and t parts) ≡ items (nodes t) + items_in parts
unfolding items_in
items_in-and t parts = ap items (map-append root (trees_within t) (trees_in parts)) ∙ items-append (nodes t) (map root (trees_in parts))

items-tree : (node : Node) (parts : Forest) → items (nodes (tree node parts)) ≡ 1 + (length node.headers + items_in parts)
unfolding items_in
items-tree node parts = items-cons node (map root (trees_in parts))

items-kept : (bytes : List ℕ) → items (nodes (kept_message bytes)) ≡ 1
items-kept bytes =
    let all = items-tree (record { bytes = bytes; block = []; headers = []; ctype = default_type; body = bytes }) no_parts in
    let none = items_in-none in
    omega (arith, all, none)

-- ---- some parts

abbrev Counts : (List ℕ → Reads Tree) → (List ℕ → ℕ) → Type 0
Counts read met = (bytes : List ℕ) (t : Tree) → read bytes ≡ Ok t → met bytes ≡ items (nodes t)

met_in_each-is : (read : List ℕ → Reads Tree) (met : List ℕ → ℕ) → Counts read met → (bytes : List (List ℕ)) (parts : Forest) → read_each read bytes ≡ Ok parts → met_in_each read met bytes ≡ items_in parts
met_in_each-is read met counts [] parts e =
    let same : no_parts ≡ parts = cc in
    subst (λ (f : Forest). 0 ≡ items_in f) same (sym items_in-none)
met_in_each-is read met counts (first ∷ rest) parts e =
    by_part (read first) (read_each read rest) refl refl e (λ others more. met_in_each-is read met counts rest others more)
  where
    by_part : (one : Reads Tree) (others : Reads Forest) → read first ≡ one → read_each read rest ≡ others
        → ◌>>=◌ one (λ t. read_map (part_and t) others) ≡ Ok parts
        → ((others : Forest) → read_each read rest ≡ Ok others → met_in_each read met rest ≡ items_in others)
        → met first + cond (is_ok (read first)) (met_in_each read met rest) 0 ≡ items_in parts
    by_part (Err refusal) others f g h ih = absurd (cc)
    by_part (Ok t) (Err refusal) f g h ih = absurd (cc)
    by_part (Ok t) (Ok others) f g h ih =
        let same : part_and t others ≡ parts = cc in
        let one = counts first t f in
        let more = ih others g in
        let both = items_in-and t others in
        let read_first : cond (is_ok (read first)) (met_in_each read met rest) 0 ≡ met_in_each read met rest = ap (λ (r : Reads Tree). cond (is_ok r) (met_in_each read met rest) 0) f in
        subst (λ (f : Forest). met first + cond (is_ok (read first)) (met_in_each read met rest) 0 ≡ items_in f) same (omega (arith, one, more, both, read_first))

-- parts none of which is refused
read_each-read : (read : List ℕ → Reads Tree) → ((bytes : List ℕ) (r : Refusal) → read bytes ≡ Err r → ⊥) → (bytes : List (List ℕ)) (r : Refusal) → read_each read bytes ≡ Err r → ⊥
read_each-read read never [] r e = absurd (cc)
read_each-read read never (first ∷ rest) r e = by_part (read first) (read_each read rest) refl refl e (λ q more. read_each-read read never rest q more)
  where
    by_part : (one : Reads Tree) (others : Reads Forest) → read first ≡ one → read_each read rest ≡ others → ◌>>=◌ one (λ t. read_map (part_and t) others) ≡ Err r
        → ((q : Refusal) → read_each read rest ≡ Err q → ⊥) → ⊥
    by_part (Err refusal) others f g h ih = never first refusal f
    by_part (Ok t) (Err refusal) f g h ih = ih refusal g
    by_part (Ok t) (Ok others) f g h ih = absurd (cc)

-- ---- a message

-- In a manner of reading.
module _ (manner : Manner) where
  -- a message was read, or is kept
  or_kept-cases : {P : Type 0} (bytes : List ℕ) (r : Reads Tree) (t : Tree) → or_kept manner bytes r ≡ Ok t → (r ≡ Ok t → P)
      → ((e : Refusal) → manner.keeps_refused ≡ true → r ≡ Err e → kept_message bytes ≡ t → P) → P
  or_kept-cases {P = P} bytes r t e read kept = by_manner manner.keeps_refused refl r refl e
    where
      by_manner : (k : Bool) → manner.keeps_refused ≡ k → (own : Reads Tree) → r ≡ own → if k then kept_if_refused bytes own else own ≡ Ok t → P
      by_manner false is own f h = read (f ∙ h)
      by_manner true is (Ok u) f h = read (f ∙ h)
      by_manner true is (Err refusal) f h =
          let here : ◌≡◌ {A = Reads Tree} (Ok (kept_message bytes)) (Ok t) = h in
          kept refusal is f (cc)

  items_met-counts : (levels : ℕ) (in_digest : Bool) → Counts (read_levels manner levels in_digest) (items_met manner levels in_digest)
  unfolding read_levels items_met
  items_met-counts zero in_digest bytes t e =
      or_kept-cases bytes (Err recursion_limit) t e (λ h. absurd (cc))
      (λ r keeps h same. subst (λ (u : Tree). 1 ≡ items (nodes u)) same (sym (items-kept bytes)))
  items_met-counts (suc levels) in_digest bytes t e =
      or_kept-cases bytes (read_message manner (read_levels manner levels) in_digest bytes) t e
      (λ h. by_block (read_block manner.lenient_headers bytes) h (λ digest. items_met-counts levels digest))
      (λ r keeps h same. subst (λ (u : Tree). 1 + (headers_met (read_block manner.lenient_headers bytes) + met_after manner (read_levels manner levels) (items_met manner levels) in_digest bytes (read_block manner.lenient_headers bytes)) ≡ items (nodes u)) same
      (by_kept (read_block manner.lenient_headers bytes) r keeps h ∙ sym (items-kept bytes)))
    where
      cut : HeaderList → ContentType → List (List ℕ)
      cut block ctype = map (slice bytes) (cut_of_as manner.whole_lines ctype bytes block.index).parts

      by_parts : (block : HeaderList) (ctype : ContentType) (parts : Reads Forest)
          → read_each (read_levels manner levels (is_digest ctype)) (map (slice bytes) (cut_of_as manner.whole_lines ctype bytes block.index).parts) ≡ parts
          → read_map (tree (node_with bytes block ctype (cut_of_as manner.whole_lines ctype bytes block.index))) parts ≡ Ok t
          → Counts (read_levels manner levels (is_digest ctype)) (items_met manner levels (is_digest ctype))
          → 1 + (length block.headers + met_in_parts manner (read_levels manner levels) (items_met manner levels) bytes block.index ctype) ≡ items (nodes t)
      by_parts block ctype (Err refusal) f h ih = absurd (cc)
      by_parts block ctype (Ok parts) f h ih =
          let node = node_with bytes block ctype (cut_of_as manner.whole_lines ctype bytes block.index) in
          let same : tree node parts ≡ t = cc in
          let all = met_in_each-is (read_levels manner levels (is_digest ctype)) (items_met manner levels (is_digest ctype)) ih (map (slice bytes) (cut_of_as manner.whole_lines ctype bytes block.index).parts) parts f in
          ap (λ n. 1 + (length block.headers + n)) all ∙ sym (items-tree node parts) ∙ ap (λ (u : Tree). items (nodes u)) same

      by_block : (block : Reads HeaderList) → ◌>>=◌ block (λ b. read_parts manner (read_levels manner levels) bytes b (manner.type_of in_digest b.headers)) ≡ Ok t
          → ((digest : Bool) → Counts (read_levels manner levels digest) (items_met manner levels digest))
          → 1 + (headers_met block + met_after manner (read_levels manner levels) (items_met manner levels) in_digest bytes block) ≡ items (nodes t)
      by_block (Err refusal) h ih = absurd (cc)
      by_block (Ok block) h ih = by_parts block (manner.type_of in_digest block.headers) _ refl h (ih (is_digest (manner.type_of in_digest block.headers)))

      kept_parts : (block : HeaderList) (ctype : ContentType) (r : Refusal) (parts : Reads Forest) → manner.keeps_refused ≡ true
          → read_each (read_levels manner levels (is_digest ctype)) (map (slice bytes) (cut_of_as manner.whole_lines ctype bytes block.index).parts) ≡ parts
          → read_map (tree (node_with bytes block ctype (cut_of_as manner.whole_lines ctype bytes block.index))) parts ≡ Err r → ⊥
      kept_parts block ctype r (Err refusal) keeps f h =
          read_each-read (read_levels manner levels (is_digest ctype)) (λ part q refused. false≢true (sym (refuses manner levels (is_digest ctype) part q refused) ∙ keeps)) _ refusal f
      kept_parts block ctype r (Ok parts) keeps f h = absurd (cc)

      by_kept : (block : Reads HeaderList) (r : Refusal) → manner.keeps_refused ≡ true
          → ◌>>=◌ block (λ b. read_parts manner (read_levels manner levels) bytes b (manner.type_of in_digest b.headers)) ≡ Err r
          → 1 + (headers_met block + met_after manner (read_levels manner levels) (items_met manner levels) in_digest bytes block) ≡ 1
      by_kept (Err refusal) r keeps h = refl
      by_kept (Ok block) r keeps h = absurd (kept_parts block (manner.type_of in_digest block.headers) r _ keeps refl h)

  -- what is met in a message that is read are its messages and headers
  pub items_met-within : (levels : ℕ) (in_digest : Bool) (bytes : List ℕ) (t : Tree) → read_levels manner levels in_digest bytes ≡ Ok t → items_met manner levels in_digest bytes ≡ items_within t
  items_met-within levels in_digest bytes t e = items_met-counts levels in_digest bytes t e ∙ items-within t

  -- ---- what a call returned that reads a message with a limit
  module _ (result : Result ParsedMail MailParseError) (levels : ℕ) (in_digest : Bool) (bytes : List ℕ) (most : ℕ) where
    abbrev Answered : Result ParsedMail MailParseError → Type 0
    Answered r = AnswersOrMemory tree_of r (limited (Some most) (items_met manner levels in_digest bytes) (read_levels manner levels in_digest bytes))

    pub answer-items : Answered result → IfOk result (λ mail. items_within (tree_of mail) ≤ most)
    answer-items h = by_result result h
      where
        by_result : (r : Result ParsedMail MailParseError) → Answered r → IfOk r (λ mail. items_within (tree_of mail) ≤ most)
        by_result (Err e) f = tt
        by_result (Ok mail) f =
            let within = within_limit most (items_met manner levels in_digest bytes) (read_levels manner levels in_digest bytes) (tree_of mail) f in
            let low = within.0 in
            let same = items_met-within levels in_digest bytes (tree_of mail) within.1 in
            omega (arith, low, same)

    pub answer-within-bounded : Answered result → IfOk result (λ mail. IsBounded (tree_of mail) (length bytes))
    answer-within-bounded h = by_result result h
      where
        by_result : (r : Result ParsedMail MailParseError) → Answered r → IfOk r (λ mail. IsBounded (tree_of mail) (length bytes))
        by_result (Err e) f = tt
        by_result (Ok mail) f =
            answer-bounded manner (Ok mail) levels in_digest bytes (limited-read (Some most) (items_met manner levels in_digest bytes) (read_levels manner levels in_digest bytes) (tree_of mail) f)

-- the bounds of an answer within a limit
pub ruleset within_bounds = (answer-items, answer-within-bounded)
