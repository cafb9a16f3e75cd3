-- What is read under one limit on levels is read under every greater one, but for what the lower limit refuses.
use Rattle.std.proofs.Common.{◌≡◌, ◌⊎◌, inl, inr, ℕ, zero, suc, ◌≤◌, Bool, false, List, [], ◌∷◌, map, Ok, Err, refl, sym, ap, ◌∙◌, subst, ⊎_elim, arith}
use Rattle.mail_codec.specs.Charset.{Charsets}
use Rattle.mailparse.specs.Block.{HeaderList, read_headers}
use Rattle.mailparse.specs.ContentType.{ContentType}
use Rattle.mailparse.specs.Mail.{strict, Tree, tree, part_and, cut_of, is_digest, node_type, node_with, read_each, read_levels, read_mail_in, read_parts}
use Rattle.mailparse.specs.Ranges.{slice}
use Rattle.mailparse.specs.Refusal.{◌>>=◌, Reads, recursion_limit}

-- the first of two readings meets the limit, or both are the same
abbrev Limited : {A : Type 0} → Reads A → Reads A → Type 0
Limited lower greater = (lower ≡ Err recursion_limit) ⊎ (lower ≡ greater)

-- and so what is read after each
then-limited : {A B : Type 0} (lower greater : Reads A) (f g : A → Reads B) → Limited lower greater → ((x : A) → Limited (f x) (g x))
    → Limited (◌>>=◌ lower f) (◌>>=◌ greater g)
then-limited lower greater f g (inl e) each = inl (ap (λ r. ◌>>=◌ r f) e)
then-limited (Err e) greater f g (inr same) each = inr (ap (λ r. ◌>>=◌ r g) same)
then-limited (Ok x) greater f g (inr same) each = subst (λ r. Limited (f x) (◌>>=◌ r g)) same (each x)

-- and so the parts of a message
read_each-limited : (read more : List ℕ → Reads Tree) → ((bytes : List ℕ) → Limited (read bytes) (more bytes)) → (parts : List (List ℕ))
    → Limited (read_each read parts) (read_each more parts)
read_each-limited read more each [] = inr refl
read_each-limited read more each (part ∷ parts) =
    let rest = read_each-limited read more each parts in
    then-limited (read part) (more part) (λ t. ◌>>=◌ (read_each read parts) (λ others. Ok (part_and t others)))
    (λ t. ◌>>=◌ (read_each more parts) (λ others. Ok (part_and t others))) (each part)
    (λ t. then-limited (read_each read parts) (read_each more parts) (λ others. Ok (part_and t others)) (λ others. Ok (part_and t others)) rest (λ others. inr refl))

-- Under the charsets that are known.
module _ (known : Charsets) where
  parts-limited : (read more : Bool → List ℕ → Reads Tree) → ((in_digest : Bool) (bytes : List ℕ) → Limited (read in_digest bytes) (more in_digest bytes))
      → (bytes : List ℕ) (block : HeaderList) (ctype : ContentType) → Limited (read_parts (strict known) read bytes block ctype) (read_parts (strict known) more bytes block ctype)
  parts-limited read more each bytes block ctype =
      let cut = cut_of ctype bytes block.index in
      let parts = map (slice bytes) cut.parts in
      then-limited (read_each (read (is_digest ctype)) parts) (read_each (more (is_digest ctype)) parts)
      (λ found. Ok (tree (node_with bytes block ctype cut) found)) (λ found. Ok (tree (node_with bytes block ctype cut) found))
      (read_each-limited (read (is_digest ctype)) (more (is_digest ctype)) (each (is_digest ctype)) parts) (λ found. inr refl)

  levels-limited : (lower greater : ℕ) → lower ≤ greater → (in_digest : Bool) (bytes : List ℕ)
      → Limited (read_levels (strict known) lower in_digest bytes) (read_levels (strict known) greater in_digest bytes)
  unfolding read_levels
  levels-limited zero greater order in_digest bytes = inl refl
  levels-limited (suc lower) zero order in_digest bytes = absurd (omega (arith, order))
  levels-limited (suc lower) (suc greater) order in_digest bytes =
      let each = levels-limited lower greater (omega (arith, order)) in
      then-limited (read_headers bytes) (read_headers bytes)
      (λ block. read_parts (strict known) (read_levels (strict known) lower) bytes block (node_type known in_digest block.headers))
      (λ block. read_parts (strict known) (read_levels (strict known) greater) bytes block (node_type known in_digest block.headers))
      (inr refl) (λ block. parts-limited (read_levels (strict known) lower) (read_levels (strict known) greater) each bytes block (node_type known in_digest block.headers))

  -- a message is read the same, or the lower limit refuses it
  pub read_mail_in-limited : (lower greater : ℕ) (bytes : List ℕ) → lower ≤ greater
      → (read_mail_in known lower bytes ≡ Err recursion_limit) ⊎ (read_mail_in known lower bytes ≡ read_mail_in known greater bytes)
  unfolding read_mail_in
  read_mail_in-limited lower greater bytes order = levels-limited (suc lower) (suc greater) (omega (arith, order)) false bytes

  -- a tree that was read is read the same
  pub read_mail_in-agrees : (lower greater : ℕ) (bytes : List ℕ) (mail : Tree) → lower ≤ greater → read_mail_in known lower bytes ≡ Ok mail
      → read_mail_in known greater bytes ≡ Ok mail
  read_mail_in-agrees lower greater bytes mail order read =
      ⊎_elim (λ refused. absurd (cc)) (λ same. sym same ∙ read) (read_mail_in-limited lower greater bytes order)
