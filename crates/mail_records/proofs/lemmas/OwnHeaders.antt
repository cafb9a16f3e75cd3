-- The headers of each message that was read are the first ones of its bytes.
use Rattle.std.proofs.Common.{◌≡◌, ℕ, zero, suc, Bool, true, false, List, [], ◌∷◌, ◌++◌, map, Ok, Err, refl, sym, ap, subst, ◌∙◌}
use Rattle.std.specs.Prelude.{if◌then◌else◌}
use Rattle.mailparse.specs.Refusal.{◌>>=◌, recursion_limit, Reads}
use Rattle.mailparse.specs.Block.{HeaderList, read_block}
use Rattle.mailparse.specs.ContentType.{ContentType}
use Rattle.mailparse.specs.Manner.{Manner}
use Rattle.mailparse.specs.Ranges.{slice}
use Rattle.mailparse.specs.Mail.{root, Tree, tree, Forest, no_parts, part_and, trees_within, trees_in, is_digest, cut_of_as, node_with, read_each, kept_message, kept_if_refused, or_kept, read_parts, read_message, read_levels, read_mail_as}
use Rattle.mailparse.proofs.lemmas.Refusal.{read_map}
use Rattle.mail_codec.specs.Charset.{Charsets}
use Rattle.std.specs.Prelude.{Some}
use Rattle.mailparse.specs.Limit.{items_met, read_mail_within}
use Rattle.mailparse.proofs.lemmas.Limit.{limited-read}
use Rattle.mail_read.specs.Reading.{mail_reading}
use Rattle.mail_read.specs.lenient.Manner.{lenient}
use Rattle.mail_records.specs.OwnHeaders.{AllOwn, AreFirstHeaders, HasOwnHeaders}
use Rattle.mailparse.specs.Header.{Header}
use Rattle.mail_records.proofs.lemmas.FirstHeaders.{read_lenient-first}

-- the headers of a message are the first ones of its bytes
pub own-of : (raw : List ℕ) (headers : List Header) (t : Tree) → raw ≡ (root t).bytes → headers ≡ (root t).headers → HasOwnHeaders t → AreFirstHeaders raw headers
own-of raw headers t r h own =
    subst (λ (bytes : List ℕ). AreFirstHeaders bytes headers) (sym r) (subst (λ (hs : List Header). AreFirstHeaders (root t).bytes hs) (sym h) own)

AllOwn-append : (ts more : List Tree) → AllOwn ts → AllOwn more → AllOwn (ts ++ more)
AllOwn-append [] more own others = others
AllOwn-append (t ∷ ts) more own others = (own.0, AllOwn-append ts more own.1 others)

-- a reading of messages with their own headers
abbrev ReadsOwn : (List ℕ → Reads Tree) → Type 0
ReadsOwn read = (bytes : List ℕ) (t : Tree) → read bytes ≡ Ok t → AllOwn (trees_within t)

read_each-own : (read : List ℕ → Reads Tree) → ReadsOwn read → (pieces : List (List ℕ)) (parts : Forest) → read_each read pieces ≡ Ok parts → AllOwn (trees_in parts)
read_each-own read own [] parts e = let same : no_parts ≡ parts = cc in subst (λ (f : Forest). AllOwn (trees_in f)) same tt
read_each-own read own (piece ∷ pieces) parts e =
    by_part (read piece) (read_each read pieces) refl refl e (λ others more. read_each-own read own pieces others more)
  where
    by_part : (first : Reads Tree) (rest : Reads Forest) → read piece ≡ first → read_each read pieces ≡ rest
        → ◌>>=◌ first (λ t. read_map (part_and t) rest) ≡ Ok parts
        → ((others : Forest) → read_each read pieces ≡ Ok others → AllOwn (trees_in others)) → AllOwn (trees_in parts)
    by_part (Err refusal) rest f g h ih = absurd (cc)
    by_part (Ok t) (Err refusal) f g h ih = absurd (cc)
    by_part (Ok t) (Ok others) f g h ih =
        let same : part_and t others ≡ parts = cc in
        subst (λ (f : Forest). AllOwn (trees_in f)) same (AllOwn-append (trees_within t) (trees_in others) (own piece t f) (ih others g))

-- In a manner that reads headers leniently.
module _ (manner : Manner) (bare : manner.lenient_headers ≡ true) where
  -- a refused message that is kept has no headers
  or_kept-own : (bytes : List ℕ) (reading : Reads Tree) (t : Tree) → or_kept manner bytes reading ≡ Ok t
      → (reading ≡ Ok t → AllOwn (trees_within t)) → AllOwn (trees_within t)
  or_kept-own bytes reading t e own = by_manner manner.keeps_refused reading e own
    where
      by_manner : (k : Bool) (r : Reads Tree) → if k then kept_if_refused bytes r else r ≡ Ok t → (r ≡ Ok t → AllOwn (trees_within t)) → AllOwn (trees_within t)
      by_manner false r h own = own h
      by_manner true (Ok u) h own = own h
      by_manner true (Err refusal) h own =
          let here : ◌≡◌ {A = Reads Tree} (Ok (kept_message bytes)) (Ok t) = h in
          let same : kept_message bytes ≡ t = cc in
          subst (λ (u : Tree). AllOwn (trees_within u)) same (refl, tt)

  read_levels-own : (levels : ℕ) (in_digest : Bool) → ReadsOwn (read_levels manner levels in_digest)
  unfolding read_levels
  read_levels-own zero in_digest bytes t e = or_kept-own bytes (Err recursion_limit) t e (λ h. absurd (cc))
  read_levels-own (suc levels) in_digest bytes t e =
      or_kept-own bytes (read_message manner (read_levels manner levels) in_digest bytes) t e (λ h. by_block (read_block manner.lenient_headers bytes) refl h (λ digest. read_levels-own levels digest))
    where
      by_parts : (block : HeaderList) (ctype : ContentType) → read_block manner.lenient_headers bytes ≡ Ok block → (parts : Reads Forest)
          → read_each (read_levels manner levels (is_digest ctype)) (map (slice bytes) (cut_of_as manner.whole_lines ctype bytes block.index).parts) ≡ parts
          → read_map (tree (node_with bytes block ctype (cut_of_as manner.whole_lines ctype bytes block.index))) parts ≡ Ok t
          → ReadsOwn (read_levels manner levels (is_digest ctype)) → AllOwn (trees_within t)
      by_parts block ctype read (Err refusal) f h ih = absurd (cc)
      by_parts block ctype read (Ok parts) f h ih =
          let cut = cut_of_as manner.whole_lines ctype bytes block.index in
          let same : tree (node_with bytes block ctype cut) parts ≡ t = cc in
          let all = read_each-own (read_levels manner levels (is_digest ctype)) ih (map (slice bytes) cut.parts) parts f in
          subst (λ (u : Tree). AllOwn (trees_within u)) same (read_lenient-first bytes block (ap (λ (v : Bool). read_block v bytes) (sym bare) ∙ read), all)

      by_block : (block : Reads HeaderList) → read_block manner.lenient_headers bytes ≡ block
          → ◌>>=◌ block (λ b. read_parts manner (read_levels manner levels) bytes b (manner.type_of in_digest b.headers)) ≡ Ok t
          → ((digest : Bool) → ReadsOwn (read_levels manner levels digest)) → AllOwn (trees_within t)
      by_block (Err refusal) read h ih = absurd (cc)
      by_block (Ok block) read h ih = by_parts block (manner.type_of in_digest block.headers) read _ refl h (ih (is_digest (manner.type_of in_digest block.headers)))

-- in a mail that was read with a limit, however deep its parts may be nested
pub mail_reading-own : (known : Charsets) (limit : ℕ) (bytes : List ℕ) (t : Tree) → mail_reading known limit bytes ≡ Ok t → AllOwn (trees_within t)
unfolding mail_reading read_mail_within
mail_reading-own known limit bytes t e =
    read_levels-own (lenient known) refl 101 false bytes t
    (limited-read (Some limit) (items_met (lenient known) 101 false bytes) (read_mail_as (lenient known) 100 bytes) t e)
