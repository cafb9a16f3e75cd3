-- The bytes of a mail that was read are those that were read.
use Rattle.std.proofs.Common.{◌≡◌, ℕ, zero, suc, Bool, true, false, List, Option, Some, Ok, Err, refl}
use Rattle.std.specs.Prelude.{if◌then◌else◌}
use Rattle.mail_codec.specs.Charset.{Charsets}
use Rattle.mailparse.specs.Block.{HeaderList, read_block}
use Rattle.mailparse.specs.ContentType.{ContentType}
use Rattle.mailparse.specs.Limit.{items_met, read_mail_within}
use Rattle.mailparse.specs.Mail.{Forest, Tree, cut_of_as, kept_if_refused, kept_message, node_with, read_levels, read_mail_as, read_message, read_parts, root, tree}
use Rattle.mailparse.specs.Manner.{Manner}
use Rattle.mailparse.specs.Refusal.{◌>>=◌, Reads, recursion_limit}
use Rattle.mailparse.proofs.lemmas.Limit.{limited-read}
use Rattle.mailparse.proofs.lemmas.Refusal.{read_map}
use Rattle.mail_read.specs.Reading as plain
use Rattle.mail_read.specs.lenient.Manner.{lenient}
use Rattle.mail_parts.specs.DecodedSize.{bounded_reading}
use Rattle.mail_parts.proofs.lemmas.DecodedSize.{bounded-read}
use Rattle.mail_parts.proofs.lemmas.Reading.{all-read}

same-bytes : (bytes : List ℕ) (t u : Tree) → ◌≡◌ {A = Reads Tree} (Ok t) (Ok u) → (root t).bytes ≡ bytes → (root u).bytes ≡ bytes
same-bytes bytes t u e is =
    let same : u ≡ t = cc in
    rw same is

-- a refused message is kept with its bytes
kept-bytes : (bytes : List ℕ) (keeps : Bool) (reading : Reads Tree) (t : Tree) → (if keeps then kept_if_refused bytes reading else reading) ≡ Ok t
    → (reading ≡ Ok t → (root t).bytes ≡ bytes) → (root t).bytes ≡ bytes
kept-bytes bytes false reading t e own = own e
kept-bytes bytes true (Ok u) t e own = own e
kept-bytes bytes true (Err refusal) t e own = same-bytes bytes (kept_message bytes) t e refl

-- In a manner of reading.
module _ (manner : Manner) where
  -- a message that is read is made with its bytes, whatever its parts are
  parts-bytes : (bytes : List ℕ) (block : HeaderList) (ctype : ContentType) (parts : Reads Forest) (t : Tree)
      → read_map (tree (node_with bytes block ctype (cut_of_as manner.whole_lines ctype bytes block.index))) parts ≡ Ok t → (root t).bytes ≡ bytes
  parts-bytes bytes block ctype (Err refusal) t e = absurd (cc)
  parts-bytes bytes block ctype (Ok parts) t e = same-bytes bytes (tree (node_with bytes block ctype (cut_of_as manner.whole_lines ctype bytes block.index)) parts) t e refl

  block-bytes : (read : Bool → List ℕ → Reads Tree) (in_digest : Bool) (bytes : List ℕ) (block : Reads HeaderList) (t : Tree)
      → ◌>>=◌ block (λ b. read_parts manner read bytes b (manner.type_of in_digest b.headers)) ≡ Ok t → (root t).bytes ≡ bytes
  block-bytes read in_digest bytes (Err refusal) t e = absurd (cc)
  block-bytes read in_digest bytes (Ok block) t e = parts-bytes bytes block (manner.type_of in_digest block.headers) _ t e

  levels-bytes : (levels : ℕ) (in_digest : Bool) (bytes : List ℕ) (t : Tree) → read_levels manner levels in_digest bytes ≡ Ok t → (root t).bytes ≡ bytes
  unfolding read_levels
  levels-bytes zero in_digest bytes t e = kept-bytes bytes manner.keeps_refused (Err recursion_limit) t e (λ h. absurd (cc))
  levels-bytes (suc levels) in_digest bytes t e =
      kept-bytes bytes manner.keeps_refused (read_message manner (read_levels manner levels) in_digest bytes) t e
      (block-bytes (read_levels manner levels) in_digest bytes (read_block manner.lenient_headers bytes) t)

-- those of a mail that was read with a limit
pub data_bytes : (known : Charsets) (limit : ℕ) (bytes : List ℕ) (t : Tree) → plain.mail_reading known limit bytes ≡ Ok t → (root t).bytes ≡ bytes
unfolding plain.mail_reading read_mail_within
data_bytes known limit bytes t e =
    levels-bytes (lenient known) 101 false bytes t
    (limited-read (Some limit) (items_met (lenient known) 101 false bytes) (read_mail_as (lenient known) 100 bytes) t e)

-- also if no file in a text may be left out, and the mails inside may not take too many bytes
pub bounded_bytes : (known : Charsets) (limit : ℕ) (chosen : Option ℕ) (bytes : List ℕ) (t : Tree) → bounded_reading known limit chosen bytes ≡ Ok t
    → (root t).bytes ≡ bytes
bounded_bytes known limit chosen bytes t e = data_bytes known limit bytes t (all-read known limit bytes t (bounded-read known limit chosen bytes t e))
