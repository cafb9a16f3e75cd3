-- The mails inside a mail and inside those, with the paths of the parts that contain them; the
-- paths of their parts (RFC 3501, section 6.4.5).
use Rattle.std.specs.Prelude.{ℕ, zero, suc, ◌+◌, ◌-◌, ◌^◌, Bool, false, not, ◌&&◌, ◌||◌, ◌==◌, min, nat_lt, List, [], ◌∷◌, length, filter, flat_map, Option, Some, None, codes, if◌then◌else◌}
use Rattle.std.specs.Option.{option_map_or}
use Rattle.std.specs.Result.{result_err, result_ok}
use Rattle.std.specs.Str.{bytes_eq}
use Rattle.mail_codec.specs.Charset.{Charsets}
use Rattle.mailparse.specs.Body.{is_encoded}
use Rattle.mailparse.specs.Mail.{Node, Tree, read_mail_as, read_mail_in, root}
use Rattle.mailparse.specs.Manner.{Manner}
use Rattle.mailparse.specs.Placement.{Placement, placements, placements_as}
use Rattle.mailparse.specs.Refusal.{Reads, Refusal}
use Rattle.mail_read.specs.Files.{is_leaf, path_under, with_paths}
use Rattle.mail_read.specs.PartPlaces.{Place, placed}
use Rattle.mail_read.specs.Reading.{mail_placements, mail_reading}
use Rattle.mail_read.specs.lenient.Content.{message_content}
use Rattle.mail_read.specs.lenient.Encoding.{LenientKind, in_uuencode, lenient_body_kind, standard}

-- ---- paths

-- the path of a mail inside the part with this path: that of the part, or if the mail has no parts,
-- that of its body
unfoldable pub path_within : List ℕ → Tree → List ℕ
path_within path t = if is_leaf t then path_under path 1 else path

-- a mail inside the part with this path, and then its parts, given their places in this order
unfoldable pub places_under : List ℕ → Tree → List Placement → List Place
places_under path mail found = placed (with_paths (path_within path mail) mail) found

-- the number of dots in a path, one less than its numbers
unfoldable pub dot_count : List ℕ → ℕ
dot_count path = length (filter (λ c. c == 46) path)

-- ---- mails

-- a part forwards a mail: its type is `message/rfc822` (RFC 2046, section 5.2.1) or
-- `message/global` (RFC 6532, section 3.7)
abbrev pub forwards : Node → Bool
forwards node =
    bytes_eq node.ctype.mimetype (codes "message/rfc822")
    || bytes_eq node.ctype.mimetype (codes "message/global")

-- a part contains a mail that is read: it forwards one, and its path has fewer than 100 numbers
unfoldable pub holds_mail : Place → Bool
holds_mail place = forwards (root place.part) && nat_lt (dot_count place.path) 99

-- the bytes of the mail in a part, without its transfer encoding
abbrev pub mail_bytes : Place → List ℕ
mail_bytes place = (message_content (root place.part)).bytes

-- a body in this encoding is not encoded
abbrev pub is_plain : LenientKind → Bool
is_plain (standard kind) = not (is_encoded kind)
is_plain in_uuencode = false

-- the offset of the mail in a part, given that of the mail that contains the part: none if it is
-- encoded or that one has none
unfoldable pub mail_start : Option ℕ → Place → Option ℕ
mail_start None place = None
mail_start (Some start) place =
    if is_plain (lenient_body_kind (root place.part))
    then Some (min (start + place.placement.body.start) (2 ^ 64 - 1)) else None

-- the mail that a part forwards: its bytes, and their offset in the whole mail, if they occur there
pub record Forwarded : Type 0 where
  pub bytes : List ℕ
  pub start : Option ℕ

-- the mail that a part forwards, if it is read, given the offset of the mail that contains the part
abbrev pub forwarded : Option ℕ → Place → Option Forwarded
forwarded start place =
    if holds_mail place
    then Some (record { bytes = mail_bytes place; start = mail_start start place }) else None

-- a mail inside: the path of the part that contains it, its bytes, their offset in the whole mail,
-- if they occur there, and its refusal
pub record InnerMail : Type 0 where
  pub path : List ℕ
  pub bytes : List ℕ
  pub start : Option ℕ
  pub refusal : Option Refusal

-- Mails inside that are read in this way, and whose parts have these placements.
module _ (reads : List ℕ → Reads Tree) (placed_in : Tree → List Placement) where
  -- the reading of the mail in a part
  abbrev pub mail_read_by : Place → Reads Tree
  mail_read_by place = reads (mail_bytes place)

  -- the mail in a part, given the offset of the mail that contains the part
  abbrev pub held_mail_by : Option ℕ → Place → InnerMail
  held_mail_by start place = record {
    path = place.path;
    bytes = mail_bytes place;
    start = mail_start start place;
    refusal = result_err (mail_read_by place);
  }

  -- the mails inside a mail, at most `most` mails deep, given the path of the part that contains
  -- that mail and its offset: those in its parts, in order, and after each of them those inside it
  abbrev pub inner_mails_by : ℕ → List ℕ → Option ℕ → Tree → List Placement → List InnerMail
  inner_mails_by zero path start mail found = []
  inner_mails_by (suc most) path start mail found = flat_map (λ place.
      if holds_mail place
      then held_mail_by start place ∷ option_map_or
      (λ inside. inner_mails_by most place.path (mail_start start place) inside (placed_in inside))
      (result_ok (mail_read_by place)) []
      else []) (places_under path mail found)

  -- the mails inside a mail that was read so, given its path and its offset
  abbrev pub mails_below_by : ℕ → List ℕ → Option ℕ → Reads Tree → List InnerMail
  mails_below_by most path start read = option_map_or
      (λ inside. inner_mails_by most path start inside (placed_in inside)) (result_ok read) []

  -- the mail in a part, if it forwards one, and those inside it
  abbrev pub mails_in_place_by : ℕ → Option ℕ → Place → List InnerMail
  mails_in_place_by most start place =
      if holds_mail place
      then held_mail_by start place
      ∷ mails_below_by most place.path (mail_start start place) (mail_read_by place)
      else []

-- In this manner, with parts down to level 100.
module _ (manner : Manner) where
  -- the mails inside a mail
  abbrev pub inner_mails_as : ℕ → List ℕ → Option ℕ → Tree → List Placement → List InnerMail
  inner_mails_as = inner_mails_by (read_mail_as manner 100) (placements_as manner.whole_lines 0)

  -- the mail in a part, if it forwards one, and those inside it
  abbrev pub mails_in_place_as : ℕ → Option ℕ → Place → List InnerMail
  mails_in_place_as =
      mails_in_place_by (read_mail_as manner 100) (placements_as manner.whole_lines 0)

-- The same in the manner of the port, under the charsets that are known.
module _ (known : Charsets) where
  abbrev pub inner_mails : ℕ → List ℕ → Option ℕ → Tree → List Placement → List InnerMail
  inner_mails = inner_mails_by (read_mail_in known 100) (placements 0)

-- The same as the programs read mails, each with a limit of its own on its messages, parts and headers.
module _ (known : Charsets) (limit : ℕ) where
  abbrev pub inner_mails_within : ℕ → List ℕ → Option ℕ → Tree → List Placement → List InnerMail
  inner_mails_within = inner_mails_by (mail_reading known limit) mail_placements

  abbrev pub mails_below : ℕ → List ℕ → Option ℕ → Reads Tree → List InnerMail
  mails_below = mails_below_by (mail_reading known limit) mail_placements

  abbrev pub mails_in_place : ℕ → Option ℕ → Place → List InnerMail
  mails_in_place = mails_in_place_by (mail_reading known limit) mail_placements
