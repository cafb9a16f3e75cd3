-- A message that a reader appends to a list, first without its parts and then with them.
use Rattle.std.specs.Prelude.{◌≡◌, ℕ, ◌+◌, ◌<◌, ◌≤◌, Bool, List, [], ◌∷◌, ◌++◌, length, map, take, drop, slice_range, Option, Some, None, option_map, Ok, IfSome}
use Rattle.std.specs.List.{flat_map}
use Rattle.mail_codec.specs.Ascii.{line_feed}
use Rattle.mailparse.specs.Refusal.{Reads}
use Rattle.mailparse.specs.Header.{Header}
use Rattle.mailparse.specs.Block.{read_block}
use Rattle.mailparse.specs.ContentType.{ContentType}
use Rattle.mailparse.specs.Delimiters.{first_part_as, preamble_end_as}
use Rattle.mailparse.specs.Limit.{items_met, limited}
use Rattle.mailparse.specs.private.Limit.{less}
use Rattle.mailparse.specs.Mail.{Tree, tree, root, no_parts, forest, dash_boundary_of, is_digest, whole_lines_for, read_levels}
use Rattle.mailparse.specs.Manner.{Manner}
use Rattle.mailparse.specs.Placement.{placements_as}
use Rattle.mailparse.specs.Views.{in_digest, placement_of, placements_of, tree_of}
use Rattle.mailparse.specs.declared.mail.Split.{Split}
use Rattle.mailparse.specs.declared.mail.message.ParsedMail.{ParsedMail}

-- a list has one more message at its end, of which this is true
abbrev pub IsPushed : List ParsedMail → List ParsedMail → (ParsedMail → Type 0) → Type 0
IsPushed before after is = (mail : ParsedMail) × (after ≡ before ++ mail ∷ []) × is mail

-- a message is another one with these parts
abbrev pub HasParts : ParsedMail → List ParsedMail → ParsedMail → Type 0
HasParts mail parts whole =
    (tree_of whole ≡ tree (root (tree_of mail)) (forest (map tree_of parts)))
    × (placements_of whole ≡ placement_of mail ∷ flat_map (λ places. places) (map placements_of parts))

-- a reading with a limit on its items
abbrev pub reading_left : Manner → Option ℕ → ℕ → Bool → List ℕ → Reads Tree
reading_left manner limit levels digest raw = limited limit (items_met manner levels digest raw) (read_levels manner levels digest raw)

-- the message in some bytes at an offset was read with all its parts, under a limit of which this is left
pub record IsRead (manner : Manner) (limit left : Option ℕ) (levels : ℕ) (digest : Bool) (raw : List ℕ) (offset : ℕ) (mail : ParsedMail) : Type 0 where
  pub read : reading_left manner limit levels digest raw ≡ Ok (tree_of mail)
  pub spent : left ≡ less limit (items_met manner levels digest raw)
  pub places : placements_of mail ≡ placements_as manner.whole_lines offset (tree_of mail)

-- it was read without its parts, into which it is split this way
pub record IsSplit (manner : Manner) (limit left : Option ℕ) (levels : ℕ) (digest : Bool) (raw : List ℕ) (offset : ℕ) (split : Split) (mail : ParsedMail) : Type 0 where
  -- its headers, the offset of its body, its type, and what is left of the limit after the message itself
  pub headers : List Header
  pub index : ℕ
  pub ctype : ContentType
  pub own : Option ℕ
  pub some : 0 < levels
  pub read : read_block manner.lenient_headers raw ≡ Ok (record { headers = headers; index = index })
  pub within : index ≤ length raw
  pub type : manner.type_of digest headers ≡ ctype
  pub delimiter : Some split.line_delimiter.items ≡ option_map (λ dash_boundary. line_feed ∷ dash_boundary) (dash_boundary_of ctype)
  pub lines : split.whole ≡ whole_lines_for manner.whole_lines (drop 1 split.line_delimiter.items)
  pub inner : in_digest split.inner ≡ is_digest ctype
  pub first : split.first ≡ first_part_as split.whole (drop 1 split.line_delimiter.items) raw index
  pub bounds : IfSome split.first (λ next. next ≤ length raw)
  pub one : limited limit 1 (Ok (less limit 1)) ≡ Ok own
  pub more : limited own (length headers) (Ok (less own (length headers))) ≡ Ok left
  pub message : tree_of mail ≡ tree (record {
    bytes = raw;
    block = take index raw;
    headers = headers;
    ctype = ctype;
    body = slice_range raw index (preamble_end_as split.whole (drop 1 split.line_delimiter.items) raw index);
  }) no_parts
  pub placement : placement_of mail ≡ record {
    whole = record { start = offset; end = offset + length raw };
    body = record { start = offset + index; end = offset + preamble_end_as split.whole (drop 1 split.line_delimiter.items) raw index };
  }

-- it was read with all its parts, or without them if it may have any
abbrev pub IsBegun : Manner → Option ℕ → Option ℕ → ℕ → Bool → List ℕ → ℕ → Option Split → ParsedMail → Type 0
IsBegun manner limit left levels digest raw offset None mail = IsRead manner limit left levels digest raw offset mail
IsBegun manner limit left levels digest raw offset (Some split) mail = IsSplit manner limit left levels digest raw offset split mail
