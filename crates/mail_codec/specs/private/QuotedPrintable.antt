-- Quoted-printable read by special bytes and not by lines; this crate's own words.
use Rattle.std.specs.Prelude.{◌≡◌, ◌⊎◌, ℕ, ◌+◌, ◌-◌, ◌<◌, ◌≤◌, Bool, false, ◌==◌, ◌||◌, List, ◌++◌, length, take, drop, slice_index, None}
use Rattle.mail_codec.specs.Ascii.{carriage_return, equals_sign, line_feed}
use Rattle.mail_codec.specs.QuotedPrintable.{first_escape, quoted_printable}
use Rattle.mail_codec.specs.private.Vectors.{lane_mask}
use Rattle.mail_codec.specs.declared.transfer.quoted_printable.blocks.Specials.{Specials}

-- the byte may begin an escape or end a line; every other byte is copied
abbrev pub is_special : ℕ → Bool
is_special b = b == equals_sign || b == line_feed

-- no escape begins anywhere in the bytes
abbrev pub HasNoEscape : List ℕ → Type 0
HasNoEscape bytes = (k : ℕ) → first_escape (drop k bytes) ≡ None

-- from one place up to another there is a soft line break: `=`, and LF or CR LF
abbrev pub IsSoftBreak : List ℕ → ℕ → ℕ → Type 0
IsSoftBreak text at next = (slice_index text at ≡ equals_sign)
    × (((next ≡ at + 2) × (slice_index text (at + 1) ≡ line_feed))
    ⊎ ((next ≡ at + 3) × (slice_index text (at + 1) ≡ carriage_return)
    × (slice_index text (at + 2) ≡ line_feed)))

-- from one place up to another there is no LF, and no escape begins
pub record IsPlain (text : List ℕ) (from to : ℕ) : Type 0 where
  pub no_lf : (k : ℕ) → from ≤ k → k < to → (slice_index text k == line_feed) ≡ false
  pub no_escape : (k : ℕ) → from ≤ k → k < to → first_escape (drop k text) ≡ None

-- a text has been read from one place up to another: the first bytes of the output, up to a length,
-- and then those of the rest after the last line end or escape, are all; the bytes since then are
-- plain, and they have been copied
pub record IsReading (text : List ℕ) (from : ℕ) (output : List ℕ) (len plain at : ℕ) : Type 0 where
  pub within : at ≤ length text
  pub start : plain ≤ at
  pub after : from + len ≤ plain
  pub fits : len + (at - plain) ≤ length output
  pub so_far : take len output ++ quoted_printable (drop plain text)
      ≡ quoted_printable (drop from text)
  pub copied : take (at - plain) (drop len output) ≡ take (at - plain) (drop plain text)
  pub is_plain : IsPlain text plain at

-- a block has been read up to one of its special bytes, or up to its end: the bytes since the last
-- copied are plain, and those left are the bits of the mask
pub record IsInBlock (text output : List ℕ) (block : Specials) (end : ℕ) : Type 0 where
  pub reading : IsReading text block.read.from output block.read.len block.read.plain block.read.at
  pub ahead : block.read.at ≤ block.next
  pub inside : block.next ≤ length text
  pub is_plain : IsPlain text block.read.at block.next
  pub left : block.rest ≡ lane_mask is_special (take (end - block.next) (drop block.next text))
  pub near : end ≤ block.read.at + 64
  pub capacity : block.read.len + end + 64 ≤ length output + block.read.plain
