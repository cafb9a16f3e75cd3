-- Which mails need no lenient reading; the project's own terms.
use Rattle.std.specs.Prelude.{ℕ, Bool, true, not, ◌&&◌, List, [], ◌∷◌, length, drop, codes}
use Rattle.std.specs.List.{list_all}
use Rattle.std.specs.Option.{option_map_or}
use Rattle.std.specs.Str.{bytes_eq}
use Rattle.mail_codec.specs.Charset.{Charsets}
use Rattle.mailparse.specs.Block.{bare_key, header_lines_end, is_dash_line}
use Rattle.mailparse.specs.Delimiters.{Cut}
use Rattle.mailparse.specs.Header.{Header}
use Rattle.mailparse.specs.Mail.{Node, Tree, tree, Forest, no_parts, part_and, cut_of, cut_of_as}
use Rattle.mailparse.specs.Map.{first_with_key}
use Rattle.mailparse.specs.Ranges.{Range}
use Rattle.mail_read.specs.lenient.Agreement.{is_strict_value}

-- the offsets of these ranges, in order
abbrev pub offsets : List Range → List ℕ
offsets [] = []
offsets (range ∷ ranges) = range.start ∷ range.end ∷ offsets ranges

-- a body and its parts have the same ranges in both
abbrev pub is_same_cut : Cut → Cut → Bool
is_same_cut one other = bytes_eq (offsets (one.body ∷ one.parts)) (offsets (other.body ∷ other.parts))

-- whole delimiter lines split the message as all lines that begin with its dash-boundary do
abbrev pub has_whole_delimiters : Node → Bool
has_whole_delimiters node =
    is_same_cut (cut_of_as true node.ctype node.bytes (length node.block)) (cut_of node.ctype node.bytes (length node.block))

-- no line that looks like a delimiter is among its headers
abbrev pub has_no_dash_line : Node → Bool
has_no_dash_line node = not (is_dash_line (drop (header_lines_end node.bytes) node.bytes))

-- no key of these headers ends in a blank
abbrev pub has_bare_keys : List Header → Bool
has_bare_keys headers = list_all (λ h. bytes_eq (bare_key h.key) h.key) headers

-- its headers are read as they are, and from all its bytes
abbrev pub has_strict_headers : Node → Bool
has_strict_headers node = has_bare_keys node.headers && has_no_dash_line node

-- Under the charsets that are known.
module _ (known : Charsets) where
  -- the first `Content-Type` of these headers, if there is one, needs no lenient reading
  abbrev pub has_strict_type : List Header → Bool
  has_strict_type headers =
      option_map_or (λ h. is_strict_value known h.value) (first_with_key (codes "Content-Type") headers) true

  -- a message needs no lenient reading
  abbrev pub is_strict_message : Node → Bool
  is_strict_message node = has_strict_type node.headers && (has_whole_delimiters node && has_strict_headers node)

  abbrev mutual
    -- nor does it or any of its parts
    pub is_strict_mail : Tree → Bool
    is_strict_mail (tree node parts) = is_strict_message node && are_strict parts

    -- nor do these parts
    pub are_strict : Forest → Bool
    are_strict no_parts = true
    are_strict (part_and t ts) = is_strict_mail t && are_strict ts
