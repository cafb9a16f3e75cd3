-- The types of the library, as contracts see them.
use Rattle.std.specs.Prelude.{ℕ, Bool, true, false, List, ◌∷◌, drop, map, string_bytes}
use Rattle.std.specs.Global.{Vec}
use Rattle.std.specs.List.{flat_map}
use Rattle.mailparse.specs.Header.{Header}
use Rattle.mailparse.specs.Block.{HeaderList}
use Rattle.mailparse.specs.ContentType.{ContentType}
use Rattle.mailparse.specs.Disposition.{Disposition, Kind, inline, attachment, form_data, extension}
use Rattle.mailparse.specs.Mail.{Tree, tree, forest}
use Rattle.mailparse.specs.Pairs.{text_at}
use Rattle.mailparse.specs.Placement.{Placement}
use Rattle.mailparse.specs.declared.content_type.ParsedContentType.{ParsedContentType}
use Rattle.mailparse.specs.declared.disposition.DispositionType.{DispositionType}
use Rattle.mailparse.specs.declared.disposition.DispositionType.TheVariants as code
use Rattle.mailparse.specs.declared.disposition.ParsedContentDisposition.{ParsedContentDisposition}
use Rattle.mailparse.specs.declared.mail.message.ParsedMail.{ParsedMail}
use Rattle.mailparse.specs.declared.mail.message.PartsIterator.{PartsIterator}
use Rattle.mailparse.specs.declared.mail.types.DefaultType.{DefaultType}
use Rattle.mailparse.specs.declared.mail.types.DefaultType.TheVariants.{Text, Message}
use Rattle.mailparse.specs.declared.mail.message.ParsedMail.TheOpen.{ParsedMail-F}
use Rattle.mailparse.specs.declared.mail.message.ParsedMail.TheFolds.{fold-ParsedMail}
use Rattle.mailparse.specs.declared.mail.message.ParsedMail.TheViews.{out-ParsedMail}

-- the headers of a list and the offset just after their blank line
abbrev pub header_list : Vec Header × ℕ → HeaderList
header_list found = record { headers = found.0.items; index = found.1 }

-- the content type of a message
abbrev pub content_type : ParsedContentType → ContentType
content_type c = record { mimetype = string_bytes c.mimetype; charset = string_bytes c.charset; params = text_at c.params }

-- whether a default type is that of a part of a digest
abbrev pub in_digest : DefaultType → Bool
in_digest Text = false
in_digest Message = true

-- the kind of a disposition
abbrev pub kind : DispositionType → Kind
kind code.Inline = inline
kind code.Attachment = attachment
kind code.FormData = form_data
kind (code.Extension name) = extension (string_bytes name)

-- how a part is to be shown
abbrev pub disposition : ParsedContentDisposition → Disposition
disposition d = record { kind = kind d.disposition; params = text_at d.params }

-- one message, with its parts as trees
abbrev pub tree_step : ParsedMail-F Tree → Tree
tree_step m = tree (record {
  bytes = m.raw_bytes.now;
  block = m.header_bytes.now;
  headers = m.headers.items;
  ctype = content_type m.ctype;
  body = m.body_bytes.now;
}) (forest m.subparts.items)

-- a message: its bytes, its block, its current headers and type, its body, and its current parts
abbrev pub tree_of : ParsedMail → Tree
tree_of = fold-ParsedMail Tree tree_step

-- the placement in the fields of a message
abbrev pub placement_step : {A : Type 0} → ParsedMail-F A → Placement
placement_step m = record {
  whole = record { start = m.range.start; end = m.range.end };
  body = record { start = m.body_range.start; end = m.body_range.end };
}

-- the placement that a message records
abbrev pub placement_of : ParsedMail → Placement
placement_of m = placement_step (out-ParsedMail m)

-- the placements of a message and then of its parts
abbrev pub placements_step : ParsedMail-F (List Placement) → List Placement
placements_step m = placement_step m ∷ flat_map (λ places. places) m.subparts.items

-- the placement that a message records, then those of its current parts, each before its own parts
abbrev pub placements_of : ParsedMail → List Placement
placements_of = fold-ParsedMail (List Placement) placements_step

-- the messages that an iterator over parts has not returned yet, each with its parts
abbrev pub trees_left : PartsIterator → List Tree
trees_left iterator = map (λ m. tree_of m.now) (drop iterator.index iterator.parts.items)
