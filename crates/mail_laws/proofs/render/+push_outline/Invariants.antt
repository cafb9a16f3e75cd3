-- The header block, and the parts so far.
use Rattle.std.proofs.Common.{◌≡◌, ◌++◌, take}
use Rattle.std.specs.Prelude.{flat_map}
use Rattle.mail_laws.specs.Render.{header_block, written_headers}
use Rattle.mail_laws.specs.RenderViews.{headers_seen, outline_tree}
use Rattle.mail_laws.proofs.lemmas.RenderViews.{part_text}
use Rattle.mail_laws.proofs.render.+push_outline.Given as goal

abbrev pub invariant-loop-part : goal.invariant-loop-part
invariant-loop-part l =
    l.bytes.items ≡ l.fn.bytes.items
    ++ (header_block (written_headers (headers_seen l.outline.headers)) ++ flat_map (λ o. part_text l.boundary.items (outline_tree o)) (take l.part-index l.part-items))
