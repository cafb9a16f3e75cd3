-- The lines of the headers so far.
use Rattle.std.proofs.Common.{◌≡◌, ◌++◌, take}
use Rattle.std.specs.Prelude.{flat_map}
use Rattle.mail_laws.specs.Render.{header_line, written_header}
use Rattle.mail_laws.specs.RenderViews.{header_seen}
use Rattle.mail_laws.proofs.render.push_header_block.Given as goal

abbrev pub invariant-loop-header : goal.invariant-loop-header
invariant-loop-header l = l.bytes.items ≡ l.fn.bytes.items ++ flat_map (λ p. header_line (written_header (header_seen p))) (take l.header-index l.header-items)
