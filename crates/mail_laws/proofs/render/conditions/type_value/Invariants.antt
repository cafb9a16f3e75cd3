-- None of the headers so far has the key.
use Rattle.std.proofs.Common.{◌≡◌, drop, map}
use Rattle.mail_laws.specs.Render.{type_header}
use Rattle.mail_laws.specs.RenderViews.{header_seen}
use Rattle.mail_laws.proofs.render.conditions.type_value.Given as goal

abbrev pub invariant-loop-header : goal.invariant-loop-header
invariant-loop-header l = type_header (map header_seen l.headers.items) ≡ type_header (map header_seen (drop l.header-index l.header-items))
