-- The answer depends on the remaining headers.
use Rattle.std.proofs.Common.{◌≡◌, drop, map}
use Rattle.std.specs.List.{list_all}
use Rattle.std.specs.Str.{is_utf8}
use Rattle.mail_laws.specs.RenderViews.{header_seen}
use Rattle.mail_laws.proofs.render.conditions.has_texts.Given as goal

abbrev pub invariant-loop-header : goal.invariant-loop-header
invariant-loop-header l = list_all (λ h. is_utf8 h.value) (map header_seen l.headers.items) ≡ list_all (λ h. is_utf8 h.value) (map header_seen (drop l.header-index l.header-items))
