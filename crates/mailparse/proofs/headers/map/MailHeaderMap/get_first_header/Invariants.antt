use Rattle.std.proofs.Common.{◌≡◌, drop}
use Rattle.mailparse.specs.Map.{first_with_key}
use Rattle.mailparse.proofs.headers.map.MailHeaderMap.get_first_header.Given as goal

-- none was found so far
abbrev pub invariant-loop-header : goal.invariant-loop-header
invariant-loop-header g l = first_with_key l.key (g.Self.MailHeaderMap.present l.self) ≡ first_with_key l.key (drop l.header-index l.header-items)
