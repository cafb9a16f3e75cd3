use Rattle.std.proofs.Common.{◌≡◌, ◌++◌, map, drop, IsNone}
use Rattle.mailparse.specs.Map.{first_with_key, all_with_key}
use Rattle.mailparse.proofs.headers.map.MailHeaderMap.get_all_headers.Given as goal

-- those that were found, and then those of the rest, are all; if none is in the list, none is in the rest
abbrev pub invariant-loop-header : goal.invariant-loop-header
invariant-loop-header g l =
    let present = g.Self.MailHeaderMap.present l.self in
    let rest = drop l.header-index l.header-items in
    record {
      all : map (λ h. h.now) l.found.items ++ all_with_key l.key rest ≡ all_with_key l.key present;
      none : IsNone (first_with_key l.key present) → IsNone (first_with_key l.key rest);
    }
