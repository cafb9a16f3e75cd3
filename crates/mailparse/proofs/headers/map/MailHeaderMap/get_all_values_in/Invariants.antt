use Rattle.std.proofs.Common.{◌≡◌, ◌++◌, map, drop, IsNone, string_bytes}
use Rattle.mailparse.specs.Map.{first_with_key, all_values_in}
use Rattle.mailparse.proofs.headers.map.MailHeaderMap.get_all_values_in.Given as goal

-- those that were found, and then those of the rest, are all; if none is in the list, none is in the rest
abbrev pub invariant-loop-header : goal.invariant-loop-header
invariant-loop-header g l =
    let present = g.Self.MailHeaderMap.present l.self in
    let rest = drop l.header-index l.header-items in
    let values = all_values_in (g.K.KnownCharsets.known l.known) l.key in
    record {
      all : map (λ t. string_bytes t) l.values.items ++ values rest ≡ values present;
      none : IsNone (first_with_key l.key present) → IsNone (first_with_key l.key rest);
    }
