-- The ids that are left complete the text so far.
use Rattle.std.proofs.Common.{◌≡◌, ◌++◌, map, drop}
use Rattle.std.specs.List.{flat_map}
use Rattle.std.specs.String.{string_bytes}
use Rattle.mail_records.specs.Results.{bracketed}
use Rattle.mail_records.proofs.results.bracketed.Given as goal

abbrev pub invariant-loop-id : goal.invariant-loop-id
invariant-loop-id l =
    l.bytes.items ++ flat_map bracketed (map (λ t. string_bytes t) (drop l.id-index l.ids)) ≡ flat_map bracketed (map (λ t. string_bytes t) l.ids)
