-- The parameters that were appended, and those that are left, are all.
use Rattle.std.proofs.Common.{◌≡◌, ℕ, List, ◌++◌, map}
use Rattle.std.specs.List.{flat_map}
use Rattle.mail_parts.proofs.lemmas.Part.{pair_of}
use Rattle.mail_records.specs.Rows.{AppendsRows}
use Rattle.mail_records.specs.Strings.{both, end_from, own}
use Rattle.mail_records.proofs.strings.push_parameters.Given as goal

abbrev pub invariant-loop-name : goal.invariant-loop-name
invariant-loop-name l =
    (done : List (List ℕ × List ℕ)) × (done ++ map pair_of l.name-iterator ≡ map pair_of l.parameters.entries)
    × AppendsRows end_from own (flat_map both done) l.initial.strings l.strings
