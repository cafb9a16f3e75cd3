-- The bases of the names so far were appended.
use Rattle.std.proofs.Common.{◌≡◌, ◌++◌, map}
use Rattle.std.specs.String.{string_bytes}
use Rattle.mailparse.specs.private.Continuations.{bases_of_sections_0}
use Rattle.mailparse.specs.private.Sections.{stored_section}
use Rattle.mailparse.proofs.lemmas.Filled.{shown_name}
use Rattle.mailparse.proofs.parameters.continuations.add_bases.Given as goal

abbrev pub invariant-loop-name : goal.invariant-loop-name
invariant-loop-name g l = map string_bytes l.bases.items ≡ map string_bytes l.initial.bases.items ++ bases_of_sections_0 (stored_section g.C.Decode.text l.sections) (map shown_name l.yielded)
