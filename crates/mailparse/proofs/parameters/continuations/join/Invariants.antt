-- The sections so far and those from the number on are all sections, and those so far were removed.
use Rattle.std.proofs.Common.{◌≡◌, ◌≤◌, ◌-◌, ◌+◌, ℕ, List, length}
use Rattle.mailparse.specs.Continuations.{joined, most_sections}
use Rattle.mailparse.specs.private.Continuations.{joined_with, without_sections}
use Rattle.mailparse.specs.private.Sections.{stored_section}
use Rattle.mailparse.proofs.lemmas.ContinuationsJoining.{sections_from}
use Rattle.mailparse.proofs.parameters.continuations.join.Given as goal

abbrev pub invariant-loop-count : goal.invariant-loop-count
invariant-loop-count g l = record {
  bound : l.count ≤ 18446744073709551615;
  left : (q : List ℕ) → stored_section g.C.Decode.text l.sections q ≡ without_sections (stored_section g.C.Decode.text l.initial.sections) l.base l.count q;
  text : joined_with g.C.Decode.text l.joining (sections_from (stored_section g.C.Decode.text l.initial.sections) l.base (most_sections - l.count) l.count) ≡ joined (sections_from (stored_section g.C.Decode.text l.initial.sections) l.base most_sections 0);
  count : l.count + length (sections_from (stored_section g.C.Decode.text l.initial.sections) l.base (most_sections - l.count) l.count) ≡ length (sections_from (stored_section g.C.Decode.text l.initial.sections) l.base most_sections 0);
}

abbrev pub decreases-loop-count : goal.decreases-loop-count
decreases-loop-count g l = 18446744073709551615 - l.count
