-- The sections of the bases so far were joined, and removed.
use Rattle.std.proofs.Common.{◌≡◌, ℕ, List, map}
use Rattle.std.specs.String.{string_bytes}
use Rattle.mailparse.specs.Pairs.{text_at}
use Rattle.mailparse.specs.private.Continuations.{joined_text, left_by}
use Rattle.mailparse.specs.private.Sections.{stored_section}
use Rattle.mailparse.proofs.parameters.continuations.joined_bases.Given as goal

abbrev pub invariant-loop-base : goal.invariant-loop-base
invariant-loop-base g l = record {
  texts : (q : List ℕ) → text_at l.texts q ≡ joined_text (stored_section g.C.Decode.text l.initial.sections) (map string_bytes l.yielded) q;
  left : (q : List ℕ) → stored_section g.C.Decode.text l.sections q ≡ left_by (stored_section g.C.Decode.text l.initial.sections) (map string_bytes l.yielded) q;
}
