-- The values of the names so far were read, and their keys have left.
use Rattle.std.proofs.Common.{◌≡◌, ℕ, List, None}
use Rattle.mailparse.specs.ExtendedValues.{extended_at}
use Rattle.mailparse.specs.private.ExtendedValues.{names_read}
use Rattle.mailparse.specs.private.Sections.{sections_at}
use Rattle.mailparse.specs.Pairs.{text_at}
use Rattle.mailparse.specs.private.Filled.{filled}
use Rattle.mailparse.proofs.lemmas.Sections.{without_starred}
use Rattle.mailparse.proofs.parameters.extended_values.read_sections.Given as goal

abbrev pub invariant-loop-reading : goal.invariant-loop-reading
invariant-loop-reading g l = record {
  extended : (q : List ℕ) → sections_at g.K.Decoder.Decode.text l.extended q ≡ filled (extended_at (g.K.KnownCharsets.known l.known) (text_at l.fn.pairs)) (λ _. None) (names_read l.yielded) q;
  texts : (q : List ℕ) → text_at l.texts q ≡ without_starred (text_at l.fn.pairs) (names_read l.yielded) q;
}
