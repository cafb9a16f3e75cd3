-- The names so far have the texts of their sections.
use Rattle.std.proofs.Common.{◌≡◌, ℕ, List, map, option_map}
use Rattle.std.specs.Option.{option_or}
use Rattle.mailparse.specs.Sections.{alone}
use Rattle.mailparse.specs.private.Sections.{sections_at}
use Rattle.mailparse.specs.Pairs.{text_at}
use Rattle.mailparse.specs.private.Filled.{filled}
use Rattle.mailparse.proofs.lemmas.Filled.{taken_name}
use Rattle.mailparse.proofs.parameters.continuations.put_extended.Given as goal

abbrev pub invariant-loop-name : goal.invariant-loop-name
invariant-loop-name g l =
    (q : List ℕ) → text_at l.texts q
    ≡ filled (λ z. option_or (option_map alone (sections_at g.C.Decode.text l.fn.extended z)) (text_at l.initial.texts z)) (text_at l.initial.texts) (map taken_name l.yielded) q
