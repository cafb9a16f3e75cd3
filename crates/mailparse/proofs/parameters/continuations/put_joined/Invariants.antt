-- The bases so far have their texts, unless they had one before.
use Rattle.std.proofs.Common.{◌≡◌, ℕ, List, map}
use Rattle.std.specs.Option.{option_or}
use Rattle.mailparse.specs.Pairs.{text_at}
use Rattle.mailparse.specs.private.Filled.{filled}
use Rattle.mailparse.proofs.lemmas.Filled.{taken_name}
use Rattle.mailparse.proofs.parameters.continuations.put_joined.Given as goal

abbrev pub invariant-loop-base : goal.invariant-loop-base
invariant-loop-base l =
    (q : List ℕ) → text_at l.texts q ≡ filled (λ z. option_or (text_at l.initial.texts z) (text_at l.fn.bases z)) (text_at l.initial.texts) (map taken_name l.yielded) q
