-- A pair was found at `at`, or none is left, and no place from `from` up to it ends a word.
use Rattle.std.proofs.Common.{◌≡◌, ◌≤◌, ◌-◌, [], ◌∷◌, length}
use Rattle.mail_codec.specs.Places.{has_prefix, place_from}
use Rattle.mailparse.specs.Tokens.{closing}
use Rattle.mailparse.proofs.header.tokens.find_closing.Given as goal

abbrev pub invariant-loop-at : goal.invariant-loop-at
invariant-loop-at l = record {
  in_line : l.at ≤ length l.line;
  found : place_from (has_prefix (63 ∷ 61 ∷ [])) l.line l.at ≡ l.at;
  same : closing l.line l.at ≡ closing l.line l.from;
}

abbrev pub decreases-loop-at : goal.decreases-loop-at
decreases-loop-at l = length l.line - l.at
