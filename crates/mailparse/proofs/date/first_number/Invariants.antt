-- The words before the rest are not numbers.
use Rattle.std.proofs.Common.{◌≡◌, length}
use Rattle.std.specs.Str.{IsUtf8}
use Rattle.mailparse.specs.Date.{date_words, words}
use Rattle.mailparse.proofs.date.first_number.Given as goal

abbrev pub invariant-loop-word : goal.invariant-loop-word
invariant-loop-word l = record {
  utf8 : IsUtf8 l.rest;
  same : date_words (words l.rest) ≡ date_words (words l.date);
}

abbrev pub decreases-loop-word : goal.decreases-loop-word
decreases-loop-word l = length l.rest
