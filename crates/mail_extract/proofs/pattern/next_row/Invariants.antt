-- The shortest rests.
use Rattle.std.proofs.Common.{ℕ, List, ◌∷◌, ◌+◌, ◌≡◌, length}
use Rattle.mail_extract.specs.Choice.{fits}
use Rattle.mail_extract.specs.private.Fits.{IsRow}
use Rattle.mail_extract.proofs.pattern.next_row.Given as goal

abbrev pub invariant-loop-count : goal.invariant-loop-count
invariant-loop-count l = record {
  len : length l.row.items ≡ l.count;
  row : (rest : List ℕ) → IsRow (fits rest) l.fn.text (length l.fn.text + 1) l.fn.before
      → IsRow (fits (l.fn.first ∷ rest)) l.fn.text l.count l.row.items;
}
