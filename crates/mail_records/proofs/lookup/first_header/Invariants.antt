-- None was found so far.
use Rattle.std.proofs.Common.{◌≡◌, drop}
use Rattle.mailparse.specs.Mail.{root}
use Rattle.mailparse.specs.Map.{first_with_key}
use Rattle.mailparse.specs.Views.{tree_of}
use Rattle.mail_records.proofs.lookup.first_header.Given as goal

abbrev pub invariant-loop-header : goal.invariant-loop-header
invariant-loop-header l = first_with_key l.name (root (tree_of l.part)).headers ≡ first_with_key l.name (drop l.header-index l.header-items)
