-- Only blanks follow in the key.
use Rattle.std.proofs.Common.{◌≤◌, take}
use Rattle.mailparse.proofs.lemmas.BareKeys.{AreBlanks}
use Rattle.mail_records.proofs.places.bare_key_end.Given as goal

abbrev pub invariant-blanks : goal.invariant-blanks
invariant-blanks l = record {
  within : l.end ≤ l.key;
  blanks : AreBlanks (take l.key l.raw) l.end;
}

abbrev pub decreases-blanks : goal.decreases-blanks
decreases-blanks l = l.end
