-- The count is that of the characters so far.
use Rattle.std.proofs.Common.{◌≡◌, ◌≤◌, take}
use Rattle.mail_read.specs.FileNames.{trailing}
use Rattle.mail_read.proofs.files.names.trailing.Given as goal

abbrev pub invariant-loop-character : goal.invariant-loop-character
invariant-loop-character l = record {
  count : l.count ≡ trailing l.c (take l.character-index l.characters);
  within : l.count ≤ l.character-index;
}
