-- The characters so far, and then those of the rest made safe, are all characters made safe.
use Rattle.std.proofs.Common.{◌≡◌, ◌++◌, drop, map}
use Rattle.mail_read.specs.FileNames.{made_safe}
use Rattle.mail_read.proofs.files.names.safe_characters.Given as goal

abbrev pub invariant-loop-c : goal.invariant-loop-c
invariant-loop-c l = l.safe.items ++ map made_safe (drop l.c-index l.characters) ≡ map made_safe l.characters
