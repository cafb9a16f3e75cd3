-- What was made so far, and then what is made of the rest, is the whole text repaired.
use Rattle.std.proofs.Common.{◌≡◌}
use Rattle.std.specs.Str.{IsUtf8}
use Rattle.std.specs.String.{string_bytes}
use Rattle.mail_read.specs.lenient.Repairs.{mended}
use Rattle.mail_read.proofs.lemmas.lenient.Repairs.{repaired_with}
use Rattle.mail_read.proofs.lenient.repairs.with_missing.Given as goal

abbrev pub invariant-loop-c : goal.invariant-loop-c
invariant-loop-c l = record {
  utf8 : IsUtf8 l.chars.rest.now;
  text : IsUtf8 l.left;
  left : l.left ≡ l.chars.rest.now;
  made : repaired_with (string_bytes l.made) l.is_alone l.position l.chars.rest.now ≡ mended l.text;
}
