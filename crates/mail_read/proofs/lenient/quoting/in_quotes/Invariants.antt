-- What was made so far, and then what is made of the rest, is the whole text in quotes.
use Rattle.std.proofs.Common.{◌≡◌}
use Rattle.std.specs.Str.{IsUtf8}
use Rattle.std.specs.String.{string_bytes}
use Rattle.mail_read.specs.lenient.Quoting.{in_quotes}
use Rattle.mail_read.proofs.lemmas.lenient.Quoting.{quoted_with}
use Rattle.mail_read.proofs.lenient.quoting.in_quotes.Given as goal

abbrev pub invariant-loop-c : goal.invariant-loop-c
invariant-loop-c l = record {
  utf8 : IsUtf8 l.c-iterator.rest.now;
  made : quoted_with (string_bytes l.made) l.c-iterator.rest.now ≡ in_quotes l.text;
}
