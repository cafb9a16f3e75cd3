-- The text so far and the rest as it is shown are all as it is shown.
use Rattle.std.proofs.Common.{◌≡◌, ◌++◌}
use Rattle.std.specs.Str.{IsUtf8}
use Rattle.std.specs.String.{string_bytes}
use Rattle.mail_inputs.specs.Escape.{shown}
use Rattle.mail_inputs.proofs.escape.shown.Given as goal

abbrev pub invariant-loop-character : goal.invariant-loop-character
invariant-loop-character l = record {
  utf8 : IsUtf8 l.character-iterator.rest.now;
  written : string_bytes l.shown ++ shown l.character-iterator.rest.now ≡ shown l.text;
}
