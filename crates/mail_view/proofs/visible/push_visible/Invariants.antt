-- The text so far and the rest as it is shown are all as it is shown.
use Rattle.std.proofs.Common.{◌≡◌, ◌++◌}
use Rattle.std.specs.Str.{IsUtf8}
use Rattle.std.specs.String.{string_bytes}
use Rattle.mail_view.specs.Visible.{visible}
use Rattle.mail_view.proofs.visible.push_visible.Given as goal

abbrev pub invariant-loop-c : goal.invariant-loop-c
invariant-loop-c l = record {
  utf8 : IsUtf8 l.c-iterator.rest.now;
  written : string_bytes l.shown ++ visible l.c-iterator.rest.now ≡ string_bytes l.fn.shown ++ visible l.text;
}
