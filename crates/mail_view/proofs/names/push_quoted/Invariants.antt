-- The text so far and the rest in quotes are all in quotes.
use Rattle.std.proofs.Common.{◌≡◌, ◌++◌}
use Rattle.std.specs.Str.{IsUtf8}
use Rattle.std.specs.String.{string_bytes}
use Rattle.mail_program.proofs.lemmas.Characters.{made_of}
use Rattle.mail_view.specs.Names.{quoted_character}
use Rattle.mail_view.proofs.names.push_quoted.Given as goal

abbrev pub invariant-loop-c : goal.invariant-loop-c
invariant-loop-c l = record {
  utf8 : IsUtf8 l.c-iterator.rest.now;
  written : string_bytes l.shown ++ made_of quoted_character l.c-iterator.rest.now ≡ string_bytes l.fn.shown ++ made_of quoted_character l.text;
}
