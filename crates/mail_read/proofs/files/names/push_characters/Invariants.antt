-- The text so far, and then the characters of the rest, is the whole text.
use Rattle.std.proofs.Common.{◌≡◌, ◌++◌, drop}
use Rattle.std.specs.Prelude.{encode_utf8_all, string_bytes}
use Rattle.mail_read.proofs.files.names.push_characters.Given as goal

abbrev pub invariant-loop-c : goal.invariant-loop-c
invariant-loop-c l = string_bytes l.text ++ encode_utf8_all (drop l.c-index l.characters) ≡ string_bytes l.fn.text ++ encode_utf8_all l.characters
