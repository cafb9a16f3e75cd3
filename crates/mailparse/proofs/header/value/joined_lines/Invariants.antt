-- What was joined, and then what is left, is the whole.
use Rattle.std.proofs.Common.{◌≡◌, ◌++◌, length}
use Rattle.std.specs.Str.{IsUtf8}
use Rattle.std.specs.String.{string_bytes}
use Rattle.mailparse.proofs.lemmas.ValueJoined.{joined_text}
use Rattle.mailparse.proofs.header.value.joined_lines.Given as goal

abbrev pub invariant-lines : goal.invariant-lines
invariant-lines l = record {
  utf8 : IsUtf8 l.left;
  joined : string_bytes l.joined ++ joined_text l.left ≡ joined_text l.text;
}

abbrev pub decreases-lines : goal.decreases-lines
decreases-lines l = length l.left
