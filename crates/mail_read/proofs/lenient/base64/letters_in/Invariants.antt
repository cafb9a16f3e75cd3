-- The letters are those of the bytes so far.
use Rattle.std.proofs.Common.{◌≡◌, ◌≤◌, length, take}
use Rattle.std.specs.Prelude.{filter}
use Rattle.mail_read.specs.lenient.Base64.{is_letter}
use Rattle.mail_read.proofs.lenient.base64.letters_in.Given as goal

abbrev pub invariant-loop-byte : goal.invariant-loop-byte
invariant-loop-byte l = record {
  letters : l.letters.items ≡ filter is_letter (take l.byte-index l.text);
  bounds : length l.letters.items ≤ l.byte-index;
}
