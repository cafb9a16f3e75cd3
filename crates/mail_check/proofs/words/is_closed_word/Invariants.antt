-- The state after the rest is the state after all bytes.
use Rattle.std.proofs.Common.{◌≡◌, drop}
use Rattle.mail_check.specs.Words.{after_word_bytes}
use Rattle.mail_check.specs.declared.words.WordState.TheVariants.{Front}
use Rattle.mail_check.proofs.words.is_closed_word.Given as goal

abbrev pub invariant-loop-byte : goal.invariant-loop-byte
invariant-loop-byte l = after_word_bytes l.state (drop l.byte-index l.bytes) ≡ after_word_bytes Front l.bytes
