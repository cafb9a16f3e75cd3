-- What was written, and then the words of what is left, are the words of the text.
use Rattle.std.specs.String.{string_bytes}
use Rattle.mail_address.proofs.lemmas.EncodeCut.{Cutting}
use Rattle.mail_address.proofs.encode.push_words.Given as goal

abbrev pub invariant-loop-c : goal.invariant-loop-c
invariant-loop-c l = Cutting l.text (string_bytes l.initial.written) (string_bytes l.written) l.start l.end l.c-iterator.rest.now
