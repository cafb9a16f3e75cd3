-- The text so far and the text of the rest are the whole text.
use Rattle.std.proofs.Common.{length}
use Rattle.mail_address.specs.Text.{word_or_white_len, word_at}
use Rattle.mail_address.proofs.lemmas.Text.{MadeOf}
use Rattle.mail_address.proofs.text.words_text.Given as goal

abbrev pub invariant-words : goal.invariant-words
invariant-words l = MadeOf word_at word_or_white_len l.phrase l.text.items l.rest

abbrev pub decreases-words : goal.decreases-words
decreases-words l = length l.rest
