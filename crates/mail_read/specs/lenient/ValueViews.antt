-- What a contract sees of encoded words that are read leniently.
use Rattle.std.specs.Prelude.{Option, option_map}
use Rattle.mail_read.specs.lenient.Values as read
use Rattle.mail_read.specs.declared.lenient.values.EncodedWord.{EncodedWord}
use Rattle.mail_read.specs.declared.lenient.values.Head.{Head}
use Rattle.mail_read.specs.declared.lenient.values.Run.{Run}

-- the head of a word
abbrev pub head_view : Head → read.Head
head_view head = record { label = head.label.now; encoding = head.encoding; start = head.start }

-- a word, decoded
abbrev pub word_view : EncodedWord → read.Word
word_view word = read.word_of word.label.now word.encoding word.encoded.now

-- the word that was read last, if one was
abbrev pub run_view : Run → Option read.Word
run_view run = option_map (λ label. record { label = label.now; octets = run.octets.items }) run.label
