use Rattle.std.proofs.Common.{refl}
use Rattle.std.proofs.lemmas.Str.Ascii.{trim_ascii_start_is}
use Rattle.mail_data.proofs.lemmas.Separator.{after_word-trimmed}
use Rattle.mail_data.proofs.mailbox.separator.after_word.Goals as goal

pub returns : goal.returns
returns c = after_word-trimmed c.args.text.now _ c.word_length.result c.trim_ascii_start.result.now c.word_length.ensures.value refl (trim_ascii_start_is _ _ c.trim_ascii_start.ensures.value)
