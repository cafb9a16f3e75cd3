use Rattle.mail_address.proofs.lemmas.EncodeCut.{word_pushed}
use Rattle.mail_address.proofs.encode.push_word.Goals as goal

pub returns : goal.returns
returns c = record {
  written = word_pushed _ _ _ _ _ _ c.in_ok-push_str.ensures.bytes c.as_bytes.ensures.value c.in_ok-encode_string.ensures.ok c.in_ok-push_str-2.ensures.bytes;
}
