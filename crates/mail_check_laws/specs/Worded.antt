-- The headers of subjects and senders of strict messages, by their keys and values.
use Rattle.std.specs.Prelude.{◌≡◌, Bool, true, ◌||◌, List, ℕ, codes}
use Rattle.std.specs.Str.{str_eq_ignore_ascii_case}
use Rattle.mail_codec.specs.Charset.{Charsets}
use Rattle.mailparse.specs.Header.{Header}
use Rattle.mail_check_laws.specs.SenderNames.{HasPlainNames}
use Rattle.mail_check_laws.specs.Senders.{IsSenderValue}
use Rattle.mail_check_laws.specs.WordBytes.{HasReadableWords}
use Rattle.mail_grammar.specs.Words.{HasApartWords, HasStrictWords}

-- the key of a subject or of senders
abbrev pub is_worded_key : List ℕ → Bool
is_worded_key key =
    str_eq_ignore_ascii_case key (codes "Subject")
    || (str_eq_ignore_ascii_case key (codes "From") || str_eq_ignore_ascii_case key (codes "Sender"))

-- a subject or senders with this key and value, under the charsets that are known
pub record IsWordedField (known : Charsets) (key value : List ℕ) : Type 0 where
  pub words : HasStrictWords value
  pub apart : HasApartWords value
  pub readable : HasReadableWords known value
  pub names : HasPlainNames key value

-- the value of a header, if that is a sender
abbrev pub HasSenderValue : Header → Type 0
HasSenderValue header = str_eq_ignore_ascii_case header.key (codes "From") ≡ true → IsSenderValue header.value

-- that of a header, if it is a subject or senders
abbrev pub HasWordedValue : Charsets → Header → Type 0
HasWordedValue known header = is_worded_key header.key ≡ true → IsWordedField known header.key header.value
