-- What a contract sees of an entry of an index.
use Rattle.std.specs.Prelude.{◌≡◌, codes, option_map}
use Rattle.mail_codec.specs.Charset.{Charsets}
use Rattle.mailparse.specs.Mail.{Tree, root}
use Rattle.mailparse.specs.Map.{text_found}
use Rattle.mail_data.specs.Archive.{message_id}
use Rattle.mail_read.specs.lenient.TextViews.{text_view}
use Rattle.mail_read.specs.lenient.Values.{first_header_text}
use Rattle.mail_jobs.specs.Indexer as mail
use Rattle.mail_jobs.specs.declared.indexer.IndexEntry.{IndexEntry}

-- an entry is that of a mail, under the charsets that are known
pub record IsEntry (known : Charsets) (t : Tree) (entry : IndexEntry) : Type 0 where
  pub subject : text_found entry.subject ≡ first_header_text known (codes "Subject") (root t).headers
  pub sender : text_found entry.sender ≡ mail.sender (root t)
  pub date : entry.date ≡ mail.date known (root t)
  pub message_id : text_found entry.message_id ≡ message_id (root t)
  pub text : option_map text_view entry.text ≡ mail.text known t
