-- Lemmas on the mails of a mailbox in each of the formats.
use Rattle.std.proofs.Common.{◌≡◌, ℕ, true, List, ◌∷◌, ◌++◌, Some, drop}
use Rattle.mail_data.specs.Mailbox.{Entry, front_length, has_front}
use Rattle.mail_data.specs.MailboxFormats.{entries_in, length_in, settled_in}
use Rattle.mail_data.specs.declared.mailbox.formats.Format.{Format}
use Rattle.mail_data.specs.declared.mailbox.formats.Format.TheVariants.{Plain, Quoted, Counted}
use Rattle.mail_data.proofs.lemmas.CountedFound as counted
use Rattle.mail_data.proofs.lemmas.CountedMails.{after_counted-opens}
use Rattle.mail_data.proofs.lemmas.Mailbox.{Opens, after_opens}
use Rattle.mail_data.proofs.lemmas.MailboxFound.{front-beyond, settled-stays}

pub in-opens : (format : Format) → Opens (length_in format)
in-opens Plain = after_opens
in-opens Quoted = after_opens
in-opens Counted = after_counted-opens

pub settled_in-stays : (format : Format) (bytes more rest : List ℕ) (entry : Entry) → settled_in format bytes ≡ Some (entry, rest)
    → entries_in format (bytes ++ more) ≡ entry ∷ entries_in format (rest ++ more)
unfolding settled_in
settled_in-stays Plain bytes more rest entry h = settled-stays bytes more rest entry h
settled_in-stays Quoted bytes more rest entry h = settled-stays bytes more rest entry h
settled_in-stays Counted bytes more rest entry h = counted.settled-stays bytes more rest entry h

-- the mails after a front that was read are the same whatever follows
pub front_in-stays : (format : Format) (bytes more : List ℕ) → has_front bytes ≡ true
    → entries_in format (bytes ++ more) ≡ entries_in format (drop (front_length bytes) bytes ++ more)
front_in-stays format bytes more h = front-beyond (length_in format) bytes more h
