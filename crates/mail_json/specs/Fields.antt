-- Texts of headers, under the charsets that are known, and faults of dates; the program's own form.
use Rattle.std.specs.Prelude.{ℕ, false, List, Option, codes}
use Rattle.mail_codec.specs.Charset.{Charsets}
use Rattle.mailparse.specs.Disposition.{Kind, inline, attachment, form_data, extension}
use Rattle.mailparse.specs.Mail.{Node}
use Rattle.mail_read.specs.declared.lenient.date.error.DateError.{DateError}
use Rattle.mail_read.specs.declared.lenient.date.error.DateError.TheVariants.{Day, Month, Year, Time, Zone, TrailingText}
use Rattle.mail_data.specs.Archive.{first_id, ids_of}
use Rattle.mail_read.specs.lenient.Values.{first_header_text}

-- the name of a disposition
abbrev pub kind_text : Kind → List ℕ
kind_text inline = codes "inline"
kind_text attachment = codes "attachment"
kind_text form_data = codes "form-data"
kind_text (extension name) = name

-- the id of a part's content (RFC 2045, section 7): the first one in its header `Content-ID`
abbrev pub content_id : Node → Option (List ℕ)
content_id node = first_id (ids_of false (codes "Content-ID") node.headers)

-- what is missing or wrong in a date
abbrev pub date_fault_text : DateError → List ℕ
date_fault_text Day = codes "no day of the month"
date_fault_text Month = codes "no month"
date_fault_text Year = codes "no year"
date_fault_text Time = codes "no time of day"
date_fault_text Zone = codes "no zone"
date_fault_text TrailingText = codes "text after the zone"

-- Under the charsets that are known.
module _ (known : Charsets) where
  -- the text of the first header with a name
  abbrev pub value_of : List ℕ → Node → Option (List ℕ)
  value_of key node = first_header_text known key node.headers
