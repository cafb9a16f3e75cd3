-- What is shown of each part of a mail; the program's own form.
use Rattle.std.specs.Prelude.{ℕ, Bool, true, false, List, Option, Some, None, option_map, codes, if◌then◌else◌}
use Rattle.std.specs.Str.{bytes_eq}
use Rattle.mail_codec.specs.Charset.{Charsets}
use Rattle.mailparse.specs.ContentType.{ContentType}
use Rattle.mailparse.specs.Mail.{Node, Tree}
use Rattle.mail_data.specs.Bounce.{Delivery, recipients}
use Rattle.mail_data.specs.Flowed.{unflowed_of}
use Rattle.mail_data.specs.Reports.{report_blocks}
use Rattle.mail_read.specs.lenient.Content.{Content}
use Rattle.mail_html.specs.Text.{html_text}
use Rattle.mail_html.specs.declared.links.Links.TheVariants.{Omitted}
use Rattle.mail_html.specs.declared.references.References.{References}
use Rattle.mail_program.specs.Hash.{hash_text}
use Rattle.mail_walk.specs.Offsets.{saturating_add}

-- an offset in the input, by the start of the mail in which it is counted; none, if that mail is encoded
abbrev pub place_in : Option ℕ → ℕ → Option ℕ
place_in (Some start) at = Some (saturating_add start at)
place_in None at = None

-- the blocks of a report that a part is, and the recipients that a mail reports, if bodies are decoded
abbrev pub report_if : Charsets → Bool → Node → Option (List (List (List ℕ × List ℕ)))
report_if known true node = report_blocks known node
report_if known false node = None

abbrev pub recipients_if : Charsets → Bool → Tree → Option (List Delivery)
recipients_if known true mail = Some (recipients known mail)
recipients_if known false mail = None

-- the hash of a content that is decoded, if it is wanted
abbrev pub hash_of : Bool → Option Content → Option (List ℕ)
hash_of true content = option_map (λ content. hash_text content.bytes) content
hash_of false content = None

-- a text of this type as it is shown: with each flowed paragraph as one line, if that is wanted
abbrev pub text_shown : Bool → ContentType → List ℕ → List ℕ
text_shown true ctype text = unflowed_of ctype text
text_shown false ctype text = text

-- the text of HTML, if a text of this type is HTML, and that is wanted
abbrev pub html_shown : Option References → ContentType → List ℕ → Option (List ℕ)
html_shown (Some references) ctype text =
    if bytes_eq ctype.mimetype (codes "text/html") then Some (html_text Omitted references text) else None
html_shown None ctype text = None
