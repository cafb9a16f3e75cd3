-- What a contract sees of the content of a file.
use Rattle.std.specs.Prelude.{option_map}
use Rattle.std.specs.Cow.{cow_slice_items}
use Rattle.mailparse.specs.Refusal.{Refusal}
use Rattle.mail_read.specs.lenient.Content.{Content}
use Rattle.mail_read.specs.lenient.ContentViews.{fault_view}
use Rattle.mail_extract.specs.Content.{in_headers_fault}
use Rattle.mail_extract.specs.declared.content.Damage.{Damage}
use Rattle.mail_extract.specs.declared.content.Damage.TheVariants.{Body, InHeaders}
use Rattle.mail_extract.specs.declared.content.FileContent.{FileContent}

-- the refusal that damage is
abbrev pub damage_view : Damage → Refusal
damage_view (Body fault) = fault_view fault
damage_view InHeaders = in_headers_fault

-- the bytes, the damage and the number of bytes that were ignored
abbrev pub file_view : FileContent → Content
file_view content =
    record { bytes = cow_slice_items content.bytes; fault = option_map damage_view content.damage; ignored = content.ignored }
