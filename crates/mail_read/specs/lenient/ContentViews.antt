-- What a contract sees of the content of a body.
use Rattle.std.specs.Prelude.{option_map}
use Rattle.std.specs.Cow.{cow_slice_items}
use Rattle.mailparse.specs.Refusal.{Refusal, base64_fault}
use Rattle.mail_read.specs.lenient.Content as words
use Rattle.mail_read.specs.declared.lenient.content.Content.{Content}
use Rattle.mail_read.specs.declared.lenient.content.ContentFault.{ContentFault}
use Rattle.mail_read.specs.declared.lenient.content.ContentFault.TheVariants.{Base64, TextFile, Uuencode}

-- the refusal that a fault is
abbrev pub fault_view : ContentFault → Refusal
fault_view (Base64 fault) = base64_fault fault.group
fault_view Uuencode = words.uuencode_fault
fault_view TextFile = words.text_file_fault

-- the bytes, the fault and the number of bytes that were ignored
abbrev pub content_view : Content → words.Content
content_view content = record {
  bytes = cow_slice_items content.bytes;
  fault = option_map fault_view content.fault;
  ignored = content.ignored;
}
