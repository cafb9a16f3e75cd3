-- The bytes of a file that are saved: those that can be read.
use Rattle.std.specs.Prelude.{ℕ, Bool, ◌&&◌, ◌==◌, List, length, drop, codes, Some, if◌then◌else◌}
use Rattle.mailparse.specs.Mail.{Node}
use Rattle.mailparse.specs.Refusal.{Refusal, generic}
use Rattle.mail_read.specs.lenient.Content.{Content, all_of, message_content}
use Rattle.mail_extract.specs.Stray.{has_stray_line}

-- the bytes of a part that follow its headers
abbrev pub after_headers : Node → List ℕ
after_headers node = drop (length node.block) node.bytes

-- nothing follows the headers of a part, and a line of them is no header: it may be the content, without an empty line before it
abbrev pub is_in_headers : Node → Bool
is_in_headers node = length (after_headers node) == 0 && has_stray_line node.block

-- why such a part is damaged
abbrev pub in_headers_fault : Refusal
in_headers_fault = generic (codes "Nothing follows the headers, and a line of them is no header")

-- all that follows the headers of a part, if it does not seem to be among them
abbrev pub rest_content : Node → Content
rest_content node =
    if is_in_headers node then record { bytes = after_headers node; fault = Some in_headers_fault; ignored = 0 } else all_of (after_headers node)

-- what can be read of a part; where its body is empty, as that of a multipart whose delimiter never comes, all that follows its headers
abbrev pub content : Node → Content
content node = if length node.body == 0 then rest_content node else message_content node
