-- The report of the findings of a mail; the program's own form.
use Rattle.std.specs.Prelude.{ℕ, ◌+◌, ◌-◌, ◌/◌, ◌%◌, Bool, not, ◌&&◌, ◌==◌, nat_lt, List, [], ◌∷◌, ◌++◌, flat_map, take, drop, codes, decimal, if◌then◌else◌}
use Rattle.std.specs.Char.{digit_char, encode_utf8}
use Rattle.mail_codec.specs.Ascii.{backslash, carriage_return, line_feed, space, tab, tilde}
use Rattle.mail_check.specs.Findings.{Finding}
use Rattle.mail_check.specs.Names.{class_text, sentence_of, text_of}
use Rattle.mail_view.specs.Line.{Line, empty, line}
use Rattle.mail_view.specs.declared.line.Prefix.TheVariants as prefix

-- ---- bytes

-- `\x` and the two digits of a byte
abbrev pub hex_escape : ℕ → List ℕ
hex_escape b = codes "\\x" ++ (encode_utf8 (digit_char (b / 16)) ++ encode_utf8 (digit_char (b % 16)))

-- a byte is shown as itself: it is printable ASCII and no backslash
abbrev pub is_itself : ℕ → Bool
is_itself b = (not (nat_lt b space) && not (nat_lt tilde b)) && not (b == backslash)

-- the text of a byte: itself, or an escape
unfoldable pub byte_text : ℕ → List ℕ
byte_text b =
    if is_itself b then encode_utf8 b else (if b == line_feed then codes "\\n" else
    (if b == carriage_return then codes "\\r" else (if b == tab then codes "\\t" else
    (if b == backslash then codes "\\\\" else hex_escape b))))

abbrev pub bytes_text : List ℕ → List ℕ
bytes_text bytes = flat_map byte_text bytes

-- ---- findings

-- the greatest number of bytes that are shown before and after what was found, and of that
abbrev pub context : ℕ
context = 32

abbrev pub shown_size : ℕ
shown_size = 64

-- the bytes between two offsets
abbrev pub between : ℕ → ℕ → List ℕ → List ℕ
between start end bytes = take (end - start) (drop start bytes)

-- the part with a path; the mail itself, if that is empty
abbrev pub part_text : List ℕ → List ℕ
part_text [] = codes "the mail"
part_text (b ∷ bs) = codes "part " ++ b ∷ bs

-- the name of a finding, its class, its part and its range
abbrev pub finding_text : Finding → List ℕ
finding_text finding =
    text_of finding.name ++ (codes " (" ++ (class_text finding.class ++ (codes "), " ++ (part_text finding.path
    ++ (codes ", bytes " ++ (decimal finding.range.start ++ (codes " to " ++ decimal finding.range.end)))))))

-- the lines of a finding of a mail with these bytes: what was found, what that means, the bytes before it, its first bytes, and
-- the bytes after it
abbrev pub finding_lines : List ℕ → Finding → List Line
finding_lines bytes finding =
    let start = finding.range.start in
    let end = finding.range.end in
    line prefix.Found (finding_text finding)
    ∷ line prefix.Text (sentence_of finding.name)
    ∷ line prefix.Before (bytes_text (between (start - context) start bytes))
    ∷ line prefix.Bytes (bytes_text (take shown_size (between start end bytes)))
    ∷ line prefix.After (bytes_text (take context (drop end bytes)))
    ∷ empty ∷ []

-- those of all findings
abbrev pub report_lines : List ℕ → List Finding → List Line
report_lines bytes findings = flat_map (finding_lines bytes) findings
