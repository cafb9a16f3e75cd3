-- The uuencoded files within a text (POSIX.1, `uuencode`), which mail programs wrote into the text
-- of a mail before MIME; the crate's own rule.
use Rattle.std.specs.Prelude.{ℕ, zero, suc, ◌+◌, Bool, not, ◌&&◌, ◌||◌, nat_lt, List, [], ◌∷◌, ◌++◌, length, drop, filter, slice_range, codes, decimal, Some, if◌then◌else◌}
use Rattle.std.specs.Option.{option_map_or}
use Rattle.std.specs.Str.{bytes_eq}
use Rattle.mail_codec.specs.Uuencode.{File, Span, data_bytes, first_file}
use Rattle.mailparse.specs.Mail.{Tree, root}
use Rattle.mail_read.specs.Files.{is_leaf, is_shown}
use Rattle.mail_read.specs.lenient.Content.{Content, all_of, has_short_lines, text_file_fault}

-- a block of a text: its name, its lines of data, its range in the text, and whether a line `end`
-- follows the data
pub record TextFile : Type 0 where
  pub name : List ℕ
  pub lines : List ℕ
  pub block : Span
  pub is_ended : Bool

-- a block counts as a file: its lines are not too short, and a line `end` follows them or they encode
-- a byte or more, because a sentence may begin like a file
abbrev pub is_file : TextFile → Bool
is_file file =
    not (has_short_lines file.lines) && (file.is_ended || nat_lt 0 (length (data_bytes file.lines)))

-- a block by its ranges in a rest of a text, which has this offset
abbrev pub text_file : ℕ → List ℕ → File → TextFile
text_file offset rest file = record {
  name = slice_range rest file.name.start file.name.end;
  lines = slice_range rest file.lines.start file.lines.end;
  block = record { start = offset + file.block.start; end = offset + file.block.end };
  is_ended = file.is_ended;
}

-- the blocks in a rest of a text with this offset, at most this many: the first, and then those
-- after it
abbrev pub blocks_from : ℕ → ℕ → List ℕ → List TextFile
blocks_from zero offset rest = []
blocks_from (suc most) offset rest =
    option_map_or
    (λ file. text_file offset rest file ∷ blocks_from most (offset + file.block.end) (drop file.block.end rest))
    (first_file rest) []

-- the files in a text: those of its first blocks, at most this many, that count
unfoldable pub text_files : ℕ → List ℕ → List TextFile
text_files most text = filter is_file (blocks_from most 0 text)

-- the bytes of a file in a text: those that its lines encode, and it is damaged if no line `end`
-- follows them
unfoldable pub file_bytes : TextFile → Content
file_bytes file =
    let bytes = data_bytes file.lines in
    if file.is_ended then all_of bytes else record { bytes = bytes; fault = Some text_file_fault; ignored = 0 }

-- a part is a plain text that mail readers show: files are in such a text, unless the part itself is
-- a file
abbrev pub is_plain_text : Tree → Bool
is_plain_text t =
    is_leaf t && (is_shown (root t) && not (bytes_eq (root t).ctype.mimetype (codes "text/html")))

-- the path of the file with this number in the text of the part with this path; no part has it, since
-- those of parts have no letter
abbrev pub text_file_path : List ℕ → ℕ → List ℕ
text_file_path path number = path ++ (codes ".u" ++ decimal number)
