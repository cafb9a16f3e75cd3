-- Plain outlines: well-formed outlines of these are written as strict mails. Which outlines are plain is the project's own rule.
use Rattle.std.specs.Prelude.{◌≡◌, ◌≤◌, ◌==◌, ℕ, true, false, List, length, IsUtf8, ⊤, codes}
use Rattle.std.specs.List.{AllByRecursion, list_all}
use Rattle.std.specs.Option.{option_map_or}
use Rattle.std.specs.Str.{bytes_eq, str_eq_ignore_ascii_case}
use Rattle.mail_codec.specs.Ascii.{colon}
use Rattle.mail_codec.specs.Places.{begins}
use Rattle.mailparse.specs.Header.{Header}
use Rattle.mail_address.specs.Encode.{is_plain_value}
use Rattle.mail_check_laws.specs.Charsets.{is_ascii_byte, HasNoMark}
use Rattle.mail_grammar.specs.Delimiters.{HasNoDash}
use Rattle.mail_grammar.specs.Fields.{HasAtMostOne, HasNone, once_names}
use Rattle.mail_grammar.specs.LineEnds.{AreLines}
use Rattle.mail_check_laws.specs.SenderNames.{HasNoEarlyAt}
use Rattle.mail_check_laws.specs.Senders.{IsSenderValue}
use Rattle.mail_check_laws.specs.Worded.{is_worded_key}
use Rattle.mail_grammar.specs.Words.{HasNoWordEnd}
use Rattle.mail_laws.specs.Render.{OutlineTree, OutlineForest, leaf, branch, no_outlines, outline_and, dash_boundary, depth, headers_within, rendered, type_header}

-- ---- headers

-- The name of a transfer encoding that leaves a body as it is. The cases:
pub data IsIdentity : List ℕ → Type 0 where
  in_seven_bits : IsIdentity (codes "7bit")
  in_eight_bits : IsIdentity (codes "8bit")
  as_binary : IsIdentity (codes "binary")

-- A disposition without parameters. The cases:
pub data IsBareDisposition : List ℕ → Type 0 where
  is_inline : IsBareDisposition (codes "inline")
  is_attachment : IsBareDisposition (codes "attachment")

-- a header whose value is printable ASCII without encoded words, and that names no other transfer encoding or disposition
pub record IsPlainHeader (header : Header) : Type 0 where
  pub value : is_plain_value header.value ≡ true
  pub no_colon : begins (λ b. b == colon) header.value ≡ false
  pub encoding : str_eq_ignore_ascii_case header.key (codes "Content-Transfer-Encoding") ≡ true → IsIdentity header.value
  pub disposition : str_eq_ignore_ascii_case header.key (codes "Content-Disposition") ≡ true → IsBareDisposition header.value
  -- in a subject or a sender, neither `=?` nor `?=` occurs
  pub no_word : is_worded_key header.key ≡ true → HasNoWordEnd header.value
  -- a `From` has one address, as in strict mails, and no opening angle bracket after an at sign
  pub sender : str_eq_ignore_ascii_case header.key (codes "From") ≡ true → IsSenderValue header.value
  pub early : str_eq_ignore_ascii_case header.key (codes "From") ≡ true → HasNoEarlyAt header.value

-- one such header or more, of which none is repeated that may occur once
pub record ArePlainHeaders (headers : List Header) : Type 0 where
  pub some : 1 ≤ length headers
  pub each : AllByRecursion IsPlainHeader headers
  pub once : AllByRecursion (λ name. HasAtMostOne name headers) once_names

-- ---- outlines

-- The value of a type of texts in UTF-8. The cases:
pub data IsUtf8Type : List ℕ → Type 0 where
  -- plain text
  plain_in_utf_8 : IsUtf8Type (codes "text/plain; charset=utf-8")
  -- HTML
  html_in_utf_8 : IsUtf8Type (codes "text/html; charset=utf-8")

-- A body after these headers is a text in the charset that they name. The cases:
pub data IsTextOf (headers : List Header) (body : List ℕ) : Type 0 where
  -- no type, and ASCII
  in_ascii : HasNone (codes "Content-Type") headers → list_all is_ascii_byte body ≡ true → IsTextOf headers body
  -- such a type, and UTF-8 without a byte order mark
  in_unicode : {value : List ℕ} → IsUtf8Type value
      → option_map_or (λ h. bytes_eq h.value value) (type_header headers) false ≡ true → IsUtf8 body → HasNoMark body
      → IsTextOf headers body

-- a leaf with such a body, in lines that end in CR LF
pub record IsPlainLeaf (headers : List Header) (body : List ℕ) : Type 0 where
  pub headed : ArePlainHeaders headers
  pub text : IsTextOf headers body
  pub lines : AreLines (codes "\r\n") body

-- a branch with a boundary of at most 70 letters and digits
pub record IsPlainBranch (headers : List Header) (boundary : List ℕ) : Type 0 where
  pub headed : ArePlainHeaders headers
  pub short : length boundary ≤ 70

-- every outline within it is such a leaf or branch, and the dash-boundary of no branch occurs in its parts
abbrev mutual
  pub IsPlainWithin : OutlineTree → Type 0
  IsPlainWithin (leaf headers body) = IsPlainLeaf headers body
  IsPlainWithin (branch headers boundary parts) = IsPlainBranch headers boundary × ArePlainParts boundary parts

  -- the same of the parts of a branch with this boundary
  pub ArePlainParts : List ℕ → OutlineForest → Type 0
  ArePlainParts boundary no_outlines = ⊤
  ArePlainParts boundary (outline_and part parts) =
      HasNoDash (dash_boundary boundary) (rendered part) × (IsPlainWithin part × ArePlainParts boundary parts)

-- the same of an outline of at most 10 levels and 100 messages
pub record IsPlainOutline (outline : OutlineTree) : Type 0 where
  pub within : IsPlainWithin outline
  pub levels : depth outline ≤ 9
  pub messages : length (headers_within outline) ≤ 100
