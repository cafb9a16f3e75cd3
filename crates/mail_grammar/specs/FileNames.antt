-- The names of the files of strict messages (RFC 2183, section 2.3), whose types and dispositions are plain. Which type and which
-- disposition a message has, this takes from the tree.
use Rattle.std.specs.Prelude.{◌≡◌, ℕ, true, false, List, ◌∷◌, Some, codes}
use Rattle.std.specs.List.{AllByRecursion, list_any}
use Rattle.std.specs.Str.{bytes_eq, str_eq_ignore_ascii_case, trim}
use Rattle.mail_codec.specs.Places.{is_empty}
use Rattle.mailparse.specs.Header.{Header}
use Rattle.mailparse.specs.Mail.{Node, shown_as}
use Rattle.mail_grammar.specs.PlainParameters.{IsPlainDisposition, blank_before_plain_disposition, plain_disposition, IsPlainType, blank_before_plain_type, plain_type}

-- ---- the names of parameters

-- those of a plain type, and of a plain disposition, in lower case
abbrev pub names_of_type : {value : List ℕ} → IsPlainType value → List (List ℕ)
names_of_type (blank_before_plain_type is more) = names_of_type more
names_of_type (plain_type main is plain made) = plain.names

abbrev pub names_of_disposition : {value : List ℕ} → IsPlainDisposition value → List (List ℕ)
names_of_disposition (blank_before_plain_disposition is more) = names_of_disposition more
names_of_disposition (plain_disposition plain) = plain.names

-- no parameter of a type is `filename`, and none of a disposition is `name`
pub record HasOwnNames (header : Header) : Type 0 where
  pub type : str_eq_ignore_ascii_case header.key (codes "Content-Type") ≡ true → (is : IsPlainType header.value)
      → list_any (bytes_eq (codes "filename")) (names_of_type is) ≡ false
  pub disposition : str_eq_ignore_ascii_case header.key (codes "Content-Disposition") ≡ true
      → (is : IsPlainDisposition header.value) → list_any (bytes_eq (codes "name")) (names_of_disposition is) ≡ false

-- ---- the name of a file

-- A header has this name, ignoring ASCII case. The cases:
pub data HasSome (name : List ℕ) : List Header → Type 0 where
  -- the first one
  first_has : {header : Header} {headers : List Header} → str_eq_ignore_ascii_case header.key name ≡ true
      → HasSome name (header ∷ headers)
  -- a later one
  later_has : {header : Header} {headers : List Header} → HasSome name headers → HasSome name (header ∷ headers)

-- a message that names a file in its disposition has a type, unless that name is blank, and its type names no other file
pub record HasStrictFileName (node : Node) : Type 0 where
  pub names : AllByRecursion HasOwnNames node.headers
  pub typed : (file : List ℕ) → (shown_as node).params (codes "filename") ≡ Some file → is_empty (trim file) ≡ false
      → HasSome (codes "Content-Type") node.headers
  pub same : (file name : List ℕ) → (shown_as node).params (codes "filename") ≡ Some file
      → node.ctype.params (codes "name") ≡ Some name → is_empty name ≡ false → file ≡ name
