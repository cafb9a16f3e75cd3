-- The files in the texts of parts, as they are listed; the program's own form.
use Rattle.std.specs.Prelude.{ℕ, ◌+◌, Bool, not, ◌&&◌, List, [], ◌∷◌, Option, Some, option_map, if◌then◌else◌}
use Rattle.mail_codec.specs.Uuencode.{Span}
use Rattle.mailparse.specs.Mail.{Tree}
use Rattle.mail_read.specs.Files.{text_of_octets}
use Rattle.mail_read.specs.PartPlaces.{Place}
use Rattle.mail_data.specs.TextFiles.{TextFile, file_bytes, is_plain_text, text_file_path, text_files}
use Rattle.mail_read.specs.lenient.Content.{Content}
use Rattle.mail_json.specs.Part.{hash_of}

-- a file: its path, its name, the range of its block in the text, its content, and the hash of that, if it is asked for
pub record ListedFile : Type 0 where
  pub path : List ℕ
  pub name : List ℕ
  pub block : Span
  pub content : Content
  pub sha256 : Option (List ℕ)

-- Whether hashes are asked for.
module _ (hashes : Bool) where
  -- a file in a text, which has this path
  abbrev pub listed_file : List ℕ → TextFile → ListedFile
  listed_file path file =
      let content = file_bytes file in
      record { path = path; name = text_of_octets file.name; block = file.block; content = content; sha256 = hash_of hashes (Some content) }

  -- files in the text of the part with this path, the first of which has this number
  abbrev pub listed_files : List ℕ → ℕ → List TextFile → List ListedFile
  listed_files path number [] = []
  listed_files path number (file ∷ files) = listed_file (text_file_path path number) file ∷ listed_files path (number + 1) files

-- the files in the text of a part, which may be extracted itself, with a limit: a plain text that is not extracted has some
abbrev pub files_in : ℕ → Bool → Tree → List ℕ → List TextFile
files_in limit extracted part text = if is_plain_text part && not extracted then text_files limit text else []

-- the same of a part whose body is decoded or not, as they are listed
abbrev pub files_if : ℕ → Bool → Bool → Place → Option Content → Option (List ListedFile)
files_if limit hashes extracted place content =
    option_map (λ decoded. listed_files hashes place.path 1 (files_in limit extracted place.part decoded.bytes)) content
