-- What saving the files of a mail does to a directory; the program's own rule.
use Rattle.std.specs.Prelude.{◌≡◌, ℕ, ◌+◌, ◌-◌, ◌^◌, ◌<◌, ◌≤◌, ◌⊎◌, Bool, true, false, not, ◌&&◌, ◌||◌, List, [], ◌∷◌, ◌++◌, length, filter, flat_map, codes, Option, Some, None, is_some, option_and_then, if◌then◌else◌}
use Rattle.std.specs.Option.{option_map_or}
use Rattle.std.specs.Result.{result_ok}
use Rattle.mail_codec.specs.Charset.{Charsets}
use Rattle.mailparse.specs.Mail.{Node, Tree, root}
use Rattle.mailparse.specs.Placement.{Placement}
use Rattle.mail_read.specs.Attachments.{is_extracted}
use Rattle.mail_read.specs.Files.{text_of_octets}
use Rattle.mail_read.specs.InnerMails.{InnerMail, forwards, places_under}
use Rattle.mail_read.specs.PartPlaces.{Place, places}
use Rattle.mail_read.specs.RawPaths.{file_name_or_path}
use Rattle.mail_read.specs.Reading.{mail_placements}
use Rattle.mail_data.specs.TextFiles.{TextFile, file_bytes, is_plain_text, text_file_path, text_files}
use Rattle.mail_read.specs.lenient.Content.{Content, message_content}
use Rattle.mail_parts.specs.Reading.{inner_mails_within, mail_reading}
use Rattle.mail_extract.specs.Choice.{Choice, keeps}
use Rattle.mail_extract.specs.Content.{content}
use Rattle.mail_extract.specs.Endings.{ending_of}
use Rattle.mail_extract.specs.Directory.{File, has_copy, has_file}
use Rattle.mail_extract.specs.Hash.{wanted_hash}
use Rattle.mail_extract.specs.Names.{IsNumbered, wanted_name}
use Rattle.mail_extract.specs.Naming.{Options, target}
use Rattle.mail_extract.specs.declared.level.Level.{Level}
use Rattle.mail_extract.specs.declared.level.Level.TheVariants.{Own, Inside}
use Rattle.mail_extract.specs.declared.options.Naming.{Naming}
use Rattle.mail_extract.specs.declared.options.Naming.TheVariants.{BySender, ForWindows, ByHash}

-- a file of a mail: the path of its part, the type, the wanted name, its content, and whether the file of a forwarded mail contains it
pub record Wanted : Type 0 where
  pub path : List ℕ
  pub mimetype : List ℕ
  pub name : List ℕ
  pub content : Content
  pub is_contained : Bool

-- the outcome: the path, the name under which it was saved, if it was, the number of its bytes, their SHA-256, if it is hashed, and the error, if
-- there is one
pub record Outcome : Type 0 where
  pub path : List ℕ
  pub saved : Option (List ℕ)
  pub size : ℕ
  pub sha256 : Option (List ℕ)
  pub error : Option (List ℕ)

-- For a directory that may fail if it has certain files, what names files, and the wanted name of a file.
module _ (can_fail : List File → Bool) (naming : Naming) (name : List ℕ) where
  -- the name with each number from `from` onwards and below a bound is taken
  abbrev pub AreTaken : List File → ℕ → ℕ → Type 0
  AreTaken files from bound = (n : ℕ) → from ≤ n → n < bound → (text : List ℕ) × IsNumbered naming name n text × (has_file text files ≡ true)

  -- a file was saved under the name with the least free number from `from` onwards, and the next number is the one after it; or the directory failed,
  -- and the next number is the one after that which was tried; or no number below 2^64 - 1 is free
  abbrev pub IsKeptNumbered : List File → List ℕ → ℕ → Option (List ℕ) → ℕ → List File → Type 0
  IsKeptNumbered files bytes from (Some text) next now =
      (n : ℕ) × (next ≡ n + 1) × (from ≤ n) × AreTaken files from n × IsNumbered naming name n text × (has_file text files ≡ false)
      × (now ≡ files ++ (text, bytes) ∷ [])
  IsKeptNumbered files bytes from None next now =
      (now ≡ files)
      × (((can_fail files ≡ true) × (n : ℕ) × (next ≡ n + 1) × (from ≤ n) × AreTaken files from n) ⊎ ((2 ^ 64 - 1 ≤ next) × AreTaken files from (2 ^ 64 - 1)))

  -- the same, but under the name itself if that is free
  abbrev pub IsKept : List File → List ℕ → ℕ → Option (List ℕ) → ℕ → List File → Type 0
  IsKept files bytes from saved next now =
      ((has_file name files ≡ false) × (saved ≡ Some name) × (next ≡ from) × (now ≡ files ++ (name, bytes) ∷ []))
      ⊎ ((has_file name files ≡ true) × IsKeptNumbered files bytes from saved next now)
      ⊎ ((can_fail files ≡ true) × (saved ≡ None) × (next ≡ from) × (now ≡ files))

-- For a directory that may fail if it has certain files, and the wanted name of a file.
module _ (can_fail : List File → Bool) (name : List ℕ) where
  -- a file was saved under the name or a number; but if the name is the hash of the bytes and a file with this name has them already, nothing is written
  abbrev pub IsPut : Naming → List File → List ℕ → ℕ → Option (List ℕ) → ℕ → List File → Type 0
  IsPut BySender files bytes from saved next now = IsKept can_fail BySender name files bytes from saved next now
  IsPut ForWindows files bytes from saved next now = IsKept can_fail ForWindows name files bytes from saved next now
  IsPut ByHash files bytes from saved next now =
      ((has_copy name bytes files ≡ true) × (saved ≡ Some name) × (next ≡ from) × (now ≡ files))
      ⊎ ((has_copy name bytes files ≡ false) × IsKept can_fail ByHash name files bytes from saved next now)

-- For a directory that may fail if it has certain files, under these options.
module _ (can_fail : List File → Bool) (options : Options) where
  -- a file was saved with this outcome; it has an error exactly if it was not saved or its content is damaged
  pub record IsSaved (files : List File) (wanted : Wanted) (from : ℕ) (outcome : Outcome) (next : ℕ) (now : List File) : Type 0 where
    pub kept : IsPut can_fail (target options.naming wanted.name wanted.content.bytes) options.naming files wanted.content.bytes from outcome.saved next now
    pub path : outcome.path ≡ wanted.path
    pub size : outcome.size ≡ length wanted.content.bytes
    pub hash : outcome.sha256 ≡ option_and_then (λ name. wanted_hash options.hashing wanted.content.bytes) outcome.saved
    pub error : is_some outcome.error ≡ (is_some wanted.content.fault || not (is_some outcome.saved))

-- a forwarded mail in a forwarded mail, whose file contains it
abbrev pub is_contained : Level → Node → Bool
is_contained Own node = false
is_contained Inside node = forwards node

-- a part as it is to be saved under a name
abbrev pub wanted_as : Level → Place → List ℕ → Wanted
wanted_as level place name =
    let node = root place.part in
    record { path = place.path; mimetype = node.ctype.mimetype; name = name; content = content node; is_contained = is_contained level node }

-- a file in a text, which has this path, as it is to be saved: it has no type of its own
abbrev pub text_wanted : List ℕ → TextFile → Wanted
text_wanted path file =
    record {
      path = path;
      mimetype = codes "application/octet-stream";
      name = wanted_name (Some (text_of_octets file.name)) [];
      content = file_bytes file;
      is_contained = false;
    }

-- files in the text of the part with this path, the first of which has this number
abbrev pub texts_wanted : List ℕ → ℕ → List TextFile → List Wanted
texts_wanted path number [] = []
texts_wanted path number (file ∷ files) = text_wanted (text_file_path path number) file ∷ texts_wanted path (number + 1) files

-- the files in the text of a part, if it is a plain text, at most this many
abbrev pub wanted_texts : ℕ → Place → List Wanted
wanted_texts limit place =
    if is_plain_text place.part then texts_wanted place.path 1 (text_files limit (message_content (root place.part)).bytes) else []

-- Under the known charsets.
module _ (known : Charsets) where
  -- a part as it is to be saved
  abbrev pub wanted : Level → Place → Wanted
  wanted level place = wanted_as level place (wanted_name (file_name_or_path known (root place.part)) (ending_of (root place.part)))

  -- a part, if it is a file, or otherwise the files in its text, with this limit
  abbrev pub wanted_in : ℕ → Level → Place → List Wanted
  wanted_in limit level place = if is_extracted known place.part then wanted level place ∷ [] else wanted_texts limit place

  -- the files among some parts
  abbrev pub wanted_among : ℕ → Level → List Place → List Wanted
  wanted_among limit level found = flat_map (wanted_in limit level) found

  -- the files of a mail inside a mail, if it is not refused, also for this limit
  abbrev pub wanted_inside : ℕ → InnerMail → List Wanted
  wanted_inside limit inner =
      option_map_or (λ t. wanted_among limit Inside (places_under inner.path t (mail_placements t))) (result_ok (mail_reading known limit inner.bytes)) []

  -- the files of a mail whose parts have these placements, and then those of the mails inside it, each with this limit
  abbrev pub wanted_files : ℕ → Tree → List Placement → List Wanted
  wanted_files limit t found =
      wanted_among limit Own (places t found) ++ flat_map (wanted_inside limit) (inner_mails_within known limit 100 [] (Some 0) t found)

-- the choice keeps a file: what the file of a forwarded mail contains is kept only if the choice names its path
abbrev pub is_chosen : Choice → Wanted → Bool
is_chosen choice file = keeps choice file.path file.mimetype file.name && (not file.is_contained || is_some choice.path)

-- those files that the choice keeps, in order
abbrev pub chosen : Choice → List Wanted → List Wanted
chosen choice files = filter (is_chosen choice) files
