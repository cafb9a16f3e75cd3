-- Lemmas on files that are saved, and on which files these are.
use Rattle.std.proofs.Common.{◌≡◌, ℕ, ◌+◌, Bool, true, false, cond, ◌||◌, List, [], ◌∷◌, ◌++◌, length, map, Option, Some, None, is_some, option_and_then, option_map, Ok, Err, refl, sym, ap, subst, arith, ⊎_elim, ◌∙◌}
use Rattle.std.specs.Prelude.{◌&&◌, codes, flat_map, not}
use Rattle.std.proofs.lemmas.Bool.{cases_lt, cond-true, cond-false}
use Rattle.std.proofs.lemmas.List.{append-nil}
use Rattle.std.proofs.lemmas.List.Concat.{flat_map-cons}
use Rattle.std.proofs.lemmas.List.Elements.{filter-append}
use Rattle.std.specs.List.{list_any}
use Rattle.std.specs.Option.{option_map_or}
use Rattle.std.specs.Result.{result_ok}
use Rattle.mail_codec.specs.Charset.{Charsets}
use Rattle.mailparse.specs.Mail.{Tree}
use Rattle.mailparse.specs.Refusal.{Reads, Refusal}
use Rattle.mail_read.specs.InnerMails.{InnerMail, places_under}
use Rattle.mail_read.specs.PartPlaces.{Place}
use Rattle.mail_read.specs.Reading.{mail_placements}
use Rattle.mail_data.specs.TextFiles.{TextFile, text_file_path}
use Rattle.mail_read.specs.lenient.Content.{Content}
use Rattle.mail_extract.specs.Choice.{Choice, keeps}
use Rattle.mail_read.specs.Attachments.{is_extracted}
use Rattle.mail_parts.specs.Reading.{mail_reading}
use Rattle.std.specs.Str.{bytes_eq}
use Rattle.mail_extract.specs.Directory.{Creates, File, has_copy, has_file}
use Rattle.mail_extract.specs.Hash.{wanted_hash}
use Rattle.mail_extract.specs.declared.hash.Hashing.{Hashing}
use Rattle.mail_extract.specs.declared.directory.Created.{Created}
use Rattle.mail_extract.specs.declared.directory.Created.TheVariants.{Taken}
use Rattle.mail_extract.specs.Names.{IsNumbered}
use Rattle.mail_extract.specs.Naming.{Options, target}
use Rattle.mail_extract.specs.declared.options.Naming.{Naming}
use Rattle.mail_extract.specs.Save.{AreTaken, IsPut, IsSaved, Wanted, chosen, is_chosen, text_wanted, texts_wanted, wanted, wanted_among, wanted_as, wanted_in, wanted_inside, wanted_texts}
use Rattle.mail_extract.specs.declared.level.Level.{Level}
use Rattle.mail_extract.specs.declared.level.Level.TheVariants.{Inside}

-- the name is taken
pub created_taken : (files : List File) (name bytes : List ℕ) (can_fail : List File → Bool) (now : Option (List File)) (r : Created) → r ≡ Taken
    → Creates files name bytes can_fail now r → (has_file name files ≡ true) × (now ≡ Some files)
created_taken files name bytes can_fail now r e h = subst (λ (c : Created). Creates files name bytes can_fail now c) e h

-- the result of a function on an option is there exactly if the option's value is
pub some_view : {X Y : Type 0} (f : X → Y) (o : Option X) → is_some (option_map f o) ≡ is_some o
some_view f None = refl
some_view f (Some x) = refl

-- there is an error if the content of a saved file is damaged, or if the file was not saved
pub error_damaged : (error damaged : Bool) → error ≡ damaged → error ≡ (damaged || false)
error_damaged error true e = e
error_damaged error false e = e

pub error_failed : (damaged : Bool) → true ≡ (damaged || true)
error_failed true = refl
error_failed false = refl

-- the value that was read is that of the definition
pub read_value : {Y : Type 0} (given view : Y) → ◌≡◌ {A = Reads Y} (Ok given) (Ok view) → given ≡ view
read_value given view e = cc

-- the hash in the outcome of bytes, if they were saved
abbrev pub hash_kept : Hashing → Option (List ℕ) → List ℕ → Option (List ℕ)
hash_kept hashing saved bytes = option_and_then (λ name. wanted_hash hashing bytes) saved

-- a file that was put was saved
pub saved_file : (can_fail : List File → Bool) (options : Options) (files now : List File) (wanted : Wanted) (from next size : ℕ) (name bytes path : List ℕ)
    (kept saved sha256 error : Option (List ℕ)) (content : Content) → name ≡ target options.naming wanted.name bytes → content ≡ wanted.content → bytes ≡ content.bytes
    → kept ≡ saved → path ≡ wanted.path → size ≡ length content.bytes → sha256 ≡ hash_kept options.hashing saved content.bytes
    → is_some error ≡ (is_some content.fault || not (is_some saved)) → IsPut can_fail name options.naming files bytes from kept next now
    → IsSaved can_fail options files wanted from (record { path = path; saved = saved; size = size; sha256 = sha256; error = error }) next now
saved_file can_fail options files now wanted from next size name bytes path kept saved sha256 error content is_name is_content is_bytes is_saved is_path is_size is_hash is_error h =
    let same = is_bytes ∙ ap (λ (c : Content). c.bytes) is_content in
    record {
      kept = subst (λ (s : Option (List ℕ)). IsPut can_fail (target options.naming wanted.name wanted.content.bytes) options.naming files wanted.content.bytes from s next now) is_saved
          (subst (λ (b : List ℕ). IsPut can_fail (target options.naming wanted.name b) options.naming files b from kept next now) same
          (subst (λ (n : List ℕ). IsPut can_fail n options.naming files bytes from kept next now) is_name h));
      path = is_path;
      size = is_size ∙ ap (λ (c : Content). length c.bytes) is_content;
      hash = is_hash ∙ ap (λ (c : Content). hash_kept options.hashing saved c.bytes) is_content;
      error = is_error ∙ ap (λ (c : Content). is_some c.fault || not (is_some saved)) is_content;
    }

module _ (known : Charsets) (limit : ℕ) (choice : Choice) (level : Level) where
  -- one part
  among-one : (place : Place) → wanted_among known limit level (place ∷ []) ≡ wanted_in known limit level place
  among-one place = flat_map-cons (wanted_in known limit level) place [] ∙ append-nil (wanted_in known limit level place)

  -- the first part, and the rest
  among-cons : (place : Place) (rest : List Place)
      → wanted_among known limit level (place ∷ rest) ≡ wanted_among known limit level (place ∷ []) ++ wanted_among known limit level rest
  among-cons place rest =
      flat_map-cons (wanted_in known limit level) place rest
      ∙ ap (λ (files : List Wanted). files ++ wanted_among known limit level rest) (sym (among-one place))

  -- a part that is no file has those in its text
  pub among-text : (place : Place) → is_extracted known place.part ≡ false
      → chosen choice (wanted_among known limit level (place ∷ [])) ≡ chosen choice (wanted_texts limit place)
  among-text place is =
      ap (chosen choice) (among-one place ∙ cond-false (is_extracted known place.part) (wanted known level place ∷ []) (wanted_texts limit place) is)

  -- a part that is a file
  among-file : (place : Place) (keep : Bool) → is_extracted known place.part ≡ true → is_chosen choice (wanted known level place) ≡ keep
      → chosen choice (wanted_among known limit level (place ∷ [])) ≡ cond keep (wanted known level place ∷ []) []
  among-file place keep is kept =
      ap (chosen choice) (among-one place ∙ cond-true (is_extracted known place.part) (wanted known level place ∷ []) (wanted_texts limit place) is)
      ∙ ap (λ (k : Bool). cond k (wanted known level place ∷ []) []) kept

  -- the choice, asked about a name
  pub among-kept : (place : Place) (keep : Bool) (name : List ℕ) → is_extracted known place.part ≡ true → name ≡ (wanted known level place).name
      → keep ≡ is_chosen choice (wanted_as level place name) → chosen choice (wanted_among known limit level (place ∷ [])) ≡ cond keep (wanted_as level place name ∷ []) []
  among-kept place keep name is is_name kept =
      among-file place keep is (ap (λ (n : List ℕ). is_chosen choice (wanted_as level place n)) (sym is_name) ∙ sym kept)
      ∙ ap (λ (n : List ℕ). cond keep (wanted_as level place n ∷ []) []) (sym is_name)

  -- the chosen files of the first part, and of the rest
  pub chosen-cons : (all rest : List Place) (place : Place) → all ≡ place ∷ rest
      → chosen choice (wanted_among known limit level all) ≡ chosen choice (wanted_among known limit level (place ∷ [])) ++ chosen choice (wanted_among known limit level rest)
  chosen-cons all rest place e =
      ap (λ ps. chosen choice (wanted_among known limit level ps)) e ∙ ap (chosen choice) (among-cons place rest)
      ∙ filter-append (is_chosen choice) (wanted_among known limit level (place ∷ [])) _

and_true : (b : Bool) → (b && true) ≡ b
and_true true = refl
and_true false = refl

-- the type of a file in a text
abbrev pub octets : List ℕ
octets = codes "application/octet-stream"

module _ (choice : Choice) where
  -- a file in a text, and the choice, asked about its name
  pub text-kept : (path : List ℕ) (file : TextFile) (keep : Bool) (name : List ℕ) → name ≡ (text_wanted path file).name → keep ≡ keeps choice path octets name
      → chosen choice (text_wanted path file ∷ []) ≡ cond keep (text_wanted path file ∷ []) []
  text-kept path file keep name is_name kept =
      ap (λ (k : Bool). cond k (text_wanted path file ∷ []) [])
      (and_true (keeps choice path octets (text_wanted path file).name) ∙ ap (λ (n : List ℕ). keeps choice path octets n) (sym is_name) ∙ sym kept)

  -- the chosen files of the first file in a text, and of the rest
  pub texts-cons : (path own : List ℕ) (number : ℕ) (all rest : List TextFile) (file : TextFile) → all ≡ file ∷ rest → own ≡ text_file_path path number
      → chosen choice (texts_wanted path number all) ≡ chosen choice (text_wanted own file ∷ []) ++ chosen choice (texts_wanted path (number + 1) rest)
  texts-cons path own number all rest file e is_own =
      ap (λ (files : List TextFile). chosen choice (texts_wanted path number files)) e
      ∙ filter-append (is_chosen choice) (text_wanted (text_file_path path number) file ∷ []) (texts_wanted path (number + 1) rest)
      ∙ ap (λ (p : List ℕ). chosen choice (text_wanted p file ∷ []) ++ chosen choice (texts_wanted path (number + 1) rest)) (sym is_own)

-- the chosen files of the mails inside a mail
abbrev pub chosen_inside : Charsets → ℕ → Choice → List InnerMail → List Wanted
chosen_inside known limit choice mails = flat_map (λ inner. chosen choice (wanted_inside known limit inner)) mails

chosen-inside : (known : Charsets) (limit : ℕ) (choice : Choice) (mails : List InnerMail)
    → chosen choice (flat_map (wanted_inside known limit) mails) ≡ chosen_inside known limit choice mails
chosen-inside known limit choice [] = refl
chosen-inside known limit choice (inner ∷ mails) =
    ap (chosen choice) (flat_map-cons (wanted_inside known limit) inner mails)
    ∙ filter-append (is_chosen choice) (wanted_inside known limit inner) _
    ∙ ap (λ (files : List Wanted). chosen choice (wanted_inside known limit inner) ++ files) (chosen-inside known limit choice mails)
    ∙ sym (flat_map-cons (λ i. chosen choice (wanted_inside known limit i)) inner mails)

-- the chosen files of a mail, and of those inside it
pub chosen_all : (known : Charsets) (limit : ℕ) (choice : Choice) (own : List Wanted) (mails : List InnerMail)
    → chosen choice own ++ chosen_inside known limit choice mails ≡ chosen choice (own ++ flat_map (wanted_inside known limit) mails)
chosen_all known limit choice own mails =
    ap (λ (files : List Wanted). chosen choice own ++ files) (sym (chosen-inside known limit choice mails))
    ∙ sym (filter-append (is_chosen choice) own _)

-- the files of a mail inside a mail that was read so
pub inside_read : (known : Charsets) (limit : ℕ) (inner : InnerMail) (t : Tree) → mail_reading known limit inner.bytes ≡ Ok t
    → wanted_inside known limit inner ≡ wanted_among known limit Inside (places_under inner.path t (mail_placements t))
inside_read known limit inner t e =
    ap (λ (r : Reads Tree). option_map_or (λ u. wanted_among known limit Inside (places_under inner.path u (mail_placements u))) (result_ok r) []) e

-- a refused mail has none
pub inside_refused : (known : Charsets) (limit : ℕ) (inner : InnerMail) (refusal : Refusal) → mail_reading known limit inner.bytes ≡ Err refusal → wanted_inside known limit inner ≡ []
inside_refused known limit inner refusal e =
    ap (λ (r : Reads Tree). option_map_or (λ u. wanted_among known limit Inside (places_under inner.path u (mail_placements u))) (result_ok r) []) e

-- no number is below the first
pub taken_start : (can_fail : List File → Bool) (naming : Naming) (name : List ℕ) (files : List File) (from : ℕ) → AreTaken can_fail naming name files from from
taken_start can_fail naming name files from = λ n above below. absurd (omega arith)

-- one more number
pub taken_more : (can_fail : List File → Bool) (naming : Naming) (name : List ℕ) (files : List File) (from number : ℕ) (text : List ℕ) → IsNumbered naming name number text
    → has_file text files ≡ true → AreTaken can_fail naming name files from number → AreTaken can_fail naming name files from (number + 1)
taken_more can_fail naming name files from number text is taken before = λ n above below.
    ⊎_elim (λ less. before n above less)
    (λ not_less.
    let same : number ≡ n = omega arith in
    subst (λ (m : ℕ). (t : List ℕ) × IsNumbered naming name m t × (has_file t files ≡ true)) same (text, is, taken))
    (cases_lt n number)

-- whether one element passes a test, seen by a view
pub list_any_map : {A B : Type 0} (p : B → Bool) (f : A → B) (xs : List A) → list_any p (map f xs) ≡ list_any (λ x. p (f x)) xs
list_any_map p f [] = refl
list_any_map p f (x ∷ xs) = ap (λ t. p (f x) || t) (list_any_map p f xs)

or_none : (a b : Bool) → (a || b) ≡ false → (a ≡ false) × (b ≡ false)
or_none false b e = (refl, e)
or_none true b e = let f : ◌≡◌ {A = Bool} true false = e in absurd (cc)

neither : (a b c : Bool) → a ≡ false → c ≡ false → ((a && b) || c) ≡ false
neither false b c e f = f
neither true b c e f = absurd (cc)

-- if no file has the name, none with the name has the bytes
pub no_copy : (name bytes : List ℕ) (files : List File) → has_file name files ≡ false → has_copy name bytes files ≡ false
no_copy name bytes [] e = refl
no_copy name bytes (file ∷ files) e =
    let parts = or_none (bytes_eq file.0 name) (has_file name files) e in
    neither (bytes_eq file.0 name) (bytes_eq file.1 bytes) (has_copy name bytes files) parts.0 (no_copy name bytes files parts.1)
