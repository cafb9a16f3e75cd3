-- Lemmas on the files in the texts of parts.
use Rattle.std.proofs.Common.{◌≡◌, ◌∙◌, ◌++◌, ◌+◌, ◌<◌, ◌∷◌, [], ℕ, Bool, List, ap, length, map, drop, drop-cons, get_or, add-one, sym, append_assoc}
use Rattle.std.proofs.lemmas.List.{map_push}
use Rattle.mail_data.specs.TextFiles.{TextFile, text_file_path}
use Rattle.mail_data.specs.TextFileViews.{text_file_view}
use Rattle.mail_data.specs.declared.text_files.TextFile as code
use Rattle.mail_json.specs.TextFiles as words
use Rattle.mail_json.specs.TextFiles.{listed_file, listed_files}
use Rattle.mail_json.specs.TextFileViews.{listed_view}
use Rattle.mail_json.specs.declared.text_files.ListedFile.{ListedFile}

-- the first of the files that are left, and the others
files_left : (files : List code.TextFile) (i : ℕ) (d : code.TextFile) → i < length files
    → map text_file_view (drop i files) ≡ text_file_view (get_or files i d) ∷ map text_file_view (drop (i + 1) files)
files_left files i d below =
    ap (map text_file_view) (drop-cons files i d below)
    ∙ ap (λ n. text_file_view (get_or files i d) ∷ map text_file_view (drop n files)) (sym (add-one i))

-- one file more is listed, whose path has its number
pub listed_more : (hashes : Bool) (path : List ℕ) (number : ℕ) (files : List code.TextFile) (i : ℕ) (d : code.TextFile) (listed new : List ListedFile) (one : ListedFile)
    → i < length files → new ≡ listed ++ one ∷ [] → listed_view one ≡ listed_file hashes (text_file_path path (number + 1)) (text_file_view (get_or files i d))
    → map listed_view new ++ listed_files hashes path (number + 1 + 1) (map text_file_view (drop (i + 1) files))
    ≡ map listed_view listed ++ listed_files hashes path (number + 1) (map text_file_view (drop i files))
listed_more hashes path number files i d listed new one below new_is one_is =
    let later = listed_files hashes path (number + 1 + 1) (map text_file_view (drop (i + 1) files)) in
    let done = map listed_view listed in
    ap (λ (fs : List words.ListedFile). fs ++ later) (ap (map listed_view) new_is ∙ map_push listed_view listed one)
    ∙ append_assoc done (listed_view one ∷ []) later
    ∙ ap (λ (f : words.ListedFile). done ++ (f ∷ later)) one_is
    ∙ ap (λ (fs : List TextFile). done ++ listed_files hashes path (number + 1) fs) (sym (files_left files i d below))
