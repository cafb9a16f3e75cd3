-- What a contract sees of a directory for one file.
use Rattle.std.specs.Prelude.{List, [], ◌∷◌, string_bytes}
use Rattle.std.specs.Option.{option_map_or}
use Rattle.mail_extract.specs.Directory.{File}
use Rattle.mail_extract.specs.declared.only.OneFile.{OneFile}

-- its files
abbrev pub files_held : OneFile → List File
files_held directory = option_map_or (λ file. (string_bytes file.name, file.bytes.items) ∷ []) directory.file []
