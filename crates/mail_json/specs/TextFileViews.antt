-- What a contract sees of the files in the texts of parts.
use Rattle.mail_data.specs.TextFiles.{text_file_path}
use Rattle.mail_data.specs.TextFileViews.{text_file_view}
use Rattle.mail_json.specs.TextFiles as words
use Rattle.mail_json.specs.TextFiles.{listed_file}
use Rattle.mail_json.specs.declared.text_files.ListedFile.{ListedFile}

-- a file, by its part and its number there
abbrev pub listed_view : ListedFile → words.ListedFile
listed_view file = listed_file file.hashes (text_file_path file.path.now file.number) (text_file_view file.file.now)
