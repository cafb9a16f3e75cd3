-- What a contract sees of a file that was saved or was not.
use Rattle.std.specs.Prelude.{ℕ, List, Option, Some, None, string_bytes}
use Rattle.mailparse.specs.Map.{text_found}
use Rattle.mail_extract.specs.Save.{Outcome}
use Rattle.mail_extract.specs.declared.save.Kept.{Kept}
use Rattle.mail_extract.specs.declared.save.Kept.TheVariants.{As, Nowhere}
use Rattle.mail_extract.specs.declared.save.Saved.{Saved}

-- the name under which a file was saved, if it was
abbrev pub kept_name : Kept → Option (List ℕ)
kept_name (As name) = Some (string_bytes name)
kept_name (Nowhere error) = None

-- the outcome of saving a file
abbrev pub outcome : Saved → Outcome
outcome saved = record {
  path = string_bytes saved.path;
  saved = text_found saved.name;
  size = saved.size;
  sha256 = text_found saved.sha256;
  error = text_found saved.error;
}
