-- The hashes of files; the program's own rule.
use Rattle.std.specs.Prelude.{ℕ, List, Option, Some, None}
use Rattle.mail_extract.specs.declared.hash.Hashing.{Hashing}
use Rattle.mail_extract.specs.declared.hash.Hashing.TheVariants.{Off, On}
use Rattle.mail_program.specs.Hash.{hash_text}

-- the SHA-256 of bytes, if files are hashed
abbrev pub wanted_hash : Hashing → List ℕ → Option (List ℕ)
wanted_hash Off bytes = None
wanted_hash On bytes = Some (hash_text bytes)
