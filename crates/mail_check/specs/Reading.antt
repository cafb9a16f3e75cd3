-- What is found in the bytes of a mail; the project's own rule.
use Rattle.std.specs.Prelude.{ℕ, List, Ok, Err}
use Rattle.mail_codec.specs.Charset.{Charsets}
use Rattle.mailparse.specs.Limit.{read_mail_within}
use Rattle.mailparse.specs.Mail.{Tree, strict}
use Rattle.mailparse.specs.Placement.{placements}
use Rattle.mailparse.specs.Refusal.{Reads}
use Rattle.mail_check.specs.Findings.{Finding}
use Rattle.mail_check.specs.Inside.{all_findings}

-- the findings of a mail that was read, under the charsets that are known, or its refusal
abbrev pub found_in : Charsets → Reads Tree → Reads (List Finding)
found_in known (Ok mail) = Ok (all_findings known mail (placements 0 mail))
found_in known (Err refusal) = Err refusal

-- those of the mail in the bytes, read in the manner of the port under these charsets, and refused if it has more than
-- `limit` messages, parts and headers
unfoldable pub mail_findings : Charsets → ℕ → List ℕ → Reads (List Finding)
mail_findings known limit bytes = found_in known (read_mail_within (strict known) 100 limit bytes)
