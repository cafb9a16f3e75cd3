-- Headers whose values are tested.
use Rattle.std.specs.Prelude.{Bool, ◌||◌, codes}
use Rattle.mail_check.specs.Lines.{HeaderLine, is_named}
use Rattle.mail_check.specs.Parameters.{is_disposition, is_type}
use Rattle.mail_check.specs.Words.{is_worded}

-- a header is a type, a disposition, a transfer encoding, a subject or a sender
unfoldable pub has_tested_value : HeaderLine → Bool
has_tested_value line =
    is_type line
    || (is_disposition line || (is_named (codes "Content-Transfer-Encoding") line || is_worded line))
