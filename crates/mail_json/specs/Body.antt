-- The encoding of a body; the program's own form.
use Rattle.std.specs.Prelude.{ℕ, List, codes}
use Rattle.mailparse.specs.Body.{in_base64, in_quoted_printable, in_7bit, in_8bit, in_binary}
use Rattle.mail_read.specs.lenient.Encoding.{LenientKind, in_uuencode, standard}

-- the name of a transfer encoding
abbrev pub encoding_text : LenientKind → List ℕ
encoding_text (standard in_base64) = codes "base64"
encoding_text (standard in_quoted_printable) = codes "quoted-printable"
encoding_text (standard in_7bit) = codes "7bit"
encoding_text (standard in_8bit) = codes "8bit"
encoding_text (standard in_binary) = codes "binary"
encoding_text in_uuencode = codes "x-uuencode"
