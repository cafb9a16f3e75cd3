-- What a contract sees of a body that is read leniently.
use Rattle.std.specs.Prelude.{◌≡◌}
use Rattle.mailparse.specs.Body.{BodyKind}
use Rattle.mailparse.specs.BodyViews.{Content, IsBody}
use Rattle.mail_read.specs.lenient.Encoding.{LenientKind, in_uuencode, standard}
use Rattle.mail_read.specs.declared.lenient.encoding.LenientBody.{LenientBody}
use Rattle.mail_read.specs.declared.lenient.encoding.LenientBody.TheVariants.{Standard, Uuencode}

-- a body has this transfer encoding and this content
abbrev pub IsLenientBody : LenientKind → Content → LenientBody → Type 0
IsLenientBody kind given (Standard body) =
    (named : BodyKind) × (kind ≡ standard named) × IsBody named given body
IsLenientBody kind given (Uuencode raw) = (kind ≡ in_uuencode) × (raw.now ≡ given.raw)
