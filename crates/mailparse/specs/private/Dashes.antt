-- Headers whose keys do not begin as a delimiter does (RFC 2046, section 5.1.1).
use Rattle.std.specs.Prelude.{Bool, codes, not}
use Rattle.mail_codec.specs.Places.{has_prefix}
use Rattle.mailparse.specs.Header.{Header}

-- the key of a header does not begin with `--`
abbrev pub is_dashless : Header → Bool
is_dashless header = not (has_prefix (codes "--") header.key)
