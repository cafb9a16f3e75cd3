-- Bits of a body in Base64 that make no byte (RFC 2045, section 6.8); this crate's own words.
use Rattle.std.specs.Prelude.{ℕ, ◌+◌, ◌-◌, List, take, Option, Some, None, if◌then◌else◌}
use Rattle.mail_codec.specs.Ascii.{equals_sign}
use Rattle.mail_codec.specs.Places.{byte_place}
use Rattle.mail_check.specs.Bodies.{is_base64_lines}
use Rattle.mail_check.specs.Bytes.{byte_at}
use Rattle.mail_check.specs.WordBytes.{has_spare_bits}

-- the offset after the padding that begins at an offset
abbrev pub padding_end : List ℕ → ℕ → ℕ
padding_end body p = if byte_at body (p + 1) equals_sign then p + 2 else p + 1

-- the offset of the group that ends at one, if such a bit of its last letter is not 0
abbrev pub spare_group : List ℕ → ℕ → Option ℕ
spare_group body end = if has_spare_bits (take end body) then Some (end - 4) else None

-- the same, given the offset of the padding, if there is some
abbrev pub spare_group_of : List ℕ → Option ℕ → Option ℕ
spare_group_of body None = None
spare_group_of body (Some p) = spare_group body (padding_end body p)

-- the offset of the group in such lines that hides bits in its last letter
abbrev pub hidden_bits : List ℕ → Option ℕ
hidden_bits body = if is_base64_lines body then spare_group_of body (byte_place body equals_sign) else None
