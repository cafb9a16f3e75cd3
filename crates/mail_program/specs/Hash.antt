-- The hash of bytes, as it is shown.
use Rattle.std.specs.Prelude.{ℕ, List}
use Rattle.hex.specs.Hex.{encode_lower}
use Rattle.sha2.specs.Sha256.{sha256}

-- the SHA-256 of bytes (FIPS 180-4) as 64 digits, with lower case letters
abbrev pub hash_text : List ℕ → List ℕ
hash_text bytes = encode_lower (sha256 bytes)
