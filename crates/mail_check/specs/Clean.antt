-- Mails without findings; this crate's own words.
use Rattle.std.specs.Prelude.{◌≡◌, ◌⊎◌, ℕ, ◌<◌, Bool, false, List, length}
use Rattle.mail_check.specs.Bytes.{is_bare_line_feed, is_lone_return, is_nul, is_return_feed}

-- a test passes at no offset of some bytes
abbrev pub Nowhere : (ℕ → Bool) → List ℕ → Type 0
Nowhere test bytes = (p : ℕ) → p < length bytes → test p ≡ false

-- bytes without a NUL and a lone CR, in which all line ends are alike
pub record HasPlainBytes (bytes : List ℕ) : Type 0 where
  pub no_nul : Nowhere (is_nul bytes) bytes
  pub no_lone_return : Nowhere (is_lone_return bytes) bytes
  pub alike : Nowhere (is_return_feed bytes) bytes ⊎ Nowhere (is_bare_line_feed bytes) bytes
