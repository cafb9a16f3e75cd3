-- The recipients that a mail did not reach (RFC 3464, section 2.3.3).
use Rattle.std.specs.Prelude.{ℕ, Bool, false, List, Option, Some, None, codes}
use Rattle.std.specs.Str.{str_eq_ignore_ascii_case}
use Rattle.mail_data.specs.Bounce.{Delivery}

-- a text is there and says `failed`, in any case
abbrev pub says_failed : Option (List ℕ) → Bool
says_failed None = false
says_failed (Some text) = str_eq_ignore_ascii_case text (codes "failed")

-- delivery to a recipient failed for good
abbrev pub has_failed : Delivery → Bool
has_failed d = says_failed d.action
