-- The byte order of UTF-16 as the definition takes it.
use Rattle.std.specs.Prelude.{ℕ}
use Rattle.mail_codec.specs.Charset.{low_first, high_first}
use Rattle.mail_codec.specs.declared.charset.utf16.ByteOrder.{ByteOrder}
use Rattle.mail_codec.specs.declared.charset.utf16.ByteOrder.TheVariants.{Little, Big}

-- the unit of two bytes in a byte order
abbrev pub unit_of : ByteOrder → ℕ → ℕ → ℕ
unit_of Little = low_first
unit_of Big = high_first
