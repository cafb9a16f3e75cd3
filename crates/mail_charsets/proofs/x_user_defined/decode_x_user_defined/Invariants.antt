use Rattle.std.proofs.Common.{◌≡◌, ◌++◌, map, drop, encode_utf8_all, string_bytes}
use Rattle.mail_charsets.specs.Encoding.{x_user_defined_char}
use Rattle.mail_charsets.proofs.x_user_defined.decode_x_user_defined.Given as goal

-- the text so far, and then that of the rest, is the whole text
abbrev pub invariant-loop-byte : goal.invariant-loop-byte
invariant-loop-byte l = string_bytes l.text ++ encode_utf8_all (map x_user_defined_char (drop l.byte-index l.bytes)) ≡ encode_utf8_all (map x_user_defined_char l.bytes)
