use Rattle.std.proofs.Common.{◌≡◌, length, drop}
use Rattle.std.specs.Char.{eq_ignore_ascii_case}
use Rattle.std.specs.Str.{chars, str_eq_ignore_ascii_case}
use Rattle.mail_codec.specs.Latin1.{latin1_text}
use lib.Pointwise.{pointwise}
use Rattle.mailparse.proofs.headers.map.is_spelled_by.Given as goal

-- what is left of the key and of the name decides
abbrev pub invariant-loop-character : goal.invariant-loop-character
invariant-loop-character l =
    str_eq_ignore_ascii_case (latin1_text l.key) l.name ≡ pointwise eq_ignore_ascii_case l.rest (drop (length l.yielded) (chars l.name))
