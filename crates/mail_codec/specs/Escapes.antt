-- Bytes that JSON text may have to escape, alone or with those after them.
use Rattle.std.specs.Prelude.{ℕ, Bool, ◌||◌, ◌==◌, nat_lt, List, Option}
use Rattle.mail_codec.specs.Places.{begins, place}

-- a control below 32, `"`, `\` or DEL; or C2, D8 or E2, with which UTF-8 begins the hidden characters that are not in
-- ASCII
abbrev pub may_need_escape : ℕ → Bool
may_need_escape b =
    nat_lt b 32 || (b == 34 || (b == 92 || (b == 127 || (b == 194 || (b == 216 || b == 226)))))

-- the first place of such a byte
abbrev pub escape_place : List ℕ → Option ℕ
escape_place bytes = place (begins may_need_escape) bytes
