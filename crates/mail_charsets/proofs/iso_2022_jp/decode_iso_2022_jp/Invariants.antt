use Rattle.std.proofs.Common.{◌≡◌, ◌++◌, length, string_bytes}
use Rattle.mail_charsets.specs.Iso2022Jp.{iso_2022_jp_text, jp_text_from}
use Rattle.mail_charsets.proofs.iso_2022_jp.decode_iso_2022_jp.Given as goal

-- the text so far, and then that of the rest, is the whole text
abbrev pub invariant-rest : goal.invariant-rest
invariant-rest l = string_bytes l.text ++ jp_text_from l.index l.state l.rest ≡ iso_2022_jp_text l.index l.bytes

abbrev pub decreases-rest : goal.decreases-rest
decreases-rest l = length l.rest
