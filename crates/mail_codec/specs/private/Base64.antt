-- Words for the private functions of the Base64 decoder; this crate's own words.
use Rattle.std.specs.Prelude.{◌≡◌, ℕ, true, false, List, Result, Ok, Err}
use Rattle.mail_codec.specs.Base64.{padding}
use Rattle.mail_codec.specs.private.Runs.{ends_run}
use Rattle.mail_codec.specs.private.Vectors.{is_letter}
use Rattle.mail_codec.specs.declared.bytescan.runs.RunEnd.{RunEnd}

-- the items of a list, or the fault
abbrev pub items_unless_fault : Result (Unit {0}) ℕ → List ℕ → Result (List ℕ) ℕ
items_unless_fault (Ok done) items = Ok items
items_unless_fault (Err n) items = Err n

-- no letter counts as absent
abbrev pub KeepsLetters : RunEnd → Type 0
KeepsLetters absent = (b : ℕ) → is_letter b ≡ true → ends_run absent b ≡ false

-- nor does padding
abbrev pub KeepsPadding : RunEnd → Type 0
KeepsPadding absent = ends_run absent padding ≡ false
