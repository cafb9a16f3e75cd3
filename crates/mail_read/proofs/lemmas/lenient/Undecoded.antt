-- Lemmas on the texts in which parameters are read.
use Rattle.std.proofs.Common.{◌≡◌, ℕ, List, ap, sym}
use Rattle.std.specs.Str.{IsAscii, IsNotAscii}
use Rattle.std.specs.Prelude.{false}
use Rattle.std.proofs.lemmas.Bool.{cond-false, cond-true}
use Rattle.mailparse.specs.Value.{lenient_value_in}
use Rattle.mail_read.specs.Files.{no_charsets}
use Rattle.mail_read.specs.lenient.Names.{on_one_line}
use Rattle.mail_read.specs.lenient.Undecoded.{undecoded}
use Rattle.mail_read.proofs.lemmas.lenient.Quoting.{all-ascii, not-ascii}

pub undecoded_ascii : (value : List ℕ) → IsAscii value → undecoded value ≡ lenient_value_in no_charsets value
undecoded_ascii value ascii = ap (lenient_value_in no_charsets) (cond-true _ _ _ (all-ascii value ascii))

pub undecoded_other : (value : List ℕ) → IsNotAscii value → undecoded value ≡ lenient_value_in no_charsets (on_one_line false value)
undecoded_other value some = ap (lenient_value_in no_charsets) (cond-false _ _ _ (not-ascii value some))
