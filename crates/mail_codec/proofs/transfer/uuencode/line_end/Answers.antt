use Rattle.std.proofs.Common.{arith, drop, length-drop}
use Rattle.std.proofs.lemmas.List.{take_rest}
use Rattle.mail_codec.specs.Places.{begins}
use Rattle.mail_codec.specs.Uuencode.{is_lf}
use Rattle.mail_codec.proofs.lemmas.PlacesSearches.{place_none}
use Rattle.mail_codec.proofs.transfer.uuencode.line_end.Goals as goal

pub returns-in-None-clause-value : goal.returns-in-None-clause-value
returns-in-None-clause-value c =
    let none = place_none (begins is_lf) (drop c.args.at c.args.text.now) (rw take_rest at c.in-None.ensures) in
    omega (arith, none, length-drop c.args.at c.args.text.now, c.requires.within)
