use Rattle.std.proofs.Common.{◌∙◌, rules, tests}
use Rattle.std.proofs.lemmas.Iterator.{YieldsList-from_slice}
use Rattle.std.proofs.lemmas.Iterator.Search.{position_from_yields_List}
use Rattle.mail_check.specs.Bytes.{is_high}
use Rattle.mail_check.proofs.lemmas.Bytes.{ascii_none, position_place}
use Rattle.mail_check.proofs.scan.high_byte.Goals as goal

pub returns : goal.returns
returns c =
    position_from_yields_List is_high _ _ c.position.result c.position.ensures.ran (YieldsList-from_slice _ c.iter.ensures.rest) (λ x b q k. search (rules, tests))
    ∙ position_place is_high c.args.bytes.now

pub returns-then-is_ascii : goal.returns-then-is_ascii
returns-then-is_ascii c = ascii_none c.args.bytes.now c.if-is_ascii.ensures.cases
