use Rattle.std.proofs.Common.{◌∙◌, rules, tests}
use Rattle.std.proofs.lemmas.Iterator.{YieldsList-from_slice}
use Rattle.std.proofs.lemmas.Iterator.Search.{position_from_yields_List}
use Rattle.mail_check.specs.Words.{is_gap}
use Rattle.mail_check.proofs.lemmas.Bytes.{position_place}
use Rattle.mail_check.proofs.words.gap_offset.Goals as goal

pub returns : goal.returns
returns c =
    position_from_yields_List is_gap _ _ c.position.result c.position.ensures.ran (YieldsList-from_slice _ c.iter.ensures.rest) (λ x b q k. search (rules, tests))
    ∙ position_place is_gap c.args.bytes.now
