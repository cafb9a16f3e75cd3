use Rattle.std.specs.Char.{is_ascii_alphabetic}
use Rattle.std.proofs.Common.{rules, tests}
use Rattle.std.proofs.lemmas.Iterator.{YieldsList-from_slice}
use Rattle.std.proofs.lemmas.Iterator.Search.{all_from_yields_List}
use Rattle.mail_data.proofs.lemmas.Separator.{is_zone-letters}
use Rattle.mail_data.proofs.mailbox.separator.is_zone.Goals as goal

pub returns-else-is_offset : goal.returns-else-is_offset
returns-else-is_offset c =
    is_zone-letters c.args.text.now _ c.is_offset.result c.is_offset.ensures c.if-is_offset.false
    (all_from_yields_List is_ascii_alphabetic _ _ _ c.all.ensures.ran (YieldsList-from_slice c.args.text.now cc) (λ x b q k. search (rules, tests)))
