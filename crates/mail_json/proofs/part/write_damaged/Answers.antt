use Rattle.std.proofs.Common.{sym, ap}
use Rattle.mail_json.specs.Values.{damaged_members}
use Rattle.mail_json_text.specs.declared.json_text.Position.TheVariants.{Later}
use Rattle.mail_json_text.proofs.lemmas.Members.{adds_as, none_added, renamed}
use Rattle.mail_json.proofs.part.write_damaged.Goals as goal

pub returns-then-not-is_damaged : goal.returns-then-not-is_damaged
returns-then-not-is_damaged g c = renamed (none_added _) (ap damaged_members (sym c.if-not-is_damaged.true))

pub returns : goal.returns
returns g c = adds_as Later _ _ c.add_flag.result _ _ (ap damaged_members (sym c.if-not-is_damaged.false)) c.add_flag.ensures
