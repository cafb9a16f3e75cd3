use Rattle.std.proofs.Common.{sym, ap}
use Rattle.mail_json.specs.Values.{zone_members}
use Rattle.mail_json_text.specs.declared.json_text.Position.TheVariants.{Later}
use Rattle.mail_json_text.proofs.lemmas.Members.{adds_as, none_added, renamed}
use Rattle.mail_json.proofs.mail.write_zone.Goals as goal

pub returns-then-is_known : goal.returns-then-is_known
returns-then-is_known g c = renamed (none_added _) (ap zone_members (sym c.if-is_known.true))

pub returns : goal.returns
returns g c = adds_as Later _ _ c.add_flag.result _ _ (ap zone_members (sym c.if-is_known.false)) c.add_flag.ensures
