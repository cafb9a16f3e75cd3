use Rattle.std.proofs.Common.{rules}
use Rattle.std.specs.String.{string_bytes}
use Rattle.mail_data.specs.FlowedViews.{deletes}
use Rattle.mail_data.proofs.lemmas.Flowed.{unflowed-start}
use Rattle.mail_data.proofs.flowed.unflowed.Goals as goal

pub lines-init : goal.lines-init
lines-init c = record {
  utf8 = search rules;
  all = unflowed-start (deletes c.args.del_sp) c.args.text.now (string_bytes c.new-joined.result) c.new-joined.ensures.bytes;
}
