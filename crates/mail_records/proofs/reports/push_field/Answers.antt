use Rattle.std.proofs.Common.{arith}
use Rattle.mail_records.proofs.lemmas.Reports.{next_field}
use Rattle.mail_records.proofs.reports.push_field.Goals as goal

pub returns : goal.returns
returns c = λ entries are.
    next_field c.args.found.now entries (record { block = c.args.block; name = c.args.name.now; value = c.args.value.now })
    c.len-start.result c.len-middle.result c.len-end.result _ _ _ (omega (arith, c.len-start.ensures, c.args.found.now.strings.ok.0))
    (omega (arith, c.len-middle.ensures, c.extend_from_slice.new.self.ok.0)) (omega (arith, c.len-end.ensures, c.extend_from_slice-2.new.self.ok.0))
    c.in_ok-extend_from_slice.ensures.items c.in_ok-extend_from_slice-2.ensures.items c.in_ok-push.ensures.items are
