use Rattle.std.proofs.Common.{ℕ, List, ◌++◌, ap, ◌∙◌, arith}
use Rattle.mail_records.proofs.lemmas.AddressRecords.{next_record}
use Rattle.mail_records.proofs.addresses.push_entry.Goals as goal

pub returns : goal.returns
returns c = λ entries are.
    next_record c.args.found.now entries (record { kind = c.args.kind; group = c.args.group; name = c.args.name.now; address = c.args.address.now })
    c.len-start.result c.len-middle.result c.len-end.result _ _ _ (omega (arith, c.len-start.ensures, c.args.found.now.strings.ok.0))
    (omega (arith, c.len-middle.ensures, c.extend_from_slice.new.self.ok.0)) (omega (arith, c.len-end.ensures, c.extend_from_slice-2.new.self.ok.0))
    (c.in_ok-extend_from_slice.ensures.items ∙ ap (λ (s : List ℕ). s ++ c.args.name.now) c.in_ok-reserve.ensures.items) c.in_ok-extend_from_slice-2.ensures.items c.in_ok-push.ensures.items are
