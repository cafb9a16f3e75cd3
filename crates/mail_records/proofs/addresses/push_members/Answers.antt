use Rattle.std.proofs.Common.{◌+◌, List, [], ◌∷◌, map, drop, ap, arith}
use Rattle.mail_address.specs.AddressViews.{member_view}
use Rattle.mail_address.specs.declared.list.Member.{Member}
use Rattle.mail_records.specs.AddressRecords.{entry_record, entry_text, single_entry}
use Rattle.mail_records.proofs.lemmas.Rows.{appended-more, next-at}
use Rattle.mail_records.proofs.addresses.push_members.Goals as goal

pub loop-member-preserved : goal.loop-member-preserved
loop-member-preserved g c =
    let before = c.loop-member.invariant in
    let entry = single_entry (g.K.KnownCharsets.known c.args.known.now) c.args.group in
    appended-more entry_record entry_text c.args.found.now c.loop-member.found c.push_member.new.found before.0 (entry (member_view _) ∷ []) _ _ _
    (ap (λ (ms : List Member). map entry (map member_view ms)) (next-at c.args.members.now c.loop-member.member-index _ (omega arith)))
    before.1 before.2 c.in_ok-push_member.ensures
