use Rattle.std.proofs.Common.{◌≡◌, length, map, sym, ap, ◌∙◌, arith}
use Rattle.mail_address.specs.AddressViews.{member_view}
use Rattle.mail_records.proofs.lemmas.Ranges.{ok_same}
use Rattle.mail_records.proofs.lemmas.AddressRecords.{group_appended, number-of, on_ok}
use Rattle.mail_records.proofs.addresses.push_group.Goals as goal

pub returns : goal.returns
returns g c =
    let known = g.K.KnownCharsets.known c.args.known.now in
    let found = c.args.found.now in
    on_ok c.push_members.result (λ after entries are.
    let count = number-of entries found are in
    let index : c.len-index.result ≡ length entries = omega (arith, c.len-index.ensures, found.records.ok.0, count) in
    let name = c.as_bytes.ensures.value ∙ sym (ok_same _ _ c.in_ok-name.ensures) in
    group_appended known c.push_members.new.found entries c.as_bytes.result.now c.args.group.now.display_name.now c.len-index.result _ _ name index
    (ap (map member_view) c.as_slice.ensures.value) (after _ (c.in_ok-push_entry.ensures entries are))) c.push_members.ensures
