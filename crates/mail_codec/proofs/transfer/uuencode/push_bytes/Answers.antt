use Rattle.std.proofs.Common.{ℕ, List, ◌++◌, take, ap, ◌∙◌, arith}
use Rattle.mail_codec.proofs.lemmas.Uuencode.{group_end, group_step}
use Rattle.mail_codec.proofs.transfer.uuencode.push_bytes.Goals as goal

pub groups-preserved : goal.groups-preserved
groups-preserved c =
    rw c.after-next.ensures
    (group_step c.groups.left c.min-len.result c.groups.rest.now c.groups.bytes.items c.extend_from_slice.new.self.items _
    (omega (arith, c.groups-test.true)) c.min-len.ensures
    (c.in_ok-extend_from_slice.ensures.items ∙ ap (λ (x : List ℕ). c.groups.bytes.items ++ take c.min-len.result x) c.first_bytes-three.ensures)
    c.groups.invariant)

pub returns : goal.returns
returns c = group_end c.groups.left c.groups.rest.now c.groups.bytes.items _ (omega (arith, c.groups-test.false)) c.groups.invariant
