use Rattle.std.proofs.Common.{◌∙◌, sym, arith}
use Rattle.mail_codec.proofs.lemmas.Base64Steps.{group_step, group_fault, group_end}
use Rattle.mail_codec.proofs.transfer.base_64.decode_each_group.Goals as goal

pub returns-then-not-branch : goal.returns-then-not-branch
returns-then-not-branch c =
    sym c.groups.invariant
    ∙ group_fault c.args.letters.now c.groups.bytes.items c.args.first c.groups.number (omega arith)
    (rw c.if-not-branch.true at c.in_ok-push_group.ensures)

pub groups-preserved : goal.groups-preserved
groups-preserved c =
    sym (group_step c.args.letters.now c.groups.bytes.items c.args.first c.groups.number (omega arith) c.push_group.new.bytes.items
    (rw c.if-not-branch.false at c.in_ok-push_group.ensures))
    ∙ c.groups.invariant

pub returns : goal.returns
returns c =
    sym c.groups.invariant
    ∙ group_end c.args.letters.now c.groups.bytes.items _ c.groups.number (omega arith)
