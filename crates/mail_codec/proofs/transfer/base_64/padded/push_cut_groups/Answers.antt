use Rattle.std.proofs.Common.{◌≡◌, ◌+◌, ◌-◌, ◌*◌, ◌∙◌, sym, arith}
use Rattle.mail_codec.proofs.lemmas.Padded.{cut_step, cut_end}
use Rattle.mail_codec.proofs.transfer.base_64.padded.push_cut_groups.Goals as goal

pub groups-preserved : goal.groups-preserved
groups-preserved c =
    let len : 3 * c.groups.number + c.group_len-len.result - 3 * c.groups.number ≡ c.group_len-len.result = omega arith in
    cut_step c.args.letters.now c.args.decoded.now c.groups.bytes.items c.extend_from_slice.new.self.items c.groups.number (omega arith)
    (rw (len, c.group_len-len.ensures.len) at c.in_ok-extend_from_slice.ensures.items)
    ∙ c.groups.invariant

pub returns : goal.returns
returns c =
    sym (cut_end c.args.letters.now c.args.decoded.now c.groups.bytes.items c.groups.number (omega (arith, c.requires.whole)))
    ∙ c.groups.invariant
