use Rattle.mail_codec.proofs.lemmas.Padded.{group_bytes-filled}
use Rattle.mail_codec.proofs.transfer.base_64.push_group.Goals as goal

pub returns : goal.returns
returns c =
    rw (group_bytes-filled c.args.p c.args.q c.args.r c.args.s, ← c.group_len.ensures.len, ← c.filled_pair-third.ensures.third, ← c.filled_pair-third.ensures.fourth)
    c.push_bytes.ensures
