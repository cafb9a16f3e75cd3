use Rattle.std.proofs.Common.{arith}
use Rattle.std.proofs.lemmas.List.Sums.{prefix_len-le-length}
use Rattle.mail_codec.specs.private.Vectors.{is_letter}
use Rattle.mail_codec.proofs.lemmas.Base64Parts.{tail_groups, tail_letters}
use Rattle.mail_codec.proofs.transfer.base_64.groups.put_tail.Goals as goal

pub returns-clause-letters : goal.returns-clause-letters
returns-clause-letters c =
    let letters = tail_letters c.args.tail.now c.copy_from_slice.new.self c.put_letters.result c.copy_from_slice.ensures.after c.put_letters.ensures.len in
    omega (arith, letters)

pub returns-clause-bounds : goal.returns-clause-bounds
returns-clause-bounds c =
    let letters = tail_letters c.args.tail.now c.copy_from_slice.new.self c.put_letters.result c.copy_from_slice.ensures.after c.put_letters.ensures.len in
    omega (arith, letters, prefix_len-le-length is_letter c.args.tail.now)

pub returns-clause-read : goal.returns-clause-read
returns-clause-read c k n h =
    let letters = tail_letters c.args.tail.now c.copy_from_slice.new.self c.put_letters.result c.copy_from_slice.ensures.after c.put_letters.ensures.len in
    tail_groups c.args.tail.now c.copy_from_slice.new.self _ k n c.copy_from_slice.ensures.after (omega (arith, h, letters, prefix_len-le-length is_letter c.args.tail.now)) (c.put_letters.ensures.read k n h)
