use Rattle.std.proofs.Common.{◌≤◌, [], ◌∷◌, ◌++◌, take, get_or, ap, subst, ◌∙◌, arith}
use Rattle.mail_codec.proofs.lemmas.Base64Parts.{four_items}
use Rattle.mail_codec.proofs.lemmas.Padded.{one_group_read}
use Rattle.mail_codec.proofs.transfer.base_64.padded.push_one_group.Goals as goal

pub returns-clause-read : goal.returns-clause-read
returns-clause-read c _ absent n keeps pads =
    let text = c.args.text.now in
    let four : 4 ≤ c.put_letters.result = omega (arith, c.if-put_letters-lt4.false) in
    one_group_read absent keeps pads n (get_or text 0 0) (get_or text 1 0) (get_or text 2 0) (get_or text 3 0) _ _ text (0 ∷ 0 ∷ 0 ∷ 0 ∷ 0 ∷ 0 ∷ 0 ∷ 0 ∷ 0 ∷ 0 ∷ 0 ∷ 0 ∷ []) c.put_letters.new.output _ _
    (four_items text (omega (arith, c.if-text-ne4.false))) c.filled_pair-third.ensures.third c.filled_pair-third.ensures.fourth
    (subst (λ len. 4 ≤ len) c.put_letters.ensures.len four) (c.put_letters.ensures.read 1 n four)
    (c.in_ok-extend_from_slice.ensures.items ∙ ap (λ len. c.args.bytes.now.items ++ take len c.put_letters.new.output) c.group_len.ensures.len)
