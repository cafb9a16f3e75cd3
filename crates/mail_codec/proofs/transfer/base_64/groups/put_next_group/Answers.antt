use Rattle.std.proofs.Common.{[], ◌∷◌, get_or, sym, arith}
use Rattle.mail_codec.proofs.lemmas.Base64Parts.{gathered_read, four_items}
use Rattle.mail_codec.proofs.transfer.base_64.groups.put_next_group.Goals as goal

pub returns-clause-read : goal.returns-clause-read
returns-clause-read c n =
    let g = c.in_ok-group.group in
    let filled = get_or g 0 0 ∷ get_or g 1 0 ∷ get_or g 2 0 ∷ get_or g 3 0 ∷ 0 ∷ 0 ∷ 0 ∷ 0 ∷ 0 ∷ 0 ∷ 0 ∷ 0 ∷ 0 ∷ 0 ∷ 0 ∷ 0 ∷ [] in
    gathered_read _ filled _ _ _ c.in_ok-group.ensures.four c.in_ok-group.ensures.len (sym (four_items _ c.in_ok-group.ensures.len))
    (λ m. c.put_letters.ensures.read 1 m (omega (arith, c.if-put_letters-lt4.false))) n
