use Rattle.std.proofs.Common.{◌≤◌, ◌*◌, Ok, ap, sym, ◌∙◌, arith}
use Rattle.std.proofs.lemmas.List.Sums.{prefix_len-le-length}
use Rattle.std.specs.List.{prefix_len}
use Rattle.mail_codec.specs.private.Vectors.{is_letter}
use Rattle.mail_codec.proofs.lemmas.Vectors.{stored_before, stored_at}
use Rattle.mail_codec.proofs.lemmas.VectorsLetters.{groups_read}
use Rattle.mail_codec.proofs.transfer.base_64.groups.put_letters.Goals as goal

pub returns-clause-bounds : goal.returns-clause-bounds
returns-clause-bounds c = omega (arith, c.letters_len.ensures, prefix_len-le-length is_letter c.args.letters, c.fits-letters.0)

pub returns-clause-kept : goal.returns-clause-kept
returns-clause-kept c = stored_before c.args.place c.args.output.now c.packed.result

pub returns-clause-read : goal.returns-clause-read
returns-clause-read c k n h =
    let few : prefix_len is_letter c.args.letters ≤ 16 = omega (arith, c.letters_len.ensures, prefix_len-le-length is_letter c.args.letters, c.fits-letters.0) in
    groups_read c.args.letters c.packed.result k (omega (arith, h, few, c.fits-letters.0)) (omega (arith, h, few, c.packed.ensures.len))
    (λ j l. c.packed.ensures.groups j (omega (arith, h, c.letters_len.ensures))) n
    ∙ ap Ok (sym (stored_at c.args.place (3 * k) c.args.output.now c.packed.result (omega (arith, c.packed.ensures.len, c.requires)) (omega (arith, h, few, c.packed.ensures.len))))
