use Rattle.std.proofs.Common.{not, ◌∙◌, arith}
use Rattle.mail_codec.specs.private.Vectors.{is_letter}
use Rattle.mail_codec.proofs.lemmas.VectorsLetters.{letters_first, others_mask}
use Rattle.mail_codec.proofs.vectors.letters.letters_len.Goals as goal

pub returns : goal.returns
returns c =
    c.first_lane.ensures (λ b. not (is_letter b)) c.args.bytes c.fits-bytes.0 (others_mask 16 (omega arith) c.args.bytes c.faults.result c.fits-bytes c.faults.ensures)
    ∙ letters_first c.args.bytes
