use Rattle.std.proofs.Common.{◌≡◌, IfOk, subst, arith}
use Rattle.std.specs.Prelude.{string_bytes}
use Rattle.mail_read.proofs.lemmas.lenient.Values.{no_words}
use Rattle.mail_read.proofs.lenient.values.unfolded_text.Goals as goal

pub returns-then-is_none : goal.returns-then-is_none
returns-then-is_none g c =
    subst (λ t. IfOk c.text_of_octets.result (λ text. string_bytes text ≡ t))
    (no_words (g.K.KnownCharsets.known c.args.known.now) c.args.bytes.now (grind (arith, c.find_pair.ensures, c.is_none.ensures, c.if-is_none.true))) c.text_of_octets.ensures
