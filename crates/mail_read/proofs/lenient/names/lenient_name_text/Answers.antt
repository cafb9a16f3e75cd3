use Rattle.std.proofs.Common.{◌≡◌, IfOk, subst, arith}
use Rattle.std.specs.Prelude.{string_bytes}
use Rattle.mail_read.proofs.lemmas.lenient.Names.{one_line}
use Rattle.mail_read.proofs.lenient.names.lenient_name_text.Goals as goal

pub returns-then-is_none : goal.returns-then-is_none
returns-then-is_none g c =
    subst (λ t. IfOk c.lenient_header_text.result (λ text. string_bytes text ≡ t))
    (one_line (g.K.KnownCharsets.known c.args.known.now) c.args.name.now (grind (arith, c.find_either.ensures, c.is_none.ensures, c.if-is_none.true)))
    c.lenient_header_text.ensures
