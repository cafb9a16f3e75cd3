use Rattle.std.proofs.Common.{◌≡◌, None, IfOk, lit<, subst}
use Rattle.std.specs.Prelude.{string_bytes}
use Rattle.std.proofs.lemmas.Str.Pattern.{split_once_first}
use Rattle.mail_read.proofs.lemmas.lenient.Manner.{lenient_name-none}
use Rattle.mail_read.proofs.lenient.manner.made_name.Goals as goal

pub returns-in-None : goal.returns-in-None
returns-in-None c =
    subst (λ name. IfOk c.name_of_one.result (λ made. string_bytes made ≡ name))
    (lenient_name-none c.args.name.now (split_once_first 47 c.args.name.now None c.in-None.ensures.cases (lit< tt))) c.name_of_one.ensures
