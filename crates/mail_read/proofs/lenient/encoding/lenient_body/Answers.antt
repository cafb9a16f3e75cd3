use Rattle.std.proofs.Common.{sym, ap, ◌∙◌}
use Rattle.std.specs.Prelude.{codes}
use Rattle.mailparse.specs.Mail.{root}
use Rattle.mailparse.specs.Map.{first_value}
use Rattle.mailparse.specs.Views.{tree_of}
use Rattle.mail_read.specs.lenient.Encoding.{lenient_kind}
use Rattle.mail_read.proofs.lemmas.Files.{ctype-out, headers-out}
use Rattle.mail_read.proofs.lemmas.lenient.Encoding.{is_body, lenient-same}
use Rattle.mail_read.proofs.lemmas.lenient.Texts.{ok-same}
use Rattle.mail_read.proofs.lenient.encoding.lenient_body.Goals as goal

pub returns-clause-same : goal.returns-clause-same
returns-clause-same c = λ some.
    let m = c.args.part.now in
    let node = root (tree_of m) in
    let value = sym (ok-same _ _ c.in_ok-value.ensures.read) ∙ ap (first_value (codes "Content-Transfer-Encoding")) (headers-out m) in
    is_body _ _ node _ _ c.new.result c.in_ok-raw.ensures.read (ctype-out m)
    (c.in_ok-name.ensures ∙ ap lenient_kind value ∙ lenient-same node some) c.new.ensures
