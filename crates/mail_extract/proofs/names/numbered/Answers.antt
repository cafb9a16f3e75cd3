use Rattle.std.proofs.Common.{◌∙◌}
use Rattle.mail_extract.proofs.lemmas.Names.{numbered_cut}
use Rattle.mail_extract.proofs.names.numbered.Goals as goal

pub returns-in_ok-text-in-Some-clause-read : goal.returns-in_ok-text-in-Some-clause-read
returns-in_ok-text-in-Some-clause-read c =
    let s = c.in-Some.ensures.cases in
    numbered_cut c.args.naming c.args.name.now c.in-Some.stem.now c.in-Some.rest.now c.as_str.result.now _ c.args.number s.0 s.1 s.2.0 s.2.1 s.3 s.4
    (c.as_str.ensures.value ∙ c.in_ok-ending-in-Some.ensures.ok) c.in_ok-text-in-Some.ensures.read
