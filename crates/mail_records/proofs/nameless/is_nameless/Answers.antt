use Rattle.std.proofs.Common.{◌∙◌, ap, not, sym}
use Rattle.std.specs.Option.{is_some}
use Rattle.mail_records.proofs.lemmas.Nameless.{encoding_found, named-encoded, named-high, nameless-by_am}
use Rattle.mail_records.proofs.nameless.is_nameless.Goals as goal

pub returns-then-not-is_ascii : goal.returns-then-not-is_ascii
returns-then-not-is_ascii c = let high = c.if-not-is_ascii.ensures.cases in named-high c.args.raw.now high.0 high.1

pub returns-then-is_some : goal.returns-then-is_some
returns-then-is_some c =
    named-encoded c.args.raw.now (sym (encoding_found c.args.raw.now) ∙ sym (ap is_some c.find_either.ensures) ∙ sym c.is_some.ensures ∙ c.if-is_some.true)

pub returns : goal.returns
returns c =
    let free = sym (encoding_found c.args.raw.now) ∙ sym (ap is_some c.find_either.ensures) ∙ sym c.is_some.ensures ∙ c.if-is_some.false in
    ap not c.has_am.ensures ∙ nameless-by_am c.args.raw.now c.if-not-is_ascii.ensures.cases free
