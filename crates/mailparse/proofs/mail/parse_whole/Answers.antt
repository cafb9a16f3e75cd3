use Rattle.std.proofs.Common.{false, Option, subst}
use Rattle.std.proofs.lemmas.Result.{err_from_is_err_and}
use Rattle.mailparse.specs.declared.mail.Split.{Split}
use Rattle.mailparse.specs.private.Parts.{IsBegun}
use Rattle.mailparse.proofs.lemmas.Parts.{begun_refused}
use Rattle.mailparse.proofs.mail.parse_whole.Goals as goal

-- a mail that has no parts
pub returns-in_default-clause-read : goal.returns-in_default-clause-read
returns-in_default-clause-read g c =
    let manner = g.M.ReadingManner.manner c.args.manner.now in
    let is = subst (λ (o : Option Split). IsBegun manner c.args.left.now c.read_message.new.left c.args.levels false c.args.raw.now 0 o c.in_ok-mail.mail) c.in_default.is c.in_ok-mail.ensures.read in
    is.read

pub returns-in_default-clause-places : goal.returns-in_default-clause-places
returns-in_default-clause-places g c =
    let manner = g.M.ReadingManner.manner c.args.manner.now in
    let is = subst (λ (o : Option Split). IsBegun manner c.args.left.now c.read_message.new.left c.args.levels false c.args.raw.now 0 o c.in_ok-mail.mail) c.in_default.is c.in_ok-mail.ensures.read in
    is.places

pub returns-in_default-clause-no_alloc : goal.returns-in_default-clause-no_alloc
returns-in_default-clause-no_alloc g c = λ refuses some none refused.
    let manner = g.M.ReadingManner.manner c.args.manner.now in
    let is = subst (λ (o : Option Split). IsBegun manner c.args.left.now c.read_message.new.left c.args.levels false c.args.raw.now 0 o c.in_ok-mail.mail) c.in_default.is c.in_ok-mail.ensures.read in
    is.read

-- one that has a refused part
pub returns-in_err-parts-clause-read : goal.returns-in_err-parts-clause-read
returns-in_err-parts-clause-read g c =
    let manner = g.M.ReadingManner.manner c.args.manner.now in
    let is = subst (λ (o : Option Split). IsBegun manner c.args.left.now c.read_message.new.left c.args.levels false c.args.raw.now 0 o c.in_ok-mail.mail) c.in-Some.is c.in_ok-mail.ensures.read in
    let p = err_from_is_err_and c.from_residual-in_err-parts.result c.from_residual-in_err-parts.ensures.1 in
    rw (p.1, p.2) (c.in_err-parts.ensures.refused c.args.left.now c.in_ok-mail.mail is)

pub returns-in_err-parts-clause-no_alloc : goal.returns-in_err-parts-clause-no_alloc
returns-in_err-parts-clause-no_alloc g c = λ refuses some none refused.
    absurd (begun_refused (g.M.ReadingManner.manner c.args.manner.now) c.args.left.now c.read_message.new.left c.args.levels false c.args.raw.now 0 c.in_ok-mail.split c.in_ok-mail.mail
    c.in_ok-mail.ensures.read refuses some refused)

pub returns-clause-read : goal.returns-clause-read
returns-clause-read g c =
    let manner = g.M.ReadingManner.manner c.args.manner.now in
    let is = subst (λ (o : Option Split). IsBegun manner c.args.left.now c.read_message.new.left c.args.levels false c.args.raw.now 0 o c.in_ok-mail.mail) c.in-Some.is c.in_ok-mail.ensures.read in
    let whole = c.in_ok-parts.ensures.read c.args.left.now c.in_ok-mail.mail is c.set_parts.new.mail c.set_parts.ensures in
    whole.read

pub returns-clause-places : goal.returns-clause-places
returns-clause-places g c =
    let manner = g.M.ReadingManner.manner c.args.manner.now in
    let is = subst (λ (o : Option Split). IsBegun manner c.args.left.now c.read_message.new.left c.args.levels false c.args.raw.now 0 o c.in_ok-mail.mail) c.in-Some.is c.in_ok-mail.ensures.read in
    let whole = c.in_ok-parts.ensures.read c.args.left.now c.in_ok-mail.mail is c.set_parts.new.mail c.set_parts.ensures in
    whole.places

pub returns-clause-no_alloc : goal.returns-clause-no_alloc
returns-clause-no_alloc g c = λ refuses some none refused.
    absurd (begun_refused (g.M.ReadingManner.manner c.args.manner.now) c.args.left.now c.read_message.new.left c.args.levels false c.args.raw.now 0 c.in_ok-mail.split c.in_ok-mail.mail
    c.in_ok-mail.ensures.read refuses some refused)
