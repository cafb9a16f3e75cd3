use Rattle.std.proofs.Common.{sym, subst}
use Rattle.std.specs.Str.{IsUtf8}
use Rattle.mailparse.proofs.lemmas.ValuePlain.{plain_utf8}
use Rattle.mailparse.proofs.header.MailHeader.get_value_ref_in.Goals as goal

pub returns-in_err-text-in-Err-clause-no_alloc : goal.returns-in_err-text-in-Err-clause-no_alloc
returns-in_err-text-in-Err-clause-no_alloc g c = λ plain.
    absurd (c.in-Err.ensures.cases.0 (subst IsUtf8 (sym c.get_value_raw.ensures) (plain_utf8 c.args.self.now.value plain)))

pub returns-in_err-value_of-in-Err-clause-no_alloc : goal.returns-in_err-value_of-in-Err-clause-no_alloc
returns-in_err-value_of-in-Err-clause-no_alloc g c = λ plain.
    absurd (c.in-Err.ensures.cases.0 (subst IsUtf8 (sym c.get_value_raw.ensures) (plain_utf8 c.args.self.now.value plain)))

pub returns-in_ok-value_of-in-Err-clause-borrowed : goal.returns-in_ok-value_of-in-Err-clause-borrowed
returns-in_ok-value_of-in-Err-clause-borrowed g c = λ plain.
    c.in-Err.ensures.cases.0 (subst IsUtf8 (sym c.get_value_raw.ensures) (plain_utf8 c.args.self.now.value plain))
