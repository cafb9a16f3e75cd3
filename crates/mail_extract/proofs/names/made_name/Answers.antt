use Rattle.mail_extract.proofs.names.made_name.Goals as goal

pub returns-in_ok-taken-in-ForWindows-clause-safe : goal.returns-in_ok-taken-in-ForWindows-clause-safe
returns-in_ok-taken-in-ForWindows-clause-safe c = c.in_ok-taken-in-ForWindows.ensures.allowed.safe
