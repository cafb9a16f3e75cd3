use Rattle.mailparse.specs.Views.{in_digest}
use Rattle.mailparse.proofs.lemmas.Parts.{begun_refused}
use Rattle.mailparse.proofs.mail.push_message.Goals as goal

-- a message that is refused before its first header is not appended
pub returns-in_err-push-clause-no_alloc : goal.returns-in_err-push-clause-no_alloc
returns-in_err-push-clause-no_alloc g c = λ refuses some none refused.
    absurd (begun_refused (g.M.ReadingManner.manner c.args.manner.now) c.args.left.now c.read_message.new.left c.args.levels (in_digest c.args.source.now.default)
    c.args.source.now.raw.now c.args.source.now.offset c.in_ok-mail.split c.in_ok-mail.mail c.in_ok-mail.ensures.read refuses some refused)
