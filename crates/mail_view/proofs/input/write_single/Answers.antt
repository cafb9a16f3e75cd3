use Rattle.mail_view.proofs.lemmas.Input.{read_written}
use Rattle.mail_view.proofs.input.write_single.Goals as goal

pub returns-in_ok-write_view-in-Ok : goal.returns-in_ok-write_view-in-Ok
returns-in_ok-write_view-in-Ok g c =
    read_written c.args.references.now (g.K.KnownCharsets.known c.args.known.now) c.args.limit _ _ c.args.input.now _ c.in-Ok.ensures.read c.in_ok-write_view-in-Ok.ensures
