use Rattle.std.proofs.Common.{Ok, not, ap, ◌∙◌}
use Rattle.mailparse.specs.Mail.{root}
use Rattle.mailparse.specs.Views.{tree_of}
use Rattle.mail_records.proofs.lemmas.Lookup.{not-disposed}
use Rattle.mail_records.proofs.records.shown_disposition.Goals as goal

pub returns-then-is_none : goal.returns-then-is_none
returns-then-is_none g c =
    let known = g.K.KnownCharsets.known c.args.known.now in
    ap Ok (not-disposed known (root (tree_of c.args.part.now)) c.first_header.result c.first_header.ensures (c.is_none.ensures ∙ ap not c.if-is_none.true))
