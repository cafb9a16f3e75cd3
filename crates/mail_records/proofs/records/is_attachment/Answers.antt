use Rattle.std.proofs.Common.{option_map, sym, ◌∙◌}
use Rattle.mailparse.specs.Views.{kind, tree_of}
use Rattle.mailparse.specs.Mail.{root}
use Rattle.mail_records.proofs.lemmas.Nameless.{nameless-attachment, no_disposition}
use Rattle.mail_records.proofs.records.is_attachment.Goals as goal

pub returns-then-is_nameless_part : goal.returns-then-is_nameless_part
returns-then-is_nameless_part g c =
    nameless-attachment (g.K.KnownCharsets.known c.args.known.now) (tree_of c.args.part.now) (option_map kind c.args.disposition.now)
    (sym c.is_attachment_disposition.ensures ∙ c.if-is_attachment_disposition.false) (sym c.is_nameless_part.ensures ∙ c.if-is_nameless_part.true)

pub is_nameless_part-requires : goal.is_nameless_part-requires
is_nameless_part-requires g c =
    no_disposition (g.K.KnownCharsets.known c.args.known.now) (root (tree_of c.args.part.now)) c.args.disposition.now c.requires
