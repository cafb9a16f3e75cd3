use Rattle.std.proofs.Common.{Ok, option_map, sym, ap, ◌∙◌}
use Rattle.mailparse.specs.Map.{text_found}
use Rattle.mailparse.specs.Views.{kind, tree_of}
use Rattle.mail_read.proofs.lemmas.Files.{is_attachment-named, is_attachment-parts, is_attachment-shown}
use Rattle.mail_read.proofs.lemmas.lenient.Texts.{some-mapped}
use Rattle.mail_read.proofs.files.is_attachment.Goals as goal

pub returns-then-not-is_leaf : goal.returns-then-not-is_leaf
returns-then-not-is_leaf g c = ap Ok (is_attachment-parts (g.K.KnownCharsets.known c.args.known.now) (tree_of c.args.part.now) (sym c.if-not-is_leaf.true ∙ c.is_leaf.ensures))

pub returns-then-is_attachment_disposition : goal.returns-then-is_attachment_disposition
returns-then-is_attachment_disposition g c =
    let known = g.K.KnownCharsets.known c.args.known.now in
    let d = option_map kind c.in_ok-disposition.disposition in
    ap Ok (is_attachment-shown known (tree_of c.args.part.now) d (sym c.if-not-is_leaf.false ∙ c.is_leaf.ensures) c.in_ok-disposition.ensures
    (sym c.if-is_attachment_disposition.true ∙ c.is_attachment_disposition.ensures))

pub returns : goal.returns
returns g c =
    let known = g.K.KnownCharsets.known c.args.known.now in
    let d = option_map kind c.in_ok-disposition.disposition in
    ap Ok (is_attachment-named known (tree_of c.args.part.now) d (text_found c.in_ok-name.name) (sym c.if-not-is_leaf.false ∙ c.is_leaf.ensures) c.in_ok-disposition.ensures
    (sym c.if-is_attachment_disposition.false ∙ c.is_attachment_disposition.ensures) c.in_ok-name.ensures
    ∙ sym (some-mapped _ c.in_ok-name.name) ∙ sym c.is_some.ensures)
