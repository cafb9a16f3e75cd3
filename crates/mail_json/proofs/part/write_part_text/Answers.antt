use Rattle.std.proofs.Common.{option_map, sym, ap, ◌∙◌}
use Rattle.mailparse.specs.ContentType.{ContentType}
use Rattle.mailparse.specs.Mail.{root}
use Rattle.mailparse.specs.Views.{tree_of}
use Rattle.mail_read.specs.lenient.Content.{Content}
use Rattle.mail_read.specs.lenient.ContentViews.{content_view}
use Rattle.mail_json.specs.Options.{options_of}
use Rattle.mail_json.specs.Values.{body_members, shown_members}
use Rattle.mail_json_text.specs.declared.json_text.Position.TheVariants.{Later}
use Rattle.mail_json_text.proofs.lemmas.Members.{adds_as}
use Rattle.mail_json.proofs.lemmas.Part.{content_some, ctype-out}
use Rattle.mail_json.proofs.part.write_part_text.Goals as goal

pub returns-in_default : goal.returns-in_default
returns-in_default g c = λ is.
    let options = options_of (g.K.KnownCharsets.known c.args.known.now) c.args.options in
    let node = root (tree_of c.args.part.now) in
    adds_as Later _ _ c.write_no_text.result _ _
    (ap (body_members options.known options.joins_flowed options.html c.args.is_read node.ctype) (ap (option_map content_view) (sym c.in_default.is) ∙ is)) c.write_no_text.ensures

pub returns : goal.returns
returns g c = λ is.
    let options = options_of (g.K.KnownCharsets.known c.args.known.now) c.args.options in
    let known = options.known in
    let joins = options.joins_flowed in
    let html = options.html in
    let node = root (tree_of c.args.part.now) in
    let content = content_some c.args.options.decodes_bodies node _ (sym (ap (option_map content_view) (sym c.in-Some.is) ∙ is)) in
    adds_as Later _ _ c.write_body_text.result _ _
    (ap (λ (t : ContentType). shown_members known joins html c.args.is_read t (content_view c.in-Some.content)) (ctype-out c.args.part.now)
    ∙ ap (λ (x : Content). shown_members known joins html c.args.is_read node.ctype x) content.0
    ∙ ap (body_members known joins html c.args.is_read node.ctype) (sym content.1))
    c.write_body_text.ensures
