use Rattle.std.proofs.Common.{◌≡◌, ℕ, List, length, true, false, eqb, sym, ap, ◌∙◌}
use Rattle.std.proofs.lemmas.Bool.{cond-true, cond-false}
use Rattle.mailparse.specs.BodyViews.{content_of}
use Rattle.mailparse.specs.Mail.{root}
use Rattle.mailparse.specs.Views.{tree_of}
use Rattle.mail_read.specs.lenient.Encoding.{lenient_body_kind}
use Rattle.mail_extract.proofs.content.content_of.Goals as goal

pub returns-then-is_empty-clause-read : goal.returns-then-is_empty-clause-read
returns-then-is_empty-clause-read c =
    let node = root (tree_of c.args.part.now) in
    let raw = c.get_raw.ensures.made (lenient_body_kind node) (content_of node) c.in_ok-body.ensures.read in
    let none = ap (λ (body : List ℕ). eqb (length body) 0) (sym raw) ∙ sym c.is_empty.ensures ∙ c.if-is_empty.true in
    c.rest_of.ensures ∙ sym (cond-true (eqb (length node.body) 0) _ _ none)

pub returns-clause-read : goal.returns-clause-read
returns-clause-read c =
    let node = root (tree_of c.args.part.now) in
    let raw = c.get_raw.ensures.made (lenient_body_kind node) (content_of node) c.in_ok-body.ensures.read in
    let some = ap (λ (body : List ℕ). eqb (length body) 0) (sym raw) ∙ sym c.is_empty.ensures ∙ c.if-is_empty.false in
    c.file_content.ensures ∙ c.in_ok-read.ensures.read (lenient_body_kind node) (content_of node) c.in_ok-body.ensures.read
    ∙ sym (cond-false (eqb (length node.body) 0) _ _ some)
