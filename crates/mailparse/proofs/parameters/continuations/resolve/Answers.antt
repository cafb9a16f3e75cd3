use Rattle.std.proofs.Common.{sym, ◌∙◌}
use Rattle.std.proofs.lemmas.Result.{IfOk-weaker}
use Rattle.mailparse.specs.Pairs.{text_at}
use Rattle.mailparse.specs.private.Continuations.{names_of_sections}
use Rattle.mailparse.specs.private.Sections.{stored_section}
use Rattle.mailparse.proofs.lemmas.ContinuationsResolved.{sections_named, resolved}
use Rattle.std.proofs.lemmas.Bool.{not-true}
use Rattle.mailparse.proofs.lemmas.StarFree.{nothing_starred, parameters_are_pairs}
use Rattle.mailparse.proofs.parameters.continuations.resolve.Goals as goal

pub returns-then-is_star_free : goal.returns-then-is_star_free
returns-then-is_star_free g c ps holds q =
    let free = not-true _ (sym c.is_star_free.ensures ∙ c.if-is_star_free.true) in
    holds q ∙ sym (parameters_are_pairs (g.K.KnownCharsets.known c.args.known.now) ps (λ name some. sym (holds name) ∙ nothing_starred c.args.pairs name free some) q)

pub returns : goal.returns
returns g c =
    let sections = c.in_ok-sections.sections in
    IfOk-weaker c.left_and_joined.result _ _
    (λ texts is ps holds q.
    resolved (g.K.KnownCharsets.known c.args.known.now) (text_at c.args.pairs) (stored_section g.K.Decoder.Decode.text sections) (names_of_sections sections) (text_at texts q) q c.in_ok-sections.ensures
    (sections_named g.K.Decoder.Decode.text sections) (is q) ps holds)
    c.left_and_joined.ensures
