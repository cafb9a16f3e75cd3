use Rattle.std.proofs.Common.{option_map, ap, ◌∙◌}
use Rattle.std.specs.Option.{option_or}
use Rattle.mailparse.specs.Sections.{alone}
use Rattle.mailparse.specs.private.Continuations.{joined_text, left_by, names_of_sections}
use Rattle.mailparse.specs.private.Sections.{sections_at, stored_section}
use Rattle.mailparse.specs.Pairs.{text_at}
use Rattle.mailparse.proofs.lemmas.ContinuationsBases.{in_the_end}
use Rattle.mailparse.proofs.lemmas.ContinuationsResolved.{named_sections}
use Rattle.mailparse.proofs.parameters.continuations.left_and_joined.Goals as goal

pub returns : goal.returns
returns g c = λ q.
    let at = stored_section g.C.Decode.text c.args.sections in
    let left = c.joined_bases.new.sections in
    in_the_end at (names_of_sections c.args.sections) q (sections_at g.C.Decode.text left.extended q) (text_at left.texts q) (text_at c.in_ok-joined_texts.joined_texts q) (text_at c.put_extended.new.texts q)
    (named_sections g.C.Decode.text c.args.sections)
    (c.in_ok-joined_texts.ensures.left q ∙ ap (λ bs. left_by at bs q) c.in_ok-bases.ensures)
    (c.in_ok-joined_texts.ensures.texts q ∙ ap (λ bs. joined_text at bs q) c.in_ok-bases.ensures)
    (c.in_ok-put_extended.ensures q ∙ ap (option_or (option_map alone (sections_at g.C.Decode.text left.extended q))) (c.in_ok-put_joined.ensures q))
