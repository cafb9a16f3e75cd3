use Rattle.std.proofs.Common.{sym, ◌∙◌}
use Rattle.mail_read.specs.lenient.ValueViews.{head_view}
use Rattle.mail_read.proofs.lemmas.lenient.Values.{given_word, two_found}
use Rattle.mail_read.proofs.lenient.values.next_word.Goals as goal

pub slice_bounds-inside-count : goal.slice_bounds-inside-count
slice_bounds-inside-count g c = two_found 61 63 c.args.bytes.now c.openings.at c.in-Some.place (sym c.in-Some.is ∙ c.find_pair.ensures)

pub slice_bounds-inside-start : goal.slice_bounds-inside-start
slice_bounds-inside-start g c = two_found 61 63 c.args.bytes.now c.openings.at c.in-Some.place (sym c.in-Some.is ∙ c.find_pair.ensures)

pub returns-in-Some-known_head-clause-read : goal.returns-in-Some-known_head-clause-read
returns-in-Some-known_head-clause-read g c =
    given_word (g.K.KnownCharsets.known c.args.known.now) c.args.bytes.now c.openings.at c.in-Some.place (head_view c.in-Some-known_head.head) c.word_at.result
    c.openings.invariant.text (sym c.in-Some.is ∙ c.find_pair.ensures) c.in-Some-known_head.ensures.value c.word_at.ensures.read c.word_at.ensures.before c.word_at.ensures.bounds
