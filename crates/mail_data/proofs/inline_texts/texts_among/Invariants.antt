-- The texts so far, and then those of the parts that are left, are all.
use Rattle.std.proofs.Common.{◌≡◌, ◌++◌, map}
use Rattle.mail_data.specs.InlineTextViews.{inline_view, text_part_view}
use Rattle.mail_data.specs.InlineTexts as words
use Rattle.mail_data.proofs.inline_texts.texts_among.Given as goal

abbrev pub invariant-loop-text_part : goal.invariant-loop-text_part
invariant-loop-text_part g l =
    map inline_view l.texts.items
    ++ words.texts_among (g.K.KnownCharsets.known l.known) l.links l.references (map text_part_view l.text_part-iterator.rest.items)
    ≡ words.texts_among (g.K.KnownCharsets.known l.known) l.links l.references (map text_part_view l.fn.parts.items)
