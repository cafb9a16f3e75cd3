use Rattle.std.proofs.Common.{◌∙◌, arith}
use Rattle.mail_codec.specs.private.Utf16.{unit_of}
use Rattle.mail_codec.proofs.lemmas.CharsetUtf16.{chars_odd, chars_character, chars_second, chars_end, chars_pair, chars_no_pair}
use Rattle.mail_codec.proofs.charset.utf16.first_char.Goals as goal

pub returns-then-count-lt2-clause-chars : goal.returns-then-count-lt2-clause-chars
returns-then-count-lt2-clause-chars c = chars_odd (unit_of c.args.order) c.args.bytes.now c.requires c.if-count-lt2.true

pub returns-in-Some-clause-chars : goal.returns-in-Some-clause-chars
returns-in-Some-clause-chars c =
    let unit = c.from.ensures ∙ c.unit-unit.ensures in
    rw (c.in-Some.ensures.value.1, unit) (chars_character (unit_of c.args.order) c.args.bytes.now c.if-count-lt2.false (rw unit at c.in-Some.ensures.cases))

pub returns-then-unit-ge56320-clause-chars : goal.returns-then-unit-ge56320-clause-chars
returns-then-unit-ge56320-clause-chars c =
    let unit = c.from.ensures ∙ c.unit-unit.ensures in
    chars_second (unit_of c.args.order) c.args.bytes.now c.if-count-lt2.false (rw unit at c.in_default.ensures.cases) (omega arith) (omega arith)

pub returns-then-count-lt4-clause-chars : goal.returns-then-count-lt4-clause-chars
returns-then-count-lt4-clause-chars c =
    let unit = c.from.ensures ∙ c.unit-unit.ensures in
    chars_end (unit_of c.args.order) c.args.bytes.now c.if-count-lt2.false c.if-count-lt4.true (rw unit at c.in_default.ensures.cases) (omega arith)

pub returns-in-Some-pair-clause-chars : goal.returns-in-Some-pair-clause-chars
returns-in-Some-pair-clause-chars c =
    let unit = c.from.ensures ∙ c.unit-unit.ensures in
    chars_pair (unit_of c.args.order) c.args.bytes.now c.in-Some-pair.character c.if-count-lt4.false (rw unit at c.in_default.ensures.cases) (omega arith)
    (rw (c.unit-unit.ensures, c.unit.ensures) at c.in-Some-pair.ensures)

pub returns-in-None-clause-chars : goal.returns-in-None-clause-chars
returns-in-None-clause-chars c =
    let unit = c.from.ensures ∙ c.unit-unit.ensures in
    chars_no_pair (unit_of c.args.order) c.args.bytes.now c.if-count-lt4.false (rw unit at c.in_default.ensures.cases) (omega arith)
    (rw (c.unit-unit.ensures, c.unit.ensures) at c.in-None.ensures)
