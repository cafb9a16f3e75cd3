use Rattle.std.proofs.Common.{refl}
use Rattle.mail_read.proofs.lemmas.lenient.Folding.{blank, empty_line, other_line, return_line, unblank, whole_line}
use Rattle.mail_read.proofs.lenient.folding.unfolded_line.Goals as goal

pub returns-then-not-begins_in_blank : goal.returns-then-not-begins_in_blank
returns-then-not-begins_in_blank c =
    whole_line c.args.bytes.now c.args.feed c.requires.within
    (unblank c.args.bytes.now c.args.feed c.begins_in_blank.result c.begins_in_blank.ensures c.if-not-begins_in_blank.true)

pub returns-in_default : goal.returns-in_default
returns-in_default c =
    empty_line c.args.bytes.now _ c.args.feed c.requires.within
    (blank c.args.bytes.now c.args.feed c.begins_in_blank.result c.begins_in_blank.ensures c.if-not-begins_in_blank.false)
    refl c.in_default.ensures.cases

pub returns-then-last-eq13 : goal.returns-then-last-eq13
returns-then-last-eq13 c =
    return_line c.args.bytes.now _ c.in-Some.front.now c.in-Some.last.now c.args.feed c.requires.within
    (blank c.args.bytes.now c.args.feed c.begins_in_blank.result c.begins_in_blank.ensures c.if-not-begins_in_blank.false)
    refl c.in-Some.ensures.cases.0 c.if-last-eq13.true

pub returns-else-last-eq13 : goal.returns-else-last-eq13
returns-else-last-eq13 c =
    other_line c.args.bytes.now _ c.in-Some.front.now c.in-Some.last.now c.args.feed c.requires.within
    (blank c.args.bytes.now c.args.feed c.begins_in_blank.result c.begins_in_blank.ensures c.if-not-begins_in_blank.false)
    refl c.in-Some.ensures.cases.0 c.if-last-eq13.false
