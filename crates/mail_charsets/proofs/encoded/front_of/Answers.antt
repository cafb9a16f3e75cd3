use Rattle.std.proofs.Common.{ap₂, ◌∙◌}
use Rattle.mail_charsets.specs.Front.{taken_of, whole_or}
use Rattle.mail_charsets.proofs.lemmas.Front.{front_ascii, front_single, front_cut, front_long, front_pair}
use Rattle.mail_charsets.proofs.encoded.front_of.Goals as goal

pub returns-then-byte-lt128-clause-read : goal.returns-then-byte-lt128-clause-read
returns-then-byte-lt128-clause-read g c =
    front_ascii (g.E.Encoded.long c.args.encoding.now) (g.E.Encoded.single c.args.encoding.now) (g.E.Encoded.pairs c.args.encoding.now) c.args.bytes.now c.if-byte-lt128.true

pub returns-in-Some-clause-read : goal.returns-in-Some-clause-read
returns-in-Some-clause-read g c =
    front_single (g.E.Encoded.long c.args.encoding.now) (g.E.Encoded.single c.args.encoding.now) (g.E.Encoded.pairs c.args.encoding.now) c.args.bytes.now c.in-Some.character
    c.if-byte-lt128.false c.in-Some.ensures

pub returns-then-bytes-lt2-clause-read : goal.returns-then-bytes-lt2-clause-read
returns-then-bytes-lt2-clause-read g c =
    c.fault.ensures.read
    ∙ front_cut (g.E.Encoded.long c.args.encoding.now) (g.E.Encoded.single c.args.encoding.now) (g.E.Encoded.pairs c.args.encoding.now) c.args.bytes.now
    c.if-byte-lt128.false c.in_default.ensures c.if-bytes-lt2.true

pub returns-in-Some-long-clause-read : goal.returns-in-Some-long-clause-read
returns-in-Some-long-clause-read g c =
    front_long (g.E.Encoded.long c.args.encoding.now) (g.E.Encoded.single c.args.encoding.now) (g.E.Encoded.pairs c.args.encoding.now) c.args.bytes.now
    (taken_of c.in-Some-long.long) c.if-byte-lt128.false c.in_default.ensures c.if-bytes-lt2.false c.in-Some-long.ensures.read

pub returns-clause-read : goal.returns-clause-read
returns-clause-read g c =
    c.front_or.ensures.read ∙ ap₂ (λ cs n. whole_or cs 2 n) c.pair.ensures c.faulty.ensures.value
    ∙ front_pair (g.E.Encoded.long c.args.encoding.now) (g.E.Encoded.single c.args.encoding.now) (g.E.Encoded.pairs c.args.encoding.now) c.args.bytes.now
    c.if-byte-lt128.false c.in_default.ensures c.if-bytes-lt2.false c.in_default-long.ensures.read
