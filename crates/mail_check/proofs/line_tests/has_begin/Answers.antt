use Rattle.std.proofs.Common.{◌∙◌, ◌+◌, sym, ap, arith}
use Rattle.std.specs.Prelude.{is_some}
use Rattle.mail_check.specs.private.Patterns.{is_begin}
use Rattle.mail_check.proofs.lemmas.Bytes.{offset-found, offset-none, one_more, search_found, search_none}
use Rattle.mail_check.proofs.lemmas.LineTests.{no_pair, pair}
use Rattle.mail_check.proofs.line_tests.has_begin.Goals as goal

pub returns-then-is_begin : goal.returns-then-is_begin
returns-then-is_begin c =
    let bytes = c.args.bytes.now in
    let next = search_found pair (is_begin bytes) bytes c.pairs.from c.pairs.invariant.within (no_pair bytes) c.pairs.invariant.none c.in-Some.next (sym c.in-Some.is ∙ c.find_pair.ensures) in
    ap is_some (offset-found (is_begin bytes) bytes (c.pairs.from + c.in-Some.next) next.0 next.1 (sym c.is_begin.ensures ∙ c.if-is_begin.true))

pub pairs-preserved : goal.pairs-preserved
pairs-preserved c =
    let bytes = c.args.bytes.now in
    let next = search_found pair (is_begin bytes) bytes c.pairs.from c.pairs.invariant.within (no_pair bytes) c.pairs.invariant.none c.in-Some.next (sym c.in-Some.is ∙ c.find_pair.ensures) in
    let low = next.0 in
    record {
      within = omega (arith, low);
      none = one_more (is_begin bytes) (c.pairs.from + c.in-Some.next) next.1 (sym c.is_begin.ensures ∙ c.if-is_begin.false);
    }

pub returns : goal.returns
returns c =
    let bytes = c.args.bytes.now in
    ap is_some (offset-none (is_begin bytes) bytes (search_none pair (is_begin bytes) bytes c.pairs.from c.pairs.invariant.within (no_pair bytes) c.pairs.invariant.none (sym c.in_default.is ∙ c.find_pair.ensures)))
