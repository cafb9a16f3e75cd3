use Rattle.std.proofs.Common.{sym, ◌∙◌, arith}
use Rattle.mailparse.proofs.lemmas.Delimiters.{no_delimiter_left, no_delimiter_to_line, delimiter_from-some, delimiter_from-none, is_delimiter-fits}
use Rattle.mailparse.proofs.mail.delimiters.find_delimiter_line.Goals as goal

pub returns-in_err-at-clause-least : goal.returns-in_err-at-clause-least
returns-in_err-at-clause-least c =
    c.from_residual.ensures
    ∙ delimiter_from-none c.args.dash_boundary.now c.args.raw.now c.args.start
    (no_delimiter_left c.args.dash_boundary.now c.args.raw.now c.args.start c.lines.at c.requires.some c.lines.invariant.low c.lines.invariant.within c.lines.invariant.none
    (sym c.is_delimiter.ensures ∙ c.lines-test.true) c.in_err-at.ensures.least)

pub lines-preserved : goal.lines-preserved
lines-preserved c =
    let on = c.in_ok-at.ensures.bounds.0 in
    let within = c.in_ok-at.ensures.bounds.1 in
    record {
      low = omega arith;
      within = omega arith;
      none = no_delimiter_to_line c.args.dash_boundary.now c.args.raw.now c.args.start c.lines.at c.in_ok-at.at c.requires.some c.lines.invariant.low c.lines.invariant.none
          (sym c.is_delimiter.ensures ∙ c.lines-test.true) c.in_ok-at.ensures.least;
    }

pub returns : goal.returns
returns c =
    let here = sym c.is_delimiter.ensures ∙ c.lines-test.false in
    let low = c.lines.invariant.low in
    let fits = is_delimiter-fits c.args.dash_boundary.now c.args.raw.now c.args.start c.lines.at c.lines.invariant.within here in
    record {
      least = delimiter_from-some c.args.dash_boundary.now c.args.raw.now c.args.start c.lines.at low (omega (arith, fits, c.requires.some)) here c.lines.invariant.none;
      bounds = (low, fits);
    }
