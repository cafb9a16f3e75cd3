use Rattle.std.proofs.Common.{◌∙◌, ◌+◌, sym, arith}
use Rattle.mail_check.specs.Multiparts.{is_from}
use Rattle.mail_check.proofs.lemmas.Bytes.{offset-found, offset-none, one_more}
use Rattle.mail_check.proofs.lemmas.Delimiters.{is_from_here, next_dash, no_dash, no_from, none_up_to}
use Rattle.mail_check.proofs.multipart.delimiter_from.Goals as goal

pub returns-then-is_delimiter : goal.returns-then-is_delimiter
returns-then-is_delimiter c =
    let dash = c.args.dash.now in
    let text = c.args.text.now in
    let place = c.places.from + c.in-Some.next in
    let next = next_dash dash text c.places.from (omega (arith, c.requires.some)) c.places.invariant.within c.in-Some.next (sym c.in-Some.is ∙ c.find_dash.ensures) in
    offset-found (is_from dash text c.args.start) text place next.0
    (none_up_to (is_from dash text c.args.start) c.places.from place c.places.invariant.none (λ k low high. no_from dash text c.args.start k (next.1.1 k low high)))
    (is_from_here dash text c.args.start place _ (omega (arith, c.places.invariant.after)) next.1.0 c.is_delimiter.ensures ∙ c.if-is_delimiter.true)

pub places-preserved : goal.places-preserved
places-preserved c =
    let dash = c.args.dash.now in
    let text = c.args.text.now in
    let place = c.places.from + c.in-Some.next in
    let next = next_dash dash text c.places.from (omega (arith, c.requires.some)) c.places.invariant.within c.in-Some.next (sym c.in-Some.is ∙ c.find_dash.ensures) in
    let low = next.0 in
    record {
      after = omega (arith, c.places.invariant.after);
      within = omega (arith, low);
      none =
          one_more (is_from dash text c.args.start) place
          (none_up_to (is_from dash text c.args.start) c.places.from place c.places.invariant.none (λ k low high. no_from dash text c.args.start k (next.1.1 k low high)))
          (is_from_here dash text c.args.start place _ (omega (arith, c.places.invariant.after)) next.1.0 c.is_delimiter.ensures ∙ c.if-is_delimiter.false);
    }

pub returns : goal.returns
returns c =
    let dash = c.args.dash.now in
    let text = c.args.text.now in
    let none = no_dash dash text c.places.from (omega (arith, c.requires.some)) c.places.invariant.within (sym c.in_default.is ∙ c.find_dash.ensures) in
    offset-none (is_from dash text c.args.start) text
    (none_up_to (is_from dash text c.args.start) c.places.from _ c.places.invariant.none (λ k low high. no_from dash text c.args.start k (none k low high)))
