use Rattle.std.proofs.Common.{◌≡◌, true, false, eqb, length, [], ◌++◌, ap, sym, subst, ◌∙◌}
use Rattle.std.proofs.lemmas.List.{append-nil}
use Rattle.std.proofs.lemmas.Iterator.Consumers.{YieldsList-end}
use Rattle.std.proofs.lemmas.Iterator.Splits.{YieldsList-from_lines}
use Rattle.mailparse.specs.Value.{shown_tokens, unfolded_value, value_tokens, tokens_of_lines, line_tokens}
use Rattle.mailparse.specs.private.Unfolded.{Shows}
use Rattle.mailparse.proofs.lemmas.ValueLines.{first_line, next_line, more_is_some, trimmed, trimmed_all}
use Rattle.mailparse.proofs.header.value.unfolded_value.Goals as goal
use Rattle.mailparse.proofs.header.value.unfolded_value.Goals.{then-is_first, else-is_first+in_ok-push}

pub loop-line-preserved : goal.loop-line-preserved
loop-line-preserved g c =
    let start = c.in_ok-unfolded.unfolded in
    let items = c.loop-line.yielded in
    let line = c.in-Some.line in
    let now = c.trim_start.result.now in
    let new = c.push_line.new.unfolded in
    let value = c.loop-line.unfolded in
    elim c.if-is_first.branch [
      | then-is_first w ↦
          let none : eqb (length items) 0 ≡ true = cc in
          record {
            first = w.is_first-is ∙ more_is_some items line;
            unfolded = first_line (g.K.KnownCharsets.known c.args.known.now) items line now start value new none c.loop-line.invariant.unfolded c.trim_start.ensures.trim
                (subst (λ v. Shows v (line_tokens (g.K.KnownCharsets.known c.args.known.now) now) new) w.unfolded-is c.in_ok-push_line.ensures);
          }
      | else-is_first+in_ok-push w ↦
          let some : eqb (length items) 0 ≡ false = cc in
          let is : c.if-is_first.is_first ≡ false = cc in
          record {
            first = is ∙ more_is_some items line;
            unfolded = next_line (g.K.KnownCharsets.known c.args.known.now) items line now start value w.push.new.self new some c.loop-line.invariant.unfolded c.trim_start.ensures.trim
                w.in_ok-push.ensures
                (subst (λ v. Shows v (line_tokens (g.K.KnownCharsets.known c.args.known.now) now) new) w.unfolded-is c.in_ok-push_line.ensures);
          }
    ]

pub returns : goal.returns
unfolding unfolded_value value_tokens
returns g c =
    let tokens = tokens_of_lines (g.K.KnownCharsets.known c.args.known.now) (trimmed c.loop-line.yielded) in
    let all = YieldsList-end (YieldsList-from_lines c.args.text.now cc) c.loop-line.yielded _ c.loop-line.yielded_by _ _ c.in-None.is c.next.ensures.steps in
    c.into_text.ensures ∙ sym (c.loop-line.invariant.unfolded [])
    ∙ c.in_ok-unfolded.ensures (tokens ++ [])
    ∙ ap shown_tokens (append-nil tokens ∙ ap (tokens_of_lines (g.K.KnownCharsets.known c.args.known.now)) (trimmed_all c.loop-line.yielded _ all.0))
