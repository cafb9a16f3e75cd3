use Rattle.std.proofs.Common.{◌+◌, sym, ap, ◌∙◌, arith, inl, inr}
use Rattle.std.proofs.lemmas.List.{take_rest}
use Rattle.mail_data.specs.Separator.{is_separator}
use Rattle.mail_data.proofs.lemmas.MailboxSearch.{ends-past_start, no_pair-ends, pair-ends, pair-passed, pair-within}
use Rattle.mail_data.proofs.mailbox.mail_length.Goals.{else-empty-gt0-via-then-empty-gt0+else-is_separator, else-empty-gt0-via-else-empty-gt0}
use Rattle.mail_data.proofs.mailbox.mail_length.Goals as goal

pub lines-init : goal.lines-init
lines-init c = record { within = omega arith; past = ends-past_start c.args.bytes.now }

pub lines-preserved : goal.lines-preserved
lines-preserved c =
    let bytes = c.args.bytes.now in
    let at = c.lines.at in
    let p = c.in-Some.place in
    let found = sym c.in-Some.is ∙ c.find_pair.ensures in
    let past = pair-passed bytes at p c.lines.invariant.within c.lines.invariant.past found in
    let low = pair-within bytes at p c.lines.invariant.within c.lines.invariant.past found in
    elim c.else-empty-gt0.branch [
      | else-empty-gt0-via-then-empty-gt0+else-is_separator w ↦ record {
        within = omega arith;
        past = past (inr (ap is_separator (sym (take_rest bytes (at + (p + 1)))) ∙ sym w.is_separator.ensures ∙ w.if-is_separator.false));
      }
      | else-empty-gt0-via-else-empty-gt0 w ↦ record {
        within = omega arith;
        past = past (inl (sym c.last_empty_line-empty.ensures.value ∙ omega (arith, w.if-empty-gt0.false)));
      }
    ]

pub returns-then-is_separator-clause-value : goal.returns-then-is_separator-clause-value
returns-then-is_separator-clause-value c =
    let bytes = c.args.bytes.now in
    let at = c.lines.at in
    let p = c.in-Some.place in
    pair-ends bytes at p c.lines.invariant.within c.lines.invariant.past (sym c.in-Some.is ∙ c.find_pair.ensures) c.last_empty_line-empty.result
    c.last_empty_line-empty.ensures.value (omega (arith, c.if-empty-gt0.true))
    (ap is_separator (sym (take_rest bytes (at + (p + 1)))) ∙ sym c.is_separator.ensures ∙ c.if-is_separator.true)

pub returns-clause-value : goal.returns-clause-value
returns-clause-value c =
    no_pair-ends c.args.bytes.now c.lines.at c.last_empty_line.result c.lines.invariant.within c.lines.invariant.past
    (sym c.in_default.is ∙ c.find_pair.ensures) c.last_empty_line.ensures.value
