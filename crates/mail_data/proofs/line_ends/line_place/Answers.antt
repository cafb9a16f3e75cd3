use Rattle.std.proofs.Common.{◌≡◌, ℕ, ◌-◌, Bool, List, Option, Some, None, length, take, drop, sym, ap, ◌∙◌}
use Rattle.std.proofs.lemmas.List.{take_rest}
use Rattle.mail_codec.specs.Places.{byte_place}
use Rattle.mail_data.proofs.lemmas.LineEnds.{line_place-found, line_place-all, no_line_next, starts_next, next_within}
use Rattle.mail_data.proofs.line_ends.line_place.Goals as goal

-- the test and the search on the bytes from there onwards
tested : (test : List ℕ → Bool) (bytes : List ℕ) (at : ℕ) (r t : Bool) → r ≡ test (take (length bytes - at) (drop at bytes)) → r ≡ t → test (drop at bytes) ≡ t
tested test bytes at r t e is = ap test (sym (take_rest bytes at)) ∙ sym e ∙ is

feed : (bytes : List ℕ) (at : ℕ) (r s : Option ℕ) → r ≡ byte_place (take (length bytes - at) (drop at bytes)) 10 → r ≡ s → s ≡ byte_place (drop at bytes) 10
feed bytes at r s e is = sym is ∙ e ∙ ap (λ (b : List ℕ). byte_place b 10) (take_rest bytes at)

pub lines-preserved : goal.lines-preserved
lines-preserved g c =
    let bytes = c.args.bytes.now in
    let at = c.lines.at in
    let found = feed bytes at c.find_byte.result (Some c.in-Some.place) c.find_byte.ensures c.in-Some.is in
    record {
      within = next_within bytes at c.in-Some.place c.lines.invariant.within found;
      none = λ test says. no_line_next test bytes at c.in-Some.place (c.lines.invariant.none test says) (tested test bytes at _ _ (says _ _ c.passes.ensures) c.lines-test.true) found;
      starts = starts_next bytes at c.in-Some.place found;
    }

pub returns-clause-value : goal.returns-clause-value
returns-clause-value g c = λ test says.
    line_place-found test c.args.bytes.now c.lines.at c.lines.invariant.within (c.lines.invariant.none test says) c.lines.invariant.starts
    (tested test c.args.bytes.now c.lines.at _ _ (says _ _ c.passes.ensures) c.lines-test.false)

pub returns-in_default-clause-value : goal.returns-in_default-clause-value
returns-in_default-clause-value g c = λ test says.
    line_place-all test c.args.bytes.now c.lines.at c.lines.invariant.within (c.lines.invariant.none test says)
    (tested test c.args.bytes.now c.lines.at _ _ (says _ _ c.passes.ensures) c.lines-test.true)
    (feed c.args.bytes.now c.lines.at c.find_byte.result None c.find_byte.ensures c.in_default.is)
