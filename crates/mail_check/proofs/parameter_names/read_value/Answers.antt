use Rattle.std.proofs.Common.{◌∙◌, ◌++◌, Bool, List, ℕ, ap, drop, map, sym, arith}
use Rattle.std.specs.Prelude.{◌||◌}
use Rattle.std.proofs.lemmas.List.{drop_all}
use Rattle.std.specs.String.{string_bytes}
use Rattle.mail_check.specs.declared.parameters.Step.TheVariants.{Special, Starred}
use Rattle.mail_check.proofs.lemmas.Parameters.{read_whole, unread}
use Rattle.mail_check.proofs.lemmas.Unmoved.{names_left, state_left, steps_left}
use Rattle.mail_check.proofs.parameter_names.read_value.Goals as goal

pub loop-byte-preserved-then-is_unmoved : goal.loop-byte-preserved-then-is_unmoved
loop-byte-preserved-then-is_unmoved c =
    let bytes = c.args.bytes.now in
    let i = c.loop-byte.byte-index in
    let state = c.loop-byte.state in
    let low = c.loop-byte-test.true in
    let is = sym c.is_unmoved.ensures ∙ c.if-is_unmoved.true in
    record {
      state = state_left state bytes i low is ∙ c.loop-byte.invariant.state;
      special = ap (λ (t : Bool). c.loop-byte.has_quoted_special || t) (steps_left Special state bytes i low is) ∙ c.loop-byte.invariant.special;
      extended = ap (λ (t : Bool). c.loop-byte.has_extended || t) (steps_left Starred state bytes i low is) ∙ c.loop-byte.invariant.extended;
      names = ap (λ (more : List (List ℕ)). map string_bytes c.loop-byte.names.items ++ more)
          (names_left state (string_bytes c.loop-byte.name) bytes i low is) ∙ c.loop-byte.invariant.names;
    }

pub returns-then-not-may_end : goal.returns-then-not-may_end
returns-then-not-may_end c =
    unread c.loop-byte.state (drop c.loop-byte.byte-index c.args.bytes.now) c.args.bytes.now
    (drop_all c.loop-byte.byte-index c.args.bytes.now (omega (arith, c.loop-byte.auto.byte-index-end)))
    c.loop-byte.invariant.state (sym c.may_end.ensures ∙ c.if-not-may_end.true)

pub returns : goal.returns
returns c =
    read_whole c.loop-byte.state (string_bytes c.loop-byte.name) (drop c.loop-byte.byte-index c.args.bytes.now) c.args.bytes.now
    (map string_bytes c.loop-byte.names.items) c.loop-byte.has_quoted_special c.loop-byte.has_extended
    (drop_all c.loop-byte.byte-index c.args.bytes.now (omega (arith, c.loop-byte.auto.byte-index-end)))
    c.loop-byte.invariant.state c.loop-byte.invariant.special c.loop-byte.invariant.extended c.loop-byte.invariant.names
    (sym c.may_end.ensures ∙ c.if-not-may_end.false)
