use Rattle.std.proofs.Common.{◌≡◌, ◌+◌, ◌*◌, ◌-◌, ◌/◌, ◌≤◌, ◌++◌, Ok, Err, vec_len, length, take, drop, sym, ap, ◌∙◌, arith, rules}
use Rattle.std.proofs.lemmas.Bool.{eqb-true, eqb-false}
use Rattle.std.proofs.lemmas.List.{length-drop}
use Rattle.mail_codec.specs.Base64.{prepend, groups_from}
use Rattle.mail_codec.specs.private.Runs.{without_ends}
use Rattle.mail_codec.proofs.lemmas.Base64Groups.{window_read, window_fault, window_length}
use Rattle.mail_codec.proofs.lemmas.Base64Steps.{groups_start, groups_end, groups_short}
use Rattle.mail_codec.proofs.transfer.base_64.decode_windows.Goals as goal

pub windows-init : goal.windows-init
windows-init c = record {
  within = search rules;
  few_left = omega (arith, c.in_ok-letters.ensures.len);
  counted = omega (arith, c.in_ok-letters.ensures.len, c.requires.counted);
  so_far = groups_start c.args.absent c.args.text.now c.args.before.items c.in_ok-letters.letters.items c.args.first c.args.from c.in_ok-letters.ensures.items;
}

pub returns-in-Err : goal.returns-in-Err
returns-in-Err c =
    let whole = c.len-whole.result / 4 in
    let end = c.min-in-windows.result + c.windows.at in
    let all = c.push_runs.new.kept.items in
    let whole_is : whole ≡ length all / 4 = ap (λ n. n / 4) (c.len-whole.ensures ∙ c.push_runs.new.kept.ok.0) in
    let fault : prepend c.windows.bytes.items (groups_from c.windows.groups (take (4 * whole) all)) ≡ Err c.in-Err.group =
    ap (λ xs. prepend c.windows.bytes.items (groups_from c.windows.groups (take (4 * whole) xs))) (sym c.deref.ensures.value)
    ∙ rw c.in-Err.is at c.in_ok-group.ensures in
    sym (window_fault c.args.absent c.args.text.now c.windows.letters.items all c.windows.at end c.windows.groups whole (omega arith) (omega (arith, c.min-in-windows.ensures))
    c.in_ok-push_runs.ensures whole_is c.windows.bytes.items c.in-Err.group fault)
    ∙ c.windows.invariant.so_far

pub windows-preserved : goal.windows-preserved
windows-preserved c =
    let whole = c.len-whole.result / 4 in
    let end = c.min-in-windows.result + c.windows.at in
    let all = c.push_runs.new.kept.items in
    let ordered : c.windows.at ≤ end = omega arith in
    let within : end ≤ length c.args.text.now = omega (arith, c.min-in-windows.ensures) in
    let len : c.len-whole.result ≡ length all = c.len-whole.ensures ∙ c.push_runs.new.kept.ok.0 in
    let whole_is : whole ≡ length all / 4 = ap (λ n. n / 4) len in
    let read : prepend c.windows.bytes.items (groups_from c.windows.groups (take (4 * whole) all)) ≡ Ok c.decode_groups.new.bytes.items =
    ap (λ xs. prepend c.windows.bytes.items (groups_from c.windows.groups (take (4 * whole) xs))) (sym c.deref.ensures.value)
    ∙ rw c.in_default.is at c.in_ok-group.ensures in
    let before : vec_len c.windows.letters ≡ length c.windows.letters.items = c.windows.letters.ok.0 in
    let bound : length all ≤ length c.windows.letters.items + (end - c.windows.at) =
    window_length c.args.absent c.args.text.now c.windows.letters.items all c.windows.at end c.windows.groups whole ordered within c.in_ok-push_runs.ensures whole_is in
    let left : vec_len c.keep_from.new.letters ≡ length all - 4 * whole =
    c.keep_from.new.letters.ok.0 ∙ ap length c.keep_from.ensures ∙ length-drop (4 * whole) all in
    record {
      within = within;
      few_left = omega arith;
      counted = omega (arith, c.windows.invariant.counted);
      so_far =
          ap (λ xs. prepend c.decode_groups.new.bytes.items (groups_from (c.windows.groups + whole) (xs ++ without_ends c.args.absent (drop end c.args.text.now)))) c.keep_from.ensures
          ∙ sym (window_read c.args.absent c.args.text.now c.windows.letters.items all c.windows.at end c.windows.groups whole ordered within
          c.in_ok-push_runs.ensures whole_is c.windows.bytes.items c.decode_groups.new.bytes.items read)
          ∙ c.windows.invariant.so_far;
    }

pub returns-then-is_empty : goal.returns-then-is_empty
returns-then-is_empty c =
    let none : vec_len c.windows.letters ≡ 0 = eqb-true (vec_len c.windows.letters) 0 (sym c.if-is_empty.ensures) in
    sym (groups_end c.args.absent c.args.text.now c.windows.bytes.items c.windows.letters.items c.windows.at c.windows.groups (omega arith) (sym c.windows.letters.ok.0 ∙ none))
    ∙ c.windows.invariant.so_far

pub returns-else-is_empty : goal.returns-else-is_empty
returns-else-is_empty c =
    let some : vec_len c.windows.letters ≡ 0 → ⊥ = eqb-false (vec_len c.windows.letters) 0 (sym c.if-is_empty.ensures) in
    let len : vec_len c.windows.letters ≡ length c.windows.letters.items = c.windows.letters.ok.0 in
    sym (groups_short c.args.absent c.args.text.now c.windows.bytes.items c.windows.letters.items c.windows.at c.windows.groups (omega arith) (omega (arith, some)) (omega (arith, c.windows.invariant.few_left)))
    ∙ c.windows.invariant.so_far
