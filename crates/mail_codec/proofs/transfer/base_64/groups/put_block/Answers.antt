use Rattle.mail_codec.proofs.lemmas.Base64Parts.{prefix_take}
use Rattle.mail_codec.specs.private.Vectors.{is_letter}
use Rattle.std.specs.List.{prefix_len}
use Rattle.std.proofs.Common.{◌≤◌, ◌*◌, drop, take, ap, sym, ◌∙◌, arith, ℕ, List, length, subst}
use Rattle.std.proofs.lemmas.List.{length-drop, take-take, take_all, take_rest}
use Rattle.mail_codec.specs.Base64.{groups_from}
use Rattle.mail_codec.proofs.transfer.base_64.groups.put_block.Goals as goal

pub put_tail-requires-clause-short : goal.put_tail-requires-clause-short
put_tail-requires-clause-short c =
    omega (arith, ap length (take_rest c.args.text.now c.args.at), length-drop c.args.at c.args.text.now, c.if-text-at-lt-LANES.true)

pub returns-then-text-at-lt-LANES-clause-bounds : goal.returns-then-text-at-lt-LANES-clause-bounds
returns-then-text-at-lt-LANES-clause-bounds c =
    omega (arith, ap length (take_rest c.args.text.now c.args.at), length-drop c.args.at c.args.text.now, c.put_tail.ensures.bounds)

pub returns-then-text-at-lt-LANES-clause-letters : goal.returns-then-text-at-lt-LANES-clause-letters
returns-then-text-at-lt-LANES-clause-letters c = subst (λ (xs : List ℕ). c.put_tail.result ≤ prefix_len is_letter xs) (take_rest c.args.text.now c.args.at) c.put_tail.ensures.letters

pub returns-clause-letters : goal.returns-clause-letters
returns-clause-letters c = omega (arith, c.put_letters.ensures.len, prefix_take is_letter 16 (drop c.args.at c.args.text.now))

pub returns-then-text-at-lt-LANES-clause-read : goal.returns-then-text-at-lt-LANES-clause-read
returns-then-text-at-lt-LANES-clause-read c k n h =
    ap (λ xs. groups_from n (take (4 * k) xs)) (sym (take_all _ (drop c.args.at c.args.text.now) (omega (arith, length-drop c.args.at c.args.text.now))))
    ∙ c.put_tail.ensures.read k n h

pub returns-clause-read : goal.returns-clause-read
returns-clause-read c k n h =
    let few : 4 * k ≤ 16 = omega (arith, h, c.put_letters.ensures.bounds) in
    ap (groups_from n) (sym (take-take (4 * k) 16 (drop c.args.at c.args.text.now) few)) ∙ c.put_letters.ensures.read k n h
