use Rattle.std.proofs.Common.{◌≡◌, ◌*◌, Ok, drop, take, ap, sym, ◌∙◌, arith}
use Rattle.std.proofs.lemmas.Bool.{eqb-true}
use Rattle.std.proofs.lemmas.List.{length-drop, length-take-le, take-take}
use Rattle.std.specs.List.{prefix_len}
use Rattle.mail_codec.specs.Base64.{groups_from}
use Rattle.mail_codec.specs.private.Vectors.{is_letter}
use Rattle.mail_codec.proofs.lemmas.Base64Parts.{no_groups, prefix_take}
use Rattle.mail_codec.proofs.lemmas.Vectors.{stored_before, stored_at}
use Rattle.mail_codec.proofs.lemmas.VectorsLetters.{groups_read}
use Rattle.mail_codec.proofs.transfer.base_64.groups.put_wide.Goals as goal

pub returns-then-text-at-lt-WIDE-clause-read : goal.returns-then-text-at-lt-WIDE-clause-read
returns-then-text-at-lt-WIDE-clause-read c k n h = no_groups (drop c.args.at c.args.text.now) (drop c.args.place c.args.output.now) k n h

pub returns-then-not-are_letters-clause-read : goal.returns-then-not-are_letters-clause-read
returns-then-not-are_letters-clause-read c k n h = no_groups (drop c.args.at c.args.text.now) (drop c.args.place c.args.output.now) k n h

pub returns-clause-letters : goal.returns-clause-letters
returns-clause-letters c =
    let rest = drop c.args.at c.args.text.now in
    let all : prefix_len is_letter (take 64 rest) ≡ 64 = eqb-true _ 64 (sym c.are_letters.ensures ∙ c.if-not-are_letters.false) in
    omega (arith, all, prefix_take is_letter 64 rest)

pub returns-clause-kept : goal.returns-clause-kept
returns-clause-kept c = stored_before c.args.place c.args.output.now c.wide_packed.result

pub returns-clause-read : goal.returns-clause-read
returns-clause-read c k n h =
    let rest = drop c.args.at c.args.text.now in
    let all : prefix_len is_letter (take 64 rest) ≡ 64 = eqb-true _ 64 (sym c.are_letters.ensures ∙ c.if-not-are_letters.false) in
    let long = length-take-le 64 rest (omega (arith, length-drop c.args.at c.args.text.now)) in
    ap (groups_from n) (sym (take-take (4 * k) 64 rest h))
    ∙ groups_read (take 64 rest) c.wide_packed.result k (omega (arith, h, long)) (omega (arith, h, c.wide_packed.ensures.len))
    (λ j l. c.wide_packed.ensures.groups j (omega (arith, h, all))) n
    ∙ ap Ok (sym (stored_at c.args.place (3 * k) c.args.output.now c.wide_packed.result (omega (arith, c.wide_packed.ensures.len, c.requires)) (omega (arith, h, c.wide_packed.ensures.len))))
