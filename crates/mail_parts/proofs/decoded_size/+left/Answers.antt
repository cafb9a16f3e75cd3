use Rattle.std.proofs.Common.{◌≢◌, ◌-◌, map, sym, ap, ◌∙◌, arith}
use Rattle.std.specs.Borrow.{Bor}
use Rattle.mailparse.specs.declared.mail.message.ParsedMail.{ParsedMail}
use Rattle.mailparse.specs.Views.{tree_of, trees_left}
use Rattle.mail_parts.specs.DecodedSize.{bytes_left, decoded_size}
use Rattle.mail_parts.proofs.lemmas.DecodedSize.{decoded-some, left_all, own_found, own_over, own_refused, step_end, step_mail, step_over}
use Rattle.mail_parts.proofs.decoded_size.«+left».Goals as goal

pub left_after_mails-returns-then-most-eq0-clause-read : goal.left_after_mails-returns-then-most-eq0-clause-read
left_after_mails-returns-then-most-eq0-clause-read g t c =
    let known = g.K.KnownCharsets.known c.args.known.now in
    left_all c.args.left ∙ ap (λ n. bytes_left c.args.left (decoded_size known c.args.limit n (tree_of c.args.mail.now))) (sym c.if-most-eq0.true)

pub left_after_mails-loop-part-preserved-in-Some-2 : goal.left_after_mails-loop-part-preserved-in-Some-2
left_after_mails-loop-part-preserved-in-Some-2 g t c =
    let known = g.K.KnownCharsets.known c.args.known.now in
    step_mail known c.args.limit (decoded_size known c.args.limit (c.args.most - 1)) c.loop-part.rest c.in-Some-2.after _ (tree_of c.in-Some.part.now) (trees_left c.loop-part.part-iterator) (trees_left c.next.new.self)
    (ap (map (λ (m : Bor ParsedMail). tree_of m.now)) c.in-Some.ensures.steps) (sym c.forwards.ensures ∙ c.if-forwards.true) (sym c.in-Some-2.is ∙ c.in_ok-after.ensures.read) c.loop-part.invariant

pub left_after_mails-returns-in-None-2-clause-read : goal.left_after_mails-returns-in-None-2-clause-read
left_after_mails-returns-in-None-2-clause-read g t c =
    let known = g.K.KnownCharsets.known c.args.known.now in
    let most_some : c.args.most ≢ 0 = grind (arith) in
    step_over known c.args.limit (decoded_size known c.args.limit (c.args.most - 1)) c.loop-part.rest _ (tree_of c.in-Some.part.now) (trees_left c.loop-part.part-iterator) (trees_left c.next.new.self)
    (ap (map (λ (m : Bor ParsedMail). tree_of m.now)) c.in-Some.ensures.steps) (sym c.forwards.ensures ∙ c.if-forwards.true) (sym c.in-None-2.is ∙ c.in_ok-after.ensures.read) c.loop-part.invariant
    ∙ ap (bytes_left c.args.left) (sym (decoded-some known c.args.limit c.args.most (tree_of c.args.mail.now) most_some))

pub left_after_mails-returns-clause-read : goal.left_after_mails-returns-clause-read
left_after_mails-returns-clause-read g t c =
    let known = g.K.KnownCharsets.known c.args.known.now in
    let most_some : c.args.most ≢ 0 = grind (arith) in
    step_end known c.args.limit (decoded_size known c.args.limit (c.args.most - 1)) c.loop-part.rest _ (trees_left c.loop-part.part-iterator) (ap (map (λ (m : Bor ParsedMail). tree_of m.now)) c.in-None.ensures.steps.0) c.loop-part.invariant
    ∙ ap (bytes_left c.args.left) (sym (decoded-some known c.args.limit c.args.most (tree_of c.args.mail.now) most_some))

pub left_after_part-returns-then-left-held-clause-read : goal.left_after_part-returns-then-left-held-clause-read
left_after_part-returns-then-left-held-clause-read g t c =
    let known = g.K.KnownCharsets.known c.args.known.now in
    own_over known c.args.limit (decoded_size known c.args.limit c.args.most) c.args.left c.in_ok-held.held.size (tree_of c.args.part.now) c.in_ok-held.ensures.size (omega arith)

pub left_after_part-returns-in-Ok-clause-read : goal.left_after_part-returns-in-Ok-clause-read
left_after_part-returns-in-Ok-clause-read g t c =
    let known = g.K.KnownCharsets.known c.args.known.now in
    own_found known c.args.limit (decoded_size known c.args.limit c.args.most) c.args.left c.in_ok-held.held.size (tree_of c.args.part.now) (tree_of c.in-Ok.inside) c.as_slice.result.now c.left_after_mails.result
    c.in_ok-held.ensures.size (omega arith) (c.as_slice.ensures.value ∙ c.in_ok-held.ensures.bytes) c.in-Ok.ensures.read c.left_after_mails.ensures.read

pub left_after_part-returns-clause-read : goal.left_after_part-returns-clause-read
left_after_part-returns-clause-read g t c =
    let known = g.K.KnownCharsets.known c.args.known.now in
    own_refused known c.args.limit (decoded_size known c.args.limit c.args.most) c.args.left c.in_ok-held.held.size (tree_of c.args.part.now) c.as_slice.result.now c.in-Err.error c.left_if_refused.result
    c.in_ok-held.ensures.size (omega arith) (c.as_slice.ensures.value ∙ c.in_ok-held.ensures.bytes) c.in-Err.ensures.read c.left_if_refused.ensures.passed_on c.left_if_refused.ensures.same
