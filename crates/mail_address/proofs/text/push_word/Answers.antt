use Rattle.std.proofs.Common.{◌≡◌, ◌≢◌, ◌<◌, ◌++◌, ℕ, List, length, sym, ap, subst, ◌∙◌, arith}
use Rattle.std.proofs.lemmas.List.{append-nil}
use Rattle.std.specs.Prelude.{IfOk, OnOk}
use Rattle.mail_address.specs.declared.tokens.Span.TheVariants.{White}
use Rattle.mail_address.specs.Tokens.{run}
use Rattle.mail_address.proofs.lemmas.Text.{white-inner, white-last, white-len, word-is, word-len}
use Rattle.mail_address.proofs.text.push_word.Goals as goal

pub returns-then-white-eq0-clause-pushed : goal.returns-then-white-eq0-clause-pushed
returns-then-white-eq0-clause-pushed c =
    let none = sym c.run-white.ensures.value ∙ c.if-white-eq0.true in
    subst (λ (w : List ℕ). OnOk c.push_front_word.result (c.push_front_word.new.text.items ≡ c.args.text.now.items ++ w)) (sym (word-is c.args.bytes.now c.requires none))
    c.push_front_word.ensures.pushed

pub returns-then-white-eq0-clause-len : goal.returns-then-white-eq0-clause-len
returns-then-white-eq0-clause-len c =
    let none = sym c.run-white.ensures.value ∙ c.if-white-eq0.true in
    subst (λ (n : ℕ). IfOk c.push_front_word.result (λ len. len ≡ n)) (sym (word-len c.args.bytes.now c.requires none)) c.push_front_word.ensures.len

pub returns-in_ok-push-clause-pushed : goal.returns-in_ok-push-clause-pushed
returns-in_ok-push-clause-pushed c =
    let is = c.run-white.ensures.value in
    let some : run White c.args.bytes.now ≢ 0 = λ none. c.if-white-eq0.false (is ∙ none) in
    let low = c.if-white-bytes.true in
    let within : run White c.args.bytes.now < length c.args.bytes.now = omega (arith, is, low) in
    c.in_ok-push.ensures.items ∙ ap (λ (w : List ℕ). c.args.text.now.items ++ w) (sym (white-inner c.args.bytes.now some within))

pub returns-in_ok-push-clause-len : goal.returns-in_ok-push-clause-len
returns-in_ok-push-clause-len c =
    let is = c.run-white.ensures.value in
    is ∙ sym (white-len c.args.bytes.now (λ none. c.if-white-eq0.false (is ∙ none)))

pub returns-else-white-bytes-clause-pushed : goal.returns-else-white-bytes-clause-pushed
returns-else-white-bytes-clause-pushed c =
    let is = c.run-white.ensures.value in
    let fits = c.run-white.ensures.bounds in
    let past = c.if-white-bytes.false in
    let all : run White c.args.bytes.now ≡ length c.args.bytes.now = omega (arith, is, fits, past) in
    sym (append-nil c.args.text.now.items) ∙ ap (λ (w : List ℕ). c.args.text.now.items ++ w) (sym (white-last c.args.bytes.now all))

pub returns-else-white-bytes-clause-len : goal.returns-else-white-bytes-clause-len
returns-else-white-bytes-clause-len c =
    let is = c.run-white.ensures.value in
    is ∙ sym (white-len c.args.bytes.now (λ none. c.if-white-eq0.false (is ∙ none)))
