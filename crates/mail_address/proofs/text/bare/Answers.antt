use Rattle.std.proofs.Common.{length, ap, arith, length-drop}
use Rattle.std.proofs.lemmas.List.{take_rest}
use Rattle.mail_address.specs.Text.{bare}
use Rattle.mail_address.proofs.lemmas.Addresses.{MadeTo-end, no_bytes, some_bytes}
use Rattle.mail_address.proofs.lemmas.Text.{front_len-some, MadeOf-more}
use Rattle.mail_address.proofs.text.bare.Goals as goal

pub tokens-preserved : goal.tokens-preserved
tokens-preserved c =
    MadeOf-more front_len-some c.tokens.invariant (some_bytes c.tokens.rest.now c.is_empty.ensures c.tokens-test.true) c.in_ok-len.ensures.pushed c.in_ok-len.ensures.len
    c.in_ok-len.ensures.bounds (take_rest c.tokens.rest.now c.in_ok-len.len)

pub tokens-smaller : goal.tokens-smaller
tokens-smaller c =
    let low = some_bytes c.tokens.rest.now c.is_empty.ensures c.tokens-test.true in
    let some = front_len-some c.tokens.rest.now low in
    let is = c.in_ok-len.ensures.len in
    let cut = length-drop c.in_ok-len.len c.tokens.rest.now in
    let whole = ap length (take_rest c.tokens.rest.now c.in_ok-len.len) in
    omega (arith, low, some, is, cut, whole)

pub returns : goal.returns
unfolding bare
returns c = MadeTo-end c.tokens.invariant (no_bytes c.tokens.rest.now c.is_empty.ensures c.tokens-test.false)
