use Rattle.std.proofs.Common.{length, ap, arith, length-drop}
use Rattle.std.proofs.lemmas.List.{take_rest}
use Rattle.mail_address.specs.Text.{words_text}
use Rattle.mail_address.proofs.lemmas.Addresses.{MadeTo-end, no_bytes, some_bytes}
use Rattle.mail_address.proofs.lemmas.Text.{MadeOf-more, word_or_white-some}
use Rattle.mail_address.proofs.text.words_text.Goals as goal

pub push_word-requires : goal.push_word-requires
push_word-requires c = some_bytes c.words.rest.now c.is_empty.ensures c.words-test.true

pub words-preserved : goal.words-preserved
words-preserved c =
    MadeOf-more word_or_white-some c.words.invariant (some_bytes c.words.rest.now c.is_empty.ensures c.words-test.true) c.in_ok-len.ensures.pushed c.in_ok-len.ensures.len
    c.in_ok-len.ensures.bounds (take_rest c.words.rest.now c.in_ok-len.len)

pub words-smaller : goal.words-smaller
words-smaller c =
    let low = some_bytes c.words.rest.now c.is_empty.ensures c.words-test.true in
    let some = word_or_white-some c.words.rest.now low in
    let is = c.in_ok-len.ensures.len in
    let cut = length-drop c.in_ok-len.len c.words.rest.now in
    let whole = ap length (take_rest c.words.rest.now c.in_ok-len.len) in
    omega (arith, low, some, is, cut, whole)

pub returns : goal.returns
unfolding words_text
returns c = MadeTo-end c.words.invariant (no_bytes c.words.rest.now c.is_empty.ensures c.words-test.false)
