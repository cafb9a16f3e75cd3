use Rattle.std.proofs.Common.{◌∙◌, ◌++◌, ap, arith, drop, false, sym, eqb-true, string_bytes}
use Rattle.std.proofs.lemmas.List.{take_rest}
use Rattle.mail_charsets.specs.Iso2022Jp.{jp_text_from}
use Rattle.mail_charsets.specs.declared.iso_2022_jp.Mode.TheVariants.{Ascii}
use Rattle.mail_codec.proofs.lemmas.Front.{some_left}
use Rattle.mail_charsets.proofs.lemmas.Front.{fewer_left}
use Rattle.mail_charsets.proofs.lemmas.Iso2022Jp.{steps_pushed, text_done}
use Rattle.mail_charsets.proofs.iso_2022_jp.decode_iso_2022_jp.Goals as goal

pub returns : goal.returns
returns c = text_done c.args.index.now c.rest.state _ c.rest.rest.now _ (eqb-true _ _ (sym c.rest-test.ensures)) c.rest.invariant

pub rest-preserved : goal.rest-preserved
rest-preserved c =
    let next = c.encode_steps-written.result.state in
    let taken = c.encode_steps-written.result.taken in
    ap (λ xs. string_bytes c.push_utf8.new.text ++ jp_text_from c.args.index.now next xs) (take_rest c.rest.rest.now taken)
    ∙ ap (λ made. made ++ jp_text_from c.args.index.now next (drop taken c.rest.rest.now))
    c.in_ok-push_utf8.ensures
    ∙ steps_pushed c.args.index.now c.rest.state next c.rest.rest.now _ _ _ taken c.encode_steps-written.ensures.written c.rest.invariant

pub rest-init : goal.rest-init
rest-init c = ap (λ made. made ++ jp_text_from c.args.index.now record { mode = Ascii; fresh = false } c.args.bytes.now) c.in_ok-text.ensures.bytes

pub rest-smaller : goal.rest-smaller
rest-smaller c =
    fewer_left c.rest.rest.now c.encode_steps-written.result.taken c.encode_steps-written.ensures.takes_some (some_left _ (sym c.rest-test.ensures))

pub encode_steps-written-requires-clause-capacity : goal.encode_steps-written-requires-clause-capacity
encode_steps-written-requires-clause-capacity c = omega (arith, c.rest-test.array_long)

pub encode_steps-written-requires-clause-some : goal.encode_steps-written-requires-clause-some
encode_steps-written-requires-clause-some c = some_left _ (sym c.rest-test.ensures)

pub push_utf8-requires : goal.push_utf8-requires
push_utf8-requires c = c.encode_steps-written.ensures.utf8
