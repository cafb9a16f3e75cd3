use Rattle.std.proofs.Common.{sym, eqb-true}
use Rattle.std.proofs.lemmas.List.{take_rest}
use Rattle.mail_codec.specs.Utf7.{utf7_front}
use Rattle.mail_codec.proofs.lemmas.Front.{some_left, text_done}
use Rattle.mail_codec.proofs.lemmas.Utf7.{front_pushed}
use Rattle.mail_codec.proofs.charset.utf_7.decode_utf_7.Goals as goal

pub rest-preserved : goal.rest-preserved
rest-preserved c = rw (c.in_ok-taken.ensures.pushed, take_rest)
    (front_pushed c.rest.rest.now _ _ c.in_ok-taken.taken (some_left _ (sym c.rest-test.ensures)) c.in_ok-taken.ensures.takes_some c.in_ok-taken.ensures.taken c.rest.invariant)

pub returns : goal.returns
returns c = text_done utf7_front _ c.rest.rest.now _ (eqb-true _ _ (sym c.rest-test.ensures)) c.rest.invariant
