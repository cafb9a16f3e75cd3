use Rattle.std.proofs.Common.{sym, eqb-true}
use Rattle.mail_codec.specs.private.Utf16.{unit_of}
use Rattle.mail_codec.proofs.lemmas.CharsetUtf16.{chars_done}
use Rattle.mail_codec.proofs.charset.utf16.decode.Goals as goal

pub returns : goal.returns
returns c = chars_done (unit_of c.args.order) _ c.rest.rest.now _ (eqb-true _ _ (sym c.rest-test.ensures)) c.rest.invariant
