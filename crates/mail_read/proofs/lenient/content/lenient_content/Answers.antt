use Rattle.std.proofs.Common.{subst, ◌∙◌}
use Rattle.mail_read.specs.lenient.EncodingViews.{IsLenientBody}
use Rattle.mail_read.specs.declared.lenient.encoding.LenientBody.{LenientBody}
use Rattle.mail_read.proofs.lemmas.lenient.Content.{content-uuencoded}
use Rattle.mail_read.proofs.lenient.content.lenient_content.Goals as goal

pub returns-in_ok-uuencode_content-in-Uuencode-clause-read : goal.returns-in_ok-uuencode_content-in-Uuencode-clause-read
returns-in_ok-uuencode_content-in-Uuencode-clause-read c = λ kind given is.
    let same = subst (λ (body : LenientBody). IsLenientBody kind given body) c.in-Uuencode.is is in
    c.in_ok-uuencode_content-in-Uuencode.ensures ∙ content-uuencoded kind given.raw c.in-Uuencode.raw.now same.0 same.1
