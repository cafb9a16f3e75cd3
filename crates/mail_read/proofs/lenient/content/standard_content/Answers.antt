use Rattle.std.proofs.Common.{sym, ap, ◌∙◌}
use Rattle.mail_read.specs.lenient.Base64.{base64_front}
use Rattle.mail_read.specs.lenient.Base64Views.{recovered_of}
use Rattle.mail_read.proofs.lemmas.lenient.Content.{content-front, content-whole, fault-refused, other-memory}
use Rattle.mail_read.proofs.lenient.content.standard_content.Goals as goal

pub returns-in-Ok-clause-read : goal.returns-in-Ok-clause-read
returns-in-Ok-clause-read c = λ kind given is. sym (content-whole kind given.raw _ (c.in-Ok.ensures.made kind given is))

pub returns-in_ok-front-in-Base64DecodeError-clause-read : goal.returns-in_ok-front-in-Base64DecodeError-clause-read
returns-in_ok-front-in-Base64DecodeError-clause-read c = λ kind given is.
    sym (content-front kind given.raw (recovered_of c.in_ok-front-in-Base64DecodeError.front) _ (fault-refused _ _ _ c.in-Base64DecodeError.is (c.in-Err.ensures.made kind given is))
    (c.in_ok-front-in-Base64DecodeError.ensures.read ∙ ap base64_front (c.get_raw.ensures.made kind given is)))

pub returns-in_default : goal.returns-in_default
returns-in_default c = record {
  read = λ kind given is. tt;
  only_memory = other-memory c.in-Err.error _ _ c.in-Err.ensures.value c.in_default.not-Base64DecodeError;
}
