use Rattle.std.proofs.Common.{◌∙◌, ap, length}
use Rattle.std.specs.Prelude.{◌==◌}
use Rattle.std.specs.Option.{unwrap_or}
use Rattle.mail_codec.specs.Ascii.{question_mark}
use Rattle.mail_codec.specs.Places.{begins, first_place}
use Rattle.mail_check.proofs.lemmas.Words.{place_unwrapped}
use Rattle.mail_check.proofs.words.label_length.Goals as goal

pub returns-clause-value : goal.returns-clause-value
returns-clause-value c =
    c.unwrap_or.ensures
    ∙ ap (λ o. unwrap_or o (length c.from_offset-rest.result.now)) c.find_byte.ensures
    ∙ place_unwrapped (begins (λ b. b == question_mark)) c.from_offset-rest.result.now
    ∙ ap (first_place (begins (λ b. b == question_mark))) c.from_offset-rest.ensures
