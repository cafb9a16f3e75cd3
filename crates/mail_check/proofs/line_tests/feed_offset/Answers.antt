use Rattle.std.proofs.Common.{◌∙◌, ap, length}
use Rattle.std.specs.Prelude.{◌==◌}
use Rattle.std.specs.Option.{unwrap_or}
use Rattle.mail_codec.specs.Ascii.{line_feed}
use Rattle.mail_codec.specs.Places.{begins}
use Rattle.mail_check.proofs.lemmas.Words.{place_unwrapped}
use Rattle.mail_check.proofs.line_tests.feed_offset.Goals as goal

pub returns : goal.returns
returns c =
    c.unwrap_or.ensures
    ∙ ap (λ o. unwrap_or o (length c.args.rest.now)) c.find_byte.ensures
    ∙ place_unwrapped (begins (λ b. b == line_feed)) c.args.rest.now
