use Rattle.std.proofs.Common.{sym}
use Rattle.std.specs.Prelude.{◌==◌}
use Rattle.mail_codec.specs.Places.{begins}
use Rattle.mail_codec.proofs.lemmas.PlacesSearches.{place_none}
use Rattle.mail_html.proofs.layout.kept_length.Goals as goal

pub returns-in-None-clause-value : goal.returns-in-None-clause-value
returns-in-None-clause-value c = sym (place_none (begins (λ b. b == 13)) c.args.bytes.now c.in-None.ensures)
