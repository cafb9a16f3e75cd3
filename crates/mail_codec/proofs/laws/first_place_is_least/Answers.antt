use Rattle.mail_codec.specs.Places.{first_place}
use Rattle.mail_codec.proofs.lemmas.Places.{first_place-is_first, IsFirstPlace-unique}
use Rattle.mail_codec.proofs.laws.first_place_is_least.Goals as goal

pub returns-clause-least : goal.returns-clause-least
returns-clause-least c = first_place-is_first

pub returns-clause-only : goal.returns-clause-only
returns-clause-only c = λ test bytes p h. IsFirstPlace-unique test bytes p (first_place test bytes) h (first_place-is_first test bytes)
