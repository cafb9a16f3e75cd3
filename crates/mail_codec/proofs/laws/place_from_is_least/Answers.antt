use Rattle.mail_codec.proofs.lemmas.PlacesLaw.{place_from-is_first, IsFirstPlaceFrom-only}
use Rattle.mail_codec.proofs.laws.place_from_is_least.Goals as goal

pub returns-clause-least : goal.returns-clause-least
returns-clause-least c = place_from-is_first

pub returns-clause-only : goal.returns-clause-only
returns-clause-only c = IsFirstPlaceFrom-only
