use Rattle.mail_codec.proofs.lemmas.PlacesLaw.{byte_place-says, either_place-says, text_place-says}
use Rattle.mail_codec.proofs.laws.searches_find_first_places.Goals as goal

pub returns-clause-byte : goal.returns-clause-byte
returns-clause-byte c = byte_place-says

pub returns-clause-either : goal.returns-clause-either
returns-clause-either c = either_place-says

pub returns-clause-text : goal.returns-clause-text
returns-clause-text c = text_place-says
