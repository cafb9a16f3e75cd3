use Rattle.mail_json_text.proofs.lemmas.Characters.{json_text_characters, json_text_shown}
use Rattle.mail_json_text.proofs.laws.strings_are_characters.Goals as goal

pub returns-clause-written : goal.returns-clause-written
returns-clause-written c = json_text_characters

pub returns-clause-shown : goal.returns-clause-shown
returns-clause-shown c = json_text_shown
