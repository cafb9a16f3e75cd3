use Rattle.mail_address.specs.Safe.{IsSafe}
use Rattle.mail_address.proofs.lemmas.Safe.{single-safe}
use Rattle.mail_address.proofs.lemmas.GrammarLists.{addresses-have, named-have}
use Rattle.mail_address.proofs.laws.addresses_contain_no_control.Goals as goal

pub returns : goal.returns
returns c = record { value = addresses-have IsSafe single-safe; headers = named-have IsSafe single-safe }
