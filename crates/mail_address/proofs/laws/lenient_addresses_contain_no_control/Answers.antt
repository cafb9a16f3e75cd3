use Rattle.mail_address.specs.Safe.{IsSafe}
use Rattle.mail_address.proofs.lemmas.Lenient.{all_safe, lenient-have, lenient_named-have}
use Rattle.mail_address.proofs.laws.lenient_addresses_contain_no_control.Goals as goal

pub returns : goal.returns
returns c = record { value = lenient-have IsSafe all_safe; headers = lenient_named-have IsSafe all_safe }
