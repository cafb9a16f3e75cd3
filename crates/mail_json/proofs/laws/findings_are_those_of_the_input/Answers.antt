use Rattle.std.proofs.Common.{ap}
use Rattle.mail_json.specs.Values.{findings_if}
use Rattle.mail_parts.proofs.lemmas.OwnBytes.{bounded_bytes, data_bytes}
use Rattle.mail_json.proofs.laws.findings_are_those_of_the_input.Goals as goal

pub returns-clause-line : goal.returns-clause-line
returns-clause-line c = λ options bytes mail read. ap (findings_if options) (bounded_bytes options.known options.limit options.most_bytes bytes mail read)

pub returns-clause-without_limits : goal.returns-clause-without_limits
returns-clause-without_limits c = λ options bytes mail read. ap (findings_if options) (data_bytes options.known options.limit bytes mail read)
