use Rattle.mail_laws.proofs.lemmas.Boundaries.{boundary_content_type, boundary_pairs}
use Rattle.mail_laws.proofs.laws.parameters.plain_boundary_is_read.Goals as goal

pub returns : goal.returns
returns c = record { pairs = boundary_pairs; named = boundary_content_type }
