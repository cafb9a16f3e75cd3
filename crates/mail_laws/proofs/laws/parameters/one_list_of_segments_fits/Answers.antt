use Rattle.mailparse.proofs.lemmas.Segments.{segments_fit, segments_only}
use Rattle.mail_laws.proofs.laws.parameters.one_list_of_segments_fits.Goals as goal

pub returns : goal.returns
returns c = record { fits = segments_fit; only = segments_only }
