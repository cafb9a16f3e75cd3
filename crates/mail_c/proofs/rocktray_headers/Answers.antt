use Rattle.mail_records.proofs.lemmas.Records.{ends_items}
use Rattle.mail_c.proofs.rocktray_headers.Goals as goal

pub returns : goal.returns
returns c = ends_items (λ found. found.items) _ _ c.headers.result _ c.headers.ensures c.write_headers.ensures
