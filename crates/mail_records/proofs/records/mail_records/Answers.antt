use Rattle.std.proofs.Common.{ℕ, List, Result, inl, inr, ⊎_elim, refl, subst}
use Rattle.mailparse.specs.Views.{placements_of, tree_of}
use Rattle.mail_read.specs.Reading.{mail_reading}
use Rattle.mail_records.specs.Codes.{IsCoded}
use Rattle.mail_records.specs.RecordViews.{lists}
use Rattle.mail_records.specs.declared.records.HeaderRecord.{HeaderRecord}
use Rattle.mail_records.specs.declared.records.Part.{Part}
use Rattle.mail_records.proofs.lemmas.Records.{records_are, records_refused, refused_code}
use Rattle.mail_records.proofs.lemmas.OwnHeaders.{mail_reading-own}
use Rattle.mail_records.proofs.records.mail_records.Goals as goal

pub returns-in-Ok : goal.returns-in-Ok
returns-in-Ok g c =
    let known = g.K.KnownCharsets.known c.args.known.now in
    let mail = c.in-Ok.mail in
    subst (λ (r : Result (List Part × List HeaderRecord) ℕ). IsCoded lists c.tree_records.result r)
    (records_are known c.args.limit c.args.raw.now (tree_of mail) (placements_of mail) _ c.in-Ok.ensures.read c.in-Ok.ensures.places refl) c.tree_records.ensures

pub returns-in-Err : goal.returns-in-Err
returns-in-Err g c =
    let known = g.K.KnownCharsets.known c.args.known.now in
    let raw = c.args.raw.now in
    ⊎_elim (λ memory. inl memory) (λ refused. inr (records_refused known c.args.limit raw _ refused))
    (refused_code c.in-Err.error (mail_reading known c.args.limit raw) _ c.in-Err.ensures.read c.code_of.ensures)

pub tree_records-requires : goal.tree_records-requires
tree_records-requires g c =
    let known = g.K.KnownCharsets.known c.args.known.now in
    mail_reading-own known c.args.limit c.args.raw.now (tree_of c.in-Ok.mail) c.in-Ok.ensures.read
