use Rattle.std.proofs.Common.{◌≡◌, ℕ, Option, option_map, sym, ap, ◌∙◌}
use Rattle.mailparse.specs.Disposition.{Kind}
use Rattle.mailparse.specs.Mail.{root}
use Rattle.mailparse.specs.Views.{kind, tree_of}
use Rattle.mail_read.specs.lenient.Dispositions.{lenient_disposition}
use Rattle.mail_read.specs.lenient.FileNames.{lenient_file_name}
use Rattle.mail_records.proofs.lemmas.Ranges.{ok_same}
use Rattle.mail_records.specs.Records.{disposition_number, flags}
use Rattle.mail_records.proofs.records.disposition_of.Goals as goal

pub returns : goal.returns
returns g c =
    let known = g.K.KnownCharsets.known c.args.known.now in
    let t = tree_of c.args.part.now in
    let shown = lenient_disposition known (root t) in
    let same : shown ≡ option_map kind c.in_ok-disposition.disposition = ok_same _ _ c.in_ok-disposition.ensures in
    let number = c.disposition_number.ensures ∙ ap disposition_number (sym same) in
    let sum = c.in_ok-flags.ensures ∙ ap (λ (d : Option Kind). flags t d (lenient_file_name known (root t))) (sym same) in
    ap (λ (n : ℕ). (n, c.in_ok-flags.flags)) number ∙ ap (λ (n : ℕ). (disposition_number shown, n)) sum

pub flags-requires : goal.flags-requires
flags-requires g c = sym (ok_same _ _ c.in_ok-disposition.ensures)
