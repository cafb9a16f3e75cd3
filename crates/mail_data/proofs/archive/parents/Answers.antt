use Rattle.std.proofs.Common.{Ok, true, map, ap, ◌∙◌}
use Rattle.std.proofs.lemmas.List.{map-append}
use Rattle.std.specs.Prelude.{codes}
use Rattle.std.specs.String.{string_bytes}
use Rattle.mailparse.specs.Mail.{root}
use Rattle.mailparse.specs.Views.{tree_of}
use Rattle.mail_data.specs.Archive.{ids_of}
use Rattle.mail_data.proofs.lemmas.Archive.{parents-are, parents-distinct}
use Rattle.mail_read.proofs.lemmas.Files.{headers-out}
use Rattle.mail_data.proofs.archive.parents.Goals as goal

pub returns-clause-read : goal.returns-clause-read
returns-clause-read c =
    ap Ok (parents-are (root (tree_of c.args.mail.now)) (map string_bytes c.in_ok-ids.ids.items) (map string_bytes c.in_ok-replied.replied.items)
    (map string_bytes c.append.new.self.items) (map string_bytes c.in_ok-without_repeats.field-0.items)
    (c.in_ok-ids.ensures.read ∙ ap (ids_of true (codes "References")) (headers-out c.args.mail.now))
    (c.in_ok-replied.ensures.read ∙ ap (ids_of true (codes "In-Reply-To")) (headers-out c.args.mail.now))
    (ap (map string_bytes) c.in_ok-append.ensures.items ∙ map-append string_bytes c.in_ok-ids.ids.items c.in_ok-replied.replied.items) c.in_ok-without_repeats.ensures)

pub returns-clause-distinct : goal.returns-clause-distinct
returns-clause-distinct c = parents-distinct (map string_bytes c.append.new.self.items) (map string_bytes c.in_ok-without_repeats.field-0.items) c.in_ok-without_repeats.ensures
