-- What the table has for the word, the rest of it has.
use Rattle.std.proofs.Common.{◌≡◌, map, drop}
use Rattle.std.specs.List.{list_any}
use Rattle.std.specs.Str.{bytes_eq}
use Rattle.mail_codec.specs.Names.{row_view}
use Rattle.mail_codec.proofs.calendar.has_name.Given as goal

abbrev pub invariant-loop-name : goal.invariant-loop-name
invariant-loop-name l =
    list_any (λ row. bytes_eq l.word row.0) (map row_view (drop l.name-index l.table)) ≡ list_any (λ row. bytes_eq l.word row.0) (map row_view l.table)
