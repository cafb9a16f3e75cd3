-- What the table has for the word, the rest of it has.
use Rattle.std.proofs.Common.{◌≡◌, map, drop}
use Rattle.mail_codec.specs.Names.{look_up, row_view}
use Rattle.mail_codec.proofs.names.look_up.Given as goal

abbrev pub invariant-loop-name : goal.invariant-loop-name
invariant-loop-name g l = look_up (map row_view (drop l.name-index l.table)) l.word ≡ look_up (map row_view l.table) l.word
