use Rattle.std.proofs.Common.{◌≡◌, ◌++◌}
use Rattle.std.specs.Iterator.Adapters.{enumerate_count, enumerate_source}
use Rattle.std.specs.String.{string_bytes}
use Rattle.mailparse.specs.Views.{tree_of, trees_left}
use Rattle.mail_show.specs.Text.{mail_text, parts_text}
use Rattle.mail_show.proofs.text.text_of.Given as goal

-- the text written so far and the texts of the parts that are left are the text of the message
abbrev pub invariant-loop-number : goal.invariant-loop-number
invariant-loop-number l =
    string_bytes l.text ++ parts_text (enumerate_count l.number-iterator) (trees_left (enumerate_source l.number-iterator)) ≡ mail_text (tree_of l.parsed)
