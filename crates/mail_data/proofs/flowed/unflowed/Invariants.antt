-- The text so far, and then that of the remaining lines, is the whole text.
use Rattle.std.proofs.Common.{◌≡◌, ◌++◌, length, map}
use Rattle.std.specs.Str.{IsUtf8}
use Rattle.std.specs.String.{string_bytes}
use Rattle.mail_data.specs.Flowed.{line_of, pieces, unflowed}
use Rattle.mail_data.specs.FlowedViews.{deletes, line_view}
use Rattle.mail_data.proofs.lemmas.Flowed.{text_after}
use Rattle.mail_data.proofs.flowed.unflowed.Given as goal

abbrev pub invariant-lines : goal.invariant-lines
invariant-lines l = record {
  utf8 : IsUtf8 l.rest;
  all : string_bytes l.joined ++ text_after (deletes l.del_sp) (line_view l.before) (map line_of (pieces l.rest)) ≡ unflowed (deletes l.del_sp) l.text;
}

abbrev pub decreases-lines : goal.decreases-lines
decreases-lines l = length l.rest
