-- The text kept so far, and then that of the rest, is that of the whole text.
use Rattle.std.proofs.Common.{◌≡◌, ◌+◌, ◌≤◌, length}
use Rattle.std.specs.Str.{IsUtf8}
use Rattle.std.specs.String.{string_bytes}
use Rattle.mail_read.specs.lenient.Comments.{without_comments}
use Rattle.mail_read.proofs.lemmas.lenient.Comments.{kept_with}
use Rattle.mail_read.proofs.lenient.comments.outside_comments.Given as goal

abbrev pub invariant-loop-c : goal.invariant-loop-c
invariant-loop-c l = record {
  utf8 : IsUtf8 l.c-iterator.rest.now;
  small : l.depth + length l.c-iterator.rest.now ≤ length l.text;
  kept : kept_with (string_bytes l.kept) l.in_string l.is_quoted l.depth l.c-iterator.rest.now ≡ without_comments l.text;
}
