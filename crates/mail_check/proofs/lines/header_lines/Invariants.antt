-- The headers so far, and then those that are left, are all headers.
use Rattle.std.proofs.Common.{◌≡◌, ◌≤◌, ◌++◌, drop, length, map}
use Rattle.mailparse.specs.Mail.{root}
use Rattle.mailparse.specs.Views.{tree_of}
use Rattle.mail_check.specs.LineViews.{line_view}
use Rattle.mail_check.specs.Lines.{header_lines, lines_from}
use Rattle.mail_check.proofs.lines.header_lines.Given as goal

abbrev pub invariant-loop-header : goal.invariant-loop-header
invariant-loop-header l = record {
  within : l.at ≤ length l.block;
  all : map line_view l.lines.items ++ lines_from (drop l._header-index l._header-items) l.block l.at ≡ header_lines (root (tree_of l.part));
}
