-- What the rest of the digits makes of the number so far is the whole.
use Rattle.std.proofs.Common.{◌≡◌, ◌≤◌, drop}
use Rattle.std.specs.List.{fold}
use Rattle.mail_html.specs.References.{number_of, with_digit}
use Rattle.mail_html.proofs.references.number_of.Given as goal

abbrev pub invariant-loop-digit : goal.invariant-loop-digit
invariant-loop-digit l = record {
  few : l.number ≤ 1114112;
  all : fold (with_digit l.base) l.number (drop l.digit-index l.digits) ≡ number_of l.base l.digits;
}
