-- What was written, and then what stays of the rest, is what stays of all.
use Rattle.std.specs.Str.{IsUtf8}
use Rattle.std.specs.String.{string_bytes}
use Rattle.mailparse.proofs.lemmas.SegmentsQuoted.{Unescapes}
use Rattle.mailparse.proofs.parameters.segments.without_escapes.Given as goal

abbrev pub invariant-loop-c : goal.invariant-loop-c
invariant-loop-c l = record {
  utf8 : IsUtf8 l.c-iterator.rest.now;
  unescapes : Unescapes l.text (string_bytes l.plain) l.is_escaped l.c-iterator.rest.now;
}
