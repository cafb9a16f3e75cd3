-- What was found so far, and then what the rest adds, is what is found in all bytes.
use Rattle.std.proofs.Common.{◌≡◌, ◌++◌, drop, map, []}
use Rattle.std.specs.Prelude.{◌||◌}
use Rattle.std.specs.String.{string_bytes}
use Rattle.mail_check.specs.Parameters.{after_bytes, has_step, names_after}
use Rattle.mail_check.specs.declared.parameters.Step.TheVariants.{Special, Starred}
use Rattle.mail_check.specs.declared.parameters.ValueState.TheVariants.{Start}
use Rattle.mail_check.proofs.parameter_names.read_value.Given as goal

abbrev pub invariant-loop-byte : goal.invariant-loop-byte
invariant-loop-byte l = record {
  state : after_bytes l.state (drop l.byte-index l.bytes) ≡ after_bytes Start l.bytes;
  special : (l.has_quoted_special || has_step Special l.state (drop l.byte-index l.bytes)) ≡ has_step Special Start l.bytes;
  extended : (l.has_extended || has_step Starred l.state (drop l.byte-index l.bytes)) ≡ has_step Starred Start l.bytes;
  names : map string_bytes l.names.items ++ names_after l.state (string_bytes l.name) (drop l.byte-index l.bytes) ≡ names_after Start [] l.bytes;
}
