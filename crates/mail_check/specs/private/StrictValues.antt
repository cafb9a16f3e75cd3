-- Types and dispositions as one pass reads them.
use Rattle.std.specs.Prelude.{ℕ, Bool, List, map, string_bytes}
use Rattle.mail_check.specs.Parameters.{has_extended, has_quoted_special, parameter_names}
use Rattle.mail_check.specs.declared.parameter_names.StrictValue.{StrictValue}

-- what the pass finds of a value
pub record Reading : Type 0 where
  pub bytes : List ℕ
  pub names : List (List ℕ)
  pub is_special : Bool
  pub is_extended : Bool

abbrev pub reading_of : List ℕ → Reading
reading_of bytes = record {
  bytes = bytes;
  names = parameter_names bytes;
  is_special = has_quoted_special bytes;
  is_extended = has_extended bytes;
}

abbrev pub strict_view : StrictValue → Reading
strict_view value = record {
  bytes = value.bytes.now;
  names = map string_bytes value.names.items;
  is_special = value.has_quoted_special;
  is_extended = value.has_extended;
}
