-- How a message is read where readers differ; the project's own terms.
use Rattle.std.specs.Prelude.{Bool, List}
use Rattle.mailparse.specs.ContentType.{ContentType}
use Rattle.mailparse.specs.Header.{Header}

-- the choices in which readers differ
pub record Manner : Type 0 where
  -- the type of a message, given whether it is part of a digest, and its headers
  pub type_of : Bool → List Header → ContentType
  -- a refused message is kept
  pub keeps_refused : Bool
  -- a delimiter is a line on which only `--`, or nothing, and blanks follow the dash-boundary
  pub whole_lines : Bool
  -- headers also end before a line that begins with `--` and has no colon, and their keys before the blanks at their end
  pub lenient_headers : Bool
