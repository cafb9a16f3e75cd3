-- A pair of a key and a text in the code, by its bytes.
use Rattle.std.specs.Prelude.{ℕ, List, String, string_bytes}
use Rattle.std.specs.Global.{Global}

abbrev pub pair_view : String Global × String Global → List ℕ × List ℕ
pair_view p = (string_bytes p.0, string_bytes p.1)
