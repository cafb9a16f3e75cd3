-- Why something is refused, as programs show it.
use Rattle.std.specs.Prelude.{ℕ, List, ◌++◌, codes, decimal}
use Rattle.mailparse.specs.Refusal.{Refusal, generic, encoding, base64_fault}

-- why something is refused
unfoldable pub refusal_text : Refusal → List ℕ
refusal_text (generic text) = text
refusal_text (encoding text) = codes "Encoding error: " ++ text
refusal_text (base64_fault group) =
    codes "Base64 decode error: group " ++ decimal group ++ codes " is no Base64 group"
