-- The plainest text of a type that has parts: one parameter, the boundary, which is letters and digits.
use Rattle.std.specs.Prelude.{ℕ, ◌≤◌, ◌⊎◌, List, ◌++◌, All, Some, None, codes, if◌then◌else◌}
use Rattle.std.specs.Str.{bytes_eq}
use Rattle.mail_codec.specs.Ascii.{digit_0, digit_9, upper_a, upper_z, lower_a, lower_z}
use Rattle.mailparse.specs.Pairs.{Texts}

-- letters and digits of ASCII alone
abbrev pub IsAlphanumeric : List ℕ → Type 0
IsAlphanumeric text = All (λ b. ((digit_0 ≤ b) × (b ≤ digit_9)) ⊎ (((upper_a ≤ b) × (b ≤ upper_z)) ⊎ ((lower_a ≤ b) × (b ≤ lower_z)))) text

-- `multipart/mixed` with this boundary
abbrev pub boundary_type : List ℕ → List ℕ
boundary_type boundary = codes "multipart/mixed; boundary=" ++ boundary

-- one text, under this name
abbrev pub one_text : List ℕ → List ℕ → Texts
one_text own text name = if bytes_eq own name then Some text else None
