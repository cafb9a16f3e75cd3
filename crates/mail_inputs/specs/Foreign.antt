-- Inputs that are not mail, by their first bytes.
use Rattle.std.specs.Prelude.{ℕ, nat_eq, List, [], ◌∷◌, ◌++◌, Option, find, codes}
use Rattle.std.specs.List.{starts_with}
use Rattle.mail_inputs.specs.declared.foreign.Foreign.{Foreign}
use Rattle.mail_inputs.specs.declared.foreign.Foreign.TheVariants.{Gzip, Xz, Zstandard, Bzip2, Zip, Ole, Pst}

-- the bytes with which each file of a format begins
abbrev pub first_bytes : Foreign → List ℕ
first_bytes Gzip = 31 ∷ 139 ∷ []
first_bytes Xz = 253 ∷ codes "7zXZ" ++ 0 ∷ []
first_bytes Zstandard = 40 ∷ 181 ∷ 47 ∷ 253 ∷ []
first_bytes Bzip2 = codes "BZh"
first_bytes Zip = codes "PK" ++ 3 ∷ 4 ∷ []
first_bytes Ole = 208 ∷ 207 ∷ 17 ∷ 224 ∷ 161 ∷ 177 ∷ 26 ∷ 225 ∷ []
first_bytes Pst = codes "!BDN"

-- the format with whose first bytes an input begins, if there is one
abbrev pub foreign_of : List ℕ → Option Foreign
foreign_of input = find (λ format. starts_with nat_eq input (first_bytes format)) (Gzip ∷ Xz ∷ Zstandard ∷ Bzip2 ∷ Zip ∷ Ole ∷ Pst ∷ [])
