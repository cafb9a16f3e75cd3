-- How padded groups are read together with others; this crate's own words for private functions.
use Rattle.std.specs.Prelude.{ℕ, ◌==◌, ◌&&◌, if◌then◌else◌, List, [], ◌∷◌, ◌++◌, take, drop}
use Rattle.mail_codec.specs.Ascii.{upper_a}
use Rattle.mail_codec.specs.Base64.{padding}

-- `A`, the letter whose value is 0
abbrev pub zero_letter : ℕ
zero_letter = upper_a

-- the third and the fourth byte of a group, with its padding filled in
abbrev pub third : ℕ → ℕ → ℕ
third r s = if s == padding && r == padding then zero_letter else r

abbrev pub fourth : ℕ → ℕ
fourth s = if s == padding then zero_letter else s

-- the groups of a text, with the padding of each filled in
unfoldable pub filled : List ℕ → List ℕ
filled [] = []
filled (p ∷ []) = []
filled (p ∷ q ∷ []) = []
filled (p ∷ q ∷ r ∷ []) = []
filled (p ∷ q ∷ r ∷ s ∷ rest) = p ∷ q ∷ third r s ∷ fourth s ∷ filled rest

-- how many bytes a group encodes, by its third and its fourth byte
abbrev pub group_len : ℕ → ℕ → ℕ
group_len r s = if s == padding && r == padding then 1 else if s == padding then 2 else 3

-- of three bytes for each group of a text, those that the group encodes
unfoldable pub cut_groups : List ℕ → List ℕ → List ℕ
cut_groups [] bytes = []
cut_groups (p ∷ []) bytes = []
cut_groups (p ∷ q ∷ []) bytes = []
cut_groups (p ∷ q ∷ r ∷ []) bytes = []
cut_groups (p ∷ q ∷ r ∷ s ∷ rest) bytes =
    take (group_len r s) bytes ++ cut_groups rest (drop 3 bytes)
