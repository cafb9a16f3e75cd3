-- The charset source of each extended name, by index; private to the functions that read extended values.
use Rattle.std.specs.Prelude.{◌≡◌, ◌<◌, ℕ, suc, zero, Bool, true, ◌&&◌, ◌==◌, ◌-◌, nat_eq, List, [], ◌∷◌, map, take, drop, length, slice_index_or, if◌then◌else◌}
use Rattle.std.specs.Cmp.Lexicographic.{slice_cmp}
use Rattle.std.specs.List.{starts_with, ends_with, prefix_len, zip}
use Rattle.std.specs.Ordering.{is_lt, nat_cmp}
use Rattle.mail_codec.specs.Ascii.{asterisk, digit_0}
use Rattle.mailparse.specs.ExtendedValues.{starred}
use Rattle.mailparse.specs.declared.parameters.extended_values.names.ExtendedName.{ExtendedName}

-- a name is that of an initial section: it ends in `*0`
abbrev pub is_initial_section : List ℕ → Bool
is_initial_section z = ends_with nat_eq z (asterisk ∷ digit_0 ∷ [])

-- z is a candidate for the charset source of a name, which begins with z without its last byte
abbrev pub is_candidate_for : List ℕ → List ℕ → Bool
is_candidate_for z name = is_initial_section z && starts_with nat_eq name (take (length z - 1) z)

-- the name at an index
abbrev pub name_at : List (List ℕ) → ℕ → List ℕ
name_at names place = slice_index_or names place []

-- the index of the charset source of the name at an index: the last of the first indices whose name is a candidate, otherwise its own
abbrev pub source_place : List (List ℕ) → ℕ → ℕ → ℕ
source_place names zero place = place
source_place names (suc last) place = if is_candidate_for (name_at names last) (name_at names place) then last else source_place names last place

-- the names are in the order of their starred keys
abbrev pub AreInOrder : List (List ℕ) → Type 0
AreInOrder names = (i j : ℕ) → i < j → j < length names → is_lt (slice_cmp nat_cmp (starred (name_at names i)) (starred (name_at names j))) ≡ true

-- the length of the common prefix of two names
abbrev pub shared_len : List ℕ → List ℕ → ℕ
shared_len one other = prefix_len (λ bytes. bytes.0 == bytes.1) (zip one other)

-- the length of the common prefix of each extended name and the next
abbrev pub shared_lens : {C : Type 0} → List (ExtendedName C) → List ℕ
shared_lens extended = map (λ pair. shared_len pair.0.name.now pair.1.name.now) (zip extended (drop 1 extended))
