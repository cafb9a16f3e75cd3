-- Whether a name of which a message has one header occurs twice.
use Rattle.std.specs.Prelude.{ℕ, Bool, true, false, ◌||◌, List, [], ◌∷◌, replicate, slice_set, slice_index_or}
use Rattle.std.specs.List.{position_or_len}
use Rattle.mail_check.specs.Lines.{HeaderLine, is_named, single_names}

-- the number of the name of a header among these names, or how many they are
unfoldable pub single_number : HeaderLine → ℕ
single_number line = position_or_len (λ name. is_named name line) single_names

-- one of these names is that of two headers, or of a header and one before them, given of which names there is one
abbrev pub has_repeated : List Bool → List HeaderLine → Bool
has_repeated seen [] = false
has_repeated seen (line ∷ lines) =
    slice_index_or seen (single_number line) false
    || has_repeated (slice_set seen (single_number line) true) lines

-- no name was seen
abbrev pub none_yet : List Bool
none_yet = replicate 17 false
