-- Values that are joined from their sections (RFC 2231, section 3), and the resulting parameters. How sections of several charsets
-- join is this project's own choice.
use Rattle.std.specs.Prelude.{ℕ, Bool, false, not, ◌&&◌, ◌==◌, ◌^◌, ◌-◌, nat_lt, List, [], ◌∷◌, ◌++◌, length, map, Option, Some, None, option_map, option_to_list, if◌then◌else◌}
use Rattle.std.specs.List.{flat_map, list_any}
use Rattle.std.specs.Option.{is_some, option_map_or, option_or}
use Rattle.std.specs.Str.{bytes_eq}
use Rattle.mail_codec.specs.Charset.{Charsets}
use Rattle.mail_codec.specs.Places.{least, values_below}
use Rattle.mailparse.specs.Pairs.{Texts, last_of}
use Rattle.mailparse.specs.ExtendedValues.{name_under, section_at}
use Rattle.mailparse.specs.Sections.{Section, text, octets, alone, is_text, numbered, section_name}

-- ---- the sections of a base

-- there is no section of a base with this number
abbrev pub is_missing : (List ℕ → Option Section) → List ℕ → ℕ → Bool
is_missing at base number = not (is_some (at (section_name base number)))

-- the most sections that are joined: they are counted by a `u64`
unfoldable pub most_sections : ℕ
most_sections = 2 ^ 64 - 1

-- the number of sections of a base that are joined: the least number without a section
abbrev pub section_count : (List ℕ → Option Section) → List ℕ → ℕ
section_count at base = least (is_missing at base) most_sections

-- the sections of a base: those with the numbers below that, in order
abbrev pub sections_of : (List ℕ → Option Section) → List ℕ → List Section
sections_of at base = flat_map option_to_list (values_below (section_count at base) (λ number. at (section_name base number)))

-- ---- their text

-- what sections join to: a text, or a run of bytes, which has the charset of the last section and the bytes of all
pub data Group : Type 0 where
  text_alone : List ℕ → Group
  run : (List ℕ → List ℕ) → List ℕ → Group

-- groups with the bytes of a section before them: they join a run at the front, otherwise they are a run of their own
abbrev pub onto_run : (List ℕ → List ℕ) → List ℕ → List Group → List Group
onto_run reading bytes [] = run reading bytes ∷ []
onto_run reading bytes (text_alone t ∷ more) = run reading bytes ∷ text_alone t ∷ more
onto_run reading bytes (run last others ∷ more) = run last (bytes ++ others) ∷ more

-- the groups of sections: each text, and each longest run of bytes
abbrev pub groups : List Section → List Group
groups [] = []
groups (text t ∷ sections) = text_alone t ∷ groups sections
groups (octets reading bytes ∷ sections) = onto_run reading bytes (groups sections)

-- the text of a group: a run is decoded as a whole
abbrev pub group_text : Group → List ℕ
group_text (text_alone t) = t
group_text (run last bytes) = last bytes

-- the text that sections make: the texts of their groups, one after another
abbrev pub joined : List Section → List ℕ
joined sections = flat_map group_text (groups sections)

-- ---- the parameters

-- a name has this base and the number 0
abbrev pub is_first_of : List ℕ → List ℕ → Bool
is_first_of base name = option_map_or (λ n. bytes_eq n.0 base && n.1 == 0) (numbered name) false

-- a base: its own entry is not a text, and one of the names with this base and the number 0 has an entry
abbrev pub is_base : (List ℕ → Option Section) → List (List ℕ) → List ℕ → Bool
is_base at names base = not (is_text (at base)) && list_any (λ name. is_some (at name) && is_first_of base name) names

-- a name is that of a section of its base: its number is in plain decimal, and one of those that are joined
abbrev pub is_section : (List ℕ → Option Section) → List ℕ → List ℕ × ℕ → Bool
is_section at name n = nat_lt n.1 (length (sections_of at n.0)) && bytes_eq name (section_name n.0 n.1)

-- the entry of a name was joined: the name without its number is a base, and the entry is one of the base's sections
abbrev pub is_used : (List ℕ → Option Section) → List (List ℕ) → List ℕ → Bool
is_used at names name = option_map_or (λ n. is_base at names n.0 && is_section at name n) (numbered name) false

-- the text that is left at a name: that of its entry, unless this was joined
abbrev pub left_at : (List ℕ → Option Section) → List (List ℕ) → Texts
left_at at names name = if is_used at names name then None else option_map alone (at name)

-- the joined text of a name, if it is a base
abbrev pub base_text : (List ℕ → Option Section) → List (List ℕ) → Texts
base_text at names name = if is_base at names name then Some (joined (sections_of at name)) else None

-- the final text of a name: the one left at it, otherwise its joined text
unfoldable pub joined_at : (List ℕ → Option Section) → List (List ℕ) → Texts
joined_at at names name = option_or (left_at at names name) (base_text at names name)

-- the names that may have an entry: the keys, and the keys without their last byte
abbrev pub possible_names : List (List ℕ) → List (List ℕ)
possible_names keys = flat_map (λ key. key ∷ name_under key ∷ []) keys

-- Under the charsets that are known.
module _ (known : Charsets) where
  -- the parameters of pairs of a key and a value
  abbrev pub parameters_in : List (List ℕ × List ℕ) → Texts
  parameters_in pairs = joined_at (section_at known (last_of pairs)) (possible_names (map (λ pair. pair.0) pairs))
