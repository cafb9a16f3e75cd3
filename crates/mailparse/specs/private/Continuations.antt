-- The state of the functions that join sections; private to them.
use Rattle.std.specs.Prelude.{ℕ, Bool, false, not, ◌&&◌, ◌==◌, nat_lt, List, [], ◌∷◌, ◌++◌, map, flat_map, Option, Some, None, option_to_list, String, string_bytes, if◌then◌else◌}
use Rattle.std.specs.BTreeMap.{BTreeMap}
use Rattle.std.specs.Global.{Vec}
use Rattle.std.specs.List.{list_any}
use Rattle.std.specs.Option.{option_map_or}
use Rattle.std.specs.Str.{bytes_eq}
use Rattle.mailparse.specs.Continuations.{is_section, joined, sections_of}
use Rattle.mailparse.specs.Options.{◌>>=◌}
use Rattle.mailparse.specs.Sections.{Section, octets, is_star, is_text, numbered, section_name}
use Rattle.mailparse.specs.private.Filled.{holds_name}
use Rattle.mailparse.specs.declared.parameters.continuations.joining.Joining.{Joining}
use Rattle.mailparse.specs.declared.parameters.sections.Sections.{Sections}

-- an open run of bytes, as a section
abbrev pub open_run : {C : Type 0} → (C → List ℕ → List ℕ) → Option (C × Vec ℕ) → List Section
open_run reads None = []
open_run reads (Some run) = octets (reads run.0) run.1.items ∷ []

-- the text that is made when these sections follow
abbrev pub joined_with : {C : Type 0} → (C → List ℕ → List ℕ) → Joining C → List Section → List ℕ
joined_with reads joining sections = string_bytes joining.text ++ joined (open_run reads joining.run ++ sections)

-- the names of a map, in its order
abbrev pub names_in : {Y X : Type 0} → BTreeMap (String Y) X → List (List ℕ)
names_in m = map (λ e. string_bytes e.0) m.entries

-- a name contains a star
abbrev pub has_star : List ℕ → Bool
has_star name = list_any is_star name

-- the base of a name with the number 0, unless the entry of the base is a text
abbrev pub base_of_section_0 : (List ℕ → Option Section) → List ℕ → Option (List ℕ)
base_of_section_0 at name = do
  n ← numbered name
  if n.1 == 0 && not (is_text (at n.0)) then Some n.0 else None

-- the bases of some names
abbrev pub bases_of_sections_0 : (List ℕ → Option Section) → List (List ℕ) → List (List ℕ)
bases_of_sections_0 at names = flat_map (λ name. option_to_list (base_of_section_0 at name)) names

-- the names that have an entry
abbrev pub names_of_sections : {C : Type 0} → Sections C → List (List ℕ)
names_of_sections sections = names_in sections.texts ++ names_in sections.extended

-- a name is that of a section of a base, with a number below this one
abbrev pub is_section_below : List ℕ → ℕ → List ℕ → Bool
is_section_below base count name =
    option_map_or (λ n. bytes_eq base n.0 && (nat_lt n.1 count && bytes_eq name (section_name n.0 n.1))) (numbered name) false

-- the entries of the names after the first sections of a base are removed
abbrev pub without_sections : (List ℕ → Option Section) → List ℕ → ℕ → List ℕ → Option Section
without_sections at base count name = if is_section_below base count name then None else at name

-- the joined text of each of some bases
abbrev pub joined_text : (List ℕ → Option Section) → List (List ℕ) → List ℕ → Option (List ℕ)
joined_text at bases name = if holds_name bases name then Some (joined (sections_of at name)) else None

-- a name is that of a section of one of some bases
abbrev pub is_taken : (List ℕ → Option Section) → List (List ℕ) → List ℕ → Bool
is_taken at bases name =
    option_map_or (λ n. holds_name bases n.0 && is_section at name n) (numbered name) false

-- the entries of the names after the sections of these bases are removed
abbrev pub left_by : (List ℕ → Option Section) → List (List ℕ) → List ℕ → Option Section
left_by at bases name = if is_taken at bases name then None else at name
