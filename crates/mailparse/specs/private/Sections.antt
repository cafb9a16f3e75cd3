-- The sections of the code, as the definitions have them, given how their charsets read bytes.
use Rattle.std.specs.Prelude.{ℕ, List, Option, option_map, String, string_bytes}
use Rattle.std.specs.BTreeMap.{BTreeMap, get_by_text}
use Rattle.std.specs.Option.{option_or}
use Rattle.mailparse.specs.Pairs.{text_at}
use Rattle.mailparse.specs.Sections as words
use Rattle.mailparse.specs.declared.parameters.sections.Section.{Section}
use Rattle.mailparse.specs.declared.parameters.sections.Section.TheVariants as code
use Rattle.mailparse.specs.declared.parameters.sections.Sections.{Sections}

-- a section of the code, as the definitions have it
abbrev pub section_view : {C : Type 0} → (C → List ℕ → List ℕ) → Section C → words.Section
section_view reads (code.Text t) = words.text (string_bytes t)
section_view reads (code.Octets charset bytes) = words.octets (reads charset) bytes.items

-- the entry of a name in a map of sections
abbrev pub sections_at : {C Y : Type 0} → (C → List ℕ → List ℕ) → BTreeMap (String Y) (Section C) → List ℕ → Option words.Section
sections_at reads m name = option_map (section_view reads) (get_by_text m name)

-- the entry of each name: that of its extended value, otherwise its text
abbrev pub stored_section : {C : Type 0} → (C → List ℕ → List ℕ) → Sections C → List ℕ → Option words.Section
stored_section reads sections name = option_or (sections_at reads sections.extended name) (option_map words.text (text_at sections.texts name))
