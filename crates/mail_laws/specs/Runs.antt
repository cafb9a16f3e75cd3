-- What sections join to, by one walk over them, as the law `runs_are_read_once` says.
use Rattle.std.specs.Prelude.{ℕ, List, [], ◌∷◌, ◌++◌, Option, Some, None}
use Rattle.mailparse.specs.Sections.{Section, text, octets}

-- the text of an open run: its bytes decoded in the charset of the last section; without an open run, the empty text
abbrev pub run_text : Option (List ℕ → List ℕ) → List ℕ → List ℕ
run_text None bytes = []
run_text (Some reading) bytes = reading bytes

-- the text that sections make after an open run: a text ends it
abbrev pub walked_after : Option (List ℕ → List ℕ) → List ℕ → List Section → List ℕ
walked_after reading bytes [] = run_text reading bytes
walked_after reading bytes (text t ∷ sections) = run_text reading bytes ++ (t ++ walked_after None [] sections)
walked_after reading bytes (octets last more ∷ sections) = walked_after (Some last) (bytes ++ more) sections
