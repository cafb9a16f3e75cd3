-- The text of HTML: a piece of markup, a reference or text at a time (the HTML Standard, section 13.2.5).
use Rattle.std.specs.Prelude.{ℕ, zero, suc, ◌+◌, ◌-◌, true, false, ◌||◌, ◌==◌, List, [], ◌∷◌, ◌++◌, length, take, drop, codes, if◌then◌else◌}
use Rattle.std.specs.Char.{is_ascii_alphabetic, is_ascii_whitespace}
use Rattle.std.specs.List.{ends_with}
use Rattle.std.specs.Prelude.{nat_eq}
use Rattle.mail_codec.specs.Ascii.{greater_than, less_than, slash}
use Rattle.mail_codec.specs.Places.{begins, first_place, is_empty, trimmed_at_end, trimmed_at_start}
use Rattle.mail_html.specs.Elements.{add_tag, kind_of}
use Rattle.mail_html.specs.Layout.{State, add_text}
use Rattle.mail_html.specs.References.{reference, value_text}
use Rattle.mail_html.specs.Tags.{contents_length, declaration_length, name_length, past_byte, tag_length, value_named}
use Rattle.mail_html.specs.declared.elements.Kind.{Kind}
use Rattle.mail_html.specs.declared.elements.Kind.TheVariants.{Image, Hidden, Foreign}
use Rattle.mail_html.specs.declared.references.References.{References}

-- a state, and how many bytes lead to it
abbrev pub Step : Type 0
Step = State × ℕ

-- bytes that are text as they are
abbrev pub literal_step : List ℕ → State → Step
literal_step text state = (add_text text state, length text)

-- the alternative text of an image in brackets, without whitespace around it, if there is any
abbrev pub bracketed : List ℕ → List ℕ
bracketed [] = []
bracketed (b ∷ text) = codes "[" ++ (b ∷ text) ++ codes "]"

-- a text without ASCII whitespace at its start and at its end
abbrev pub trimmed : List ℕ → List ℕ
trimmed text = trimmed_at_end is_ascii_whitespace (trimmed_at_start is_ascii_whitespace text)

-- the text that an element shows in place of its contents: that of an image
abbrev pub shown_for : References → Kind → List ℕ → List ℕ
shown_for references Image attributes =
    bracketed (trimmed (value_text 0 references (value_named 0 (codes "alt") attributes)))
shown_for references _ attributes = []

-- the number of bytes after a start tag that are hidden: the contents of hidden elements, and of foreign ones unless the tag
-- closes itself
abbrev pub hidden_length : Kind → List ℕ → List ℕ → List ℕ → ℕ
hidden_length Hidden name tag rest = contents_length name rest
hidden_length Foreign name tag rest = if ends_with nat_eq tag (codes "/>") then 0 else contents_length name rest
hidden_length _ name tag rest = 0

-- a start tag, whose name is at the front of bytes, with the contents that it hides
unfoldable pub start_step : References → State → List ℕ → Step
start_step references state bytes =
    let name = take (name_length bytes) bytes in
    let tag = take (tag_length bytes) bytes in
    let kind = kind_of name in
    let attributes = take (tag_length bytes - name_length bytes) (drop (name_length bytes) bytes) in (
      add_text (shown_for references kind attributes) (add_tag true kind state),
      1 + (tag_length bytes + hidden_length kind name tag (drop (tag_length bytes) bytes)),
    )

-- the markup that `</` begins: an end tag, or all up to the first `>`; at the end of the bytes it is text
unfoldable pub end_step : State → List ℕ → Step
end_step state bytes =
    if begins is_ascii_alphabetic bytes
    then (add_tag false (kind_of (take (name_length bytes) bytes)) state, 2 + tag_length bytes)
    else if is_empty bytes then literal_step (codes "</") state else (state, 2 + past_byte bytes greater_than)

-- the markup that `<` begins: a tag, a comment or another declaration; otherwise it is text
unfoldable pub markup_step : References → State → List ℕ → Step
markup_step references state bytes =
    if begins is_ascii_alphabetic bytes then start_step references state bytes
    else if begins (λ b. b == slash) bytes then end_step state (drop 1 bytes)
    else if begins (λ b. b == 0x21 || b == 0x3F) bytes then (state, 1 + declaration_length bytes)
    else literal_step (codes "<") state

-- a reference, after its ampersand
unfoldable pub reference_step : References → State → List ℕ → Step
reference_step references state bytes =
    (add_text (reference references false bytes).0 state, 1 + (reference references false bytes).1)

-- the length of text up to the next `<` or `&`, or of all bytes
abbrev pub text_length : List ℕ → ℕ
text_length bytes = first_place (begins (λ b. b == less_than || b == 0x26)) bytes

-- that text
unfoldable pub text_step : State → List ℕ → Step
text_step state bytes = literal_step (take (text_length bytes) bytes) state

-- the markup, the reference or the run of text at the front of bytes
unfoldable pub front_step : References → State → List ℕ → Step
front_step references state bytes =
    if begins (λ b. b == less_than) bytes then markup_step references state (drop 1 bytes)
    else if begins (λ b. b == 0x26) bytes then reference_step references state (drop 1 bytes)
    else text_step state bytes

-- the state after all bytes, of which some have been read already
abbrev pub state_after : ℕ → References → State → List ℕ → State
state_after taken references state [] = state
state_after (suc taken) references state (b ∷ rest) = state_after taken references state rest
state_after zero references state (b ∷ rest) =
    let step = front_step references state (b ∷ rest) in
    state_after (step.1 - 1) references step.0 rest
