-- Links, by numbers in the text and their targets in footnotes; this crate's own rules, and the form that `lynx -dump` has.
use Rattle.std.specs.Prelude.{ℕ, zero, suc, ◌-◌, ◌==◌, List, [], ◌∷◌, ◌++◌, codes, decimal, false, if◌then◌else◌}
use Rattle.mail_codec.specs.Ascii.{less_than}
use Rattle.mail_codec.specs.Places.{begins}
use Rattle.std.specs.Prelude.{drop}
use Rattle.mail_html.specs.Html.{front_step, trimmed}
use Rattle.mail_html.specs.Layout.{State, add_text, with_gap, with_text}
use Rattle.mail_html.specs.References.{value_text}
use Rattle.mail_html.specs.Tags.{has_name, value_named}
use Rattle.mail_html.specs.declared.layout.Gap.TheVariants.{BlankLine, LineEnd}
use Rattle.mail_html.specs.declared.references.References.{References}

-- the text with the numbers of links, the footnotes, and how many there are
abbrev pub Linked : Type 0
Linked = State × List ℕ × ℕ

-- the text of `href` of an element `a`, whose name is at the front of bytes; no bytes for other elements
unfoldable pub attribute_target : References → List ℕ → List ℕ
attribute_target references bytes =
    if has_name (codes "a") bytes then value_text 0 references (value_named 0 (codes "href") (drop 1 bytes)) else []

-- the same for a start tag at the front of bytes
unfoldable pub target_at : References → List ℕ → List ℕ
target_at references bytes =
    if begins (λ b. b == less_than) bytes then attribute_target references (drop 1 bytes) else []

-- the number of a link in brackets
abbrev pub mark : ℕ → List ℕ
mark number = codes "[" ++ decimal number ++ codes "]"

-- the line of a footnote
abbrev pub note_line : List ℕ → List ℕ → List ℕ
note_line mark target = mark ++ codes " " ++ target

-- the footnotes with one more, on a line of its own; its whitespace collapses
unfoldable pub add_note : List ℕ → List ℕ → List ℕ → List ℕ
add_note mark target notes = (with_text false (note_line mark target) (notes, LineEnd)).0

-- a link without a target has no number
abbrev pub add_target : List ℕ → Linked → Linked
add_target [] linked = linked
add_target (b ∷ target) linked = (
  add_text (mark (suc linked.2)) linked.0,
  add_note (mark (suc linked.2)) (b ∷ target) linked.1,
  suc linked.2,
)

-- one more link, whose target is without whitespace around it
unfoldable pub add_link : List ℕ → Linked → Linked
add_link target linked = add_target (trimmed target) linked

-- the text and its footnotes after all bytes, of which some have been read already: the number of a link follows its start
-- tag
abbrev pub linked_after : ℕ → References → Linked → List ℕ → Linked
linked_after taken references linked [] = linked
linked_after (suc taken) references linked (b ∷ rest) = linked_after taken references linked rest
linked_after zero references linked (b ∷ rest) =
    let step = front_step references linked.0 (b ∷ rest) in
    linked_after (step.1 - 1) references (add_link (target_at references (b ∷ rest)) (step.0, linked.1, linked.2)) rest

-- a text and its footnotes, if there are any, after a blank line
abbrev pub with_notes : List ℕ → List ℕ → List ℕ
with_notes text [] = text
with_notes text (b ∷ notes) = with_gap text BlankLine ++ (b ∷ notes)
