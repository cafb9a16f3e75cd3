-- Kinds of elements by their names (the HTML Standard, sections 13.2.6 and 15.3), and the gaps around them. Which gap is
-- around which element is this crate's own rule.
use Rattle.std.specs.Prelude.{ℕ, Bool, List, [], ◌∷◌, codes, unwrap_or}
use Rattle.mail_codec.specs.Names.{look_up}
use Rattle.mail_html.specs.Layout.{State, one_more_line, wider}
use Rattle.mail_html.specs.declared.layout.Gap.{Gap}
use Rattle.mail_html.specs.declared.layout.Gap.TheVariants.{Nothing, Tab, LineEnd, BlankLine}
use Rattle.mail_html.specs.declared.elements.Kind.{Kind}
use Rattle.mail_html.specs.declared.elements.Kind.TheVariants.{Inline, Cell, Block, Paragraph, Break, Preformatted, Image, Hidden, Foreign}

-- the names of elements, each with its kind; those that are not here are inline
abbrev pub elements : List (List ℕ × Kind)
elements =
    (codes "p", Paragraph) ∷ (codes "td", Cell) ∷ (codes "br", Break) ∷ (codes "div", Block)
    ∷ (codes "a", Inline) ∷ (codes "tr", Block) ∷ (codes "span", Inline) ∷ (codes "font", Inline)
    ∷ (codes "b", Inline) ∷ (codes "img", Image) ∷ (codes "html", Block) ∷ (codes "body", Block)
    ∷ (codes "head", Block) ∷ (codes "table", Block) ∷ (codes "meta", Inline)
    ∷ (codes "style", Hidden) ∷ (codes "strong", Inline) ∷ (codes "title", Paragraph)
    ∷ (codes "tbody", Block) ∷ (codes "center", Block) ∷ (codes "i", Inline)
    ∷ (codes "u", Inline) ∷ (codes "em", Inline) ∷ (codes "li", Block) ∷ (codes "ul", Block)
    ∷ (codes "link", Inline) ∷ (codes "pre", Preformatted) ∷ (codes "hr", Paragraph)
    ∷ (codes "h1", Paragraph) ∷ (codes "h2", Paragraph) ∷ (codes "h3", Paragraph)
    ∷ (codes "th", Cell) ∷ (codes "script", Hidden) ∷ (codes "ol", Block)
    ∷ (codes "h4", Paragraph) ∷ (codes "h5", Paragraph) ∷ (codes "h6", Paragraph)
    ∷ (codes "blockquote", Paragraph) ∷ (codes "address", Block) ∷ (codes "article", Block)
    ∷ (codes "aside", Block) ∷ (codes "caption", Block) ∷ (codes "dd", Block)
    ∷ (codes "details", Block) ∷ (codes "dialog", Block) ∷ (codes "dir", Block)
    ∷ (codes "dl", Block) ∷ (codes "dt", Block) ∷ (codes "fieldset", Block)
    ∷ (codes "figcaption", Block) ∷ (codes "figure", Block) ∷ (codes "footer", Block)
    ∷ (codes "form", Block) ∷ (codes "header", Block) ∷ (codes "hgroup", Block)
    ∷ (codes "iframe", Hidden) ∷ (codes "legend", Block) ∷ (codes "listing", Preformatted)
    ∷ (codes "main", Block) ∷ (codes "math", Foreign) ∷ (codes "menu", Block)
    ∷ (codes "nav", Block) ∷ (codes "noembed", Hidden) ∷ (codes "noframes", Hidden)
    ∷ (codes "noscript", Hidden) ∷ (codes "optgroup", Block) ∷ (codes "option", Block)
    ∷ (codes "search", Block) ∷ (codes "section", Block) ∷ (codes "select", Block)
    ∷ (codes "summary", Block) ∷ (codes "svg", Foreign) ∷ (codes "template", Hidden)
    ∷ (codes "textarea", Block) ∷ (codes "tfoot", Block) ∷ (codes "thead", Block)
    ∷ (codes "xmp", Preformatted) ∷ []

-- the kind of the element with a name, ignoring ASCII case
unfoldable pub kind_of : List ℕ → Kind
kind_of name = unwrap_or (look_up elements name) Inline

-- the gap around an element
abbrev pub gap_of : Kind → Gap
gap_of Cell = Tab
gap_of Block = LineEnd
gap_of Paragraph = BlankLine
gap_of Preformatted = BlankLine
gap_of Inline = Nothing
gap_of Break = Nothing
gap_of Image = Nothing
gap_of Hidden = Nothing
gap_of Foreign = Nothing

-- the gap after the start or end tag of an element
abbrev pub gap_past : Kind → Gap → Gap
gap_past Break gap = one_more_line gap
gap_past Cell gap = wider gap Tab
gap_past Block gap = wider gap LineEnd
gap_past Paragraph gap = wider gap BlankLine
gap_past Preformatted gap = wider gap BlankLine
gap_past _ gap = gap

-- whether whitespace is kept after a start tag, or an end tag
abbrev pub is_kept_past : Kind → Bool → Bool → Bool
is_kept_past Preformatted is_start is_kept = is_start
is_kept_past _ is_start is_kept = is_kept

-- the state after the start tag, or the end tag, of an element
abbrev pub add_tag : Bool → Kind → State → State
add_tag is_start kind state = (state.0, gap_past kind state.1, is_kept_past kind is_start state.2)
