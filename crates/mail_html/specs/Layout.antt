-- Text with the gaps between its runs: whitespace that is collapsed or kept, and the ends of lines; this crate's own rules.
use Rattle.std.specs.Prelude.{ℕ, Bool, ◌==◌, nat_lt, List, [], ◌∷◌, ◌++◌, fold, codes, if◌then◌else◌}
use Rattle.std.specs.Char.{is_ascii_whitespace}
use Rattle.mail_codec.specs.Ascii.{carriage_return}
use Rattle.mail_html.specs.declared.layout.Gap.{Gap}
use Rattle.mail_html.specs.declared.layout.Gap.TheVariants.{Nothing, Space, Tab, LineEnd, BlankLine}
use Rattle.mail_html.specs.declared.layout.Layout.{Layout}

-- the order of gaps
abbrev pub rank : Gap → ℕ
rank Nothing = 0
rank Space = 1
rank Tab = 2
rank LineEnd = 3
rank BlankLine = 4

-- the wider of two gaps
abbrev pub wider : Gap → Gap → Gap
wider first second = if nat_lt (rank first) (rank second) then second else first

-- the gap after the end of one more line: at most one line is blank
abbrev pub one_more_line : Gap → Gap
one_more_line LineEnd = BlankLine
one_more_line BlankLine = BlankLine
one_more_line Nothing = LineEnd
one_more_line Space = LineEnd
one_more_line Tab = LineEnd

-- the text of a gap
abbrev pub gap_text : Gap → List ℕ
gap_text Nothing = []
gap_text Space = codes " "
gap_text Tab = codes "\t"
gap_text LineEnd = codes "\n"
gap_text BlankLine = codes "\n\n"

-- a text, and a gap after it: a gap before all text is not written
abbrev pub with_gap : List ℕ → Gap → List ℕ
with_gap [] gap = []
with_gap (b ∷ text) gap = (b ∷ text) ++ gap_text gap

-- a text, and the gap that is needed before what follows it
abbrev pub Written : Type 0
Written = List ℕ × Gap

-- one more byte where whitespace collapses: whitespace is a gap, and any other byte is written after the gap before it
abbrev pub with_collapsed : Written → ℕ → Written
with_collapsed written byte =
    if is_ascii_whitespace byte then (written.0, wider written.1 Space)
    else (with_gap written.0 written.1 ++ (byte ∷ []), Nothing)

-- one more byte where whitespace is kept: all are written but CR
abbrev pub with_kept : Written → ℕ → Written
with_kept written byte =
    if byte == carriage_return then written else (with_gap written.0 written.1 ++ (byte ∷ []), Nothing)

-- more text, where whitespace is kept or collapses
unfoldable pub with_text : Bool → List ℕ → Written → Written
with_text is_kept text written =
    if is_kept then fold with_kept written text else fold with_collapsed written text

-- a text, the gap after it, and whether whitespace is kept
abbrev pub State : Type 0
State = List ℕ × Gap × Bool

-- the state after more text
abbrev pub add_text : List ℕ → State → State
add_text text state =
    let written = with_text state.2 text (state.0, state.1) in
    (written.0, written.1, state.2)

-- a state of the code
abbrev pub state_of : List ℕ → Layout → State
state_of text layout = (text, layout.gap, layout.is_kept)
