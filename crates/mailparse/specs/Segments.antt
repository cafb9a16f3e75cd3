-- The segments of a value that has parameters, and the contents of quoted texts: RFC 2045, section 5.1, as this crate reads it.
-- The text is split at each `;` outside of all quoted runs. A quoted run goes from a `"` to the next `"` that no `\` escapes, or
-- to the end of the text.
use Rattle.std.specs.Prelude.{◌≡◌, ◌≢◌, ℕ, zero, suc, ◌-◌, Bool, true, false, not, ◌&&◌, ◌==◌, nat_lt, List, [], ◌∷◌, ◌++◌, length, Option, Some, None, slice_index, slice_range, if◌then◌else◌}
use Rattle.std.specs.Borrow.{Bor}
use Rattle.std.specs.Str.{chars, encode_utf8_all}
use Rattle.mail_codec.specs.Ascii.{quote, semicolon, backslash}

-- ---- the grammar

-- the bytes of a quoted run after the quote that opens it, and whether a quote ends it (true) or the end of the text (false)
pub data IsRunAfter : Bool → List ℕ → Type 0 where
  -- the quote that ends the run
  closing_quote : IsRunAfter true (quote ∷ [])
  -- the text ends here
  text_ends : IsRunAfter false []
  -- a backslash at the very end of the text
  lone_backslash : IsRunAfter false (backslash ∷ [])
  -- a backslash with any byte
  escaped_byte : {closed : Bool} {b : ℕ} {rest : List ℕ} → IsRunAfter closed rest → IsRunAfter closed (backslash ∷ b ∷ rest)
  -- a byte other than a quote and a backslash
  plain_byte : {closed : Bool} {b : ℕ} {rest : List ℕ} → b ≢ quote → b ≢ backslash → IsRunAfter closed rest
      → IsRunAfter closed (b ∷ rest)

-- a segment, and whether all of its quoted runs are closed; one that is not goes up to the end of the text
pub data IsSegment : Bool → List ℕ → Type 0 where
  -- nothing more
  segment_ends : IsSegment true []
  -- a byte other than a quote and a semicolon
  other_byte : {closed : Bool} {b : ℕ} {rest : List ℕ} → b ≢ quote → b ≢ semicolon → IsSegment closed rest
      → IsSegment closed (b ∷ rest)
  -- a quoted run that a quote ends
  closed_run : {closed : Bool} {run rest segment : List ℕ} → IsRunAfter true run → IsSegment closed rest
      → segment ≡ quote ∷ (run ++ rest) → IsSegment closed segment
  -- a quoted run that the end of the text ends
  open_run : {run : List ℕ} → IsRunAfter false run → IsSegment false (quote ∷ run)

-- a text is these segments, joined by semicolons
pub data AreSegments : List ℕ → List (List ℕ) → Type 0 where
  last_segment : {closed : Bool} {segment : List ℕ} → IsSegment closed segment → AreSegments segment (segment ∷ [])
  more_segments : {segment rest text : List ℕ} {more : List (List ℕ)} → IsSegment true segment → AreSegments rest more
      → text ≡ segment ++ semicolon ∷ rest → AreSegments text (segment ∷ more)

-- ---- the same as a function, which contracts cite; exactly this list fits the grammar, as the law `one_list_of_segments_fits` says

-- the state of a byte: outside of quoted runs, within one, or within one directly after a `\` that escapes it
pub data QuoteState : Type 0 where
  outside quoted escaped : QuoteState

-- the state of the next byte
abbrev pub after : QuoteState → ℕ → QuoteState
after outside b = if b == quote then quoted else outside
after quoted b = if b == quote then outside else (if b == backslash then escaped else quoted)
after escaped b = quoted

-- whether a byte ends a segment: a semicolon outside of quoted runs
abbrev pub ends : QuoteState → ℕ → Bool
ends outside b = b == semicolon
ends quoted b = false
ends escaped b = false

-- the segments, with these bytes in front of the first one
abbrev pub with_front : List ℕ → List (List ℕ) → List (List ℕ)
with_front front [] = front ∷ []
with_front front (segment ∷ more) = (front ++ segment) ∷ more

-- the segments of a text whose first byte has this state
abbrev pub segments_from : QuoteState → List ℕ → List (List ℕ)
segments_from state [] = [] ∷ []
segments_from state (b ∷ bytes) =
    if ends state b then [] ∷ segments_from outside bytes
    else with_front (b ∷ []) (segments_from (after state b) bytes)

-- the segments of a text, in order; without a semicolon it is one
unfoldable pub segments : List ℕ → List (List ℕ)
segments text = segments_from outside text

-- the segments of the text after a semicolon; none if there is no semicolon
abbrev pub segments_of_rest : Option (Bor (List ℕ)) → List (List ℕ)
segments_of_rest None = []
segments_of_rest (Some rest) = segments rest.now

-- ---- quoted texts

-- whether a number is odd
abbrev pub is_odd : ℕ → Bool
is_odd zero = false
is_odd (suc n) = not (is_odd n)

-- the characters that stay, with `before` backslashes directly before the first of them: all but each backslash that is not
-- escaped; one is escaped if the run of backslashes directly before it has odd length
abbrev pub without_escapes : ℕ → List ℕ → List ℕ
without_escapes before [] = []
without_escapes before (c ∷ cs) =
    if c == backslash then (if is_odd before then c ∷ without_escapes (suc before) cs else without_escapes (suc before) cs)
    else c ∷ without_escapes 0 cs

-- whether a text of at least two bytes begins and ends with a quote
abbrev pub is_quoted : List ℕ → Bool
is_quoted text = nat_lt 1 (length text) && slice_index text 0 == quote && slice_index text (length text - 1) == quote

-- the text between the first byte and the last
abbrev pub inside_quotes : List ℕ → List ℕ
inside_quotes text = slice_range text 1 (length text - 1)

-- the contents of a quoted text, without the backslashes that escape and without a lone one at the end; any other text is its own
-- contents
unfoldable pub unescape : List ℕ → List ℕ
unescape text = if is_quoted text then encode_utf8_all (without_escapes 0 (chars (inside_quotes text))) else text
