-- The delimiters of a body, and the ranges that they cut it into, by their places (RFC 2046, section 5.1.1). A dash-boundary may contain
-- any bytes, and the body may start at any place.
use Rattle.std.specs.Prelude.{◌≡◌, ℕ, suc, ◌+◌, ◌-◌, ◌<◌, ◌≤◌, ◌⊎◌, List, [], ◌∷◌, length, take, drop, map, filter_map, codes}
use Rattle.mail_codec.specs.Ascii.{line_feed, carriage_return}
use Rattle.mail_codec.specs.Places.{HasByteAt, HasTextAt}
use Rattle.mailparse.specs.Delimiters.{Cut, cut_parts, delimiter_from}
use Rattle.mailparse.specs.Ranges.{Range}

-- the range from one place up to another
abbrev pub range : ℕ → ℕ → Range
range start end = record { start = start; end = end }

-- the end e of a range that starts at s and extends to q: without the line end before q
pub data EndsBefore (bytes : List ℕ) (s q e : ℕ) : Type 0 where
  -- at its start, if q is the start
  nothing_between : e ≡ s → q ≡ s → EndsBefore bytes s q e
  -- before a LF that is at s, or that follows a byte other than a CR
  line_feed_before : suc e ≡ q → s ≤ e → HasByteAt bytes line_feed e → ((e ≡ s) ⊎ (¬ HasByteAt bytes carriage_return (e - 1))) → EndsBefore bytes s q e
  -- before a CR and a LF
  both_before : suc (suc e) ≡ q → s ≤ e → HasByteAt bytes carriage_return e → HasByteAt bytes line_feed (suc e) → EndsBefore bytes s q e

-- Of some bytes with a body that starts at a place and ends with them.
module _ (dash_boundary bytes : List ℕ) (body : ℕ) where
  -- there is a delimiter at p: a line starts there, at the body's start or after a LF, and begins with the dash-boundary
  pub record HasDelimiterAt (p : ℕ) : Type 0 where
    pub in_body : body ≤ p
    pub within : p < length bytes
    pub line : (p ≡ body) ⊎ HasByteAt bytes line_feed (p - 1)
    pub begins : take (length dash_boundary) (drop p bytes) ≡ dash_boundary

  -- there is no delimiter at or after one place and before another
  abbrev pub NoneBetween : ℕ → ℕ → Type 0
  NoneBetween from to = (k : ℕ) → from ≤ k → k < to → ¬ HasDelimiterAt k

  -- p is the first delimiter at or after a place
  pub record IsFirstFrom (from p : ℕ) : Type 0 where
    pub after : from ≤ p
    pub is_delimiter : HasDelimiterAt p
    pub before : NoneBetween from p

  -- the line of the delimiter at p ends with the LF at l, the first after the dash-boundary
  pub record EndsLine (p l : ℕ) : Type 0 where
    pub after : p + length dash_boundary ≤ l
    pub feed : HasByteAt bytes line_feed l
    pub before : (k : ℕ) → p + length dash_boundary ≤ k → k < l → ¬ HasByteAt bytes line_feed k

  -- the line of the delimiter at p has no LF after the dash-boundary
  abbrev pub NeverEnds : ℕ → Type 0
  NeverEnds p = (k : ℕ) → p + length dash_boundary ≤ k → ¬ HasByteAt bytes line_feed k

  -- the delimiter at p is the close-delimiter: fewer than two bytes follow its dash-boundary, or `--` does
  abbrev pub Closes : ℕ → Type 0
  Closes p = (length bytes < p + length dash_boundary + 2) ⊎ HasTextAt bytes (codes "--") (p + length dash_boundary)

  -- the delimiters after the one at p, and the parts after it, in order
  pub data Follow : ℕ → List ℕ → List Range → Type 0 where
    -- neither, if its line has no end
    line_never_ends : {p : ℕ} → NeverEnds p → Follow p [] []
    -- no delimiter, if there is none on a later line: then one part takes the rest
    last_delimiter : {p l : ℕ} → EndsLine p l → NoneBetween (suc l) (length bytes) → Follow p [] (range (suc l) (length bytes) ∷ [])
    -- the next delimiter on a later line, if it is the close-delimiter, and the part before it
    close_delimiter : {p l q e : ℕ} → EndsLine p l → IsFirstFrom (suc l) q → Closes q → EndsBefore bytes (suc l) q e
        → Follow p (q ∷ []) (range (suc l) e ∷ [])
    -- the same if it is not, and what follows it
    next_delimiter : {p l q e : ℕ} {places : List ℕ} {parts : List Range} → EndsLine p l → IsFirstFrom (suc l) q → ¬ Closes q
        → EndsBefore bytes (suc l) q e → Follow q places parts → Follow p (q ∷ places) (range (suc l) e ∷ parts)

  -- the delimiters of the body, and what they cut it into
  pub data IsCutAt : List ℕ → Cut → Type 0 where
    -- without a delimiter there is no part, and the preamble is empty
    no_delimiter : NoneBetween body (length bytes) → IsCutAt [] (record { body = range body body; parts = [] })
    -- the preamble ends at the first delimiter, which may look like a close-delimiter
    first_delimiter : {p e : ℕ} {places : List ℕ} {parts : List Range} → IsFirstFrom body p → EndsBefore bytes body p e → Follow p places parts
        → IsCutAt (p ∷ places) (record { body = range body e; parts = parts })

  -- the computed delimiters: the first in the body, and the first after the start of each part
  abbrev pub delimiters : List ℕ
  delimiters = filter_map (delimiter_from dash_boundary bytes) (body ∷ map (λ part. part.start) (cut_parts dash_boundary bytes body).parts)
