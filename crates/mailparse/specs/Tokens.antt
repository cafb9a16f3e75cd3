-- The tokens of one line of a header's value: RFC 2047, sections 2 and 4, as this crate reads them.
-- A line is the UTF-8 of a text. An encoded word is found by its two delimiters, `=?` and `?=`, which are ASCII, so places are
-- counted in bytes; only the characters directly beside a word are looked at as characters.
use Rattle.std.specs.Prelude.{◌≡◌, ◌≢◌, ℕ, zero, suc, ◌+◌, ◌≤◌, Bool, true, false, ◌&&◌, ◌||◌, List, [], ◌∷◌, ◌++◌, length, take, drop, reverse, slice_range, Option, Some, None, is_some, codes, if◌then◌else◌, ◌==◌}
use Rattle.std.specs.Char.{is_whitespace}
use Rattle.std.specs.List.{list_all, list_any}
use Rattle.std.specs.Option.{option_map_or}
use Rattle.std.specs.Str.{chars}
use Rattle.mail_codec.specs.Ascii.{quote, opening_parenthesis, closing_parenthesis, comma, less_than, greater_than}
use Rattle.mail_codec.specs.Charset.{Charsets}
use Rattle.mail_codec.specs.Places.{has_prefix, place_from}
use Rattle.mailparse.specs.EncodedWord.{word_text}

-- the kind of a token: text that is not encoded, whitespace alone (or nothing), the end of a line, or an encoded word that decodes
pub data TokenKind : Type 0 where
  plain_text whitespace line_end decoded_word : TokenKind

-- a token of a line: its kind and its range in the line
pub record TokenRange : Type 0 where
  pub kind : TokenKind
  pub from : ℕ
  pub to : ℕ

-- a character that may be directly beside an encoded word: whitespace, or one of `"`, `(`, `)`, `<`, `>` and `,`
abbrev pub is_boundary : ℕ → Bool
is_boundary c = is_whitespace c || list_any (λ d. c == d) (quote ∷ opening_parenthesis ∷ closing_parenthesis ∷ less_than ∷ greater_than ∷ comma ∷ [])

-- whether the first of the characters is a boundary, or there are no characters
abbrev pub begins_with_boundary : List ℕ → Bool
begins_with_boundary [] = true
begins_with_boundary (c ∷ _) = is_boundary c

-- whether the line begins at a place, or the character directly before it is a boundary
abbrev pub boundary_before : List ℕ → ℕ → Bool
boundary_before line v = begins_with_boundary (reverse (chars (take v line)))

-- whether bytes begin with `=?`
abbrev pub begins_opening : List ℕ → Bool
begins_opening = has_prefix (codes "=?")

-- whether bytes begin with `?=`, and either end there or have a boundary as the next character
abbrev pub begins_closing : List ℕ → Bool
begins_closing bytes = has_prefix (codes "?=") bytes && begins_with_boundary (chars (drop 2 bytes))

-- the place of the first `=?` at or after s, or the length of the line
abbrev pub opening : List ℕ → ℕ → ℕ
opening line s = place_from begins_opening line s

-- the place of the first `?=` at or after s that a boundary follows, or the length of the line
abbrev pub closing : List ℕ → ℕ → ℕ
closing line s = place_from begins_closing line s

-- whether a text is whitespace alone, as the empty text is
abbrev pub is_all_whitespace : List ℕ → Bool
is_all_whitespace text = list_all is_whitespace (chars text)

-- the token of a text outside all words: whitespace, otherwise text
abbrev pub outside_range : List ℕ → ℕ → ℕ → TokenRange
outside_range line from to = record { kind = if is_all_whitespace (slice_range line from to) then whitespace else plain_text; from = from; to = to }

-- a token that is text, whitespace or not
abbrev pub text_range : ℕ → ℕ → TokenRange
text_range from to = record { kind = plain_text; from = from; to = to }

-- a decoded word, from the `=?` at v to the end of the `?=` at e
abbrev pub word_range : ℕ → ℕ → TokenRange
word_range v e = record { kind = decoded_word; from = v; to = e + 2 }

-- the text between the `=?` at v and the `?=` at e
abbrev pub inside : List ℕ → ℕ → ℕ → List ℕ
inside line v e = slice_range line (v + 2) e

-- the bytes of a token in its line
abbrev pub token_source : List ℕ → TokenRange → List ℕ
token_source line token = slice_range line token.from token.to

-- tokens that follow one another, from the place s to the place e
abbrev pub Adjoin : ℕ → List TokenRange → ℕ → Type 0
Adjoin s [] e = s ≡ e
Adjoin s (token ∷ tokens) e = (token.from ≡ s) × (token.from ≤ token.to) × Adjoin token.to tokens e

-- a group of tokens, and the place where the next group begins, if there is one
pub record TokenGroup : Type 0 where
  pub tokens : List TokenRange
  pub next : Option ℕ

-- Under the charsets that are known.
module _ (known : Charsets) where
  -- the group of tokens that begins at the place s of a line, and the place where the next group begins, if there is one.
  -- The cases:
  pub data IsTokenGroup (line : List ℕ) (s : ℕ) : List TokenRange → Option ℕ → Type 0 where
    -- there is no `=?` at or after s: the rest of the line is the last token
    no_opening : opening line s ≡ length line → IsTokenGroup line s (outside_range line s (length line) ∷ []) None
    -- the character before the first `=?` is not a boundary: text, up to the end of that `=?`
    no_boundary : {v : ℕ} → opening line s ≡ v → v ≢ length line → boundary_before line v ≡ false
        → IsTokenGroup line s (text_range s (v + 2) ∷ []) (Some (v + 2))
    -- the first `=?` may begin a word, and no `?=` after it may end one: the token before it, and that `=?` alone as text
    no_closing : {v : ℕ} → opening line s ≡ v → v ≢ length line → boundary_before line v ≡ true
        → closing line (v + 2) ≡ length line
        → IsTokenGroup line s (outside_range line s v ∷ text_range v (v + 2) ∷ []) (Some (v + 2))
    -- the first `=?` and the first `?=` after it that a boundary follows enclose a word that decodes
    decodes : {v e : ℕ} → opening line s ≡ v → v ≢ length line → boundary_before line v ≡ true
        → closing line (v + 2) ≡ e → e ≢ length line → is_some (word_text known (inside line v e)) ≡ true
        → IsTokenGroup line s (outside_range line s v ∷ word_range v e ∷ []) (Some (e + 2))
    -- the same, but the word does not decode: it is text with both its delimiters
    stays_text : {v e : ℕ} → opening line s ≡ v → v ≢ length line → boundary_before line v ≡ true
        → closing line (v + 2) ≡ e → e ≢ length line → is_some (word_text known (inside line v e)) ≡ false
        → IsTokenGroup line s (outside_range line s v ∷ text_range v (e + 2) ∷ []) (Some (e + 2))

  -- the tokens of a line from the place s onwards: groups up to the last, each beginning where the one before it says
  pub data AreTokensFrom (line : List ℕ) : ℕ → List TokenRange → Type 0 where
    last_group : {s : ℕ} {group : List TokenRange} → IsTokenGroup line s group None → AreTokensFrom line s group
    next_group : {s t : ℕ} {group rest tokens : List TokenRange} → IsTokenGroup line s group (Some t) → AreTokensFrom line t rest
        → tokens ≡ group ++ rest → AreTokensFrom line s tokens

  -- the tokens of a whole line
  abbrev pub AreTokens : List ℕ → List TokenRange → Type 0
  AreTokens line tokens = AreTokensFrom line 0 tokens

  -- the group at s, computed, with a possible word from v to e
  abbrev pub group_of_word : List ℕ → ℕ → ℕ → ℕ → TokenGroup
  group_of_word line s v e = record {
    tokens = outside_range line s v ∷ (if is_some (word_text known (inside line v e)) then word_range v e else text_range v (e + 2)) ∷ [];
    next = Some (e + 2);
  }

  -- the group at s, computed, with its first `=?` at v and the first closing `?=` after it at e
  abbrev pub group_of_opening : List ℕ → ℕ → ℕ → ℕ → TokenGroup
  group_of_opening line s v e =
      if boundary_before line v
      then (if e == length line then record { tokens = outside_range line s v ∷ text_range v (v + 2) ∷ []; next = Some (v + 2) } else group_of_word line s v e)
      else record { tokens = text_range s (v + 2) ∷ []; next = Some (v + 2) }

  -- the group at s, computed
  unfoldable pub token_group_at : List ℕ → ℕ → TokenGroup
  token_group_at line s =
      let v = opening line s in
      if v == length line
      then record { tokens = outside_range line s (length line) ∷ []; next = None }
      else group_of_opening line s v (closing line (v + 2))

  -- the tokens of a line from s onwards, over at most n groups
  unfoldable pub tokens_within : ℕ → List ℕ → ℕ → List TokenRange
  tokens_within zero line s = []
  tokens_within (suc n) line s =
      let group = token_group_at line s in
      group.tokens ++ option_map_or (λ t. tokens_within n line t) group.next []

  -- the tokens of a line, computed: without the last, a line has fewer groups than bytes
  unfoldable pub token_ranges : List ℕ → List TokenRange
  token_ranges line = tokens_within (suc (length line)) line 0
