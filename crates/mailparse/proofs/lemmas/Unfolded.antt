-- The text that a reader of values makes, token by token, of a line and of the lines of a text.
use Rattle.std.proofs.Common.{◌≡◌, ◌≢◌, ℕ, ◌+◌, ◌-◌, Bool, true, false, cond, not, Result, Ok, Err, is_ok, OnOk, ◌||◌, ◌&&◌, Option, List, [], ◌∷◌, ◌++◌, length, map, take, reverse, slice_range, Some, None, is_some, unwrap_or, refl, sym, ap, ◌∙◌, subst, arith, append_assoc}
use Rattle.std.proofs.Math.Nat.{sub-zero}
use Rattle.std.proofs.lemmas.List.{map-append, append-nil}
use Rattle.std.specs.Borrow.{Bor}
use Rattle.std.specs.Str.{chars}
use Rattle.std.specs.String.{string_bytes}
use Rattle.mail_codec.specs.Charset.{Charsets}
use Rattle.mailparse.specs.EncodedWord.{word_text}
use Rattle.mailparse.specs.Tokens.{TokenKind, plain_text, whitespace, line_end, decoded_word, TokenRange, IsTokenGroup, AreTokensFrom, no_opening, no_boundary, no_closing, decodes, stays_text, last_group, next_group, opening, closing, begins_with_boundary, boundary_before, is_all_whitespace, outside_range, text_range, word_range, inside}
use Rattle.mailparse.specs.Value.{Token, is_word, is_whitespace_token, is_held, is_released, kinds, newline, shown_after, shown_tokens, token_of, token_text, line_tokens, outside_token, whitespace_token}
use Rattle.mailparse.specs.declared.header.unfolded.Held.{Held}
use Rattle.mailparse.specs.declared.header.unfolded.Held.TheVariants as held
use Rattle.mailparse.specs.declared.header.unfolded.UnfoldedValue.{UnfoldedValue}
use Rattle.mailparse.specs.private.Unfolded.{Shows, released, shown_held, shown_with}
use Rattle.mailparse.proofs.lemmas.Tokens.{token_ranges_only}

pub boundary_of_front : (line front : List ℕ) (v : ℕ) (b : Bool) → front ≡ slice_range line 0 v → b ≡ begins_with_boundary (reverse (chars front)) → boundary_before line v ≡ b
boundary_of_front line front v b e same =
    sym (same ∙ ap (λ f. begins_with_boundary (reverse (chars f))) (e ∙ ap (λ n. take n line) (sub-zero v)))

-- ---- one token after another

pub Shows-two : (before middle after : UnfoldedValue) (first second : Token) → Shows before (first ∷ []) middle → Shows middle (second ∷ []) after
    → Shows before (first ∷ second ∷ []) after
Shows-two before middle after first second h i rest = h (second ∷ rest) ∙ i rest

pub Shows-append : (before middle after : UnfoldedValue) (xs ys : List Token) → Shows before xs middle → Shows middle ys after → Shows before (xs ++ ys) after
Shows-append before middle after xs ys h i rest = ap (shown_with before) (append_assoc xs ys rest) ∙ h (ys ++ rest) ∙ i rest

pub Shows-at : (before after : UnfoldedValue) (xs ys : List Token) → xs ≡ ys → Shows before xs after → Shows before ys after
Shows-at before after xs ys e h = subst (λ ts. Shows before ts after) e h

-- ---- tokens held back

-- the token before the last one matters only if it is a decoded word
held_alike : (b : Option TokenKind) (before : Option TokenKind) (k : TokenKind) → is_word b ≡ false → is_held b before k ≡ is_held None before k
held_alike b before plain_text h = refl
held_alike b before whitespace h = refl
held_alike b before line_end h = ap (λ w. is_word before || (is_whitespace_token before && w)) h
held_alike b before decoded_word h = refl

earlier_alike : (b before : Option TokenKind) (tokens : List Token) → is_word b ≡ false → shown_after b before tokens ≡ shown_after None before tokens
earlier_alike b before [] h = refl
earlier_alike b before (t ∷ tokens) h =
    ap (λ held. (cond (not held || is_released t.kind (kinds tokens)) t.shown []) ++ shown_after before (Some t.kind) tokens) (held_alike b before t.kind h)

none_held : (e b : Option TokenKind) (k : TokenKind) → is_word b ≡ false → (is_whitespace_token b && is_word e) ≡ false → is_held e b k ≡ false
none_held e b plain_text h i = refl
none_held e b whitespace h i = h
none_held e b line_end h i = ap (λ w. w || (is_whitespace_token b && is_word e)) h ∙ i
none_held e b decoded_word h i = refl

-- if nothing can be held back, tokens are shown as they are at the front
pub settled : (e b : Option TokenKind) (tokens : List Token) → is_word b ≡ false → (is_whitespace_token b && is_word e) ≡ false
    → shown_after e b tokens ≡ shown_after None None tokens
settled e b [] h i = refl
settled e b (t ∷ tokens) h i =
    ap (λ held. (cond (not held || is_released t.kind (kinds tokens)) t.shown []) ++ shown_after b (Some t.kind) tokens) (none_held e b t.kind h i)
    ∙ ap (λ rest. t.shown ++ rest) (earlier_alike b (Some t.kind) tokens h)
    ∙ sym (ap (λ held. (cond (not held || is_released t.kind (kinds tokens)) t.shown []) ++ shown_after None (Some t.kind) tokens)
    (none_held None None t.kind refl refl))

-- directly after a decoded word nothing before it matters
word_alike : (b : Option TokenKind) (tokens : List Token) → shown_after b (Some decoded_word) tokens ≡ shown_after None (Some decoded_word) tokens
word_alike b [] = refl
word_alike b (t ∷ tokens) =
    ap (λ held. (cond (not held || is_released t.kind (kinds tokens)) t.shown []) ++ shown_after (Some decoded_word) (Some t.kind) tokens) (alike t.kind)
  where
    alike : (k : TokenKind) → is_held b (Some decoded_word) k ≡ is_held None (Some decoded_word) k
    alike plain_text = refl
    alike whitespace = refl
    alike line_end = refl
    alike decoded_word = refl

-- ---- the tokens that are appended

-- a push that succeeded left the whole
pub on_push : {T E P : Type 0} (r : Result T E) (new whole old : List ℕ) → new ≡ cond (is_ok r) whole old → (new ≡ whole → P) → OnOk r P
on_push (Ok x) new whole old e f = f e
on_push (Err x) new whole old e f = tt

-- the text so far, and the text if these tokens follow
abbrev pub shown_of : List ℕ → Held → List Token → List ℕ
shown_of text h tokens = text ++ shown_held h tokens

-- text is shown, and releases what is held back
pub takes_text : (text t : List ℕ) (h : Held) (rest : List Token)
    → shown_of text h (record { kind = plain_text; shown = t } ∷ rest) ≡ shown_of ((text ++ released h) ++ t) held.Nothing rest
takes_text text t h rest = ap (λ r. text ++ r) (go h) ∙ sym (append_assoc text (released h) (t ++ shown_after None None rest)) ∙ sym (append_assoc (text ++ released h) t (shown_after None None rest))
  where
    after : (e b : Option TokenKind) → is_word b ≡ false → (is_whitespace_token b && is_word e) ≡ false → t ++ shown_after e b rest ≡ t ++ shown_after None None rest
    after e b h i = ap (λ r. t ++ r) (settled e b rest h i)

    go : (h : Held) → shown_held h (record { kind = plain_text; shown = t } ∷ rest) ≡ released h ++ (t ++ shown_after None None rest)
    go held.Nothing = after None (Some plain_text) refl refl
    go held.Word = after (Some decoded_word) (Some plain_text) refl refl
    go (held.Whitespace gap) = ap (λ r. gap.now ++ r) (after (Some whitespace) (Some plain_text) refl refl)
    go (held.LineEnd gap) = ap (λ r. (gap.now ++ 32 ∷ []) ++ r) (after None (Some plain_text) refl refl)

-- a decoded word is shown, and what is held back is not
pub takes_word : (text t : List ℕ) (h : Held) (rest : List Token)
    → shown_of text h (record { kind = decoded_word; shown = t } ∷ rest) ≡ shown_of (text ++ t) held.Word rest
takes_word text t h rest = ap (λ r. text ++ r) (go h) ∙ sym (append_assoc text t (shown_after None (Some decoded_word) rest))
  where
    go : (h : Held) → shown_held h (record { kind = decoded_word; shown = t } ∷ rest) ≡ t ++ shown_after None (Some decoded_word) rest
    go held.Nothing = refl
    go held.Word = ap (λ r. t ++ r) (word_alike (Some decoded_word) rest)
    go (held.Whitespace gap) = ap (λ r. t ++ r) (word_alike (Some whitespace) rest)
    go (held.LineEnd gap) = refl

-- and other whitespace is shown
pub takes_whitespace : (text t : List ℕ) (h : Held) (rest : List Token) → h ≢ held.Word
    → shown_of text h (whitespace_token t ∷ rest) ≡ shown_of (text ++ t) held.Nothing rest
takes_whitespace text t h rest other = ap (λ r. text ++ r) (go h other) ∙ sym (append_assoc text t (shown_after None None rest))
  where
    after : (e : Option TokenKind) → is_word e ≡ false → t ++ shown_after e (Some whitespace) rest ≡ t ++ shown_after None None rest
    after e h = ap (λ r. t ++ r) (settled e (Some whitespace) rest refl h)

    go : (h : Held) → h ≢ held.Word → shown_held h (whitespace_token t ∷ rest) ≡ t ++ shown_after None None rest
    go held.Nothing other = after None refl
    go held.Word other = absurd (other refl)
    go (held.Whitespace gap) other = after (Some whitespace) refl
    go (held.LineEnd gap) other = after None refl

-- the end of a line after a decoded word is held back
pub holds_line_end : (text : List ℕ) (rest : List Token)
    → shown_of text held.Word (newline ∷ rest) ≡ text ++ (cond (is_released line_end (kinds rest)) (32 ∷ []) [] ++ shown_after None None rest)
holds_line_end text rest =
    ap (λ r. text ++ (cond (is_released line_end (kinds rest)) (32 ∷ []) [] ++ r)) (settled (Some decoded_word) (Some line_end) rest refl refl)

-- and so is one after whitespace that is held back
pub holds_whitespace_line_end : (text : List ℕ) (gap : Bor (List ℕ)) (rest : List Token)
    → shown_of text (held.Whitespace gap) (newline ∷ rest) ≡ shown_of text (held.LineEnd gap) rest
holds_whitespace_line_end text gap rest =
    ap (λ r. text ++ r)
    (go (kinds rest) (shown_after (Some whitespace) (Some line_end) rest)
    ∙ ap (λ r. cond (is_released line_end (kinds rest)) (gap.now ++ 32 ∷ []) [] ++ r) (settled (Some whitespace) (Some line_end) rest refl refl))
  where
    go : (next : List TokenKind) (r : List ℕ)
        → cond (is_released whitespace (line_end ∷ next)) gap.now [] ++ (cond (is_released line_end next) (32 ∷ []) [] ++ r)
        ≡ cond (is_released line_end next) (gap.now ++ 32 ∷ []) [] ++ r
    go [] r = refl
    go (plain_text ∷ next) r = sym (append_assoc gap.now (32 ∷ []) r)
    go (whitespace ∷ next) r = refl
    go (line_end ∷ next) r = refl
    go (decoded_word ∷ next) r = refl

-- any other end of a line is shown
pub takes_line_end : (text : List ℕ) (h : Held) (rest : List Token) → h ≢ held.Word → ((gap : Bor (List ℕ)) → h ≢ held.Whitespace gap)
    → shown_of text h (newline ∷ rest) ≡ shown_of (text ++ 32 ∷ []) held.Nothing rest
takes_line_end text h rest other no_whitespace = ap (λ r. text ++ r) (go h other no_whitespace) ∙ sym (append_assoc text (32 ∷ []) (shown_after None None rest))
  where
    go : (h : Held) → h ≢ held.Word → ((gap : Bor (List ℕ)) → h ≢ held.Whitespace gap)
        → shown_held h (newline ∷ rest) ≡ 32 ∷ shown_after None None rest
    go held.Nothing other no_whitespace = ap (λ r. 32 ∷ r) (settled None (Some line_end) rest refl refl)
    go held.Word other no_whitespace = absurd (other refl)
    go (held.Whitespace gap) other no_whitespace = absurd (no_whitespace gap refl)
    go (held.LineEnd gap) other no_whitespace = ap (λ r. 32 ∷ r) (settled None (Some line_end) rest refl refl)

-- a reader that starts with nothing gives the text of the tokens
pub starts_here : (value : UnfoldedValue) (tokens : List Token) → string_bytes value.text ≡ [] → value.held ≡ held.Nothing → shown_with value tokens ≡ shown_tokens tokens
starts_here value tokens e h = ap (λ t. shown_of t value.held tokens) e ∙ ap (λ h. shown_of [] h tokens) h

-- and what is held back at the end is never shown
pub ends_here : (value : UnfoldedValue) → shown_with value [] ≡ string_bytes value.text
ends_here value = ap (λ r. string_bytes value.text ++ r) (go value.held) ∙ append-nil (string_bytes value.text)
  where
    go : (h : Held) → shown_held h [] ≡ []
    go held.Nothing = refl
    go held.Word = refl
    go (held.Whitespace gap) = refl
    go (held.LineEnd gap) = refl

-- Under the charsets that are known.
module _ (known : Charsets) where
  -- a text outside all words is shown as it is
  pub token_of-outside : (line : List ℕ) (s v : ℕ) → token_of known line (outside_range line s v) ≡ outside_token (slice_range line s v)
  token_of-outside line s v = go (is_all_whitespace (slice_range line s v))
    where
      go : (t : Bool) → ◌≡◌ {A = Token}
          (record { kind = cond t whitespace plain_text; shown = token_text known (cond t whitespace plain_text) line s v })
          (record { kind = cond t whitespace plain_text; shown = slice_range line s v })
      go true = refl
      go false = refl

  -- ---- a line, group by group

  -- the tokens of the line are those up to s, and then those of any ranges that fit the rest of it
  abbrev pub Completes : List ℕ → ℕ → UnfoldedValue → UnfoldedValue → Type 0
  Completes line s before value =
      (ranges : List TokenRange) → AreTokensFrom known line s ranges → (rest : List Token)
      → shown_with before (line_tokens known line ++ rest) ≡ shown_with value (map (token_of known line) ranges ++ rest)

  pub Completes_first : (line : List ℕ) (before : UnfoldedValue) → Completes line 0 before before
  Completes_first line before ranges fits rest =
      sym (ap (λ rs. shown_with before (map (token_of known line) rs ++ rest)) (token_ranges_only known line ranges fits))

  pub Completes_next : (line : List ℕ) (s t : ℕ) (group : List TokenRange) (before value new : UnfoldedValue) → IsTokenGroup known line s group (Some t)
      → Shows value (map (token_of known line) group) new → Completes line s before value → Completes line t before new
  Completes_next line s t group before value new g shows all ranges fits rest =
      let tokens : List TokenRange → List Token = map (token_of known line) in
      all (group ++ ranges) (next_group g fits refl) rest
      ∙ ap (λ ts. shown_with value (ts ++ rest)) (map-append (token_of known line) group ranges)
      ∙ ap (shown_with value) (append_assoc (tokens group) (tokens ranges) rest)
      ∙ shows (tokens ranges ++ rest)

  pub Completes_last : (line : List ℕ) (s : ℕ) (group : List TokenRange) (before value new : UnfoldedValue) → IsTokenGroup known line s group None
      → Shows value (map (token_of known line) group) new → Completes line s before value → Shows before (line_tokens known line) new
  Completes_last line s group before value new g shows all rest = all group (last_group g) rest ∙ shows rest

  -- a `=?` after a character that is not a boundary
  pub step_no_boundary : (line : List ℕ) (s v : ℕ) (before value new : UnfoldedValue) (bytes : List ℕ) → opening line s ≡ v → v ≢ length line
      → boundary_before line v ≡ false → bytes ≡ slice_range line s (v + 2) → Shows value (record { kind = plain_text; shown = bytes } ∷ []) new
      → Completes line s before value → Completes line (v + 2) before new
  step_no_boundary line s v before value new bytes at some out b shows all =
      Completes_next line s (v + 2) (text_range s (v + 2) ∷ []) before value new (no_boundary at some out)
      (Shows-at value new _ _ (ap (λ b. record { kind = plain_text; shown = b } ∷ []) b) shows) all

  -- two tokens, the first of which is outside all words
  two_tokens : (line : List ℕ) (s v : ℕ) (value middle new : UnfoldedValue) (first second : Token) (front : List ℕ) (range : TokenRange)
      → first ≡ outside_token front → front ≡ slice_range line s v → second ≡ token_of known line range
      → Shows value (first ∷ []) middle → Shows middle (second ∷ []) new
      → Shows value (map (token_of known line) (outside_range line s v ∷ range ∷ [])) new
  two_tokens line s v value middle new first second front range p f q h i =
      Shows-at value new _ _
      (ap (λ t. t ∷ second ∷ []) (p ∙ ap outside_token f ∙ sym (token_of-outside line s v))
      ∙ ap (λ t. token_of known line (outside_range line s v) ∷ t ∷ []) q)
      (Shows-two value middle new first second h i)

  -- a `=?` that no `?=` follows
  pub step_no_closing : (line : List ℕ) (s v : ℕ) (before value middle new : UnfoldedValue) (first : Token) (front bytes : List ℕ)
      → opening line s ≡ v → v ≢ length line → boundary_before line v ≡ true → closing line (v + 2) ≡ length line
      → first ≡ outside_token front → front ≡ slice_range line s v → bytes ≡ slice_range line v (v + 2)
      → Shows value (first ∷ []) middle → Shows middle (record { kind = plain_text; shown = bytes } ∷ []) new
      → Completes line s before value → Completes line (v + 2) before new
  step_no_closing line s v before value middle new first front bytes at some beside close p f b h i all =
      Completes_next line s (v + 2) (outside_range line s v ∷ text_range v (v + 2) ∷ []) before value new (no_closing at some beside close)
      (two_tokens line s v value middle new first _ front (text_range v (v + 2)) p f (ap (λ b. record { kind = plain_text; shown = b }) b) h i) all

  -- a word that decodes
  pub step_decoded : (line : List ℕ) (s v e : ℕ) (before value middle new : UnfoldedValue) (first : Token) (front inner shown : List ℕ)
      → opening line s ≡ v → v ≢ length line → boundary_before line v ≡ true → closing line (v + 2) ≡ e → e ≢ length line
      → first ≡ outside_token front → front ≡ slice_range line s v → inner ≡ slice_range line (v + 2) e → word_text known inner ≡ Some shown
      → Shows value (first ∷ []) middle → Shows middle (record { kind = decoded_word; shown = shown } ∷ []) new
      → Completes line s before value → Completes line (e + 2) before new
  step_decoded line s v e before value middle new first front inner shown at some beside close more p f i w h k all =
      let text : word_text known (inside line v e) ≡ Some shown = ap (word_text known) (sym i) ∙ w in
      let end : e + 2 - 2 ≡ e = omega arith in
      Completes_next line s (e + 2) (outside_range line s v ∷ word_range v e ∷ []) before value new (decodes at some beside close more (ap is_some text))
      (two_tokens line s v value middle new first _ front (word_range v e) p f
      (sym (ap (λ n. record { kind = decoded_word; shown = unwrap_or (word_text known (inside line v n)) [] }) end
      ∙ ap (λ o. record { kind = decoded_word; shown = unwrap_or o [] }) text)) h k) all

  -- a word that does not decode
  pub step_stays : (line : List ℕ) (s v e : ℕ) (before value middle new : UnfoldedValue) (first : Token) (front inner bytes : List ℕ)
      → opening line s ≡ v → v ≢ length line → boundary_before line v ≡ true → closing line (v + 2) ≡ e → e ≢ length line
      → first ≡ outside_token front → front ≡ slice_range line s v → inner ≡ slice_range line (v + 2) e → word_text known inner ≡ None
      → bytes ≡ slice_range line v (e + 2)
      → Shows value (first ∷ []) middle → Shows middle (record { kind = plain_text; shown = bytes } ∷ []) new
      → Completes line s before value → Completes line (e + 2) before new
  step_stays line s v e before value middle new first front inner bytes at some beside close more p f i w b h k all =
      Completes_next line s (e + 2) (outside_range line s v ∷ text_range v (e + 2) ∷ []) before value new
      (stays_text at some beside close more (ap (λ i. is_some (word_text known i)) (sym i) ∙ ap is_some w))
      (two_tokens line s v value middle new first _ front (text_range v (e + 2)) p f (ap (λ b. record { kind = plain_text; shown = b }) b) h k) all

  -- no `=?` is left
  pub step_last : (line : List ℕ) (s : ℕ) (before value new : UnfoldedValue) (first : Token) (front : List ℕ) → opening line s ≡ length line
      → first ≡ outside_token front → front ≡ slice_range line s (length line) → Shows value (first ∷ []) new
      → Completes line s before value → Shows before (line_tokens known line) new
  step_last line s before value new first front none p f h all =
      Completes_last line s (outside_range line s (length line) ∷ []) before value new (no_opening none)
      (Shows-at value new _ _ (ap (λ t. t ∷ []) (p ∙ ap outside_token f ∙ sym (token_of-outside line s (length line)))) h) all

-- the tokens that are appended
pub ruleset pushes = (on_push, takes_text, takes_word, takes_whitespace)

-- the end of a line
pub ruleset line_ends = (holds_line_end, holds_whitespace_line_end, takes_line_end)
