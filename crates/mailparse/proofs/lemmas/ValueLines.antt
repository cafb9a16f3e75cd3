-- The tokens of lines, line by line.
use Rattle.std.proofs.Common.{◌≡◌, ◌≢◌, ℕ, true, false, eqb, List, [], ◌∷◌, ◌++◌, length, map, refl, sym, ap, ◌∙◌, arith, append_assoc, length-append}
use Rattle.std.proofs.lemmas.Bool.{ne_eqb, eqb-true, eqb-false}
use Rattle.std.proofs.lemmas.List.{map_push, length-map}
use Rattle.std.proofs.lemmas.Simd.{map-map}
use Rattle.std.specs.Borrow.{Bor}
use Rattle.std.specs.Str.{trim_start}
use Rattle.mail_codec.specs.Charset.{Charsets}
use Rattle.mailparse.specs.Value.{newline, line_tokens, tokens_of_lines}
use Rattle.mailparse.specs.declared.header.unfolded.UnfoldedValue.{UnfoldedValue}
use Rattle.mailparse.specs.private.Unfolded.{Shows}
use Rattle.mailparse.proofs.lemmas.Unfolded.{Shows-append, Shows-at}

pub more_is_some : {A : Type 0} (xs : List A) (x : A) → false ≡ eqb (length (xs ++ x ∷ [])) 0
more_is_some xs x = let len = length-append xs (x ∷ []) in sym (ne_eqb _ _ (λ e. absurd (omega arith)))

-- the lines of an iterator's items, without their leading whitespace
abbrev pub trimmed : List (Bor (List ℕ)) → List (List ℕ)
trimmed items = map (λ line. trim_start line.now) items

pub trimmed_all : (items : List (Bor (List ℕ))) (all : List (List ℕ)) → map (λ line. line.now) items ≡ all → trimmed items ≡ map trim_start all
trimmed_all items all e = sym (map-map trim_start (λ (line : Bor (List ℕ)). line.now) items) ∙ ap (map trim_start) e

module _ (known : Charsets) where
  -- the first line
  tokens_of_first : (lines : List (List ℕ)) (line : List ℕ) → length lines ≡ 0
      → tokens_of_lines known (lines ++ line ∷ []) ≡ tokens_of_lines known lines ++ line_tokens known line
  tokens_of_first [] line h = refl
  tokens_of_first (l ∷ lines) line h = absurd (omega arith)

  -- a line after others
  tokens_of_next : (lines : List (List ℕ)) (line : List ℕ) → length lines ≢ 0
      → tokens_of_lines known (lines ++ line ∷ []) ≡ (tokens_of_lines known lines ++ newline ∷ []) ++ line_tokens known line
  tokens_of_next [] line h = absurd (h refl)
  tokens_of_next (l ∷ []) line h = sym (append_assoc (line_tokens known l) (newline ∷ []) (line_tokens known line))
  tokens_of_next (l ∷ m ∷ lines) line h =
      ap (λ ts. line_tokens known l ++ (newline ∷ ts)) (tokens_of_next (m ∷ lines) line (λ e. absurd (omega arith)))
      ∙ sym (ap (λ ts. ts ++ line_tokens known line) (append_assoc (line_tokens known l) (newline ∷ tokens_of_lines known (m ∷ lines)) (newline ∷ []))
      ∙ append_assoc (line_tokens known l) ((newline ∷ tokens_of_lines known (m ∷ lines)) ++ newline ∷ []) (line_tokens known line))

  pub first_line : (items : List (Bor (List ℕ))) (line : Bor (List ℕ)) (text : List ℕ) (start value new : UnfoldedValue) → eqb (length items) 0 ≡ true
      → Shows start (tokens_of_lines known (trimmed items)) value → text ≡ trim_start line.now → Shows value (line_tokens known text) new
      → Shows start (tokens_of_lines known (trimmed (items ++ line ∷ []))) new
  first_line items line text start value new none b t h =
      let len = length-map items (λ (line : Bor (List ℕ)). trim_start line.now) in
      let zero = eqb-true (length items) 0 none in
      Shows-at start new _ _
      (ap (λ t. tokens_of_lines known (trimmed items) ++ line_tokens known t) t
      ∙ sym (ap (tokens_of_lines known) (map_push (λ (line : Bor (List ℕ)). trim_start line.now) items line)
      ∙ tokens_of_first (trimmed items) (trim_start line.now) (omega arith)))
      (Shows-append start value new _ _ b h)

  pub next_line : (items : List (Bor (List ℕ))) (line : Bor (List ℕ)) (text : List ℕ) (start value middle new : UnfoldedValue) → eqb (length items) 0 ≡ false
      → Shows start (tokens_of_lines known (trimmed items)) value → text ≡ trim_start line.now → Shows value (newline ∷ []) middle
      → Shows middle (line_tokens known text) new
      → Shows start (tokens_of_lines known (trimmed (items ++ line ∷ []))) new
  next_line items line text start value middle new some b t m h =
      let len = length-map items (λ (line : Bor (List ℕ)). trim_start line.now) in
      let more = eqb-false (length items) 0 some in
      Shows-at start new _ _
      (ap (λ t. (tokens_of_lines known (trimmed items) ++ newline ∷ []) ++ line_tokens known t) t
      ∙ sym (ap (tokens_of_lines known) (map_push (λ (line : Bor (List ℕ)). trim_start line.now) items line)
      ∙ tokens_of_next (trimmed items) (trim_start line.now) (λ h. more (omega arith))))
      (Shows-append start middle new _ _ (Shows-append start value middle _ _ b m) h)
