-- Lemmas on texts whose paragraphs flow over lines.
use Rattle.std.proofs.Common.{◌≡◌, ◌≢◌, ℕ, suc, ◌+◌, ◌<◌, Bool, true, false, cond, eqb, Bor, List, [], ◌∷◌, ◌++◌, Option, Some, None, length, take, drop, map, refl, sym, ap, ◌∙◌, arith, append_assoc, inl, inr}
use Rattle.std.specs.Prelude.{flat_map, not, ◌-◌, ◌==◌}
use Rattle.std.specs.List.{after_first, before_first, position_or_len}
use Rattle.std.specs.Option.{MatchOption, unwrap_or}
use Rattle.std.proofs.lemmas.Bool.{cases_Bool, cond-true, cond-false, eqb-true, eq-eqb, false≢true}
use Rattle.std.proofs.lemmas.List.{append-nil}
use Rattle.mail_data.specs.Flowed.{Line, Paragraph, between, ends_in, continues, last_ending, line_of, line_with, marks, paragraph_text, paragraphs, pieces, quote_depth, shown, unflowed, unstuffed, with_front, with_line, without_last, without_space}

-- ---- the ends of a text

pub unstuffed-none : (text : List ℕ) → ((rest : List ℕ) → text ≢ 32 ∷ rest) → text ≡ unstuffed text
unstuffed-none [] h = refl
unstuffed-none (b ∷ rest) h = elim (cases_Bool (b == 32)) [
  | inl e ↦ absurd (h rest (ap (λ (x : ℕ). x ∷ rest) (eqb-true b 32 e)))
  | inr n ↦ sym (cond-false (b == 32) rest (b ∷ rest) n)
]

pub unstuffed-either : (text : Bor (List ℕ)) (r : Option (Bor (List ℕ)))
    → MatchOption r ((rest : List ℕ) → text.now ≢ 32 ∷ rest) (λ x. text.now ≡ 32 ∷ x.now) → (unwrap_or r text).now ≡ unstuffed text.now
unstuffed-either text None h = unstuffed-none text.now h
unstuffed-either text (Some x) h = sym (ap unstuffed h)

pub ends-last : (c : ℕ) (front text : List ℕ) → text ≡ front ++ c ∷ [] → ends_in c text ≡ true
ends-last c front text e = ap (ends_in c) e ∙ go front
  where
    go : (front : List ℕ) → ends_in c (front ++ c ∷ []) ≡ true
    go [] = eq-eqb c c refl
    go (x ∷ []) = eq-eqb c c refl
    go (x ∷ y ∷ front) = go (y ∷ front)

pub without_last-is : (c : ℕ) (front text : List ℕ) → text ≡ front ++ c ∷ [] → front ≡ without_last text
without_last-is c front text e = sym (ap without_last e ∙ go front)
  where
    go : (front : List ℕ) → without_last (front ++ c ∷ []) ≡ front
    go [] = refl
    go (x ∷ []) = refl
    go (x ∷ y ∷ front) = ap (λ (l : List ℕ). x ∷ l) (go (y ∷ front))

pub ends-none : (c : ℕ) (text : List ℕ) → ((front : List ℕ) → text ≢ front ++ c ∷ []) → ends_in c text ≡ false
ends-none c [] h = refl
ends-none c (x ∷ []) h = elim (cases_Bool (x == c)) [
  | inl e ↦ absurd (h [] (ap (λ (b : ℕ). b ∷ []) (eqb-true x c e)))
  | inr n ↦ n
]
ends-none c (x ∷ d ∷ rest) h = ends-none c (d ∷ rest) (λ front e. h (x ∷ front) (ap (λ (l : List ℕ). x ∷ l) e))

pub without_space-some : (text front : List ℕ) → text ≡ front ++ 32 ∷ [] → front ≡ without_space text
without_space-some text front e =
    without_last-is 32 front text e ∙ sym (cond-true (ends_in 32 text) (without_last text) text (ends-last 32 front text e))

pub without_space-none : (text : List ℕ) → ((front : List ℕ) → text ≢ front ++ 32 ∷ []) → text ≡ without_space text
without_space-none text h = sym (cond-false (ends_in 32 text) (without_last text) text (ends-none 32 text h))

pub without_space-either : (text : Bor (List ℕ)) (r : Option (Bor (List ℕ)))
    → MatchOption r ((front : List ℕ) → text.now ≢ front ++ 32 ∷ []) (λ x. text.now ≡ x.now ++ 32 ∷ []) → (unwrap_or r text).now ≡ without_space text.now
without_space-either text None h = without_space-none text.now h
without_space-either text (Some x) h = without_space-some text.now x.now h

-- whether a text ends in a byte, as it was decided
pub ends-decided : (c : ℕ) (text : List ℕ) (r : Bool)
    → (r ≡ true → text ≡ take (length text - 1) text ++ c ∷ []) × ((front : List ℕ) → text ≡ front ++ c ∷ [] → r ≡ true) → r ≡ ends_in c text
ends-decided c text true h = sym (ends-last c (take (length text - 1) text) text (h.0 refl))
ends-decided c text false h = sym (ends-none c text (λ front e. false≢true (h.1 front e)))

-- ---- quote marks

pub depth-none : (text : List ℕ) → ((rest : List ℕ) → text ≢ 62 ∷ rest) → quote_depth text ≡ 0
depth-none [] h = refl
depth-none (b ∷ rest) h = elim (cases_Bool (b == 62)) [
  | inl e ↦ absurd (h rest (ap (λ (x : ℕ). x ∷ rest) (eqb-true b 62 e)))
  | inr n ↦ cond-false (b == 62) (1 + quote_depth rest) 0 n
]

pub marks-depth : (whole rest : List ℕ) (depth : ℕ) → depth + quote_depth rest ≡ quote_depth whole → quote_depth rest ≡ 0 → depth ≡ quote_depth whole
marks-depth whole rest depth count none = omega (arith, count, none)

-- ---- the lines of a text

-- the LF of a text
abbrev is_feed : ℕ → Bool
is_feed b = eqb b 10

feed-first : (b : ℕ) (rest : List ℕ) → eqb b 10 ≡ true → position_or_len is_feed (b ∷ rest) ≡ 0
feed-first b rest e = ap (λ (t : Bool). cond (not t) (1 + position_or_len is_feed rest) 0) e

feed-later : (b : ℕ) (rest : List ℕ) → eqb b 10 ≡ false → position_or_len is_feed (b ∷ rest) ≡ suc (position_or_len is_feed rest)
feed-later b rest n =
    let one : 1 + position_or_len is_feed rest ≡ suc (position_or_len is_feed rest) = omega arith in
    ap (λ (t : Bool). cond (not t) (1 + position_or_len is_feed rest) 0) n ∙ one

pieces-none : (text : List ℕ) → 0 < length text → position_or_len is_feed text ≡ length text → pieces text ≡ (text, []) ∷ []
pieces-none [] some none = absurd (omega arith)
pieces-none (b ∷ rest) some none = elim (cases_Bool (eqb b 10)) [
  | inl e ↦ let at = feed-first b rest e in absurd (omega (arith, at, none))
  | inr n ↦
      let at = feed-later b rest n in
      cond-false (eqb b 10) (([], b ∷ []) ∷ pieces rest) (with_front b (pieces rest)) n ∙ front b rest (λ more. pieces-none rest more (omega (arith, at, none)))
]
  where
    front : (b : ℕ) (rest : List ℕ) → (0 < length rest → pieces rest ≡ (rest, []) ∷ []) → with_front b (pieces rest) ≡ (b ∷ rest, []) ∷ []
    front b [] later = refl
    front b (c ∷ rest) later = ap (with_front b) (later (omega arith))

pieces-some : (text : List ℕ) → position_or_len is_feed text < length text
    → pieces text ≡ (before_first is_feed text, 10 ∷ []) ∷ pieces (after_first is_feed text)
pieces-some [] low = absurd (omega arith)
pieces-some (b ∷ rest) low = elim (cases_Bool (eqb b 10)) [
  | inl e ↦
      let at = feed-first b rest e in
      let next : position_or_len is_feed (b ∷ rest) + 1 ≡ 1 = omega (arith, at) in
      cond-true (eqb b 10) (([], b ∷ []) ∷ pieces rest) (with_front b (pieces rest)) e
      ∙ ap (λ (x : ℕ). ([], x ∷ []) ∷ pieces rest) (eqb-true b 10 e)
      ∙ sym (ap (λ (n : ℕ). (take n (b ∷ rest), 10 ∷ []) ∷ pieces (after_first is_feed (b ∷ rest))) at
      ∙ ap (λ (n : ℕ). ([], 10 ∷ []) ∷ pieces (drop n (b ∷ rest))) next)
  | inr n ↦
      let at = feed-later b rest n in
      let next : position_or_len is_feed (b ∷ rest) + 1 ≡ suc (position_or_len is_feed rest + 1) = omega (arith, at) in
      cond-false (eqb b 10) (([], b ∷ []) ∷ pieces rest) (with_front b (pieces rest)) n
      ∙ ap (with_front b) (pieces-some rest (omega (arith, at, low)))
      ∙ sym (ap (λ (n : ℕ). (take n (b ∷ rest), 10 ∷ []) ∷ pieces (after_first is_feed (b ∷ rest))) at
      ∙ ap (λ (n : ℕ). (b ∷ before_first is_feed rest, 10 ∷ []) ∷ pieces (drop n (b ∷ rest))) next)
]

pub cut-none : (text : List ℕ) (first : Line) → 0 < length text → position_or_len is_feed text ≡ length text → first ≡ line_with text []
    → map line_of (pieces text) ≡ first ∷ []
cut-none text first some none is = ap (map line_of) (pieces-none text some none) ∙ ap (λ (l : Line). l ∷ []) (sym is)

pub cut-some : (text line rest : List ℕ) (first : Line) → position_or_len is_feed text < length text → line ≡ before_first is_feed text
    → rest ≡ after_first is_feed text → first ≡ line_of (line, 10 ∷ []) → map line_of (pieces text) ≡ first ∷ map line_of (pieces rest)
cut-some text line rest first low front after is =
    ap (map line_of) (pieces-some text low) ∙ ap (λ (t : List ℕ). line_of (t, 10 ∷ []) ∷ map line_of (pieces (after_first is_feed text))) (sym front)
    ∙ ap (λ (r : List ℕ). line_of (line, 10 ∷ []) ∷ map line_of (pieces r)) (sym after) ∙ ap (λ (l : Line). l ∷ map line_of (pieces rest)) (sym is)

-- the line before a LF, with a CR at its end and without one
pub line-return : (line front : List ℕ) → line ≡ front ++ 13 ∷ [] → line_with front (13 ∷ 10 ∷ []) ≡ line_of (line, 10 ∷ [])
line-return line front ends =
    ap (λ (t : List ℕ). line_with t (13 ∷ 10 ∷ [])) (without_last-is 13 front line ends)
    ∙ sym (cond-true (ends_in 13 line) (line_with (without_last line) (13 ∷ 10 ∷ [])) (line_with line (10 ∷ [])) (ends-last 13 front line ends))

pub line-feed : (line : List ℕ) → ((front : List ℕ) → line ≢ front ++ 13 ∷ []) → line_with line (10 ∷ []) ≡ line_of (line, 10 ∷ [])
line-feed line ends = sym (cond-false (ends_in 13 line) (line_with (without_last line) (13 ∷ 10 ∷ [])) (line_with line (10 ∷ [])) (ends-none 13 line ends))

-- ---- paragraphs

-- the text still to be written of lines after one whose content was written
abbrev pub text_after : Bool → Line → List Line → List ℕ
text_after deletes line [] = line.ending
text_after deletes line (next ∷ lines) = between line next ++ (shown deletes next ++ text_after deletes next lines)

-- the paragraphs of lines with one at the front: that one and those in which it continues, and then the others
opened : (deletes : Bool) (line : Line) (lines : List Line)
    → (others : List Line) × (ps : List Paragraph) × (paragraphs (line ∷ lines) ≡ record { first = line; others = others } ∷ ps)
    × (text_after deletes line lines ≡ flat_map (shown deletes) others ++ (last_ending line others ++ flat_map (paragraph_text deletes) ps))
opened deletes line [] = ([], [], refl, sym (append-nil line.ending))
opened deletes line (next ∷ lines) =
    let later = opened deletes next lines in go later.0 later.1 later.2 later.3 (continues line next) refl
  where
    go : (others : List Line) (ps : List Paragraph) → paragraphs (next ∷ lines) ≡ record { first = next; others = others } ∷ ps
        → text_after deletes next lines ≡ flat_map (shown deletes) others ++ (last_ending next others ++ flat_map (paragraph_text deletes) ps)
        → (t : Bool) → continues line next ≡ t
        → (others : List Line) × (ps : List Paragraph) × (paragraphs (line ∷ next ∷ lines) ≡ record { first = line; others = others } ∷ ps)
        × (text_after deletes line (next ∷ lines) ≡ flat_map (shown deletes) others ++ (last_ending line others ++ flat_map (paragraph_text deletes) ps))
    go others ps is text true e = (
      next ∷ others,
      ps,
      ap (with_line line) is ∙ cond-true (continues line next) _ _ e,
      ap (λ (t : List ℕ). t ++ (shown deletes next ++ text_after deletes next lines)) (cond-true (continues line next) [] (line.ending ++ marks next) e)
          ∙ ap (λ (t : List ℕ). shown deletes next ++ t) text
          ∙ sym (append_assoc (shown deletes next) (flat_map (shown deletes) others) (last_ending next others ++ flat_map (paragraph_text deletes) ps)),
    )
    go others ps is text false e =
        let s = shown deletes next in
        let m = flat_map (shown deletes) others in
        let l = last_ending next others in
        let r = flat_map (paragraph_text deletes) ps in (
          [],
          record { first = next; others = others } ∷ ps,
          ap (with_line line) is ∙ cond-false (continues line next) _ _ e,
          ap (λ (t : List ℕ). t ++ (s ++ text_after deletes next lines)) (cond-false (continues line next) [] (line.ending ++ marks next) e)
              ∙ append_assoc line.ending (marks next) (s ++ text_after deletes next lines)
              ∙ ap (λ (t : List ℕ). line.ending ++ (marks next ++ t))
              (ap (λ (t : List ℕ). s ++ t) text ∙ sym (append_assoc s m (l ++ r)) ∙ sym (append_assoc (s ++ m) l r))
              ∙ ap (λ (t : List ℕ). line.ending ++ t) (sym (append_assoc (marks next) ((s ++ m) ++ l) r)),
        )

-- a line at the front, and the lines after it
front-text : (deletes : Bool) (line : Line) (lines : List Line)
    → marks line ++ (shown deletes line ++ text_after deletes line lines) ≡ flat_map (paragraph_text deletes) (paragraphs (line ∷ lines))
front-text deletes line lines =
    let all = opened deletes line lines in
    let s = shown deletes line in
    let m = flat_map (shown deletes) all.0 in
    let l = last_ending line all.0 in
    let r = flat_map (paragraph_text deletes) all.1 in
    ap (λ (t : List ℕ). marks line ++ t)
    (ap (λ (t : List ℕ). s ++ t) all.3 ∙ sym (append_assoc s m (l ++ r)) ∙ sym (append_assoc (s ++ m) l r))
    ∙ sym (append_assoc (marks line) ((s ++ m) ++ l) r) ∙ ap (flat_map (paragraph_text deletes)) (sym all.2)

-- a line without anything
abbrev pub nothing : Line
nothing = record { depth = 0; content = []; ending = [] }

all-text : (deletes : Bool) (lines : List Line) → text_after deletes nothing lines ≡ flat_map (paragraph_text deletes) (paragraphs lines)
all-text deletes [] = refl
all-text deletes (line ∷ lines) = front-text deletes line lines

pub unflowed-start : (deletes : Bool) (text joined : List ℕ) → joined ≡ [] → joined ++ text_after deletes nothing (map line_of (pieces text)) ≡ unflowed deletes text
unfolding unflowed
unflowed-start deletes text joined none =
    ap (λ (t : List ℕ). t ++ text_after deletes nothing (map line_of (pieces text))) none ∙ all-text deletes (map line_of (pieces text))
