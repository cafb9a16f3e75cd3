-- Plain text is its own text, and hidden contents are no text.
use Rattle.std.proofs.Common.{◌≡◌, ◌∙◌, ℕ, zero, suc, ◌-◌, ◌≤◌, Bool, true, false, cond, List, [], ◌∷◌, ◌++◌, take, length, refl, sym, ap, arith, inl, inr, append-nil, append_assoc, eqb-true, IsUtf8}
use Rattle.std.specs.Prelude.{◌==◌, ◌||◌, ◌&&◌, not}
use Rattle.std.specs.List.{fold}
use Rattle.std.specs.Char.{is_ascii_whitespace}
use Rattle.std.specs.Str.Lossy.{utf8_lossy}
use Rattle.std.proofs.lemmas.Bool.{and_parts, cases_Bool}
use Rattle.std.proofs.lemmas.Str.{utf8_lossy-IsUtf8}
use Rattle.mail_codec.specs.Places.{begins, first_place}
use Rattle.mail_html.specs.Html.{Step, front_step, literal_step, state_after, text_length, trimmed}
use Rattle.mail_html.specs.Layout.{State, Written, wider, with_collapsed, with_gap, with_text}
use Rattle.mail_html.specs.Links.{Linked, add_link, add_target, linked_after, target_at, with_notes}
use Rattle.mail_html.specs.Plain.{begins_markup, is_plain, is_plain_after}
use Rattle.mail_html.specs.declared.layout.Gap.{Gap}
use Rattle.mail_html.specs.declared.layout.Gap.TheVariants.{Nothing, Space}
use Rattle.mail_html.specs.Text.{html_text}
use Rattle.mail_html.specs.declared.links.Links.{Links}
use Rattle.mail_html.specs.declared.links.Links.TheVariants.{Omitted, Footnotes}
use Rattle.mail_html.specs.declared.references.References.{References}
use Rattle.mail_html.proofs.lemmas.Html.{front_text, text_of}
use Rattle.mail_html.proofs.lemmas.Links.{no_tag}

-- a space is a gap, and any other byte of plain text is written
space_step : (made : List ℕ) (gap : Gap) (b : ℕ) → b ≡ 32 → with_collapsed (made, gap) b ≡ (made, wider gap Space)
space_step made gap b is = rw is refl

other_step : (made : List ℕ) (gap : Gap) (b : ℕ) → not (is_ascii_whitespace b) ≡ true → with_collapsed (made, gap) b ≡ (with_gap made gap ++ (b ∷ []), Nothing)
other_step made gap b is = ap (λ t. cond t (made, wider gap Space) (with_gap made gap ++ (b ∷ []), Nothing)) (not_true (is_ascii_whitespace b) is)
  where
    not_true : (t : Bool) → not t ≡ true → t ≡ false
    not_true true h = sym h
    not_true false h = refl

false_true : {A : Type 0} → false ≡ true → A
false_true h = absurd (cc)

-- the parts of plain text
parts : (is_spaced : Bool) (b : ℕ) (rest : List ℕ) → (b == 32) ≡ false → is_plain_after is_spaced (b ∷ rest) ≡ true
    → (not (is_ascii_whitespace b) ≡ true) × ((not (begins_markup b) ≡ true) × (is_plain_after false rest ≡ true))
parts is_spaced b rest other h =
    let k : (not (is_ascii_whitespace b) && (not (begins_markup b) && is_plain_after false rest)) ≡ true =
    sym (ap (λ t. cond t (not is_spaced && is_plain_after true rest) (not (is_ascii_whitespace b) && (not (begins_markup b) && is_plain_after false rest))) other) ∙ h in
    let p = and_parts (not (is_ascii_whitespace b)) _ k in
    (p.0, and_parts (not (begins_markup b)) _ p.1)

spaced_parts : (is_spaced : Bool) (b : ℕ) (rest : List ℕ) → (b == 32) ≡ true → is_plain_after is_spaced (b ∷ rest) ≡ true → (not is_spaced ≡ true) × (is_plain_after true rest ≡ true)
spaced_parts is_spaced b rest is h =
    and_parts (not is_spaced) _
    (sym (ap (λ t. cond t (not is_spaced && is_plain_after true rest) (not (is_ascii_whitespace b) && (not (begins_markup b) && is_plain_after false rest))) is) ∙ h)

-- what is written of it after some text
plain_on : (text : List ℕ) (is_spaced : Bool) (first : ℕ) (made : List ℕ) → is_plain_after is_spaced text ≡ true
    → fold with_collapsed (first ∷ made, cond is_spaced Space Nothing) text ≡ ((first ∷ made) ++ cond is_spaced (32 ∷ text) text, Nothing)
plain_on [] true first made h = false_true h
plain_on [] false first made h = ap (λ (t : List ℕ). (t, Nothing)) (sym (append-nil (first ∷ made)))
plain_on (b ∷ rest) true first made h = elim (cases_Bool (b == 32)) [
  | inl e ↦ false_true ((spaced_parts true b rest e h).0)
  | inr e ↦
      let p = parts true b rest e h in
      ap (λ (w : Written). fold with_collapsed w rest) (other_step (first ∷ made) Space b p.0)
      ∙ plain_on rest false first ((made ++ (32 ∷ [])) ++ (b ∷ [])) p.1.1
      ∙ ap (λ (t : List ℕ). (first ∷ t, Nothing)) (append_assoc (made ++ (32 ∷ [])) (b ∷ []) rest ∙ append_assoc made (32 ∷ []) (b ∷ rest))
]
plain_on (b ∷ rest) false first made h = elim (cases_Bool (b == 32)) [
  | inl e ↦
      let p = spaced_parts false b rest e h in
      ap (λ (w : Written). fold with_collapsed w rest) (space_step (first ∷ made) Nothing b (eqb-true _ _ e))
      ∙ plain_on rest true first made p.1
      ∙ ap (λ (n : ℕ). ((first ∷ made) ++ (n ∷ rest), Nothing)) (sym (eqb-true _ _ e))
  | inr e ↦
      let p = parts false b rest e h in
      ap (λ (w : Written). fold with_collapsed w rest) (other_step (first ∷ made) Nothing b p.0)
      ∙ ap (λ (t : List ℕ). fold with_collapsed (t ++ (b ∷ []), Nothing) rest) (append-nil (first ∷ made))
      ∙ plain_on rest false first (made ++ (b ∷ [])) p.1.1
      ∙ ap (λ (t : List ℕ). (first ∷ t, Nothing)) (append_assoc made (b ∷ []) rest)
]

-- no byte of it begins markup
no_markup : (text : List ℕ) (is_spaced : Bool) → is_plain_after is_spaced text ≡ true → first_place (begins begins_markup) text ≡ length text
no_markup [] is_spaced h = refl
no_markup (b ∷ rest) is_spaced h = elim (cases_Bool (b == 32)) [
  | inl e ↦
      let p = spaced_parts is_spaced b rest e h in
      let is = eqb-true _ _ e in
      let none : begins_markup b ≡ false = rw is refl in
      ap (λ t. cond t 0 (suc (first_place (begins begins_markup) rest))) none ∙ ap suc (no_markup rest true p.1)
  | inr e ↦
      let p = parts is_spaced b rest e h in
      ap (λ t. cond t 0 (suc (first_place (begins begins_markup) rest))) (not_true (begins_markup b) p.1.0) ∙ ap suc (no_markup rest false p.1.1)
]
  where
    not_true : (t : Bool) → not t ≡ true → t ≡ false
    not_true true h = sym h
    not_true false h = refl

-- nothing is left
nothing_left : (n : ℕ) (refs : References) (s : State) (bs : List ℕ) → length bs ≤ n → state_after n refs s bs ≡ s
nothing_left n refs s [] h = refl
nothing_left zero refs s (b ∷ bs) h = absurd (omega arith)
nothing_left (suc n) refs s (b ∷ bs) h = nothing_left n refs s bs (omega arith)

all_taken : (bs : List ℕ) → take (length bs) bs ≡ bs
all_taken [] = refl
all_taken (b ∷ bs) = ap (λ (t : List ℕ). b ∷ t) (all_taken bs)

-- the start of it
plain_first : (b : ℕ) (rest : List ℕ) → is_plain_after true (b ∷ rest) ≡ true
    → (begins_markup b ≡ false) × (fold with_collapsed ([], Nothing) (b ∷ rest) ≡ (b ∷ rest, Nothing))
plain_first b rest h = elim (cases_Bool (b == 32)) [
  | inl e ↦ false_true ((spaced_parts true b rest e h).0)
  | inr e ↦
      let p = parts true b rest e h in (
        not_true (begins_markup b) p.1.0,
        ap (λ (w : Written). fold with_collapsed w rest) (other_step [] Nothing b p.0) ∙ plain_on rest false b [] p.1.1,
      )
]
  where
    not_true : (t : Bool) → not t ≡ true → t ≡ false
    not_true true h = sym h
    not_true false h = refl

neither : (b : ℕ) → begins_markup b ≡ false → ((b == 60) ≡ false) × ((b == 38) ≡ false)
neither b h = by_cases (b == 60) (b == 38) h
  where
    by_cases : (x y : Bool) → (x || y) ≡ false → (x ≡ false) × (y ≡ false)
    by_cases true y h = (h, absurd (cc))
    by_cases false y h = (refl, h)

-- what is written of it, and of its links, which it does not have
nothing_linked : (n : ℕ) (refs : References) (l : Linked) (bs : List ℕ) → length bs ≤ n → linked_after n refs l bs ≡ l
nothing_linked n refs l [] h = refl
nothing_linked zero refs l (b ∷ bs) h = absurd (omega arith)
nothing_linked (suc n) refs l (b ∷ bs) h = nothing_linked n refs l bs (omega arith)

no_target : (refs : References) (b : ℕ) (rest : List ℕ) (l : Linked) → (b == 60) ≡ false → add_link (target_at refs (b ∷ rest)) l ≡ l
unfolding add_link
no_target refs b rest l other = ap (λ (t : List ℕ). add_target (trimmed t) l) (sym (no_tag refs (b ∷ rest) other))

module _ (refs : References) (b : ℕ) (rest : List ℕ) (h : is_plain (b ∷ rest) ≡ true) where
  start : State
  start = ([], Nothing, false)

  front : ((b ∷ rest, Nothing, false), length (b ∷ rest)) ≡ front_step refs start (b ∷ rest)
  unfolding with_text start
  front =
      let p = plain_first b rest h in
      let n = neither b p.0 in
      let all : text_length (b ∷ rest) ≡ length (b ∷ rest) = no_markup (b ∷ rest) true h in
      front_text refs start (b ∷ rest) _ n.0 n.1
      (text_of (b ∷ rest) start _ (length (b ∷ rest)) (sym all)
      (ap (λ (w : Written). ((w.0, w.1, false), length (b ∷ rest))) (sym p.1)
      ∙ ap (λ (t : List ℕ). literal_step t start) (sym (all_taken (b ∷ rest)))))

  omitted : state_after 0 refs ([], Nothing, false) (b ∷ rest) ≡ (b ∷ rest, Nothing, false)
  unfolding start
  omitted = ap (λ (s : Step). state_after (s.1 - 1) refs s.0 rest) (sym front) ∙ nothing_left (length (b ∷ rest) - 1) refs (b ∷ rest, Nothing, false) rest (omega arith)

  linked : linked_after 0 refs (([], Nothing, false), [], 0) (b ∷ rest) ≡ ((b ∷ rest, Nothing, false), [], 0)
  unfolding start
  linked =
      ap (λ (s : Step). linked_after (s.1 - 1) refs (add_link (target_at refs (b ∷ rest)) (s.0, [], 0)) rest) (sym front)
      ∙ ap (λ (l : Linked). linked_after (length (b ∷ rest) - 1) refs l rest) (no_target refs b rest ((b ∷ rest, Nothing, false), [], 0) (neither b (plain_first b rest h).0).0)
      ∙ nothing_linked (length (b ∷ rest) - 1) refs ((b ∷ rest, Nothing, false), [], 0) rest (omega arith)

pub plain_is : (links : Links) (refs : References) (text : List ℕ) → IsUtf8 text → is_plain text ≡ true → html_text links refs text ≡ text
unfolding html_text
plain_is Omitted refs [] utf8 h = utf8_lossy-IsUtf8 [] utf8
plain_is Footnotes refs [] utf8 h = utf8_lossy-IsUtf8 [] utf8
plain_is Omitted refs (b ∷ rest) utf8 h = ap (λ (s : State). utf8_lossy s.0) (omitted refs b rest h) ∙ utf8_lossy-IsUtf8 (b ∷ rest) utf8
plain_is Footnotes refs (b ∷ rest) utf8 h = ap (λ (l : Linked). utf8_lossy (with_notes l.0.0 l.1)) (linked refs b rest h) ∙ utf8_lossy-IsUtf8 (b ∷ rest) utf8
