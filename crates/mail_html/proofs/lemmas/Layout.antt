-- Text that is appended, a run or a byte at a time.
use Rattle.std.proofs.Common.{◌≡◌, ◌∙◌, ℕ, suc, ◌<◌, Bool, true, false, cond, List, [], ◌∷◌, ◌++◌, take, drop, length, get_or, refl, sym, ap, arith, inl, inr, append-nil, append_assoc, eqb-true}
use Rattle.std.specs.Prelude.{◌==◌, ◌&&◌, not}
use Rattle.std.specs.List.{fold}
use Rattle.std.specs.Char.{is_ascii_whitespace}
use Rattle.std.proofs.lemmas.Bool.{cases_Bool}
use Rattle.mail_codec.specs.Places.{begins, first_place}
use Rattle.mail_codec.proofs.lemmas.Places.{first_place-here, first_place-past, true_not_false}
use Rattle.mail_html.specs.Layout.{Written, wider, with_collapsed, with_gap, with_kept}
use Rattle.mail_html.specs.private.Runs.{begins_gap}
use Rattle.mail_html.specs.declared.layout.Gap.{Gap}
use Rattle.mail_html.specs.declared.layout.Gap.TheVariants.{Nothing, Space}

-- no gap adds nothing
no_gap : (text : List ℕ) → with_gap text Nothing ≡ text
no_gap [] = refl
no_gap (b ∷ text) = append-nil (b ∷ text)

-- one more byte, by any test of whitespace
step : (ℕ → Bool) → Written → ℕ → Written
step white written byte = cond (white byte) (written.0, wider written.1 Space) (with_gap written.0 written.1 ++ (byte ∷ []), Nothing)

-- what is written after a byte is not empty
snoc_gap : (text : List ℕ) (b : ℕ) → with_gap (text ++ (b ∷ [])) Space ≡ (text ++ (b ∷ [])) ++ (32 ∷ [])
snoc_gap [] b = refl
snoc_gap (t ∷ text) b = refl

-- a gap, by any test of whitespace
gap_by : (ℕ → Bool) → List ℕ → Bool
gap_by white [] = false
gap_by white (b ∷ rest) = white b && not (b == 32 && begins (λ c. not (white c)) rest)

not_white : (v : Bool) → not v ≡ true → v ≡ false
not_white true h = sym h
not_white false h = refl

-- a single space is a space, with another byte after it
both : (u v : Bool) → not (u && v) ≡ false → (u ≡ true) × (v ≡ true)
both true true h = (refl, refl)
both true false h = absurd (cc)
both false v h = absurd (cc)

single : (white : ℕ → Bool) (b : ℕ) (rest : List ℕ) → white b ≡ true → gap_by white (b ∷ rest) ≡ false
    → ((b == 32) ≡ true) × (begins (λ c. not (white c)) rest ≡ true)
unfolding gap_by
single white b rest is h =
    both (b == 32) (begins (λ c. not (white c)) rest) (sym (ap (λ (v : Bool). v && not (b == 32 && begins (λ c. not (white c)) rest)) is) ∙ h)

-- what a run up to the next gap leaves to be written
run_of : (white : ℕ → Bool) (text bs : List ℕ) → Written
run_of white text bs =
    fold (step white) (text ++ take (first_place (gap_by white) bs) bs, Nothing) (drop (first_place (gap_by white) bs) bs)

-- the run ends where a gap begins
at_gap : (white : ℕ → Bool) (text : List ℕ) (b : ℕ) (bs : List ℕ) → gap_by white (b ∷ bs) ≡ true
    → fold (step white) (text, Nothing) (b ∷ bs) ≡ run_of white text (b ∷ bs)
unfolding run_of
at_gap white text b bs g =
    ap (λ (t : List ℕ). fold (step white) (t, Nothing) (b ∷ bs)) (sym (append-nil text))
    ∙ ap (λ (n : ℕ). fold (step white) (text ++ take n (b ∷ bs), Nothing) (drop n (b ∷ bs))) (sym (first_place-here (gap_by white) (b ∷ bs) g))

-- a byte that is no whitespace is of the run
past_other : (white : ℕ → Bool) (text : List ℕ) (b : ℕ) (bs : List ℕ) → white b ≡ false
    → fold (step white) (text ++ (b ∷ []), Nothing) bs ≡ run_of white (text ++ (b ∷ [])) bs
    → fold (step white) (text, Nothing) (b ∷ bs) ≡ run_of white text (b ∷ bs)
unfolding step run_of gap_by
past_other white text b bs e later =
    let n = first_place (gap_by white) bs in
    let one : step white (text, Nothing) b ≡ (text ++ (b ∷ []), Nothing) = rw (e, no_gap text) refl in
    let fails : gap_by white (b ∷ bs) ≡ false = rw e refl in
    ap (λ (w : Written). fold (step white) w bs) one
    ∙ later
    ∙ ap (λ (t : List ℕ). fold (step white) (t, Nothing) (drop n bs)) (append_assoc text (b ∷ []) (take n bs))
    ∙ ap (λ (m : ℕ). fold (step white) (text ++ take m (b ∷ bs), Nothing) (drop m (b ∷ bs))) (sym (first_place-past (gap_by white) b bs fails))

-- so is a single space with the byte after it
past_space : (white : ℕ → Bool) (text : List ℕ) (b c : ℕ) (bs : List ℕ) → with_gap text Space ≡ text ++ (32 ∷ []) → white b ≡ true → b ≡ 32 → white c ≡ false → gap_by white (b ∷ c ∷ bs) ≡ false
    → fold (step white) ((text ++ (32 ∷ [])) ++ (c ∷ []), Nothing) bs ≡ run_of white ((text ++ (32 ∷ [])) ++ (c ∷ [])) bs
    → fold (step white) (text, Nothing) (b ∷ c ∷ bs) ≡ run_of white text (b ∷ c ∷ bs)
unfolding step run_of gap_by
past_space white text b c bs some is space other fails later =
    let n = first_place (gap_by white) bs in
    let one : step white (step white (text, Nothing) b) c ≡ ((text ++ (32 ∷ [])) ++ (c ∷ []), Nothing) = rw (is, other, some) refl in
    let next : gap_by white (c ∷ bs) ≡ false = rw other refl in
    let skip : first_place (gap_by white) (b ∷ c ∷ bs) ≡ suc (suc n) = first_place-past (gap_by white) b (c ∷ bs) fails ∙ ap suc (first_place-past (gap_by white) c bs next) in
    let same : ((text ++ (32 ∷ [])) ++ (c ∷ [])) ++ take n bs ≡ text ++ (b ∷ c ∷ take n bs) =
    append_assoc (text ++ (32 ∷ [])) (c ∷ []) (take n bs) ∙ append_assoc text (32 ∷ []) (c ∷ take n bs) ∙ ap (λ (m : ℕ). text ++ (m ∷ c ∷ take n bs)) (sym space) in
    ap (λ (w : Written). fold (step white) w bs) one
    ∙ later
    ∙ ap (λ (t : List ℕ). fold (step white) (t, Nothing) (drop n bs)) same
    ∙ ap (λ (m : ℕ). fold (step white) (text ++ take m (b ∷ c ∷ bs), Nothing) (drop m (b ∷ c ∷ bs))) (sym skip)

-- a run goes on up to the next gap
run_on : (white : ℕ → Bool) (text bs : List ℕ) → with_gap text Space ≡ text ++ (32 ∷ [])
    → fold (step white) (text, Nothing) bs ≡ run_of white text bs
unfolding run_of
run_on white text [] some = ap (λ (t : List ℕ). (t, Nothing)) (sym (append-nil text))
run_on white text (b ∷ []) some = elim (cases_Bool (white b)) [
  | inl e ↦ elim (cases_Bool (gap_by white (b ∷ []))) [
    | inl g ↦ at_gap white text b [] g
    | inr g ↦ let one = single white b [] e g in absurd (true_not_false one.1 refl)
  ]
  | inr e ↦ past_other white text b [] e (run_on white (text ++ (b ∷ [])) [] (snoc_gap text b))
]
run_on white text (b ∷ c ∷ bs) some = elim (cases_Bool (white b)) [
  | inl e ↦ elim (cases_Bool (gap_by white (b ∷ c ∷ bs))) [
    | inl g ↦ at_gap white text b (c ∷ bs) g
    | inr g ↦
        let one = single white b (c ∷ bs) e g in
        past_space white text b c bs some e (eqb-true _ _ one.0) (not_white (white c) one.1) g (run_on white ((text ++ (32 ∷ [])) ++ (c ∷ [])) bs (snoc_gap (text ++ (32 ∷ [])) c))
  ]
  | inr e ↦ past_other white text b (c ∷ bs) e (run_on white (text ++ (b ∷ [])) (c ∷ bs) (snoc_gap text b))
]

run_first : (white : ℕ → Bool) (text bs : List ℕ) (gap : Gap) (n : ℕ) → 0 < length bs → white (get_or bs 0 0) ≡ false → n ≡ first_place (gap_by white) bs
    → fold (step white) (with_gap text gap ++ take n bs, Nothing) (drop n bs) ≡ fold (step white) (text, gap) bs
unfolding step run_of gap_by
run_first white text [] gap n some other is = absurd (omega arith)
run_first white text (b ∷ bs) gap n some other is =
    let m = first_place (gap_by white) bs in
    let skip : n ≡ suc m = is ∙ rw other refl in
    let one : (with_gap text gap ++ (b ∷ []), Nothing) ≡ step white (text, gap) b = rw other refl in
    ap (λ (k : ℕ). fold (step white) (with_gap text gap ++ take k (b ∷ bs), Nothing) (drop k (b ∷ bs))) skip
    ∙ ap (λ (t : List ℕ). fold (step white) (t, Nothing) (drop m bs)) (sym (append_assoc (with_gap text gap) (b ∷ []) (take m bs)))
    ∙ sym (run_on white (with_gap text gap ++ (b ∷ [])) bs (snoc_gap (with_gap text gap) b))
    ∙ ap (λ (w : Written). fold (step white) w bs) one

run_some : (white : ℕ → Bool) (bs : List ℕ) → 0 < length bs → white (get_or bs 0 0) ≡ false → 0 < first_place (gap_by white) bs
unfolding gap_by
run_some white [] some other = absurd (omega arith)
run_some white (b ∷ bs) some other = let skip : first_place (gap_by white) (b ∷ bs) ≡ suc (first_place (gap_by white) bs) = rw other refl in omega arith

white_first : (white : ℕ → Bool) (text bs : List ℕ) (gap : Gap) → 0 < length bs → white (get_or bs 0 0) ≡ true
    → fold (step white) (text, wider gap Space) (drop 1 bs) ≡ fold (step white) (text, gap) bs
unfolding step
white_first white text [] gap some is = absurd (omega arith)
white_first white text (b ∷ bs) gap some is =
    let one : (text, wider gap Space) ≡ step white (text, gap) b = rw is refl in
    ap (λ (w : Written). fold (step white) w bs) one

-- this test, at ASCII whitespace
same_gap : (bs : List ℕ) → gap_by is_ascii_whitespace bs ≡ begins_gap bs
unfolding gap_by
same_gap [] = refl
same_gap (b ∷ bs) = refl

same_place : (bs : List ℕ) → first_place begins_gap bs ≡ first_place (gap_by is_ascii_whitespace) bs
same_place bs = ap (λ (t : List ℕ → Bool). first_place t bs) {x = begins_gap} {y = gap_by is_ascii_whitespace} (λ i xs. sym (same_gap xs) i)

-- the same for ASCII whitespace
pub run_pushed : (text bs : List ℕ) (gap : Gap) (n : ℕ) → 0 < length bs → is_ascii_whitespace (get_or bs 0 0) ≡ false → n ≡ first_place begins_gap bs
    → fold with_collapsed (with_gap text gap ++ take n bs, Nothing) (drop n bs) ≡ fold with_collapsed (text, gap) bs
unfolding step
run_pushed text bs gap n some other is = run_first is_ascii_whitespace text bs gap n some other (is ∙ same_place bs)

pub run_takes : (bs : List ℕ) (n : ℕ) → 0 < length bs → is_ascii_whitespace (get_or bs 0 0) ≡ false → n ≡ first_place begins_gap bs → 0 < n
run_takes bs n some other is = let h = run_some is_ascii_whitespace bs some other in let same = same_place bs in omega arith

pub white_pushed : (text bs : List ℕ) (gap : Gap) → 0 < length bs → is_ascii_whitespace (get_or bs 0 0) ≡ true
    → fold with_collapsed (text, wider gap Space) (drop 1 bs) ≡ fold with_collapsed (text, gap) bs
unfolding step
white_pushed text bs gap some is = white_first is_ascii_whitespace text bs gap some is

-- one more byte where whitespace is kept, by any test of CR
kept : (ℕ → Bool) → Written → ℕ → Written
kept returns written byte = cond (returns byte) written (with_gap written.0 written.1 ++ (byte ∷ []), Nothing)

-- a kept run goes on up to the next CR
kept_on : (returns : ℕ → Bool) (text bs : List ℕ)
    → fold (kept returns) (text, Nothing) bs ≡ fold (kept returns) (text ++ take (first_place (begins returns) bs) bs, Nothing) (drop (first_place (begins returns) bs) bs)
unfolding kept
kept_on returns text [] = ap (λ (t : List ℕ). (t, Nothing)) (sym (append-nil text))
kept_on returns text (b ∷ bs) = elim (cases_Bool (returns b)) [
  | inl e ↦ rw (e, append-nil) (rw e refl)
  | inr e ↦
      let n = first_place (begins returns) bs in
      let one : kept returns (text, Nothing) b ≡ (text ++ (b ∷ []), Nothing) = rw (e, no_gap text) refl in
      let on = ap (λ (w : Written). fold (kept returns) w bs) one ∙ kept_on returns (text ++ (b ∷ [])) bs ∙ ap (λ (t : List ℕ). fold (kept returns) (t, Nothing) (drop n bs)) (append_assoc text (b ∷ []) (take n bs)) in
      let skip : first_place (begins returns) (b ∷ bs) ≡ suc n = rw e refl in
      on ∙ ap (λ (m : ℕ). fold (kept returns) (text ++ take m (b ∷ bs), Nothing) (drop m (b ∷ bs))) (sym skip)
]

kept_first : (returns : ℕ → Bool) (text bs : List ℕ) (gap : Gap) (n : ℕ) → 0 < n → n ≡ first_place (begins returns) bs
    → fold (kept returns) (with_gap text gap ++ take n bs, Nothing) (drop n bs) ≡ fold (kept returns) (text, gap) bs
unfolding kept
kept_first returns text [] gap n some is = absurd (omega arith)
kept_first returns text (b ∷ bs) gap n some is = elim (cases_Bool (returns b)) [
  | inl e ↦ let here = first_place-here (begins returns) (b ∷ bs) e in absurd (omega arith)
  | inr e ↦
      let m = first_place (begins returns) bs in
      let skip : n ≡ suc m = is ∙ rw e refl in
      let one : (with_gap text gap ++ (b ∷ []), Nothing) ≡ kept returns (text, gap) b = rw e refl in
      ap (λ (k : ℕ). fold (kept returns) (with_gap text gap ++ take k (b ∷ bs), Nothing) (drop k (b ∷ bs))) skip
      ∙ ap (λ (t : List ℕ). fold (kept returns) (t, Nothing) (drop m bs)) (sym (append_assoc (with_gap text gap) (b ∷ []) (take m bs)))
      ∙ sym (kept_on returns (with_gap text gap ++ (b ∷ [])) bs)
      ∙ ap (λ (w : Written). fold (kept returns) w bs) one
]

-- the same for CR
pub kept_pushed : (text bs : List ℕ) (gap : Gap) (n : ℕ) → 0 < n → n ≡ first_place (begins (λ b. b == 13)) bs
    → fold with_kept (with_gap text gap ++ take n bs, Nothing) (drop n bs) ≡ fold with_kept (text, gap) bs
unfolding kept
kept_pushed text bs gap n some is = kept_first (λ b. b == 13) text bs gap n some is
