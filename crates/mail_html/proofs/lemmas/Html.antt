-- The text of HTML, a step at a time.
use Rattle.std.proofs.Common.{◌≡◌, ◌∙◌, ℕ, zero, suc, ◌+◌, ◌-◌, ◌<◌, Bool, true, false, cond, List, [], ◌∷◌, ◌++◌, take, drop, length, refl, sym, ap, arith, eqb-true}
use Rattle.std.specs.Prelude.{◌==◌, ◌||◌, codes}
use Rattle.std.specs.Char.{is_ascii_alphabetic}
use Rattle.mail_codec.specs.Places.{begins, is_empty}
use Rattle.mail_html.specs.Elements.{add_tag, kind_of}
use Rattle.mail_html.specs.Html.{Step, end_step, front_step, hidden_length, literal_step, markup_step, reference_step, shown_for, start_step, state_after, text_length, text_step}
use Rattle.mail_html.specs.Layout.{State, Written, add_text, with_text}
use Rattle.mail_html.specs.Tags.{contents_length, declaration_length, name_length, past_byte, tag_length}
use Rattle.mail_html.specs.declared.elements.Kind.{Kind}
use Rattle.mail_html.specs.declared.elements.Kind.TheVariants.{Hidden}
use Rattle.mail_html.specs.declared.references.References.{References}

skips : (n : ℕ) (refs : References) (s : State) (bs : List ℕ) → state_after n refs s bs ≡ state_after 0 refs s (drop n bs)
skips zero refs s bs = refl
skips (suc n) refs s [] = refl
skips (suc n) refs s (b ∷ bs) = skips n refs s bs

-- the front, and the rest
pub after_front : (refs : References) (s t : State) (bs : List ℕ) (n : ℕ) → 0 < length bs → 0 < n → (t, n) ≡ front_step refs s bs
    → state_after 0 refs t (drop n bs) ≡ state_after 0 refs s bs
after_front refs s t [] n some takes is = absurd (omega arith)
after_front refs s t (b ∷ bs) zero some takes is = absurd (omega arith)
after_front refs s t (b ∷ bs) (suc n) some takes is =
    let e : suc n - 1 ≡ n = omega arith in
    sym (ap (λ (p : Step). state_after (p.1 - 1) refs p.0 bs) (sym is) ∙ ap (λ (m : ℕ). state_after m refs t bs) e ∙ skips n refs t bs)

-- nothing is left
pub after_all : (refs : References) (s end : State) (bs : List ℕ) → length bs ≡ 0 → state_after 0 refs s bs ≡ end → s ≡ end
after_all refs s end [] none h = h
after_all refs s end (b ∷ bs) none h = absurd (omega arith)

-- ---- what is at the front

front_by : Bool → Bool → References → State → List ℕ → Step
front_by markup reference refs s bs =
    cond markup (markup_step refs s (drop 1 bs)) (cond reference (reference_step refs s (drop 1 bs)) (text_step s bs))

pub front_markup : (refs : References) (s : State) (bs : List ℕ) (v : Step) → begins (λ b. b == 60) bs ≡ true → v ≡ markup_step refs s (drop 1 bs) → v ≡ front_step refs s bs
unfolding front_step front_by
front_markup refs s bs v is same = same ∙ sym (ap (λ b. front_by b (begins (λ b. b == 38) bs) refs s bs) is)

pub front_reference : (refs : References) (s : State) (bs : List ℕ) (v : Step) → begins (λ b. b == 60) bs ≡ false → begins (λ b. b == 38) bs ≡ true
    → v ≡ reference_step refs s (drop 1 bs) → v ≡ front_step refs s bs
unfolding front_step front_by
front_reference refs s bs v other is same =
    same ∙ sym (ap (λ b. front_by b (begins (λ b. b == 38) bs) refs s bs) other ∙ ap (λ b. front_by false b refs s bs) is)

pub front_text : (refs : References) (s : State) (bs : List ℕ) (v : Step) → begins (λ b. b == 60) bs ≡ false → begins (λ b. b == 38) bs ≡ false
    → v ≡ text_step s bs → v ≡ front_step refs s bs
unfolding front_step front_by
front_text refs s bs v other more same =
    same ∙ sym (ap (λ b. front_by b (begins (λ b. b == 38) bs) refs s bs) other ∙ ap (λ b. front_by false b refs s bs) more)

-- ---- what `<` begins

markup_by : Bool → Bool → Bool → References → State → List ℕ → Step
markup_by letter slash declaration refs s bs =
    cond letter (start_step refs s bs) (cond slash (end_step s (drop 1 bs)) (cond declaration (s, 1 + declaration_length bs) (literal_step (60 ∷ []) s)))

module _ (refs : References) (s : State) (bs : List ℕ) where
  slash : Bool
  slash = begins (λ b. b == 47) bs

  declares : Bool
  declares = begins (λ b. b == 0x21 || b == 0x3F) bs

  pub markup_start : (v : Step) → begins is_ascii_alphabetic bs ≡ true → v ≡ start_step refs s bs → v ≡ markup_step refs s bs
  unfolding markup_step markup_by slash declares
  markup_start v is same = same ∙ sym (ap (λ b. markup_by b slash declares refs s bs) is)

  pub markup_end : (v : Step) → begins is_ascii_alphabetic bs ≡ false → begins (λ b. b == 47) bs ≡ true → v ≡ end_step s (drop 1 bs) → v ≡ markup_step refs s bs
  unfolding markup_step markup_by slash declares
  markup_end v other is same =
      same ∙ sym (ap (λ b. markup_by b slash declares refs s bs) other ∙ ap (λ b. markup_by false b declares refs s bs) is)

  pub markup_declared : (n : ℕ) → begins is_ascii_alphabetic bs ≡ false → begins (λ b. b == 47) bs ≡ false → begins (λ b. b == 0x21 || b == 0x3F) bs ≡ true
      → n ≡ declaration_length bs → (s, 1 + n) ≡ markup_step refs s bs
  unfolding markup_step markup_by slash declares
  markup_declared n other more is same =
      ap (λ (m : ℕ). (s, 1 + m)) same
      ∙ sym (ap (λ b. markup_by b slash declares refs s bs) other ∙ ap (λ b. markup_by false b declares refs s bs) more ∙ ap (λ b. markup_by false false b refs s bs) is)

  pub markup_itself : (v : Step) → begins is_ascii_alphabetic bs ≡ false → begins (λ b. b == 47) bs ≡ false → begins (λ b. b == 0x21 || b == 0x3F) bs ≡ false
      → v ≡ literal_step (60 ∷ []) s → v ≡ markup_step refs s bs
  unfolding markup_step markup_by slash declares
  markup_itself v other more most same =
      same ∙ sym (ap (λ b. markup_by b slash declares refs s bs) other ∙ ap (λ b. markup_by false b declares refs s bs) more ∙ ap (λ b. markup_by false false b refs s bs) most)

-- ---- text

pub text_of : (bs : List ℕ) (s : State) (v : Step) (count : ℕ) → count ≡ text_length bs → v ≡ literal_step (take count bs) s → v ≡ text_step s bs
unfolding text_step
text_of bs s v count is same = same ∙ ap (λ (n : ℕ). literal_step (take n bs) s) is

-- ---- a start tag

started : References → State → List ℕ → ℕ → ℕ → Kind → Step
started refs s bs name end kind =
    (add_text (shown_for refs kind (take (end - name) (drop name bs))) (add_tag true kind s), 1 + (end + hidden_length kind (take name bs) (take end bs) (drop end bs)))

pub start_is : (refs : References) (s t u : State) (bs : List ℕ) (name end hidden : ℕ) (kind : Kind) → name ≡ name_length bs → end ≡ tag_length bs → kind ≡ kind_of (take name bs)
    → t ≡ add_tag true kind s → u ≡ add_text (shown_for refs kind (take (end - name) (drop name bs))) t
    → hidden ≡ hidden_length kind (take name bs) (take end bs) (drop end bs) → (u, 1 + (end + hidden)) ≡ start_step refs s bs
unfolding start_step started
start_is refs s t u bs name end hidden kind n e k opened shown hides =
    ap (λ (v : State). (v, 1 + (end + hidden))) (shown ∙ ap (λ (v : State). add_text (shown_for refs kind (take (end - name) (drop name bs))) v) opened)
    ∙ ap (λ (h : ℕ). (add_text (shown_for refs kind (take (end - name) (drop name bs))) (add_tag true kind s), 1 + (end + h))) hides
    ∙ ap (λ (q : Kind). started refs s bs name end q) k
    ∙ ap (λ (m : ℕ). started refs s bs m end (kind_of (take m bs))) n
    ∙ ap (λ (m : ℕ). started refs s bs (name_length bs) m (kind_of (take (name_length bs) bs))) e

-- ---- an end tag

end_by : Bool → Bool → State → List ℕ → Step
end_by letter empty s bs =
    cond letter (add_tag false (kind_of (take (name_length bs) bs)) s, 2 + tag_length bs) (cond empty (literal_step (60 ∷ 47 ∷ []) s) (s, 2 + past_byte bs 62))

pub end_tag : (s t : State) (bs : List ℕ) (name end : ℕ) (kind : Kind) → begins is_ascii_alphabetic bs ≡ true → name ≡ name_length bs → kind ≡ kind_of (take name bs) → end ≡ tag_length bs
    → t ≡ add_tag false kind s → (t, 2 + end) ≡ end_step s bs
unfolding end_step end_by
end_tag s t bs name end kind is n k e closed =
    ap (λ (v : State). (v, 2 + end)) closed
    ∙ ap (λ (q : Kind). (add_tag false q s, 2 + end)) k
    ∙ ap (λ (m : ℕ). (add_tag false (kind_of (take m bs)) s, 2 + end)) n
    ∙ ap (λ (m : ℕ). (add_tag false (kind_of (take (name_length bs) bs)) s, 2 + m)) e
    ∙ sym (ap (λ b. end_by b (is_empty bs) s bs) is)

none_is_empty : (bs : List ℕ) (b : Bool) → (length bs == 0) ≡ b → is_empty bs ≡ b
none_is_empty [] b h = h
none_is_empty (x ∷ bs) true h = absurd (omega (arith, eqb-true _ _ h))
none_is_empty (x ∷ bs) false h = refl

pub end_itself : (s : State) (bs : List ℕ) (v : Step) → begins is_ascii_alphabetic bs ≡ false → (length bs == 0) ≡ true → v ≡ literal_step (60 ∷ 47 ∷ []) s → v ≡ end_step s bs
unfolding end_step end_by
end_itself s bs v other none same = same ∙ sym (ap (λ b. end_by b (is_empty bs) s bs) other ∙ ap (λ b. end_by false b s bs) (none_is_empty bs true none))

pub end_skipped : (s : State) (bs : List ℕ) (n : ℕ) → begins is_ascii_alphabetic bs ≡ false → (length bs == 0) ≡ false → n ≡ past_byte bs 62 → (s, 2 + n) ≡ end_step s bs
unfolding end_step end_by
end_skipped s bs n other some same =
    ap (λ (m : ℕ). (s, 2 + m)) same ∙ sym (ap (λ b. end_by b (is_empty bs) s bs) other ∙ ap (λ b. end_by false b s bs) (none_is_empty bs false some))

-- ---- hidden contents

nothing_added : (is_kept : Bool) (w : Written) → with_text is_kept [] w ≡ w
unfolding with_text
nothing_added true w = refl
nothing_added false w = refl

pub hidden_step : (refs : References) (s : State) (bs : List ℕ) → begins is_ascii_alphabetic bs ≡ true → kind_of (take (name_length bs) bs) ≡ Hidden
    → front_step refs s (60 ∷ bs) ≡ (s, 1 + (tag_length bs + contents_length (take (name_length bs) bs) (drop (tag_length bs) bs)))
unfolding front_step start_step started
hidden_step refs s bs letter hidden =
    let taken = 1 + (tag_length bs + contents_length (take (name_length bs) bs) (drop (tag_length bs) bs)) in
    sym (markup_start refs s bs (start_step refs s bs) letter refl)
    ∙ ap (λ (q : Kind). started refs s bs (name_length bs) (tag_length bs) q) hidden
    ∙ ap (λ (w : Written). ((w.0, w.1, s.2), taken)) (nothing_added s.2 (s.0, s.1))

-- what follows a hidden element is read as if the element were not there
pub hidden_left : (refs : References) (s : State) (bs : List ℕ) → begins is_ascii_alphabetic bs ≡ true → kind_of (take (name_length bs) bs) ≡ Hidden
    → state_after 0 refs s (60 ∷ bs) ≡ state_after 0 refs s (drop (tag_length bs + contents_length (take (name_length bs) bs) (drop (tag_length bs) bs)) bs)
hidden_left refs s bs letter hidden =
    let n = tag_length bs + contents_length (take (name_length bs) bs) (drop (tag_length bs) bs) in
    let e : 1 + n - 1 ≡ n = omega arith in
    ap (λ (p : Step). state_after (p.1 - 1) refs p.0 bs) (hidden_step refs s bs letter hidden)
    ∙ ap (λ (m : ℕ). state_after m refs s bs) e ∙ skips n refs s bs

pub script_is_hidden : kind_of (codes "script") ≡ Hidden
unfolding kind_of
script_is_hidden = refl

pub tag_of_script : (rest : List ℕ) → tag_length (codes "script>" ++ rest) ≡ 7
unfolding tag_length
tag_of_script rest = refl

pub end_of_script : (refs : References) (s : State) (after : List ℕ) → front_step refs s (codes "</script>" ++ after) ≡ (s, 9)
end_of_script refs s after =
    sym (front_markup refs s (codes "</script>" ++ after) (s, 9) refl
    (markup_end refs s (codes "/script>" ++ after) (s, 9) refl refl
    (end_tag s s (codes "script>" ++ after) 6 7 Hidden refl refl (sym script_is_hidden) (sym (tag_of_script after)) refl)))

-- a script, whose contents are those up to its end tag
pub script_left : (refs : References) (s : State) (contents after : List ℕ)
    → contents_length (codes "script") (contents ++ (codes "</script>" ++ after)) ≡ length contents
    → state_after 0 refs s (codes "<script>" ++ (contents ++ (codes "</script>" ++ after))) ≡ state_after 0 refs s after
script_left refs s contents after same =
    let rest = contents ++ (codes "</script>" ++ after) in
    let bs = codes "script>" ++ rest in
    hidden_left refs s bs refl script_is_hidden
    ∙ ap (λ (m : ℕ). state_after 0 refs s (drop (m + contents_length (codes "script") (drop m bs)) bs)) (tag_of_script rest)
    ∙ ap (λ (m : ℕ). state_after 0 refs s (drop m bs)) (seven (contents_length (codes "script") rest))
    ∙ ap (λ (m : ℕ). state_after 0 refs s (drop m rest)) same
    ∙ ap (λ (bytes : List ℕ). state_after 0 refs s bytes) (drop-length-append contents (codes "</script>" ++ after))
    ∙ ap (λ (p : Step). state_after (p.1 - 1) refs p.0 (codes "/script>" ++ after)) (end_of_script refs s after)
  where
    seven : (n : ℕ) → 7 + n ≡ suc (suc (suc (suc (suc (suc (suc n))))))
    seven n = omega arith

    drop-length-append : (xs ys : List ℕ) → drop (length xs) (xs ++ ys) ≡ ys
    drop-length-append [] ys = refl
    drop-length-append (x ∷ xs) ys = drop-length-append xs ys
