-- The text of HTML with its links, a step at a time.
use Rattle.std.proofs.Common.{◌≡◌, ◌∙◌, ℕ, zero, suc, ◌+◌, ◌-◌, ◌<◌, true, false, cond, List, [], ◌∷◌, drop, length, refl, sym, ap, arith, eqb-true}
use Rattle.std.specs.Prelude.{◌==◌, codes}
use Rattle.mail_codec.specs.Places.{begins}
use Rattle.mail_html.specs.Html.{Step, front_step, trimmed}
use Rattle.mail_html.specs.Layout.{State, add_text}
use Rattle.mail_html.specs.Links.{Linked, add_link, add_note, add_target, attribute_target, linked_after, mark, target_at}
use Rattle.mail_html.specs.References.{value_text}
use Rattle.mail_html.specs.Tags.{has_name, value_named}
use Rattle.mail_html.specs.declared.references.References.{References}

pub skips : (n : ℕ) (refs : References) (l : Linked) (bs : List ℕ) → linked_after n refs l bs ≡ linked_after 0 refs l (drop n bs)
skips zero refs l bs = refl
skips (suc n) refs l [] = refl
skips (suc n) refs l (b ∷ bs) = skips n refs l bs

-- the front, and the rest
pub after_link : (refs : References) (s t : State) (notes : List ℕ) (count : ℕ) (u : Linked) (bs : List ℕ) (n : ℕ) → 0 < length bs → 0 < n
    → (t, n) ≡ front_step refs s bs → u ≡ add_link (target_at refs bs) (t, notes, count)
    → linked_after 0 refs u (drop n bs) ≡ linked_after 0 refs (s, notes, count) bs
after_link refs s t notes count u [] n some takes is linked = absurd (omega arith)
after_link refs s t notes count u (b ∷ bs) zero some takes is linked = absurd (omega arith)
after_link refs s t notes count u (b ∷ bs) (suc n) some takes is linked =
    let e : suc n - 1 ≡ n = omega arith in
    sym (ap (λ (p : Step). linked_after (p.1 - 1) refs (add_link (target_at refs (b ∷ bs)) (p.0, notes, count)) bs) (sym is)
    ∙ ap (λ (m : ℕ). linked_after m refs (add_link (target_at refs (b ∷ bs)) (t, notes, count)) bs) e
    ∙ ap (λ (l : Linked). linked_after n refs l bs) (sym linked)
    ∙ skips n refs u bs)

-- nothing is left
pub after_links : (refs : References) (l end : Linked) (bs : List ℕ) → length bs ≡ 0 → linked_after 0 refs l bs ≡ end → l ≡ end
after_links refs l end [] none h = h
after_links refs l end (b ∷ bs) none h = absurd (omega arith)

pub target_of_tag : (refs : References) (bs target : List ℕ) → begins (λ b. b == 60) bs ≡ true → target ≡ attribute_target refs (drop 1 bs) → target ≡ target_at refs bs
unfolding target_at
target_of_tag refs bs target is same = same ∙ sym (ap (λ b. cond b (attribute_target refs (drop 1 bs)) []) is)

pub no_tag : (refs : References) (bs : List ℕ) → begins (λ b. b == 60) bs ≡ false → [] ≡ target_at refs bs
unfolding target_at
no_tag refs bs is = sym (ap (λ b. cond b (attribute_target refs (drop 1 bs)) []) is)

pub target_of_link : (refs : References) (bs target : List ℕ) → has_name (codes "a") bs ≡ true → target ≡ value_text 0 refs (value_named 0 (codes "href") (drop 1 bs))
    → target ≡ attribute_target refs bs
unfolding attribute_target
target_of_link refs bs target is same = same ∙ sym (ap (λ b. cond b (value_text 0 refs (value_named 0 (codes "href") (drop 1 bs))) []) is)

pub no_link : (refs : References) (bs : List ℕ) → has_name (codes "a") bs ≡ false → [] ≡ attribute_target refs bs
unfolding attribute_target
no_link refs bs is = sym (ap (λ b. cond b (value_text 0 refs (value_named 0 (codes "href") (drop 1 bs))) []) is)

-- ---- one more link

pub link_left_out : (target t : List ℕ) (l : Linked) → t ≡ trimmed target → (length t == 0) ≡ true → l ≡ add_link target l
unfolding add_link
link_left_out target [] l is none = ap (λ (x : List ℕ). add_target x l) is
link_left_out target (b ∷ t) l is none = absurd (omega (arith, eqb-true _ _ none))

pub link_added : (target t : List ℕ) (s u : State) (notes more : List ℕ) (count : ℕ) → t ≡ trimmed target → (length t == 0) ≡ false → u ≡ add_text (mark (count + 1)) s
    → more ≡ add_note (mark (count + 1)) t notes → (u, more, count + 1) ≡ add_link target (s, notes, count)
unfolding add_link
link_added target [] s u notes more count is some shown noted = absurd (cc)
link_added target (b ∷ t) s u notes more count is some shown noted =
    let e : count + 1 ≡ suc count = omega arith in
    ap (λ (v : State). (v, more, count + 1)) shown
    ∙ ap (λ (n : List ℕ). (add_text (mark (count + 1)) s, n, count + 1)) noted
    ∙ ap (λ (n : ℕ). (add_text (mark n) s, add_note (mark n) (b ∷ t) notes, n)) e
    ∙ ap (λ (x : List ℕ). add_target x (s, notes, count)) is
