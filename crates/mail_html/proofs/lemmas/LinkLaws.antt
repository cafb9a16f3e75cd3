-- What is hidden leaves no link: neither a number in the text nor a footnote.
use Rattle.std.proofs.Common.{◌≡◌, ◌∙◌, ℕ, suc, ◌+◌, ◌-◌, ◌<◌, Bool, true, false, cond, List, [], ◌∷◌, ◌++◌, take, drop, length, get_or, inl, inr, refl, sym, ap, arith}
use Rattle.std.specs.Prelude.{◌==◌, ◌&&◌, codes, find, option_map, unwrap_or}
use Rattle.std.specs.Char.{is_ascii_alphabetic, to_ascii_lowercase}
use Rattle.std.specs.Str.{bytes_eq, str_eq_ignore_ascii_case, str_to_ascii_lowercase}
use Rattle.std.proofs.lemmas.Bool.{agree_below, agree_below_at, and_parts, cases_lt}
use Rattle.std.proofs.lemmas.Slice.Eq.{bytes_eq-Decides}
use Rattle.mail_codec.specs.Places.{begins, first_place}
use Rattle.mail_html.proofs.lemmas.Html.{end_of_script, hidden_step, script_is_hidden, tag_of_script}
use Rattle.mail_html.proofs.lemmas.Links.{no_link, skips}
use Rattle.mail_html.specs.Elements.{elements, kind_of}
use Rattle.mail_html.specs.Html.{Step}
use Rattle.mail_html.specs.Links.{Linked, add_link, attribute_target, linked_after, target_at}
use Rattle.mail_html.specs.Tags.{contents_length, ends_name, has_name, name_length, tag_length}
use Rattle.mail_html.specs.declared.elements.Kind.{Kind}
use Rattle.mail_html.specs.declared.elements.Kind.TheVariants.{Hidden, Inline}
use Rattle.mail_html.specs.declared.references.References.{References}

-- ---- a link is no hidden element

-- the kind of an element by its name in lower case
kind_by : List ℕ → Kind
kind_by name = unwrap_or (option_map (λ (row : List ℕ × Kind). row.1) (find (λ (row : List ℕ × Kind). bytes_eq name (str_to_ascii_lowercase row.0)) elements)) Inline

kind_in_lower : (name : List ℕ) → kind_of name ≡ kind_by (str_to_ascii_lowercase name)
unfolding kind_of kind_by
kind_in_lower name = refl

a_inline : kind_by (str_to_ascii_lowercase (codes "a")) ≡ Inline
unfolding kind_by
a_inline = refl

low_letters : agree_below (λ b. ends_name b && (to_ascii_lowercase b == 97)) (λ b. false) 128 ≡ true
low_letters = refl

letter_is_name : (b : ℕ) → to_ascii_lowercase b ≡ 97 → ends_name b ≡ false
letter_is_name b e = elim (cases_lt b 128) [
  | inl low ↦ go (ends_name b) refl low
  | inr high ↦ absurd (grind arith)
]
  where
    go : (c : Bool) → ends_name b ≡ c → b < 128 → c ≡ false
    go false is low = refl
    go true is low = sym (ap (λ (x : Bool). x && (to_ascii_lowercase b == 97)) is ∙ ap (λ n. n == 97) e) ∙ agree_below_at (λ b. ends_name b && (to_ascii_lowercase b == 97)) (λ b. false) 128 b low_letters low

name_is_a : (bs : List ℕ) → has_name (codes "a") bs ≡ true → str_to_ascii_lowercase (take (name_length bs) bs) ≡ codes "a"
name_is_a [] e = absurd (cc)
name_is_a (b ∷ rest) e =
    let p = and_parts (begins ends_name rest) (str_eq_ignore_ascii_case (b ∷ []) (codes "a")) e in
    let same : str_to_ascii_lowercase (b ∷ []) ≡ codes "a" = (bytes_eq-Decides (str_to_ascii_lowercase (b ∷ [])) (str_to_ascii_lowercase (codes "a"))).0 p.1 in
    ap (λ (n : ℕ). str_to_ascii_lowercase (take n (b ∷ rest))) (one rest (letter_is_name b (head_of same)) p.0) ∙ same
  where
    head_of : to_ascii_lowercase b ∷ [] ≡ codes "a" → to_ascii_lowercase b ≡ 97
    head_of h = ap (λ (xs : List ℕ). get_or xs 0 0) h

    at_once : (bs : List ℕ) → begins ends_name bs ≡ true → first_place (begins ends_name) bs ≡ 0
    at_once [] h = refl
    at_once (c ∷ cs) h = ap (λ (x : Bool). cond x 0 (suc (first_place (begins ends_name) cs))) h

    one : (bs : List ℕ) → ends_name b ≡ false → begins ends_name bs ≡ true → name_length (b ∷ bs) ≡ 1
    one bs other h = ap (λ (x : Bool). cond x 0 (suc (first_place (begins ends_name) bs))) other ∙ ap suc (at_once bs h)

no_hidden_link : (refs : References) (bs : List ℕ) → kind_of (take (name_length bs) bs) ≡ Hidden → attribute_target refs bs ≡ []
no_hidden_link refs bs hidden = go (has_name (codes "a") bs) refl
  where
    apart : Inline ≡ Hidden → ⊥
    apart e = cc

    go : (b : Bool) → has_name (codes "a") bs ≡ b → attribute_target refs bs ≡ []
    go false is = sym (no_link refs bs is)
    go true is = absurd (apart (sym (kind_in_lower (take (name_length bs) bs) ∙ ap kind_by (name_is_a bs is) ∙ a_inline) ∙ hidden))

-- ---- hidden contents

no_target : (refs : References) (bs : List ℕ) → attribute_target refs bs ≡ [] → target_at refs (60 ∷ bs) ≡ []
unfolding target_at
no_target refs bs e = e

nothing_linked : (l : Linked) → add_link [] l ≡ l
unfolding add_link
nothing_linked l = refl

-- what follows a hidden element is read as if the element were not there
pub hidden_linked : (refs : References) (l : Linked) (bs : List ℕ) → begins is_ascii_alphabetic bs ≡ true → kind_of (take (name_length bs) bs) ≡ Hidden
    → linked_after 0 refs l (60 ∷ bs) ≡ linked_after 0 refs l (drop (tag_length bs + contents_length (take (name_length bs) bs) (drop (tag_length bs) bs)) bs)
hidden_linked refs l bs letter hidden =
    let n = tag_length bs + contents_length (take (name_length bs) bs) (drop (tag_length bs) bs) in
    let e : 1 + n - 1 ≡ n = omega arith in
    ap (λ (p : Step). linked_after (p.1 - 1) refs (add_link (target_at refs (60 ∷ bs)) (p.0, l.1, l.2)) bs) (hidden_step refs l.0 bs letter hidden)
    ∙ ap (λ (t : List ℕ). linked_after (1 + n - 1) refs (add_link t l) bs) (no_target refs bs (no_hidden_link refs bs hidden))
    ∙ ap (λ (u : Linked). linked_after (1 + n - 1) refs u bs) (nothing_linked l)
    ∙ ap (λ (m : ℕ). linked_after m refs l bs) e ∙ skips n refs l bs

end_target : (refs : References) (after : List ℕ) → target_at refs (codes "</script>" ++ after) ≡ []
unfolding target_at attribute_target
end_target refs after = refl

-- a script, whose contents are those up to its end tag
pub script_linked : (refs : References) (l : Linked) (contents after : List ℕ)
    → contents_length (codes "script") (contents ++ (codes "</script>" ++ after)) ≡ length contents
    → linked_after 0 refs l (codes "<script>" ++ (contents ++ (codes "</script>" ++ after))) ≡ linked_after 0 refs l after
script_linked refs l contents after same =
    let rest = contents ++ (codes "</script>" ++ after) in
    let bs = codes "script>" ++ rest in
    hidden_linked refs l bs refl script_is_hidden
    ∙ ap (λ (m : ℕ). linked_after 0 refs l (drop (m + contents_length (codes "script") (drop m bs)) bs)) (tag_of_script rest)
    ∙ ap (λ (m : ℕ). linked_after 0 refs l (drop m bs)) (seven (contents_length (codes "script") rest))
    ∙ ap (λ (m : ℕ). linked_after 0 refs l (drop m rest)) same
    ∙ ap (λ (bytes : List ℕ). linked_after 0 refs l bytes) (drop-length-append contents (codes "</script>" ++ after))
    ∙ ap (λ (p : Step). linked_after (p.1 - 1) refs (add_link (target_at refs (codes "</script>" ++ after)) (p.0, l.1, l.2)) (codes "/script>" ++ after)) (end_of_script refs l.0 after)
    ∙ ap (λ (t : List ℕ). linked_after 0 refs (add_link t l) after) (end_target refs after)
    ∙ ap (λ (u : Linked). linked_after 0 refs u after) (nothing_linked l)
  where
    seven : (n : ℕ) → 7 + n ≡ suc (suc (suc (suc (suc (suc (suc n))))))
    seven n = omega arith

    drop-length-append : (xs ys : List ℕ) → drop (length xs) (xs ++ ys) ≡ ys
    drop-length-append [] ys = refl
    drop-length-append (x ∷ xs) ys = drop-length-append xs ys
