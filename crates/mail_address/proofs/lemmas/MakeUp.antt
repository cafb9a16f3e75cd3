-- Lemmas on the order of the elements of a list of addresses, and on what is between them.
use Rattle.std.proofs.Common.{◌≡◌, ℕ, zero, suc, ◌+◌, ◌<◌, ◌≤◌, ◌⊎◌, inl, inr, true, false, cond, List, [], ◌∷◌, ◌++◌, length, take, drop, map, refl, sym, ap, subst, ◌∙◌, arith, length-drop, append_assoc, length-append}
use Rattle.std.specs.Prelude.{min}
use Rattle.std.proofs.lemmas.Bool.{cases_lt, cond_both, cond-true, cond-false, false≢true}
use Rattle.std.proofs.lemmas.List.{append-nil, drop_all, drop_at, drop-drop, length-take-le, take_all, take_at, take-append-drop}
use Rattle.mail_codec.specs.Places.{begins}
use Rattle.mail_address.specs.declared.tokens.Span.TheVariants.{BeforeSeparator, White}
use Rattle.mail_address.specs.Tokens.{is_all_white, run}
use Rattle.mail_address.specs.Mailbox.{mailbox_of}
use Rattle.mail_address.specs.Addresses.{addresses, after_group, after_name, Element, element_at, element_len, group, group_at, group_len, inner_len, is_group, is_separator, items, items_within, name_len, separator_len, single, single_at, Single}
use Rattle.mail_address.specs.Grammar.{white_ends}
use Rattle.mail_address.specs.Order.{no_separators, next_separator, MayFollow, MakeUp, no_elements, next_element, AreInOrder, start_of, text_of}
use Rattle.mail_address.proofs.lemmas.Addresses.{element_len-some, is_group-within}
use Rattle.mail_address.proofs.lemmas.Bounds.{run-within}
use Rattle.mail_address.proofs.lemmas.GrammarMade.{run-separates}
use Rattle.mail_address.proofs.lemmas.Passed.{white-whole}

-- a separator with nothing before it but whitespace and comments
after_separator : (place : ℕ) (white rest bytes : List ℕ) (b : ℕ) {es : List Element} → is_all_white white ≡ true → is_separator b ≡ true → bytes ≡ white ++ b ∷ rest
    → MakeUp (place + suc (length white)) rest es → MakeUp place bytes es
after_separator place white rest bytes b is sep e (no_elements {empty = empty} last empties w cut) =
    no_elements last (next_separator white b {bytes = white ++ b ∷ empty} is sep empties refl) w
    (e ∙ ap (λ r. white ++ b ∷ r) cut ∙ sym (append_assoc white (b ∷ empty) last))
after_separator place white rest bytes b is sep e (next_element {empty = empty} {rest = more} {e = element} empties starts follows later cut) =
    next_element (next_separator white b {bytes = white ++ b ∷ empty} is sep empties refl)
    (let len = length-append white (b ∷ empty) in omega (arith, starts, len)) follows later
    (e ∙ ap (λ r. white ++ b ∷ r) cut ∙ sym (append_assoc white (b ∷ empty) (text_of element ++ more)))

-- nothing but whitespace and comments up to the end
only_white : (place : ℕ) (bytes : List ℕ) → is_all_white bytes ≡ true → MakeUp place bytes []
only_white place bytes is = no_elements bytes no_separators is refl

nothing_more : (place : ℕ) → MakeUp place [] []
nothing_more place = only_white place [] (white-whole white_ends)

-- an element at the front
element_first : (e : Element) (rest bytes : List ℕ) (es : List Element) → MayFollow e rest → MakeUp (start_of e + length (text_of e)) rest es → bytes ≡ text_of e ++ rest
    → MakeUp (start_of e) bytes (e ∷ es)
element_first e rest bytes es follows later cut = next_element no_separators (omega arith) follows later cut

-- ---- a group

group_len-within : (bytes : List ℕ) → is_group bytes ≡ true → group_len bytes ≤ length bytes
unfolding group_len
group_len-within bytes h =
    let low = is_group-within bytes h in
    let name = length-drop (suc (name_len bytes)) bytes in
    let inner = length-drop (suc (inner_len bytes)) (after_name bytes) in
    let white = run-within White (after_group bytes) in
    let first = low.0 in
    let second = low.1 in
    omega (arith, name, inner, white, first, second)

-- the bytes after a group, and after a separator if there is one
after_group_made : (place : ℕ) (rest : List ℕ) (es : List Element) → MakeUp (place + separator_len rest) (drop (separator_len rest) rest) es → MakeUp place rest es
after_group_made place [] es later = subst (λ p. MakeUp p [] es) (omega arith) later
after_group_made place (b ∷ rest) es later =
    cond_both (is_separator b) 1 0 (λ n. MakeUp (place + n) (drop n (b ∷ rest)) es → MakeUp place (b ∷ rest) es)
    (λ e now. after_separator place [] rest (b ∷ rest) b (white-whole white_ends) e refl now) (λ e now. subst (λ p. MakeUp p (b ∷ rest) es) (omega arith) now) later

-- ---- an element without members

-- after these bytes come a separator and the rest
ended : (bytes : List ℕ) (n : ℕ) → begins is_separator (drop n bytes) ≡ true → (separator : ℕ) × (is_separator separator ≡ true) × (drop n bytes ≡ separator ∷ drop (suc n) bytes)
ended [] zero none = absurd (false≢true none)
ended [] (suc n) none = absurd (false≢true none)
ended (b ∷ bytes) zero sep = (b, sep, refl)
ended (b ∷ bytes) (suc n) sep = ended bytes n sep

single_len : (bytes : List ℕ) → is_group bytes ≡ false → element_len bytes ≡ min (suc (run BeforeSeparator bytes)) (length bytes)
unfolding element_len
single_len bytes h = cond-false (is_group bytes) (group_len bytes + separator_len (drop (group_len bytes) bytes)) (min (suc (run BeforeSeparator bytes)) (length bytes)) h

group_element_len : (bytes : List ℕ) → is_group bytes ≡ true → element_len bytes ≡ group_len bytes + separator_len (drop (group_len bytes) bytes)
unfolding element_len
group_element_len bytes h = cond-true (is_group bytes) (group_len bytes + separator_len (drop (group_len bytes) bytes)) (min (suc (run BeforeSeparator bytes)) (length bytes)) h

-- the bytes before a separator or the end, and the element that they are
abbrev front : List ℕ → List ℕ
front bytes = take (run BeforeSeparator bytes) bytes

abbrev here : ℕ → List ℕ → Single
here place bytes = record { start = place; text = front bytes; mailbox = mailbox_of (front bytes) }

single_made : (place : ℕ) (bytes : List ℕ) (es : List Element) → is_group bytes ≡ false → MakeUp (place + element_len bytes) (drop (element_len bytes) bytes) es
    → (drop (element_len bytes) bytes ≡ [] → es ≡ []) → MakeUp place bytes (map single (cond (is_all_white (front bytes)) [] (here place bytes ∷ [])) ++ es)
single_made place bytes es alone later none = by_end (cases_lt (run BeforeSeparator bytes) (length bytes))
  where
    by_end : (run BeforeSeparator bytes < length bytes) ⊎ (length bytes ≤ run BeforeSeparator bytes)
        → MakeUp place bytes (map single (cond (is_all_white (front bytes)) [] (here place bytes ∷ [])) ++ es)
    by_end (inl low) =
        let n : ℕ = run BeforeSeparator bytes in
        let rest : List ℕ = drop (suc n) bytes in
        let end = ended bytes n (run-separates bytes low) in
        let len = length-take-le n bytes (run-within BeforeSeparator bytes) in
        let short : element_len bytes ≡ suc n = let same = single_len bytes alone in omega (arith, same, low) in
        let after : MakeUp (place + suc n) rest es = subst (λ k. MakeUp (place + k) (drop k bytes) es) short later in
        let cut : bytes ≡ front bytes ++ end.0 ∷ rest = sym (take-append-drop n bytes) ∙ ap (λ r. front bytes ++ r) end.2 in
        cond_both (is_all_white (front bytes)) [] (here place bytes ∷ []) (λ ss. MakeUp place bytes (map single ss ++ es))
        (λ is. after_separator place (front bytes) rest bytes end.0 is end.1 cut (subst (λ k. MakeUp (place + suc k) rest es) (sym len) after))
        (λ is. element_first (single (here place bytes)) (end.0 ∷ rest) bytes es end.1
        (after_separator (place + length (front bytes)) [] rest (end.0 ∷ rest) end.0 (white-whole white_ends) end.1 refl (subst (λ p. MakeUp p rest es) (omega (arith, len)) after)) cut)
    by_end (inr high) =
        let all : front bytes ≡ bytes = take_all (run BeforeSeparator bytes) bytes high in
        let over : es ≡ [] = let same = single_len bytes alone in none (drop_all (element_len bytes) bytes (omega (arith, same, high))) in
        cond_both (is_all_white (front bytes)) [] (here place bytes ∷ []) (λ ss. MakeUp place bytes (map single ss ++ es))
        (λ is. subst (λ es. MakeUp place bytes es) (sym over) (only_white place bytes (sym (ap is_all_white all) ∙ is)))
        (λ is. subst (λ es. MakeUp place bytes (single (here place bytes) ∷ es)) (sym over)
        (element_first (single (here place bytes)) [] bytes [] tt (nothing_more (place + length (front bytes))) (sym all ∙ sym (append-nil (front bytes)))))

group_made : (place : ℕ) (bytes : List ℕ) (es : List Element) → is_group bytes ≡ true → MakeUp (place + element_len bytes) (drop (element_len bytes) bytes) es
    → MakeUp place bytes (group (group_at place bytes) ∷ es)
unfolding group_at
group_made place bytes es is later =
    element_first (group (group_at place bytes)) (drop (group_len bytes) bytes) bytes es tt
    (after_group_made (place + length (take (group_len bytes) bytes)) (drop (group_len bytes) bytes) es
    (subst (λ p. MakeUp p (drop (separator_len (drop (group_len bytes) bytes)) (drop (group_len bytes) bytes)) es) (omega (arith, len, whole))
    (subst (λ r. MakeUp (place + element_len bytes) r es) (ap (λ k. drop k bytes) whole ∙ sym (drop-drop (separator_len (drop (group_len bytes) bytes)) (group_len bytes) bytes)) later)))
    (sym (take-append-drop (group_len bytes) bytes))
  where
    len : length (take (group_len bytes) bytes) ≡ group_len bytes
    len = length-take-le (group_len bytes) bytes (group_len-within bytes is)

    whole : element_len bytes ≡ group_len bytes + separator_len (drop (group_len bytes) bytes)
    whole = group_element_len bytes is

-- ---- all of them

none_left : (most start : ℕ) (bytes : List ℕ) → bytes ≡ [] → items_within element_at element_len most start bytes ≡ []
none_left zero start bytes e = refl
none_left (suc most) start bytes e = ap (items_within element_at element_len (suc most) start) e

-- the elements after the first bytes
abbrev left : ℕ → ℕ → List ℕ → List Element
left most start bytes = items_within element_at element_len most (start + element_len bytes) (drop (element_len bytes) bytes)

made : (most start : ℕ) (bytes : List ℕ) → length bytes ≤ most → MakeUp start bytes (items_within element_at element_len most start bytes)
unfolding element_at single_at
made zero start [] short = nothing_more start
made zero start (b ∷ bytes) short = absurd (omega arith)
made (suc most) start [] short = nothing_more start
made (suc most) start (b ∷ bytes) short =
    let some = element_len-some (b ∷ bytes) (omega arith) in
    let cut = length-drop (element_len (b ∷ bytes)) (b ∷ bytes) in
    let more = made most (start + element_len (b ∷ bytes)) (drop (element_len (b ∷ bytes)) (b ∷ bytes)) (omega (arith, some, cut)) in
    cond_both (is_group (b ∷ bytes)) _ _ (λ es. MakeUp start (b ∷ bytes) (es ++ left most start (b ∷ bytes))) (λ e. group_made start (b ∷ bytes) (left most start (b ∷ bytes)) e more)
    (λ e. single_made start (b ∷ bytes) (left most start (b ∷ bytes)) e more (none_left most (start + element_len (b ∷ bytes)) (drop (element_len (b ∷ bytes)) (b ∷ bytes))))

pub elements-make_up : (raw : List ℕ) → MakeUp 0 raw (addresses raw)
unfolding items
elements-make_up raw = made (length raw) 0 raw (omega arith)

-- ---- the order of the elements

-- in bytes that consist of elements, each is at its offset
made-in_order : (raw : List ℕ) {place : ℕ} {bytes : List ℕ} {es : List Element} → MakeUp place bytes es → bytes ≡ drop place raw → AreInOrder place raw es
made-in_order raw (no_elements white empties is e) at = tt
made-in_order raw {place} (next_element {empty = empty} {rest = rest} {e = element} empties starts follows later cut) at =
    let text : List ℕ = text_of element in
    let here : drop (start_of element) raw ≡ text ++ rest =
    ap (λ n. drop n raw) starts ∙ sym (drop-drop (length empty) place raw) ∙ ap (drop (length empty)) (sym at ∙ cut) ∙ drop_at empty (text ++ rest) (length empty) refl in
    let next : rest ≡ drop (start_of element + length text) raw =
    sym (drop_at text rest (length text) refl) ∙ ap (drop (length text)) (sym here) ∙ drop-drop (length text) (start_of element) raw in
    (omega (arith, starts), ap (take (length text)) here ∙ take_at text rest (length text) refl, made-in_order raw later next)

pub elements-in_order : (raw : List ℕ) → AreInOrder 0 raw (addresses raw)
elements-in_order raw = made-in_order raw (elements-make_up raw) refl
