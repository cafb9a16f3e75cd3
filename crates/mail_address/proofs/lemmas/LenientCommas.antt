-- Display names that contain a comma: what the elements of a list keep when some of them are joined.
use Rattle.std.proofs.Common.{◌≡◌, ℕ, zero, suc, ◌+◌, ◌-◌, ◌<◌, ◌≤◌, true, false, ◌&&◌, ◌==◌, true≢false, ⊎_elim, None, List, [], ◌∷◌, ◌++◌, length, map, take, drop, get_or, refl, sym, ap, subst, ◌∙◌, arith, append_assoc, if◌then◌else◌}
use Rattle.std.specs.Prelude.{flat_map, min, is_none}
use Rattle.std.specs.List.{prefix_len}
use Rattle.std.proofs.lemmas.Bool.{and_from, and_parts, cases_Bool, cond_both, cond-false, cond-true}
use Rattle.std.proofs.lemmas.Grind.{flat_map-append}
use Rattle.std.proofs.lemmas.List.{at_drop_more, drop-map, length-map, length-take, take-append-drop}
use Rattle.mail_codec.specs.Ascii.{comma}
use Rattle.mail_codec.specs.Places.{begins}
use Rattle.mail_address.specs.Addresses.{EachElement, Element, group, Single, single}
use Rattle.mail_address.specs.Lenient.{between, bracketed_end, end_of, has_bracketed, is_bracketed, is_name_part, IsComplete, joined}
use Rattle.mail_address.specs.Mailbox.{is_phrase}
use Rattle.mail_address.specs.Order.{AreInOrder, start_of}
use Rattle.mail_address.proofs.lemmas.LenientLists.{in_order-later, taken-from}

-- ---- the elements at the front

abbrev names : List ℕ → List Element → ℕ
names raw es = prefix_len (is_name_part raw) es

names-more : (raw : List ℕ) (e : Element) (es : List Element) → is_name_part raw e ≡ true → names raw (e ∷ es) ≡ suc (names raw es)
names-more raw e es is = rw is (omega arith)

names-none : (raw : List ℕ) (e : Element) (es : List Element) → is_name_part raw e ≡ false → names raw (e ∷ es) ≡ 0
names-none raw e es fails = rw fails refl

abbrev head_or : Element → List Element → Element
head_or d [] = d
head_or d (e ∷ es) = e

has-last : (raw : List ℕ) (es : List Element) (last : Element) (after : List Element) → drop (names raw es) es ≡ last ∷ after
    → (has_bracketed raw es ≡ is_bracketed last) × (bracketed_end raw es ≡ end_of last)
has-last raw [] last after eq = let none : 0 ≡ suc (length after) = ap (λ (xs : List Element). length xs) eq in absurd (omega (arith, none))
has-last raw (e ∷ es) last after eq =
    ⊎_elim
    (λ is.
    let next = has-last raw es last after (sym (ap (λ n. drop n (e ∷ es)) (names-more raw e es is)) ∙ eq) in
    (cond-true (is_name_part raw e) _ _ is ∙ next.0, cond-true (is_name_part raw e) _ _ is ∙ next.1))
    (λ fails.
    let here : e ∷ es ≡ last ∷ after = sym (ap (λ n. drop n (e ∷ es)) (names-none raw e es fails)) ∙ eq in
    let same : e ≡ last = ap (head_or e) here in
    (cond-false (is_name_part raw e) _ _ fails ∙ ap is_bracketed same, cond-false (is_name_part raw e) _ _ fails ∙ ap end_of same))
    (cases_Bool (is_name_part raw e))

joins : (raw : List ℕ) (e : Element) (es : List Element) → is_name_part raw e ≡ true → has_bracketed raw es ≡ true
    → joined raw (e ∷ es) ≡ between raw (start_of e) (bracketed_end raw es) ∷ drop 1 (joined raw es)
joins raw e es is has = cond-true (is_name_part raw e && has_bracketed raw es) _ _ (and_from _ _ is has)

stays : (raw : List ℕ) (e : Element) (es : List Element) → (is_name_part raw e && has_bracketed raw es) ≡ false → joined raw (e ∷ es) ≡ e ∷ joined raw es
stays raw e es fails = cond-false (is_name_part raw e && has_bracketed raw es) _ _ fails

no_part : (raw : List ℕ) (e : Element) (es : List Element) → is_name_part raw e ≡ false → (is_name_part raw e && has_bracketed raw es) ≡ false
no_part raw e es fails = ap (λ b. b && has_bracketed raw es) fails

no_last : (raw : List ℕ) (e : Element) (es : List Element) → is_name_part raw e ≡ true → has_bracketed raw es ≡ false → (is_name_part raw e && has_bracketed raw es) ≡ false
no_last raw e es is fails = ap (λ b. b && has_bracketed raw es) is ∙ fails

-- after the element that is joined, the list goes on
joined-rest : (raw : List ℕ) (es : List Element) (last : Element) (after : List Element) → drop (names raw es) es ≡ last ∷ after → is_bracketed last ≡ true
    → drop 1 (joined raw es) ≡ joined raw after
joined-rest raw [] last after eq h = let none : 0 ≡ suc (length after) = ap (λ (xs : List Element). length xs) eq in absurd (omega (arith, none))
joined-rest raw (e ∷ es) last after eq h =
    ⊎_elim
    (λ is.
    let next : drop (names raw es) es ≡ last ∷ after = sym (ap (λ n. drop n (e ∷ es)) (names-more raw e es is)) ∙ eq in
    ap (drop 1) (joins raw e es is ((has-last raw es last after next).0 ∙ h)) ∙ joined-rest raw es last after next h)
    (λ fails.
    let here : e ∷ es ≡ last ∷ after = sym (ap (λ n. drop n (e ∷ es)) (names-none raw e es fails)) ∙ eq in
    ap (drop 1) (stays raw e es (no_part raw e es fails)) ∙ ap (λ (xs : List Element). joined raw (drop 1 xs)) here)
    (cases_Bool (is_name_part raw e))

-- words of a name at the front, and then the mailbox that has it
named-front : (raw : List ℕ) (e : Element) (es : List Element) (last : Element) (after : List Element) → is_name_part raw e ≡ true → is_bracketed last ≡ true
    → drop (prefix_len (is_name_part raw) es) es ≡ last ∷ after → joined raw (e ∷ es) ≡ between raw (start_of e) (end_of last) ∷ joined raw after
named-front raw e es last after is h eq =
    let last_is = has-last raw es last after eq in
    joins raw e es is (last_is.0 ∙ h)
    ∙ ap (λ n. between raw (start_of e) n ∷ drop 1 (joined raw es)) last_is.1
    ∙ ap (λ (xs : List Element). between raw (start_of e) (end_of last) ∷ xs) (joined-rest raw es last after eq h)

-- such words at the front, which are no name
abbrev front_len : List ℕ → List Element → ℕ
front_len raw es = min (length es) (suc (names raw es))

plain-front : (raw : List ℕ) (es : List Element) → has_bracketed raw es ≡ false
    → joined raw es ≡ take (min (length es) (suc (prefix_len (is_name_part raw) es))) es ++ joined raw (drop (min (length es) (suc (prefix_len (is_name_part raw) es))) es)
plain-front raw [] h = let len : 0 ≡ front_len raw [] = omega arith in ap (λ n. take n [] ++ joined raw (drop n [])) len
plain-front raw (e ∷ es) h =
    ⊎_elim
    (λ is.
    let none : has_bracketed raw es ≡ false = sym (cond-true (is_name_part raw e) _ _ is) ∙ h in
    let more = names-more raw e es is in
    let len : suc (front_len raw es) ≡ front_len raw (e ∷ es) = omega (arith, more) in
    stays raw e es (no_last raw e es is none) ∙ ap (λ (xs : List Element). e ∷ xs) (plain-front raw es none)
    ∙ ap (λ n. take n (e ∷ es) ++ joined raw (drop n (e ∷ es))) len)
    (λ fails.
    let more = names-none raw e es fails in
    let len : 1 ≡ front_len raw (e ∷ es) = omega (arith, more) in
    stays raw e es (no_part raw e es fails) ∙ ap (λ n. take n (e ∷ es) ++ joined raw (drop n (e ∷ es))) len)
    (cases_Bool (is_name_part raw e))

-- no such words at the front
none-front : (raw : List ℕ) (es : List Element) → names raw es ≡ 0 → joined raw es ≡ take (front_len raw es) es ++ joined raw (drop (front_len raw es) es)
none-front raw [] h = let len : 0 ≡ front_len raw [] = omega arith in ap (λ n. take n [] ++ joined raw (drop n [])) len
none-front raw (e ∷ es) h =
    ⊎_elim
    (λ is. let more = names-more raw e es is in absurd (omega (arith, more, h)))
    (λ fails.
    let len : 1 ≡ front_len raw (e ∷ es) = omega (arith, h) in
    stays raw e es (no_part raw e es fails) ∙ ap (λ n. take n (e ∷ es) ++ joined raw (drop n (e ∷ es))) len)
    (cases_Bool (is_name_part raw e))

-- nothing follows the words
none-last : (raw : List ℕ) (es : List Element) → length es ≤ names raw es → has_bracketed raw es ≡ false
none-last raw [] low = refl
none-last raw (e ∷ es) low =
    ⊎_elim
    (λ is. let more = names-more raw e es is in cond-true (is_name_part raw e) _ _ is ∙ none-last raw es (omega (arith, low, more)))
    (λ fails. let more = names-none raw e es fails in absurd (omega (arith, low, more)))
    (cases_Bool (is_name_part raw e))

-- ---- the front of a list of elements, and what is pushed of it

taken-map : {A : Type 0} (view : A → Element) (k : ℕ) (xs : List A) → take k (map view xs) ≡ map view (take k xs)
taken-map view zero xs = refl
taken-map view (suc k) [] = refl
taken-map view (suc k) (x ∷ xs) = ap (λ (es : List Element). view x ∷ es) (taken-map view k xs)

counted : {A : Type 0} (view : A → Element) (raw : List ℕ) (xs : List A) → prefix_len (λ x. is_name_part raw (view x)) xs ≡ names raw (map view xs)
counted view raw [] = refl
counted view raw (x ∷ xs) = ap (λ n. if is_name_part raw (view x) then 1 + n else 0) (counted view raw xs)

module _ {A : Type 0} (view : A → Element) (raw : List ℕ) (xs : List A) (n : ℕ)
    (given : n ≡ prefix_len (λ x. is_name_part raw (view x)) xs) where
  count : n ≡ names raw (map view xs)
  count = given ∙ counted view raw xs

  -- the first k elements stay as they are
  abbrev Stay : ℕ → Type 0
  Stay k = joined raw (map view xs) ≡ map view (take k xs) ++ joined raw (map view (drop k xs))

  front-stays : (k : ℕ) → joined raw (map view xs) ≡ take (front_len raw (map view xs)) (map view xs) ++ joined raw (drop (front_len raw (map view xs)) (map view xs))
      → k ≡ min (length xs) (n + 1) → Stay k
  front-stays k front is_k =
      let long = length-map xs view in
      let len : front_len raw (map view xs) ≡ k = omega (arith, long, count, is_k) in
      front ∙ ap (λ m. take m (map view xs) ++ joined raw (drop m (map view xs))) len
      ∙ ap (λ (es : List Element). es ++ joined raw (drop k (map view xs))) (taken-map view k xs)
      ∙ ap (λ (es : List Element). map view (take k xs) ++ joined raw es) (drop-map view k xs)

  pub front-none : (k : ℕ) → n ≤ 0 → k ≡ min (length xs) (n + 1) → Stay k
  front-none k none is_k = front-stays k (none-front raw (map view xs) (omega (arith, none, count))) is_k

  pub front-all : (k : ℕ) → length xs ≤ n → k ≡ min (length xs) (n + 1) → Stay k
  front-all k low is_k =
      let long = length-map xs view in
      front-stays k (plain-front raw (map view xs) (none-last raw (map view xs) (omega (arith, low, long, count)))) is_k

  at_last : (d : A) → n < length xs → drop (names raw (map view xs)) (map view xs) ≡ view (get_or xs n d) ∷ map view (drop (n + 1) xs)
  at_last d low = ap (λ m. drop m (map view xs)) (sym count) ∙ drop-map view n xs ∙ at_drop_more (map view) xs n d low

  pub front-other : (d : A) (k : ℕ) → n < length xs → is_bracketed (view (get_or xs n d)) ≡ false → k ≡ min (length xs) (n + 1) → Stay k
  front-other d k low fails is_k =
      front-stays k (plain-front raw (map view xs) ((has-last raw (map view xs) (view (get_or xs n d)) (map view (drop (n + 1) xs)) (at_last d low)).0 ∙ fails)) is_k

  pub front-named : (d : A) → 0 < n → n < length xs → is_bracketed (view (get_or xs n d)) ≡ true
      → joined raw (map view xs) ≡ between raw (start_of (view (get_or xs 0 d))) (end_of (view (get_or xs n d))) ∷ joined raw (map view (drop (n + 1) xs))
  front-named d some low h = go xs count low h
    where
      go : (ys : List A) → n ≡ prefix_len (is_name_part raw) (map view ys) → n < length ys → is_bracketed (view (get_or ys n d)) ≡ true
          → joined raw (map view ys) ≡ between raw (start_of (view (get_or ys 0 d))) (end_of (view (get_or ys n d))) ∷ joined raw (map view (drop (n + 1) ys))
      go [] count low h = absurd (omega (arith, low))
      go (y ∷ ys) count low h =
          ⊎_elim
          (λ is.
          let m : ℕ = names raw (map view ys) in
          let len : suc m ≡ n = sym (names-more raw (view y) (map view ys) is) ∙ sym count in
          let next : n + 1 ≡ suc (m + 1) = omega (arith, len) in
          let at : drop m (map view ys) ≡ view (get_or ys m d) ∷ map view (drop (m + 1) ys) = drop-map view m ys ∙ at_drop_more (map view) ys m d (omega (arith, low, len)) in
          named-front raw (view y) (map view ys) (view (get_or ys m d)) (map view (drop (m + 1) ys)) is (ap (λ k. is_bracketed (view (get_or (y ∷ ys) k d))) len ∙ h) at
          ∙ ap (λ k. between raw (start_of (view y)) (end_of (view (get_or (y ∷ ys) k d))) ∷ joined raw (map view (drop (m + 1) ys))) len
          ∙ ap (λ k. between raw (start_of (view y)) (end_of (view (get_or (y ∷ ys) n d))) ∷ joined raw (map view (drop k (y ∷ ys)))) (sym next))
          (λ fails. let none = names-none raw (view y) (map view ys) fails in absurd (omega (arith, none, count, some)))
          (cases_Bool (is_name_part raw (view y)))

-- what is pushed of a front, and what follows it
module _ {B : Type 0} (read : Element → List B) (old new : List B) (rest all : List Element) where
  pub pushed-one : (e : Element) → all ≡ e ∷ rest → new ≡ old ++ read e → new ++ flat_map read rest ≡ old ++ flat_map read all
  pushed-one e whole pushed =
      ap (λ (bs : List B). bs ++ flat_map read rest) pushed
      ∙ append_assoc old (read e) (flat_map read rest)
      ∙ ap (λ (es : List Element). old ++ flat_map read es) (sym whole)

  pub pushed-front : (front : List Element) → all ≡ front ++ rest → new ≡ old ++ flat_map read front → new ++ flat_map read rest ≡ old ++ flat_map read all
  pushed-front front whole pushed =
      ap (λ (bs : List B). bs ++ flat_map read rest) pushed
      ∙ append_assoc old (flat_map read front) (flat_map read rest)
      ∙ ap (λ (bs : List B). old ++ bs) (sym (flat_map-append read front rest))
      ∙ ap (λ (es : List Element). old ++ flat_map read es) (sym whole)

-- ---- where the grammar suffices

pub joined-same : (raw : List ℕ) (es : List Element) → EachElement IsComplete es → joined raw es ≡ es
joined-same raw [] are = refl
joined-same raw (single s ∷ es) are =
    stays raw (single s) es
    (ap (λ o. (is_none o && (is_phrase s.text && begins (λ b. b == comma) (drop (length s.text) (drop s.start raw)))) && has_bracketed raw es) are.0.1.0)
    ∙ ap (λ (xs : List Element). single s ∷ xs) (joined-same raw es are.1)
joined-same raw (group g ∷ es) are = ap (λ (xs : List Element). group g ∷ xs) (joined-same raw es are.1)

-- ---- a property of every element

module _ (P : Single → Type 0) (given : (start : ℕ) (text : List ℕ) → P (record { start = start; text = text; mailbox = None })) where
  rest-hold : (es : List Element) → EachElement P es → EachElement P (drop 1 es)
  rest-hold [] are = tt
  rest-hold (single s ∷ es) are = are.1
  rest-hold (group g ∷ es) are = are.1

  pub joined-hold : (raw : List ℕ) (es : List Element) → EachElement P es → EachElement P (joined raw es)
  joined-hold raw [] are = tt
  joined-hold raw (single s ∷ es) are =
      let rest = joined-hold raw es are.1 in
      let end : ℕ = bracketed_end raw es in
      cond_both (is_name_part raw (single s) && has_bracketed raw es) (between raw s.start end ∷ drop 1 (joined raw es)) (single s ∷ joined raw es) (EachElement P)
      (λ e. (given s.start (take (end - s.start) (drop s.start raw)), rest-hold (joined raw es) rest)) (λ e. (are.0, rest))
  joined-hold raw (group g ∷ es) are = (are.0, joined-hold raw es are.1)

-- ---- the order of the elements

-- after the mailbox that may be joined, the elements are in order
record RestInOrder (raw : List ℕ) (place : ℕ) (es : List Element) : Type 0 where
  after : AreInOrder (bracketed_end raw es) raw (drop 1 (joined raw es))
  starts : place ≤ bracketed_end raw es

-- all of them are
record JoinedInOrder (raw : List ℕ) (place : ℕ) (es : List Element) : Type 0 where
  all : AreInOrder place raw (joined raw es)
  rest : has_bracketed raw es ≡ true → RestInOrder raw place es

whole-in_order : (raw : List ℕ) (place start end : ℕ) (after : List Element) → place ≤ start → start ≤ end → AreInOrder end raw after
    → AreInOrder place raw (between raw start end ∷ after)
whole-in_order raw place start end after low high are =
    let n : ℕ = end - start in
    let text : List ℕ = take n (drop start raw) in
    let len = length-take n (drop start raw) in (
      low,
      taken-from raw start text (drop n (drop start raw), sym (take-append-drop n (drop start raw))),
      in_order-later (start + length text) end raw after (omega (arith, len, high)) are,
    )

rest-in_order : (raw : List ℕ) (place : ℕ) (e : Element) (es : List Element) → place ≤ start_of e → JoinedInOrder raw (end_of e) es
    → has_bracketed raw (e ∷ es) ≡ true → RestInOrder raw place (e ∷ es)
rest-in_order raw place e es low next h =
    ⊎_elim
    (λ is.
    let has : has_bracketed raw es ≡ true = sym (cond-true (is_name_part raw e) _ _ is) ∙ h in
    let rest = next.rest has in
    let end : bracketed_end raw (e ∷ es) ≡ bracketed_end raw es = cond-true (is_name_part raw e) _ _ is in
    let starts = rest.starts in record {
      after = subst (λ n. AreInOrder n raw (drop 1 (joined raw (e ∷ es)))) (sym end)
          (subst (λ (xs : List Element). AreInOrder (bracketed_end raw es) raw xs) (sym (ap (drop 1) (joins raw e es is has))) rest.after);
      starts = subst (λ n. place ≤ n) (sym end) (omega (arith, low, starts));
    })
    (λ fails.
    let end : bracketed_end raw (e ∷ es) ≡ end_of e = cond-false (is_name_part raw e) _ _ fails in record {
      after = subst (λ n. AreInOrder n raw (drop 1 (joined raw (e ∷ es)))) (sym end)
          (subst (λ (xs : List Element). AreInOrder (end_of e) raw xs) (sym (ap (drop 1) (stays raw e es (no_part raw e es fails)))) next.all);
      starts = subst (λ n. place ≤ n) (sym end) (omega (arith, low));
    })
    (cases_Bool (is_name_part raw e))

joined-ordered : (raw : List ℕ) (place : ℕ) (es : List Element) → AreInOrder place raw es → JoinedInOrder raw place es
joined-ordered raw place [] are = record { all = tt; rest = λ h. absurd (true≢false (sym h)) }
joined-ordered raw place (e ∷ es) are =
    let next = joined-ordered raw (end_of e) es are.2 in
    let end : ℕ = bracketed_end raw es in record {
      all = cond_both (is_name_part raw e && has_bracketed raw es) (between raw (start_of e) end ∷ drop 1 (joined raw es)) (e ∷ joined raw es) (AreInOrder place raw)
          (λ both.
          let rest = next.rest (and_parts (is_name_part raw e) (has_bracketed raw es) both).1 in
          let starts = rest.starts in
          whole-in_order raw place (start_of e) end (drop 1 (joined raw es)) are.0 (omega (arith, starts)) rest.after)
          (λ none. (are.0, are.1, next.all));
      rest = rest-in_order raw place e es are.0 next;
    }

pub joined-in_order : (raw : List ℕ) (place : ℕ) (es : List Element) → AreInOrder place raw es → AreInOrder place raw (joined raw es)
joined-in_order raw place es are = (joined-ordered raw place es are).all
