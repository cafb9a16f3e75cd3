-- No message of a mail is too far from its start or too deep exactly if the mail is small.
use Rattle.std.proofs.Common.{◌≡◌, ◌∙◌, ◌+◌, ◌<◌, ◌≤◌, ◌/◌, ◌%◌, ℕ, zero, suc, Bool, true, false, cond, List, [], ◌∷◌, ◌++◌, length, map, Ok, refl, sym, ap, subst, inl, inr, arith, decimal}
use Rattle.std.specs.Prelude.{◌⊎◌, ◌==◌, ⊤, filter, nat_lt, codes}
use Rattle.std.specs.Fmt.{digit_glyph, digits, digits_onto}
use Rattle.std.specs.List.{AllByRecursion}
use Rattle.std.proofs.lemmas.Bool.{eqb-true, eq-eqb, ne_eqb}
use Rattle.std.proofs.lemmas.Bool.{cases_Bool, or_from, or_parts}
use Rattle.std.proofs.lemmas.List.{length-map}
use Rattle.mail_codec.specs.Charset.{Charsets}
use Rattle.mail_codec.specs.Places.{is_empty}
use Rattle.mailparse.specs.Mail.{Forest, Tree, tree, no_parts, part_and, read_mail_in, trees_within}
use Rattle.mailparse.specs.Placement.{Placement, placements}
use Rattle.mail_read.specs.Files.{parts_with_paths, path_under, whole_path, with_paths}
use Rattle.mail_read.specs.InnerMails.{dot_count}
use Rattle.mail_read.specs.PartPlaces.{Place, placed, places}
use Rattle.mail_check.specs.Findings.{is_far}
use Rattle.mail_grammar.specs.Levels.{HasLevels, HaveLevels, IsSmall}
use Rattle.mail_check_laws.proofs.lemmas.Pieces.{all_left, all_right}
use Rattle.mail_check_laws.proofs.lemmas.Reading.{all_joined, all_of_map, map_of_all, mail-there, paths-counted}

-- ---- dots in paths

abbrev dots : List ℕ → ℕ
dots xs = length (filter (λ c. c == 46) xs)

dots_more : (x : ℕ) (xs : List ℕ) → (x == 46) ≡ false → dots (x ∷ xs) ≡ dots xs
dots_more x xs h = rw h refl

dots_append : (xs ys : List ℕ) → dots (xs ++ ys) ≡ dots xs + dots ys
dots_append [] ys = omega arith
dots_append (x ∷ xs) ys = elim (cases_Bool (x == 46)) [
  | inl e ↦ let more = dots_append xs ys in let first : dots (x ∷ (xs ++ ys)) ≡ suc (dots (xs ++ ys)) = rw e refl in let second : dots (x ∷ xs) ≡ suc (dots xs) = rw e refl in
      omega (arith, more, first, second)
  | inr e ↦ let more = dots_append xs ys in let first = dots_more x (xs ++ ys) e in let second = dots_more x xs e in omega (arith, more, first, second)
]

no_dot : (d : ℕ) → (digit_glyph false d == 46) ≡ false
no_dot d = by_test (nat_lt d 10)
  where
    by_test : (t : Bool) → (cond t (48 + d) (87 + d) == 46) ≡ false
    by_test true = ne_eqb (48 + d) 46 (λ e. omega (arith, e))
    by_test false = ne_eqb (87 + d) 46 (λ e. omega (arith, e))

onto_dots : (j n : ℕ) (rest : List ℕ) → dots (digits_onto j 10 false n rest) ≡ dots rest
onto_dots zero n rest = refl
onto_dots (suc j) n rest = by_test (n / 10 == 0) (onto_dots j (n / 10) (digit_glyph false (n % 10) ∷ rest))
  where
    by_test : (t : Bool) → dots (digits_onto j 10 false (n / 10) (digit_glyph false (n % 10) ∷ rest)) ≡ dots (digit_glyph false (n % 10) ∷ rest)
        → dots (cond t (digit_glyph false (n % 10) ∷ rest) (digits_onto j 10 false (n / 10) (digit_glyph false (n % 10) ∷ rest))) ≡ dots rest
    by_test true h = dots_more (digit_glyph false (n % 10)) rest (no_dot (n % 10))
    by_test false h = h ∙ dots_more (digit_glyph false (n % 10)) rest (no_dot (n % 10))

onto_some : (j n x : ℕ) (rest : List ℕ) → is_empty (digits_onto j 10 false n (x ∷ rest)) ≡ false
onto_some zero n x rest = refl
onto_some (suc j) n x rest = by_test (n / 10 == 0) (onto_some j (n / 10) (digit_glyph false (n % 10)) (x ∷ rest))
  where
    by_test : (t : Bool) → is_empty (digits_onto j 10 false (n / 10) (digit_glyph false (n % 10) ∷ (x ∷ rest))) ≡ false
        → is_empty (cond t (digit_glyph false (n % 10) ∷ (x ∷ rest)) (digits_onto j 10 false (n / 10) (digit_glyph false (n % 10) ∷ (x ∷ rest)))) ≡ false
    by_test true h = refl
    by_test false h = h

first_some : (j n : ℕ) → is_empty (digits_onto (suc j) 10 false n []) ≡ false
first_some j n = by_test (n / 10 == 0) (onto_some j (n / 10) (digit_glyph false (n % 10)) [])
  where
    by_test : (t : Bool) → is_empty (digits_onto j 10 false (n / 10) (digit_glyph false (n % 10) ∷ [])) ≡ false
        → is_empty (cond t (digit_glyph false (n % 10) ∷ []) (digits_onto j 10 false (n / 10) (digit_glyph false (n % 10) ∷ []))) ≡ false
    by_test true h = refl
    by_test false h = h

decimal_dots : (n : ℕ) → dots (decimal n) ≡ 0
unfolding digits
decimal_dots n = onto_dots 64 n []

decimal_some : (n : ℕ) → is_empty (decimal n) ≡ false
unfolding digits
decimal_some n = first_some 63 n

-- a path of this number of dots, which is not empty
abbrev HasDots : ℕ → List ℕ → Type 0
HasDots d path = (dot_count path ≡ d) × (is_empty path ≡ false)

top_dots : (number : ℕ) → HasDots 0 (path_under [] number)
unfolding dot_count path_under
top_dots number = (decimal_dots number, decimal_some number)

under_dots : (path : List ℕ) (d number : ℕ) → HasDots d path → HasDots (suc d) (path_under path number)
unfolding dot_count path_under
under_dots [] d number h = let no : true ≡ false = h.1 in absurd (cc)
under_dots (c ∷ path) d number h =
    let all = dots_append (c ∷ path) (codes "." ++ decimal number) in
    let last : dots (codes "." ++ decimal number) ≡ suc (dots (decimal number)) = refl in
    let none = decimal_dots number in
    let own : dots (c ∷ path) ≡ d = h.0 in
    (omega (arith, all, last, none, own), refl)

-- ---- levels

-- a path has not ten numbers
abbrev IsNear : List ℕ → Type 0
IsNear path = (dot_count path == 9) ≡ false

near : (path : List ℕ) (d : ℕ) → dot_count path ≡ d → d < 9 → IsNear path
near path d is low = ne_eqb (dot_count path) 9 (λ e. omega (arith, e, is, low))

abbrev Near : List (List ℕ × Tree) → Type 0
Near messages = AllByRecursion (λ (m : List ℕ × Tree). IsNear m.0) messages

mutual
  levels_of : (most d : ℕ) (path : List ℕ) (t : Tree) → d + most ≡ 9 → HasDots d path → Near (with_paths path t) → HasLevels most t
  levels_of zero d path (tree node parts) sum dots h =
      let is = dots.0 in
      let yes : (dot_count path == 9) ≡ true = eq-eqb (dot_count path) 9 (omega (arith, sum, is)) in
      let no : (dot_count path == 9) ≡ false = h.0 in
      absurd (cc)
  levels_of (suc most) d path (tree node parts) sum dots h = levels_in most (suc d) path 1 parts (omega (arith, sum)) (λ number. under_dots path d number dots) h.1

  levels_in : (most d : ℕ) (path : List ℕ) (number : ℕ) (parts : Forest) → d + most ≡ 9 → ((number : ℕ) → HasDots d (path_under path number))
      → Near (parts_with_paths path number parts) → HaveLevels most parts
  levels_in most d path number no_parts sum dots h = tt
  levels_in most d path number (part_and t ts) sum dots h = (
    levels_of most d (path_under path number) t sum (dots number)
        (all_left (λ (m : List ℕ × Tree). IsNear m.0) (with_paths (path_under path number) t) (parts_with_paths path (suc number) ts) h),
    levels_in most d path (suc number) ts sum dots
        (all_right (λ (m : List ℕ × Tree). IsNear m.0) (with_paths (path_under path number) t) (parts_with_paths path (suc number) ts) h),
  )

mutual
  of_levels : (most d : ℕ) (path : List ℕ) (t : Tree) → d + most ≡ 9 → HasDots d path → HasLevels most t → Near (with_paths path t)
  of_levels zero d path (tree node parts) sum dots h = absurd h
  of_levels (suc most) d path (tree node parts) sum dots h =
      (near path d dots.0 (omega (arith, sum)), in_levels most (suc d) path 1 parts (omega (arith, sum)) (λ number. under_dots path d number dots) h)

  in_levels : (most d : ℕ) (path : List ℕ) (number : ℕ) (parts : Forest) → d + most ≡ 9 → ((number : ℕ) → HasDots d (path_under path number))
      → HaveLevels most parts → Near (parts_with_paths path number parts)
  in_levels most d path number no_parts sum dots h = tt
  in_levels most d path number (part_and t ts) sum dots h =
      all_joined (λ (m : List ℕ × Tree). IsNear m.0) (with_paths (path_under path number) t) (parts_with_paths path (suc number) ts)
      (of_levels most d (path_under path number) t sum (dots number) h.0) (in_levels most d path (suc number) ts sum dots h.1)

-- of a whole mail
near_levels : (t : Tree) → Near (with_paths (whole_path t) t) → HasLevels 10 t
near_levels (tree node no_parts) h = tt
near_levels (tree node (part_and t ts)) h = levels_in 9 0 [] 1 (part_and t ts) refl top_dots h.1

levels_near : (t : Tree) → HasLevels 10 t → Near (with_paths (whole_path t) t)
unfolding dot_count
levels_near (tree node no_parts) h = (refl, tt)
levels_near (tree node (part_and t ts)) h = (refl, in_levels 9 0 [] 1 (part_and t ts) refl top_dots h)

-- ---- places

paths-placed : (messages : List (List ℕ × Tree)) (found : List Placement) → length found ≡ length messages
    → map (λ (p : Place). p.path) (placed messages found) ≡ map (λ (m : List ℕ × Tree). m.0) messages
paths-placed [] found e = refl
paths-placed (m ∷ messages) [] e = absurd (omega (arith, e))
paths-placed (m ∷ messages) (p ∷ found) e = ap (λ (ps : List (List ℕ)). m.0 ∷ ps) (paths-placed messages found (omega (arith, e)))

-- no message is too far from the start of the mail or too deep in it
abbrev pub AreNear : ℕ → List Place → Type 0
AreNear number [] = ⊤
AreNear number (place ∷ found) = (is_far number place ≡ false) × AreNear (suc number) found

-- what is found of the number of a message and of its path
far_paths : (number : ℕ) (found : List Place) → AreNear number found → AllByRecursion (λ (p : Place). IsNear p.path) found
far_paths number [] h = tt
far_paths number (p ∷ found) h = ((or_parts (number == 100) (dot_count p.path == 9) h.0).1, far_paths (suc number) found h.1)

far_count : (number : ℕ) (found : List Place) → number ≤ 100 → AreNear number found → number + length found ≤ 100
far_count number [] low h = omega (arith, low)
far_count number (p ∷ found) low h =
    let other = (or_parts (number == 100) (dot_count p.path == 9) h.0).0 in
    let less : number < 100 = elim (cases_below number low) [
      | inl l ↦ l
      | inr e ↦ let yes = eq-eqb number 100 e in absurd (cc)
    ] in
    let more = far_count (suc number) found (omega (arith, less)) h.1 in
    omega (arith, more)
  where
    cases_below : (n : ℕ) → n ≤ 100 → (n < 100) ⊎ (n ≡ 100)
    cases_below n low = elim (cases_Bool (n == 100)) [
      | inl e ↦ inr (eqb-true n 100 e)
      | inr e ↦ inl (let differs : n ≡ 100 → ⊥ = λ same. let yes = eq-eqb n 100 same in cc in omega (arith, low, differs))
    ]

near_far : (number : ℕ) (found : List Place) → number + length found ≤ 100 → AllByRecursion (λ (p : Place). IsNear p.path) found → AreNear number found
near_far number [] low h = tt
near_far number (p ∷ found) low h =
    (or_from (number == 100) (dot_count p.path == 9) (ne_eqb number 100 (λ same. omega (arith, same, low))) h.0, near_far (suc number) found (omega (arith, low)) h.1)

-- of messages whose paths have other numbers of numbers than ten, and that are at most 100
pub near_few : (found : List Place) → AreNear 0 found
    → AllByRecursion (λ (p : Place). IsNear p.path) found × (length found ≤ 100)
near_few found h = (far_paths 0 found h, let most = far_count 0 found (omega arith) h in omega (arith, most))

pub few_near : (found : List Place) → AllByRecursion (λ (p : Place). IsNear p.path) found → length found ≤ 100
    → AreNear 0 found
few_near found near few = near_far 0 found (omega (arith, few)) near

module _ (known : Charsets) (greatest : ℕ) (bytes : List ℕ) (t : Tree) (read : read_mail_in known greatest bytes ≡ Ok t) where
  same_paths : map (λ (p : Place). p.path) (places t (placements 0 t)) ≡ map (λ (m : List ℕ × Tree). m.0) (with_paths (whole_path t) t)
  same_paths = paths-placed (with_paths (whole_path t) t) (placements 0 t) (paths-counted known greatest bytes t read (whole_path t))

  same_count : length (places t (placements 0 t)) ≡ length (trees_within t)
  same_count =
      sym (length-map (places t (placements 0 t)) (λ (p : Place). p.part)) ∙ ap length (mail-there known greatest bytes t read).parts

  pub small_found : AreNear 0 (places t (placements 0 t)) → IsSmall t
  small_found h = record {
    levels = near_levels t (all_of_map (λ (m : List ℕ × Tree). m.0) IsNear (with_paths (whole_path t) t) (subst (AllByRecursion IsNear) same_paths
        (map_of_all (λ (p : Place). p.path) IsNear (places t (placements 0 t)) (far_paths 0 (places t (placements 0 t)) h))));
    messages = let most = far_count 0 (places t (placements 0 t)) (omega arith) h in let same = same_count in omega (arith, most, same);
  }

  pub found_small : IsSmall t → AreNear 0 (places t (placements 0 t))
  found_small h =
      let most = h.messages in
      let same = same_count in
      near_far 0 (places t (placements 0 t)) (omega (arith, most, same))
      (all_of_map (λ (p : Place). p.path) IsNear (places t (placements 0 t)) (subst (AllByRecursion IsNear) (sym same_paths)
      (map_of_all (λ (m : List ℕ × Tree). m.0) IsNear (with_paths (whole_path t) t) (levels_near t h.levels))))
