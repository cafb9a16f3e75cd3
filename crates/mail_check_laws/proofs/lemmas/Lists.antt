-- Lists of findings without some names.
use Rattle.std.proofs.Common.{◌≡◌, ◌∙◌, ℕ, Bool, true, false, List, [], ◌∷◌, ◌++◌, refl, sym, Option, Some, None}
use Rattle.std.specs.Prelude.{◌↔◌, ◌||◌, flat_map, ⊤, if◌then◌else◌}
use Rattle.std.specs.List.{AllByRecursion, list_any}
use Rattle.std.proofs.lemmas.Bool.{or_from, or_parts}
use Rattle.mail_check.specs.Findings.{Finding, Spot, listed, listed_if}
use Rattle.mail_check.specs.declared.names.Name.{Name}
use Rattle.mail_check_laws.specs.Named.{Lacks}

-- ---- what is so of each of a list

pub all_map : {X : Type 0} (P Q : X → Type 0) → ((x : X) → P x → Q x) → (xs : List X) → AllByRecursion P xs → AllByRecursion Q xs
all_map P Q f [] h = tt
all_map P Q f (x ∷ xs) h = (f x h.0, all_map P Q f xs h.1)

pub all_alike : {X : Type 0} (P Q : X → Type 0) → ((x : X) → P x ↔ Q x) → (xs : List X) → AllByRecursion P xs ↔ AllByRecursion Q xs
all_alike P Q f xs = (all_map P Q (λ x. (f x).0) xs, all_map Q P (λ x. (f x).1) xs)

pub all_free : {X : Type 0} (P : X → Type 0) → ((x : X) → P x) → (xs : List X) → AllByRecursion P xs
all_free P f [] = tt
all_free P f (x ∷ xs) = (f x, all_free P f xs)

-- one after the other
pub chain : {A B C : Type 0} → (A ↔ B) → (B ↔ C) → (A ↔ C)
chain f g = (λ a. g.0 (f.0 a), λ c. f.1 (g.1 c))

-- ---- lists that are joined

module _ (test : Name → Bool) where
  pub lacks_left : (xs ys : List Finding) → Lacks test (xs ++ ys) → Lacks test xs
  lacks_left [] ys h = tt
  lacks_left (x ∷ xs) ys h = (h.0, lacks_left xs ys h.1)

  pub lacks_right : (xs ys : List Finding) → Lacks test (xs ++ ys) → Lacks test ys
  lacks_right [] ys h = h
  lacks_right (x ∷ xs) ys h = lacks_right xs ys h.1

  pub lacks_both : (xs ys : List Finding) → Lacks test xs → Lacks test ys → Lacks test (xs ++ ys)
  lacks_both [] ys h k = k
  lacks_both (x ∷ xs) ys h k = (h.0, lacks_both xs ys h.1 k)

  pub lacks_each : {X : Type 0} (f : X → List Finding) (xs : List X) → Lacks test (flat_map f xs) → AllByRecursion (λ x. Lacks test (f x)) xs
  lacks_each f [] h = tt
  lacks_each f (x ∷ xs) h = (lacks_left (f x) (flat_map f xs) h, lacks_each f xs (lacks_right (f x) (flat_map f xs) h))

  pub each_lacks : {X : Type 0} (f : X → List Finding) (xs : List X) → AllByRecursion (λ x. Lacks test (f x)) xs → Lacks test (flat_map f xs)
  each_lacks f [] h = tt
  each_lacks f (x ∷ xs) h = lacks_both (f x) (flat_map f xs) h.0 (each_lacks f xs h.1)

  -- a list without what is asked for says nothing
  pub nothing : (xs : List Finding) → Lacks test xs → (Lacks test xs ↔ ⊤)
  nothing xs free = (λ h. tt, λ h. free)

  -- both lists say something
  pub both_say : {A B : Type 0} (xs ys : List Finding) → (Lacks test xs ↔ A) → (Lacks test ys ↔ B) → (Lacks test (xs ++ ys) ↔ (A × B))
  both_say xs ys f g = (λ h. (f.0 (lacks_left xs ys h), g.0 (lacks_right xs ys h)), λ p. lacks_both xs ys (f.1 p.0) (g.1 p.1))

  -- only the first does
  pub first_says : {A : Type 0} (xs ys : List Finding) → (Lacks test xs ↔ A) → Lacks test ys → (Lacks test (xs ++ ys) ↔ A)
  first_says xs ys f free = (λ h. f.0 (lacks_left xs ys h), λ a. lacks_both xs ys (f.1 a) free)

  -- only the second does
  pub second_says : {B : Type 0} (xs ys : List Finding) → Lacks test xs → (Lacks test ys ↔ B) → (Lacks test (xs ++ ys) ↔ B)
  second_says xs ys free g = (λ h. g.0 (lacks_right xs ys h), λ b. lacks_both xs ys free (g.1 b))

  pub each_says : {X : Type 0} (f : X → List Finding) (P : X → Type 0) → ((x : X) → Lacks test (f x) ↔ P x) → (xs : List X)
      → (Lacks test (flat_map f xs) ↔ AllByRecursion P xs)
  each_says f P g xs = chain (lacks_each f xs, each_lacks f xs) (all_alike (λ x. Lacks test (f x)) P g xs)

  -- ---- what is listed under a name

  -- one that is asked for
  pub asked : (spot : Spot) (n : Name) (offset : Option ℕ) → test n ≡ true → (Lacks test (listed spot n offset) ↔ (offset ≡ None))
  asked spot n None e = (λ h. refl, λ h. tt)
  asked spot n (Some p) e = (λ h. let no : test n ≡ false = h.0 in absurd (cc), λ h. absurd (cc))

  pub asked_if : (spot : Spot) (n : Name) (is : Bool) → test n ≡ true → (Lacks test (listed_if spot n is) ↔ (is ≡ false))
  asked_if spot n false e = (λ h. refl, λ h. tt)
  asked_if spot n true e = (λ h. let no : test n ≡ false = h.0 in absurd (cc), λ h. absurd (cc))

  -- one that is not
  pub free : (spot : Spot) (n : Name) (offset : Option ℕ) → test n ≡ false → Lacks test (listed spot n offset)
  free spot n None e = tt
  free spot n (Some p) e = (e, tt)

  pub free_if : (spot : Spot) (n : Name) (is : Bool) → test n ≡ false → Lacks test (listed_if spot n is)
  free_if spot n false e = tt
  free_if spot n true e = (e, tt)

  -- ---- findings that are there if something is so

  pub if_says : {A : Type 0} (is : Bool) (xs : List Finding) → (Lacks test xs ↔ A) → (Lacks test (if is then xs else []) ↔ (is ≡ true → A))
  if_says true xs f = (λ h e. f.0 h, λ a. f.1 (a refl))
  if_says false xs f = (λ h e. absurd (cc), λ a. tt)

  pub if_free : (is : Bool) (xs : List Finding) → Lacks test xs → Lacks test (if is then xs else [])
  if_free true xs h = h
  if_free false xs h = tt

-- ---- names of two kinds

-- the same names
pub same_names_lack : (test other : Name → Bool) → ((n : Name) → test n ≡ other n) → (xs : List Finding) → Lacks test xs ↔ Lacks other xs
same_names_lack test other f xs =
    all_alike (λ (x : Finding). test x.name ≡ false) (λ (x : Finding). other x.name ≡ false)
    (λ x. (λ h. sym (f x.name) ∙ h, λ h. f x.name ∙ h)) xs

-- the names of one kind or the other
pub either_lacks : (one two : Name → Bool) (xs : List Finding) → Lacks (λ n. one n || two n) xs ↔ (Lacks one xs × Lacks two xs)
either_lacks one two xs = (λ h. (all_map _ _ (λ x k. (or_parts (one x.name) (two x.name) k).0) xs h, all_map _ _ (λ x k. (or_parts (one x.name) (two x.name) k).1) xs h), λ p. both xs p.0 p.1)
  where
    both : (xs : List Finding) → Lacks one xs → Lacks two xs → Lacks (λ n. one n || two n) xs
    both [] h k = tt
    both (x ∷ xs) h k = (or_from (one x.name) (two x.name) h.0 k.0, both xs h.1 k.1)

-- the names of some kinds
pub each_law_lacks : (laws : List (Name → Bool)) (xs : List Finding)
    → Lacks (λ n. list_any (λ (law : Name → Bool). law n) laws) xs ↔ AllByRecursion (λ (law : Name → Bool). Lacks law xs) laws
each_law_lacks [] xs = (λ h. tt, λ h. all_free (λ (x : Finding). false ≡ false) (λ x. refl) xs)
each_law_lacks (law ∷ laws) xs =
    let rest = each_law_lacks laws xs in
    chain (either_lacks law (λ n. list_any (λ (l : Name → Bool). l n) laws) xs) (λ h. (h.0, rest.0 h.1), λ h. (h.0, rest.1 h.1))
