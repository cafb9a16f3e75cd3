-- Lemmas on ids without repeats.
use Rattle.std.proofs.Common.{◌≡◌, ℕ, Bool, true, false, cond, not, ◌||◌, List, [], ◌∷◌, ◌++◌, refl, sym, subst, ap, ◌∙◌}
use Rattle.std.specs.Prelude.{codes}
use Rattle.std.specs.List.{filter, list_any, AllByRecursion, IsDistinct}
use Rattle.std.specs.Str.{bytes_eq}
use Rattle.std.proofs.lemmas.Bool.{not-false, not-true}
use Rattle.std.proofs.lemmas.List.Elements.{filter-append}
use Rattle.std.proofs.lemmas.List.Folds.{list_any-append}
use Rattle.std.proofs.lemmas.List.{append-nil}
use Rattle.mailparse.specs.Mail.{Node}
use Rattle.mail_data.specs.Archive.{ids_of, parents, without_repeats}

-- an id occurs among others
abbrev pub is_among_ids : List ℕ → List (List ℕ) → Bool
is_among_ids id ids = list_any (λ other. bytes_eq other id) ids

-- an id, unless it occurs among others
abbrev pub unless_among : List ℕ → List (List ℕ) → List (List ℕ)
unless_among id ids = cond (is_among_ids id ids) [] (id ∷ [])

-- one id more
pub without_repeats-push : (ids : List (List ℕ)) (id : List ℕ) → without_repeats (ids ++ id ∷ []) ≡ without_repeats ids ++ unless_among id ids
without_repeats-push [] id = refl
without_repeats-push (first ∷ ids) id =
    ap (λ (l : List (List ℕ)). first ∷ filter (λ other. not (bytes_eq first other)) l) (without_repeats-push ids id)
    ∙ ap (λ (l : List (List ℕ)). first ∷ l) (filter-append (λ other. not (bytes_eq first other)) (without_repeats ids) (unless_among id ids))
    ∙ ap (λ (l : List (List ℕ)). first ∷ (filter (λ other. not (bytes_eq first other)) (without_repeats ids) ++ l)) (pick (bytes_eq first id) (is_among_ids id ids) refl)
  where
    pick : (is is_kept : Bool) → bytes_eq first id ≡ is → filter (λ other. not (bytes_eq first other)) (cond is_kept [] (id ∷ [])) ≡ cond (is || is_kept) [] (id ∷ [])
    pick true true e = refl
    pick false true e = refl
    pick true false e = ap (λ b. cond (not b) (id ∷ []) []) e
    pick false false e = ap (λ b. cond (not b) (id ∷ []) []) e

-- membership in ids and one more
pub is_among_ids-push : (ids : List (List ℕ)) (id other : List ℕ) → is_among_ids other (ids ++ id ∷ []) ≡ cond (bytes_eq id other) true (is_among_ids other ids)
is_among_ids-push ids id other = list_any-append (λ one. bytes_eq one other) ids (id ∷ []) ∙ pick (is_among_ids other ids) (bytes_eq id other)
  where
    pick : (a b : Bool) → (a || (b || false)) ≡ cond b true a
    pick true true = refl
    pick true false = refl
    pick false true = refl
    pick false false = refl

-- ---- no id occurs twice

apart_kept : (id : List ℕ) (p : List ℕ → Bool) (ids : List (List ℕ)) → AllByRecursion (λ other. bytes_eq id other ≡ false) ids
    → AllByRecursion (λ other. bytes_eq id other ≡ false) (filter p ids)
apart_kept id p [] h = tt
apart_kept id p (first ∷ ids) h = go (p first) (apart_kept id p ids h.1)
  where
    go : (b : Bool) → AllByRecursion (λ other. bytes_eq id other ≡ false) (filter p ids)
        → AllByRecursion (λ other. bytes_eq id other ≡ false) (cond b (first ∷ filter p ids) (filter p ids))
    go true later = (h.0, later)
    go false later = later

distinct_kept : (p : List ℕ → Bool) (ids : List (List ℕ)) → IsDistinct bytes_eq ids → IsDistinct bytes_eq (filter p ids)
unfolding IsDistinct
distinct_kept p [] h = tt
distinct_kept p (first ∷ ids) h = go (p first) (distinct_kept p ids h.1)
  where
    go : (b : Bool) → IsDistinct bytes_eq (filter p ids) → IsDistinct bytes_eq (cond b (first ∷ filter p ids) (filter p ids))
    go true later = (apart_kept first p ids h.0, later)
    go false later = later

apart : (id : List ℕ) (ids : List (List ℕ)) → AllByRecursion (λ other. bytes_eq id other ≡ false) (filter (λ other. not (bytes_eq id other)) ids)
apart id [] = tt
apart id (first ∷ ids) = go (bytes_eq id first) refl (apart id ids)
  where
    go : (b : Bool) → bytes_eq id first ≡ b → AllByRecursion (λ other. bytes_eq id other ≡ false) (filter (λ other. not (bytes_eq id other)) ids)
        → AllByRecursion (λ other. bytes_eq id other ≡ false) (cond (not b) (first ∷ filter (λ other. not (bytes_eq id other)) ids) (filter (λ other. not (bytes_eq id other)) ids))
    go true e later = later
    go false e later = (e, later)

pub without_repeats-distinct : (ids : List (List ℕ)) → IsDistinct bytes_eq (without_repeats ids)
unfolding IsDistinct
without_repeats-distinct [] = tt
without_repeats-distinct (id ∷ ids) = (apart id (without_repeats ids), distinct_kept (λ other. not (bytes_eq id other)) (without_repeats ids) (without_repeats-distinct ids))

-- ---- the ids that were kept

pub kept-new : (ids kept new : List (List ℕ)) (id : List ℕ) (added : Bool) → kept ≡ without_repeats ids → added ≡ not (is_among_ids id ids) → added ≡ true → new ≡ kept ++ id ∷ []
    → new ≡ without_repeats (ids ++ id ∷ [])
kept-new ids kept new id added before is holds push =
    push ∙ ap (λ (l : List (List ℕ)). l ++ id ∷ []) before ∙ ap (λ b. without_repeats ids ++ cond b [] (id ∷ [])) (sym (not-true (is_among_ids id ids) (sym is ∙ holds)))
    ∙ sym (without_repeats-push ids id)

pub kept-old : (ids kept : List (List ℕ)) (id : List ℕ) (added : Bool) → kept ≡ without_repeats ids → added ≡ not (is_among_ids id ids) → added ≡ false
    → kept ≡ without_repeats (ids ++ id ∷ [])
kept-old ids kept id added before is fails =
    before ∙ sym (append-nil (without_repeats ids)) ∙ ap (λ b. without_repeats ids ++ cond b [] (id ∷ [])) (sym (not-false (is_among_ids id ids) (sym is ∙ fails)))
    ∙ sym (without_repeats-push ids id)

-- the ids seen, after one more
pub seen-next : (ids : List (List ℕ)) (id key q : List ℕ) (old new : Bool) → key ≡ id → new ≡ cond (bytes_eq key q) true old → old ≡ is_among_ids q ids
    → new ≡ is_among_ids q (ids ++ id ∷ [])
seen-next ids id key q old new same is before =
    is ∙ ap (λ (k : List ℕ). cond (bytes_eq k q) true old) same ∙ ap (cond (bytes_eq id q) true) before ∙ sym (is_among_ids-push ids id q)

-- ---- the parents of a mail

pub parents-are : (node : Node) (first second all ids : List (List ℕ)) → first ≡ ids_of true (codes "References") node.headers → second ≡ ids_of true (codes "In-Reply-To") node.headers
    → all ≡ first ++ second → ids ≡ without_repeats all → parents node ≡ ids
unfolding parents
parents-are node first second all ids a b both is =
    ap (λ (l : List (List ℕ)). without_repeats (l ++ ids_of true (codes "In-Reply-To") node.headers)) (sym a)
    ∙ ap (λ (l : List (List ℕ)). without_repeats (first ++ l)) (sym b) ∙ ap without_repeats (sym both) ∙ sym is

pub parents-distinct : (all ids : List (List ℕ)) → ids ≡ without_repeats all → IsDistinct bytes_eq ids
parents-distinct all ids is = subst (IsDistinct bytes_eq) (sym is) (without_repeats-distinct all)
