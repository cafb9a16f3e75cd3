-- What the result of a search says of least places.
use Rattle.std.proofs.Common.{◌≡◌, ℕ, suc, ◌<◌, ◌≤◌, Bool, true, false, List, [], ◌∷◌, ◌++◌, length, drop, Option, is_some, Some, None, refl, ap, ◌∙◌, ⊎_elim, arith, length-drop}
use Rattle.std.proofs.lemmas.Bool.{cases_lt}
use Rattle.std.proofs.Math.ListN.{drop_of_length-le}
use Rattle.mail_codec.specs.Places.{is_empty, place, place_from}
use Rattle.mail_codec.proofs.lemmas.PlacesSearches.{place_none, place_some}
use Rattle.mail_codec.proofs.lemmas.Places.{first_place-before, place_from_bounds, place_from_same, place_from_weaker}
use Rattle.std.proofs.lemmas.List.{take_rest}

-- a search that begins at a place and finds nothing
pub place_from_none : (test : List ℕ → Bool) (bytes : List ℕ) (s : ℕ) → s ≤ length bytes → None ≡ place test (drop s bytes) → place_from test bytes s ≡ length bytes
place_from_none test bytes s fits e = let len = length-drop s bytes in let none = place_none test (drop s bytes) e in omega arith

-- where all places of one test are places of a weaker one, they are sought from the first place of the weaker one on
pub place_from_via : (weak strong : List ℕ → Bool) → ((rest : List ℕ) → strong rest ≡ true → weak rest ≡ true) → (bytes : List ℕ) (s at : ℕ)
    → s ≤ length bytes → place_from weak bytes s ≡ at
    → (at ≤ length bytes) × (place_from weak bytes at ≡ at) × (place_from strong bytes at ≡ place_from strong bytes s)
place_from_via weak strong weaker bytes s at fits e =
    let bounds = place_from_bounds weak bytes s fits in
    let le = place_from_weaker weak strong weaker bytes s in (
      omega arith,
      place_from_same weak bytes s at (omega arith) (omega arith) ∙ e,
      place_from_same strong bytes s at (omega arith) (omega arith),
    )

-- a search that was told to have found nothing
pub not_some : {A : Type 0} (r : Option A) → is_some r ≡ false → None ≡ r
not_some None h = refl
not_some (Some x) h = cc

-- bytes of some length are some
pub not_empty : (bytes : List ℕ) → 0 < length bytes → is_empty bytes ≡ false
not_empty [] h = absurd (omega arith)
not_empty (b ∷ bytes) h = refl

-- ---- a test that passes nowhere

abbrev pub Nowhere : (List ℕ → Bool) → List ℕ → Type 0
Nowhere test bytes = (k : ℕ) → test (drop k bytes) ≡ false

pub nowhere_found : (test : List ℕ → Bool) (bytes : List ℕ) → test [] ≡ false → None ≡ place test bytes → Nowhere test bytes
nowhere_found test bytes end none k =
    let whole = place_none test bytes none in
    ⊎_elim (λ low. first_place-before test bytes k (omega arith)) (λ past. ap test (drop_of_length-le bytes past) ∙ end) (cases_lt k (length bytes))

-- nor in the text at the end
pub nowhere_behind : (test : List ℕ → Bool) (front bytes : List ℕ) → Nowhere test (front ++ bytes) → Nowhere test bytes
nowhere_behind test [] bytes none = none
nowhere_behind test (b ∷ front) bytes none = nowhere_behind test front bytes (λ k. none (suc k))

-- a search from an offset
pub ruleset searches_from = (take_rest, place_from_none)

-- a search that finds nothing
pub ruleset searches_in_vain = (place_none, not_some)

-- a search
pub ruleset searches = (place_none, place_some)
