-- Lemmas on JSON text, and on lists.
use Rattle.std.proofs.Common.{map, ◌≡◌, ℕ, suc, ◌+◌, ◌<◌, List, [], ◌∷◌, ◌++◌, length, drop, get_or, min, ℤ, pos, negsuc, Option, FitsSigned, w64, decimal, arith, refl, sym, ap, subst, ◌∙◌, append_assoc, add-one, drop-cons}
use Rattle.std.proofs.KnownBytes.{Appends-trans}
use Rattle.std.proofs.lemmas.List.{append-nil}
use Rattle.std.specs.Prelude.{◌^◌, ◌-◌, codes}
use Rattle.std.specs.Fmt.{signed_decimal}
use Rattle.std.specs.Io.KnownBytes.{Appends}
use Rattle.mail_json_text.specs.JsonText.{number_text, seconds_text}
use Rattle.mail_json_text.specs.Printed.{after_commas, listed}

-- numbers of 64 bits are written as they are
pub number_text-fits : (n : ℕ) → n < 2 ^ 64 → decimal n ≡ number_text n
unfolding number_text
number_text-fits n h = let e : n ≡ min n (2 ^ 64 - 1) = omega arith in ap decimal e

pub seconds_text-fits : (z : ℤ) → FitsSigned w64 z → signed_decimal z ≡ seconds_text z
unfolding seconds_text
seconds_text-fits (pos n) h = let e : n ≡ min n (2 ^ 63 - 1) = omega (arith, h.sfits) in ap decimal e
seconds_text-fits (negsuc n) h = let e : suc n ≡ min (suc n) (2 ^ 63) = omega (arith, h.sfits) in ap (λ k. 45 ∷ decimal k) e

-- ---- lists

-- the first of the items that are left
pub drop_next : {A : Type 0} (xs : List A) (i : ℕ) (x : A) → i < length xs → x ≡ get_or xs i x → drop i xs ≡ x ∷ drop (i + 1) xs
drop_next xs i x h e = drop-cons xs i x h ∙ ap (λ y. y ∷ drop (suc i) xs) (sym e) ∙ ap (λ n. x ∷ drop n xs) (sym (add-one i))

-- the texts of the items that are left, the first one after `before`, complete what was written
abbrev pub Wrote : {A : Type 0} → (A → List ℕ) → Option (List ℕ) → Option (List ℕ) → List ℕ → (left all : List A) → Type 0
Wrote text old new before left all = (done : List ℕ) × Appends old new done × (done ++ listed text before left ≡ listed text [] all)

pub listed-comma : {A : Type 0} (text : A → List ℕ) (xs : List A) → listed text (codes ",") xs ≡ after_commas text xs
listed-comma text [] = refl
listed-comma text (x ∷ xs) = refl

pub wrote_more : {A : Type 0} (text : A → List ℕ) (old a b c : Option (List ℕ)) (before : List ℕ) (x : A) (left rest all : List A) → left ≡ x ∷ rest
    → Wrote text old a before left all → Appends a b before → Appends b c (text x) → Wrote text old c (codes ",") rest all
wrote_more text old a b c before x left rest all e here p q =
    let item = before ++ text x in
    let same : (here.0 ++ item) ++ listed text (codes ",") rest ≡ listed text [] all =
    append_assoc here.0 item (listed text (codes ",") rest) ∙ ap (λ t. here.0 ++ t) (append_assoc before (text x) (listed text (codes ",") rest))
    ∙ ap (λ t. here.0 ++ (before ++ (text x ++ t))) (listed-comma text rest) ∙ ap (λ xs. here.0 ++ listed text before xs) (sym e) ∙ here.2 in
    (here.0 ++ item, Appends-trans old a c here.0 item here.1 (Appends-trans a b c before (text x) p q), same)

pub wrote_all : {A : Type 0} (text : A → List ℕ) (old new : Option (List ℕ)) (before : List ℕ) (left all : List A) → left ≡ []
    → Wrote text old new before left all → Appends old new (listed text [] all)
wrote_all text old new before left all none here =
    subst (Appends old new) (sym (append-nil here.0) ∙ ap (λ xs. here.0 ++ listed text before xs) (sym none) ∙ here.2) here.1

-- a list that is mapped twice
pub map_twice : {X Y Z : Type 0} (f : Y → Z) (h : X → Y) (xs : List X) → map (λ x. f (h x)) xs ≡ map f (map h xs)
map_twice f h [] = refl
map_twice f h (x ∷ xs) = ap (λ zs. f (h x) ∷ zs) (map_twice f h xs)
