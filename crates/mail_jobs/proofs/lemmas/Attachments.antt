-- Lemmas on the files that are stored.
use Rattle.std.proofs.Common.{◌≡◌, List, [], ◌∷◌, ◌++◌, map, sym, ap, ◌∙◌}
use Rattle.std.proofs.lemmas.List.{append_assoc, map_push}
use Rattle.std.proofs.lemmas.List.Elements.{All-push}
use Rattle.std.specs.List.{All}

-- the files that were made, one more, and those that are left are all
pub one_more : {X Y : Type 0} (f : X → Y) (xs ys : List X) (x : X) (y : Y) (rest all : List Y)
    → ys ≡ xs ++ x ∷ [] → y ≡ f x → map f xs ++ y ∷ rest ≡ all → map f ys ++ rest ≡ all
one_more f xs ys x y rest all made is so_far =
    ap (λ l. map f l ++ rest) made
    ∙ ap (λ l. l ++ rest) (map_push f xs x)
    ∙ append_assoc (map f xs) (f x ∷ []) rest
    ∙ ap (λ z. map f xs ++ z ∷ rest) (sym is)
    ∙ so_far

-- each of the files that were made, with one more
pub each_more : {X : Type 0} (P : X → Type 0) (xs ys : List X) (x : X) → ys ≡ xs ++ x ∷ [] → All P xs → P x → All P ys
each_more P xs ys x made each one = rw made (All-push P xs x each one)
