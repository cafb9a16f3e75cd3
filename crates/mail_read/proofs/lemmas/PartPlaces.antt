-- Lemmas on the places of a mail and its parts.
use Rattle.std.proofs.Common.{◌≡◌, ℕ, List, [], ◌∷◌, ◌++◌, map, suc, refl, sym, ap, ◌∙◌}
use Rattle.std.proofs.lemmas.List.{map-append}
use Rattle.mailparse.specs.Mail.{Tree, tree, Forest, no_parts, part_and, trees_in, trees_within}
use Rattle.mailparse.specs.Placement.{Placement}
use Rattle.mailparse.specs.Views.{tree_of}
use Rattle.mail_read.specs.Files.{parts_with_paths, path_under, with_paths}
use Rattle.mail_read.specs.PartPlaces as words
use Rattle.mail_read.specs.PlaceViews.{numbered_view, place_view, placement_view}
use Rattle.mail_read.specs.declared.places.Place.{Place}

-- the paths and the ranges of places are the places
placed-views : (found : List Place) → words.placed (map numbered_view found) (map placement_view found) ≡ map place_view found
placed-views [] = refl
placed-views (place ∷ found) = ap (λ (places : List words.Place). place_view place ∷ places) (placed-views found)

-- those that were added to none
pub placed-added : (old found : List Place) (messages : List (List ℕ × Tree)) (ranges : List Placement) → old ≡ []
    → map numbered_view found ≡ map numbered_view old ++ messages → map placement_view found ≡ map placement_view old ++ ranges
    → map place_view found ≡ words.placed messages ranges
placed-added old found messages ranges none paths places =
    sym (placed-views found)
    ∙ ap (λ (p : List (List ℕ × Tree)). words.placed p (map placement_view found)) (paths ∙ ap (λ (items : List Place). map numbered_view items ++ messages) none)
    ∙ ap (words.placed messages) (places ∙ ap (λ (items : List Place). map placement_view items ++ ranges) none)

-- messages with paths are those within the mail
mutual
  trees-paths : (path : List ℕ) (t : Tree) → map (λ (m : List ℕ × Tree). m.1) (with_paths path t) ≡ trees_within t
  trees-paths path (tree node parts) = ap (λ (ts : List Tree). tree node parts ∷ ts) (trees-parts path 1 parts)

  trees-parts : (path : List ℕ) (number : ℕ) (parts : Forest) → map (λ (m : List ℕ × Tree). m.1) (parts_with_paths path number parts) ≡ trees_in parts
  trees-parts path number no_parts = refl
  trees-parts path number (part_and t ts) =
      map-append (λ (m : List ℕ × Tree). m.1) (with_paths (path_under path number) t) (parts_with_paths path (suc number) ts)
      ∙ ap (λ (xs : List Tree). xs ++ map (λ (m : List ℕ × Tree). m.1) (parts_with_paths path (suc number) ts)) (trees-paths (path_under path number) t)
      ∙ ap (λ (xs : List Tree). trees_within t ++ xs) (trees-parts path (suc number) ts)

trees-views : (found : List Place) → map (λ (place : Place). tree_of place.part.now) found ≡ map (λ (m : List ℕ × Tree). m.1) (map numbered_view found)
trees-views [] = refl
trees-views (place ∷ found) = ap (λ (ts : List Tree). tree_of place.part.now ∷ ts) (trees-views found)

pub trees-added : (old found : List Place) (path : List ℕ) (t : Tree) → old ≡ [] → map numbered_view found ≡ map numbered_view old ++ with_paths path t
    → map (λ (place : Place). tree_of place.part.now) found ≡ trees_within t
trees-added old found path t none paths =
    trees-views found
    ∙ ap (λ (ms : List (List ℕ × Tree)). map (λ (m : List ℕ × Tree). m.1) ms) (paths ∙ ap (λ (items : List Place). map numbered_view items ++ with_paths path t) none)
    ∙ trees-paths path t
