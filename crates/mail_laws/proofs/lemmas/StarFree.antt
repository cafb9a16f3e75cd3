-- If no key contains a star, the parameters are the pairs.
use Rattle.std.proofs.Common.{◌≡◌, ℕ, true, false, List, [], ◌∷◌, Some, refl, ◌∙◌}
use Rattle.std.proofs.lemmas.Bool.{cond-false}
use Rattle.std.proofs.lemmas.List.Elements.{All-head, All-tail}
use Rattle.std.specs.Map.{update, update_all}
use Rattle.std.specs.Str.{bytes_eq}
use Rattle.mail_codec.specs.Charset.{Charsets}
use Rattle.mailparse.specs.Continuations.{parameters_in}
use Rattle.mailparse.specs.Pairs.{Texts, no_texts, last_of}
use Rattle.mailparse.specs.private.Continuations.{has_star}
use Rattle.mailparse.proofs.lemmas.StarFree.{another_key, parameters_are_pairs}
use Rattle.mail_laws.specs.StarFree.{AreStarFree}

-- no pair is put at a name with a star
kept : (texts : Texts) (pairs : List (List ℕ × List ℕ)) (name : List ℕ) → AreStarFree pairs → has_star name ≡ true
    → update_all bytes_eq texts pairs name ≡ texts name
kept texts [] name free some = refl
kept texts (pair ∷ pairs) name free some =
    kept (update bytes_eq texts pair.0 (Some pair.1)) pairs name (All-tail (λ pair. has_star pair.0 ≡ false) pair pairs free) some
    ∙ cond-false _ _ _ (another_key pair.0 name (All-head (λ pair. has_star pair.0 ≡ false) pair pairs free) some)

-- so they have nothing there, and the parameters are the pairs
pub star_free_pairs_are_parameters : (known : Charsets) (pairs : List (List ℕ × List ℕ)) → AreStarFree pairs → (name : List ℕ) → parameters_in known pairs name ≡ last_of pairs name
star_free_pairs_are_parameters known pairs free name = parameters_are_pairs known pairs (λ key some. kept no_texts pairs key free some) name
