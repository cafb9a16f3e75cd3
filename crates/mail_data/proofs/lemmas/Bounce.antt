-- Lemmas on delivery status notifications.
use Rattle.std.proofs.Common.{◌≡◌, ℕ, List, [], ◌∷◌, ◌++◌, length, map, Bor, sym, ap, ◌∙◌, arith, append_assoc}
use Rattle.std.specs.Prelude.{flat_map, nat_eq}
use Rattle.std.specs.List.{position_or_len}
use Rattle.std.proofs.lemmas.Bool.{cond-false, le-ltb}
use Rattle.std.proofs.lemmas.Grind.{flat_map-append}
use Rattle.std.proofs.lemmas.List.{append-nil, map_push}
use Rattle.mailparse.proofs.lemmas.EncodedWord.{any_from_place}
use Rattle.mail_data.specs.Bounce.{Delivery, after_type, named_in}

-- ---- the type of a value

pub after_type-none : (text : List ℕ) → position_or_len (λ b. nat_eq b 59) text ≡ length text → text ≡ after_type text
unfolding after_type
after_type-none text h = sym (cond-false _ _ _ (any_from_place (λ b. nat_eq b 59) text ∙ le-ltb _ _ (omega arith)))

-- ---- the recipients

-- those of one more item
pub grown : {X : Type 0} (f : X → List Delivery) (x : X) (rest : List X) (found new all : List Delivery) → new ≡ found ++ f x → found ++ flat_map f (x ∷ rest) ≡ all
    → new ++ flat_map f rest ≡ all
grown f x rest found new all e h = ap (λ (l : List Delivery). l ++ flat_map f rest) e ∙ append_assoc found (f x) (flat_map f rest) ∙ h

-- those of the pieces so far, after one more piece
pub listed_next : (pieces : List (Bor (List ℕ))) (piece : Bor (List ℕ)) (old before new : List Delivery) → before ≡ old ++ flat_map named_in (map (λ p. p.now) pieces)
    → new ≡ before ++ named_in piece.now → new ≡ old ++ flat_map named_in (map (λ p. p.now) (pieces ++ piece ∷ []))
listed_next pieces piece old before new b e =
    let done = map (λ (p : Bor (List ℕ)). p.now) pieces in
    e ∙ ap (λ (l : List Delivery). l ++ named_in piece.now) b ∙ append_assoc old (flat_map named_in done) (named_in piece.now)
    ∙ ap (λ (l : List Delivery). old ++ l)
    (ap (λ (l : List Delivery). flat_map named_in done ++ l) (sym (append-nil (named_in piece.now))) ∙ sym (flat_map-append named_in done (piece.now ∷ []))
    ∙ ap (flat_map named_in) (sym (map_push (λ (p : Bor (List ℕ)). p.now) pieces piece)))
