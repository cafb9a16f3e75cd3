-- Texts without hidden characters.
use Rattle.std.proofs.Common.{◌≡◌, ℕ, true, false, not, ◌&&◌, List, [], ◌∷◌, ◌++◌, flat_map, refl, sym, ap, ◌∙◌, append_assoc}
use Rattle.std.proofs.lemmas.Bool.{and_from}
use Rattle.std.proofs.lemmas.List.{append-nil}
use Rattle.std.proofs.lemmas.List.Folds.{list_all-append}
use Rattle.std.specs.Char.{encode_utf8}
use Rattle.std.specs.List.{list_all}
use Rattle.std.specs.Str.{encode_utf8_all}
use Rattle.mail_codec.specs.Hidden.{is_hidden, IsShown}

encode_append : (cs ds : List ℕ) → encode_utf8_all (cs ++ ds) ≡ encode_utf8_all cs ++ encode_utf8_all ds
encode_append [] ds = refl
encode_append (c ∷ cs) ds = ap (λ t. encode_utf8 c ++ t) (encode_append cs ds) ∙ sym (append_assoc (encode_utf8 c) (encode_utf8_all cs) (encode_utf8_all ds))

pub shown_then : (a b : List ℕ) → IsShown a → IsShown b → IsShown (a ++ b)
shown_then a b p q = (
  p.0 ++ q.0,
  list_all-append (λ c. not (is_hidden c)) p.0 q.0 ∙ and_from _ _ p.1 q.1,
  ap (λ t. t ++ b) p.2 ∙ ap (λ t. encode_utf8_all p.0 ++ t) q.2 ∙ sym (encode_append p.0 q.0),
)

pub shown_nil : IsShown []
shown_nil = ([], refl, refl)

pub shown_one : (c : ℕ) → is_hidden c ≡ false → IsShown (encode_utf8 c)
shown_one c e = (c ∷ [], ap (λ b. not b && true) e, sym (append-nil (encode_utf8 c)))

-- what is shown of each character is shown, so what is shown of all
pub characters_shown : (f : ℕ → List ℕ) → ((c : ℕ) → IsShown (f c)) → (cs : List ℕ) → IsShown (flat_map f cs)
characters_shown f h [] = shown_nil
characters_shown f h (c ∷ cs) = shown_then _ _ (h c) (characters_shown f h cs)
