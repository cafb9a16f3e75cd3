-- The bytes of safe lines.
use Rattle.std.proofs.Common.{◌≡◌, ℕ, suc, ◌<◌, ◌≤◌, Bool, true, false, not, ◌||◌, List, [], ◌∷◌, ◌++◌, length, get_or, flat_map, arith, inl, inr, refl, sym, ap, ◌∙◌}
use Rattle.std.proofs.lemmas.Bool.{agree_below, agree_below_at, and_from, and_parts, cases_lt, not-true}
use Rattle.std.proofs.lemmas.List.{append-nil}
use Rattle.std.proofs.lemmas.List.Folds.{list_all-append}
use Rattle.std.proofs.lemmas.Str.{inside_one}
use Rattle.std.specs.Char.{encode_utf8}
use Rattle.std.specs.List.{list_all, AllByRecursion}
use Rattle.std.specs.Prelude.{codes}
use Rattle.std.specs.Str.{encode_utf8_all}
use Rattle.mail_codec.specs.Hidden.{is_hidden, IsShown}
use Rattle.mail_view.specs.Line.{AreSafeLines, BeginsFixed, is_plain_byte}

-- of each number below 128
low_plain : agree_below (λ b. is_hidden b || is_plain_byte b) (λ b. true) 128 ≡ true
unfolding is_hidden
low_plain = refl

plain_if_shown : (h p : Bool) → (h || p) ≡ true → h ≡ false → p ≡ true
plain_if_shown true p e f = cc
plain_if_shown false p e f = e

high_plain : (b : ℕ) → 128 ≤ b → is_plain_byte b ≡ true
high_plain b h = grind arith

byte_plain : (c k : ℕ) → is_hidden c ≡ false → k < length (encode_utf8 c) → is_plain_byte (get_or (encode_utf8 c) k 0) ≡ true
byte_plain c k e below =
    let b = get_or (encode_utf8 c) k 0 in
    elim (cases_lt b 128) [
      | inl low ↦
          plain_if_shown (is_hidden b) (is_plain_byte b) (agree_below_at (λ d. is_hidden d || is_plain_byte d) (λ d. true) 128 b low_plain low)
          (ap is_hidden (sym (inside_one c [] (encode_utf8 c) k (sym (append-nil _)) below low)) ∙ e)
      | inr high ↦ high_plain b high
    ]

all_from : (p : ℕ → Bool) (bs : List ℕ) → ((k : ℕ) → k < length bs → p (get_or bs k 0) ≡ true) → list_all p bs ≡ true
all_from p [] h = refl
all_from p (b ∷ bs) h = and_from _ _ (h 0 (omega arith)) (all_from p bs (λ k below. h (suc k) (omega arith)))

characters_plain : (cs : List ℕ) → list_all (λ c. not (is_hidden c)) cs ≡ true → list_all is_plain_byte (encode_utf8_all cs) ≡ true
characters_plain [] e = refl
characters_plain (c ∷ cs) e =
    let p = and_parts (not (is_hidden c)) _ e in
    list_all-append is_plain_byte (encode_utf8 c) (encode_utf8_all cs)
    ∙ and_from _ _ (all_from is_plain_byte (encode_utf8 c) (λ k below. byte_plain c k (not-true _ p.0) below)) (characters_plain cs p.1)

content_plain : (content : List ℕ) → IsShown content → list_all is_plain_byte (content ++ codes "\n") ≡ true
content_plain content shown =
    list_all-append is_plain_byte content (codes "\n")
    ∙ and_from _ _ (ap (list_all is_plain_byte) shown.2 ∙ characters_plain shown.0 shown.1) refl

contents_plain : (contents : List (List ℕ)) → AllByRecursion (λ content. IsShown content × BeginsFixed content) contents
    → list_all is_plain_byte (flat_map (λ content. content ++ codes "\n") contents) ≡ true
contents_plain [] h = refl
contents_plain (content ∷ contents) h =
    list_all-append is_plain_byte (content ++ codes "\n") (flat_map (λ content. content ++ codes "\n") contents)
    ∙ and_from _ _ (content_plain content h.0.0) (contents_plain contents h.1)

pub safe_bytes : (text : List ℕ) → AreSafeLines text → list_all is_plain_byte text ≡ true
safe_bytes text safe = ap (list_all is_plain_byte) safe.2 ∙ contents_plain safe.0 safe.1
