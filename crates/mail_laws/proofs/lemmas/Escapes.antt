-- Exactly the backslashes at odd positions of their runs are removed.
use Rattle.std.proofs.Common.{◌≡◌, ℕ, zero, suc, ◌+◌, ◌/◌, Bool, true, false, not, ◌||◌, cond, eqb, List, [], ◌∷◌, ◌++◌, length, map, replicate, drop, slice_index, refl, sym, ap, ◌∙◌, arith}
use Rattle.std.proofs.lemmas.Bool.{cond-true, cond-false}
use Rattle.std.proofs.lemmas.List.{drop-drop}
use Rattle.std.specs.List.{filter, range_with_len}
use Rattle.mail_codec.specs.Ascii.{backslash}
use Rattle.mail_codec.specs.Places.{begins}
use Rattle.mailparse.specs.Segments.{is_odd, without_escapes}
use Rattle.mail_laws.specs.Escapes.{backslashes_before, stays, staying}

-- one character more
step : (r c i : ℕ) (cs tail : List ℕ) → i ≡ c → (t : Bool) → eqb c backslash ≡ t → eqb i backslash ≡ t → (o : Bool) → is_odd r ≡ o
    → without_escapes (cond t (suc r) 0) cs ≡ tail
    → without_escapes r (c ∷ cs) ≡ cond (not (eqb i backslash) || is_odd r) (i ∷ tail) tail
step r c i cs tail same true e d true odd later = rw (e, d, odd) (ap (λ l. c ∷ l) later ∙ ap (λ x. x ∷ tail) (sym same))
step r c i cs tail same true e d false odd later = rw (e, d, odd) later
step r c i cs tail same false e d _ odd later = rw (e, d) (ap (λ l. c ∷ l) later ∙ ap (λ x. x ∷ tail) (sym same))

-- what is mapped of what passes
map_cond : (f : ℕ → ℕ) (t : Bool) (a : ℕ) (l : List ℕ) → map f (cond t (a ∷ l) l) ≡ cond t (f a ∷ map f l) (map f l)
map_cond f true a l = refl
map_cond f false a l = refl

first_is : (text : List ℕ) (a c : ℕ) (cs : List ℕ) → drop a text ≡ c ∷ cs → slice_index text a ≡ c
first_is [] zero c cs h = absurd (cc)
first_is [] (suc a) c cs h = absurd (cc)
first_is (x ∷ xs) zero c cs h = ap (λ l. slice_index l 0) h
first_is (x ∷ xs) (suc a) c cs h = first_is xs a c cs h

next : (a : ℕ) → a + 1 ≡ suc a
next a = omega arith

rest_is : (text : List ℕ) (a c : ℕ) (cs : List ℕ) → drop a text ≡ c ∷ cs → drop (suc a) text ≡ cs
rest_is text a c cs h = ap (λ k. drop k text) (sym (next a)) ∙ sym (drop-drop 1 a text) ∙ ap (drop 1) h

-- the characters that stay after a place
abbrev staying_from : List ℕ → ℕ → ℕ → List ℕ
staying_from text a n = map (slice_index text) (filter (stays text) (range_with_len a n))

from : (text rest : List ℕ) (a : ℕ) → drop a text ≡ rest → without_escapes (backslashes_before text a) rest ≡ staying_from text a (length rest)
from text [] a h = refl
from text (c ∷ cs) a h =
    let same = first_is text a c cs h in
    step (backslashes_before text a) c (slice_index text a) cs (staying_from text (a + 1) (length cs)) same
    (eqb (slice_index text a) backslash) (ap (λ x. eqb x backslash) (sym same)) refl (is_odd (backslashes_before text a)) refl
    (from text cs (suc a) (rest_is text a c cs h) ∙ sym (ap (λ k. staying_from text k (length cs)) (next a)))
    ∙ sym (map_cond (slice_index text) (stays text a) a (filter (stays text) (range_with_len (a + 1) (length cs))))

pub odd_backslashes_go : (text : List ℕ) → without_escapes 0 text ≡ staying text
odd_backslashes_go text = from text text 0 refl

-- how many backslashes came before does not matter if none follows
anew : (r : ℕ) (rest : List ℕ) → begins (λ b. eqb b backslash) rest ≡ false → without_escapes r rest ≡ without_escapes 0 rest
anew r [] h = refl
anew r (c ∷ cs) h = cond-false _ _ _ h ∙ sym (cond-false _ _ _ h)

half_more : (n : ℕ) → suc (suc n) / 2 ≡ suc (n / 2)
half_more n = omega arith

-- a run of backslashes after an even number of them
pub half_stays : (n r : ℕ) (rest : List ℕ) → begins (λ b. eqb b backslash) rest ≡ false → is_odd r ≡ false
    → without_escapes r (replicate n backslash ++ rest) ≡ replicate (n / 2) backslash ++ without_escapes 0 rest
half_stays zero r rest h even = anew r rest h
half_stays (suc zero) r rest h even = cond-false _ _ _ even ∙ anew (suc r) rest h
half_stays (suc (suc n)) r rest h even =
    cond-false _ _ _ even
    ∙ cond-true _ _ _ (ap not even)
    ∙ ap (λ l. backslash ∷ l) (half_stays n (suc (suc r)) rest h (ap (λ t. not (not t)) even))
    ∙ sym (ap (λ k. replicate k backslash ++ without_escapes 0 rest) (half_more n))
