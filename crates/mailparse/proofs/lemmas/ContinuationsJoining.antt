-- The sections of a base, one after the other.
use Rattle.std.proofs.Common.{◌≡◌, ℕ, zero, suc, ◌+◌, ◌-◌, ◌<◌, ◌≤◌, Bool, true, false, not, is_some, List, [], ◌∷◌, ◌++◌, flat_map, append_assoc, Option, Some, None, refl, sym, ap, ◌∙◌, arith}
use Rattle.std.proofs.lemmas.Bool.{cond-false, cond-true}
use Rattle.std.specs.Option.{option_to_list}
use Rattle.mail_codec.specs.Places.{least, values_below}
use Rattle.mailparse.specs.Continuations.{Group, group_text, groups, is_missing, joined, most_sections, onto_run, run, sections_of, text_alone}
use Rattle.mailparse.specs.Sections.{Section, octets, section_name}

-- a section before others; without a section nothing
abbrev pub cons_if_some : Option Section → List Section → List Section
cons_if_some None rest = []
cons_if_some (Some section) rest = section ∷ rest

-- the sections of a base with the numbers from one on, up to the first that is missing, and at most `most`
abbrev pub sections_from : (List ℕ → Option Section) → List ℕ → ℕ → ℕ → List Section
sections_from at base zero number = []
sections_from at base (suc most) number = cons_if_some (at (section_name base number)) (sections_from at base most (suc number))

pub most : most_sections ≡ 18446744073709551615
unfolding most_sections
most = refl

-- there is no section with the next number
pub sections_none : (at : List ℕ → Option Section) (base : List ℕ) (n number : ℕ) → at (section_name base number) ≡ None → sections_from at base n number ≡ []
sections_none at base zero number e = refl
sections_none at base (suc n) number e = ap (λ o. cons_if_some o (sections_from at base n (suc number))) e

-- there is one
pub sections_some : (at : List ℕ → Option Section) (base : List ℕ) (most number : ℕ) (section : Section) → number < most → at (section_name base number) ≡ Some section
    → sections_from at base (most - number) number ≡ section ∷ sections_from at base (most - (number + 1)) (number + 1)
sections_some at base most number section below e =
    let left : most - number ≡ suc (most - (number + 1)) = omega arith in
    let next : suc number ≡ number + 1 = omega arith in
    ap (λ n. sections_from at base n number) left
    ∙ ap (λ o. cons_if_some o (sections_from at base (most - (number + 1)) (suc number))) e
    ∙ ap (λ j. section ∷ sections_from at base (most - (number + 1)) j) next

-- all numbers are used up
pub sections_end : (at : List ℕ → Option Section) (base : List ℕ) (most number : ℕ) → most ≤ number → sections_from at base (most - number) number ≡ []
sections_end at base most number full = let none : most - number ≡ 0 = omega arith in ap (λ n. sections_from at base n number) none

number_next : (number k : ℕ) → number + suc k ≡ suc number + k
number_next number k = omega arith

-- the sections below the least number without one are those from 0 on, up to the first that is missing
from_number : (at : List ℕ → Option Section) (base : List ℕ) (most number : ℕ) (test : ℕ → Bool) (f : ℕ → Option Section)
    → ((k : ℕ) → test k ≡ is_missing at base (number + k)) → ((k : ℕ) → f k ≡ at (section_name base (number + k)))
    → flat_map option_to_list (values_below (least test most) f) ≡ sections_from at base most number
from_number at base zero number test f missing present = refl
from_number at base (suc most) number test f missing present =
    go (at (section_name base number)) refl
    (from_number at base most (suc number) (λ k. test (suc k)) (λ k. f (suc k)) (λ k. missing (suc k) ∙ ap (is_missing at base) (number_next number k))
    (λ k. present (suc k) ∙ ap (λ n. at (section_name base n)) (number_next number k)))
  where
    here : number + 0 ≡ number
    here = omega arith

    first : f 0 ≡ at (section_name base number)
    first = present 0 ∙ ap (λ n. at (section_name base n)) here

    tested : test 0 ≡ not (is_some (at (section_name base number)))
    tested = missing 0 ∙ ap (is_missing at base) here

    go : (o : Option Section) → at (section_name base number) ≡ o
        → flat_map option_to_list (values_below (least (λ k. test (suc k)) most) (λ k. f (suc k))) ≡ sections_from at base most (suc number)
        → flat_map option_to_list (values_below (least test (suc most)) f) ≡ cons_if_some (at (section_name base number)) (sections_from at base most (suc number))
    go None e more =
        let yes : test 0 ≡ true = tested ∙ ap (λ o. not (is_some o)) e in
        ap (λ n. flat_map option_to_list (values_below n f)) (cond-true (test 0) 0 (suc (least (λ k. test (suc k)) most)) yes)
        ∙ sym (ap (λ o. cons_if_some o (sections_from at base most (suc number))) e)
    go (Some section) e more =
        let no : test 0 ≡ false = tested ∙ ap (λ o. not (is_some o)) e in
        ap (λ n. flat_map option_to_list (values_below n f)) (cond-false (test 0) 0 (suc (least (λ k. test (suc k)) most)) no)
        ∙ ap (λ o. option_to_list o ++ flat_map option_to_list (values_below (least (λ k. test (suc k)) most) (λ k. f (suc k)))) (first ∙ e)
        ∙ ap (λ rest. section ∷ rest) more
        ∙ sym (ap (λ o. cons_if_some o (sections_from at base most (suc number))) e)

pub sections_are : (at : List ℕ → Option Section) (base : List ℕ) → sections_of at base ≡ sections_from at base most_sections 0
sections_are at base = from_number at base most_sections 0 (is_missing at base) (λ number. at (section_name base number)) (λ k. ap (is_missing at base) (zero_more k)) (λ k. ap (λ n. at (section_name base n)) (zero_more k))
  where
    zero_more : (k : ℕ) → k ≡ 0 + k
    zero_more k = omega arith

-- ---- runs

-- two sections in front of groups
onto_twice : (first second : List ℕ → List ℕ) (a b : List ℕ) (found : List Group) → onto_run first a (onto_run second b found) ≡ onto_run second (a ++ b) found
onto_twice first second a b [] = refl
onto_twice first second a b (text_alone t ∷ more) = refl
onto_twice first second a b (run last others ∷ more) = ap (λ bytes. run last bytes ∷ more) (sym (append_assoc a b others))

-- two sections of bytes, one after the other, join as one
pub joined_run : (first second : List ℕ → List ℕ) (a b : List ℕ) (rest : List Section) → joined (octets first a ∷ octets second b ∷ rest) ≡ joined (octets second (a ++ b) ∷ rest)
joined_run first second a b rest = ap (flat_map group_text) (onto_twice first second a b (groups rest))
