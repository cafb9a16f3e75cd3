-- Lemmas on dispositions whose kind is at the front of the text.
use Rattle.std.proofs.Common.{◌≡◌, ℕ, true, List, [], ◌∷◌, ◌++◌, codes, drop, length, nat_eq, refl, sym, ap, ◌∙◌}
use Rattle.std.specs.List.{starts_with}
use Rattle.std.specs.Str.{chars, trim_end, trim_start}
use lib.Utf8.{encode}
use Rattle.std.proofs.lemmas.Bool.{and_parts, eqb-true, false≢true}
use Rattle.mailparse.specs.Disposition.{attachment, disposition_in, disposition_of, inline}
use Rattle.mailparse.specs.Pairs.{value_of}
use Rattle.mailparse.specs.Segments.{segments}

cut_front : (text front : List ℕ) → starts_with nat_eq text front ≡ true → text ≡ front ++ drop (length front) text
cut_front text [] e = refl
cut_front [] (p ∷ front) e = absurd (false≢true e)
cut_front (b ∷ text) (p ∷ front) e =
    let tests = and_parts _ _ e in
    ap (λ c. c ∷ text) (sym (eqb-true p b tests.0)) ∙ ap (λ (xs : List ℕ). p ∷ xs) (cut_front text front tests.1)

pub attachment-front : (text : List ℕ) → starts_with nat_eq text (codes "attachment;") ≡ true → (disposition_of text).kind ≡ attachment
unfolding disposition_in value_of segments trim_start trim_end chars encode
attachment-front text e = ap (λ (xs : List ℕ). (disposition_of xs).kind) (cut_front text (codes "attachment;") e)

pub inline-front : (text : List ℕ) → starts_with nat_eq text (codes "inline;") ≡ true → (disposition_of text).kind ≡ inline
unfolding disposition_in value_of segments trim_start trim_end chars encode
inline-front text e = ap (λ (xs : List ℕ). (disposition_of xs).kind) (cut_front text (codes "inline;") e)

-- the kinds that texts begin with
pub ruleset plain_kinds = (attachment-front, inline-front)
