-- Lemmas on addresses whose characters are written in ASCII.
use Rattle.std.proofs.Common.{◌≡◌, ℕ, ◌<◌, false, eqb, List, [], ◌∷◌, ◌++◌, length, drop, get_or, ◌+◌, Option, Some, None, sym, ap, ◌∙◌, arith}
use Rattle.std.specs.Prelude.{flat_map, option_and_then, option_map}
use Rattle.std.specs.Borrow.{Bor}
use Rattle.std.specs.List.{list_any, slice_split, before_first, after_first}
use Rattle.std.specs.Option.{MatchOption}
use Rattle.std.proofs.lemmas.Bool.{cond-true, cond-false, le-ltb, lt-ltb}
use Rattle.std.proofs.lemmas.List.{at_drop_more}
use Rattle.std.proofs.lemmas.List.Elements.{All-from_get_or}
use Rattle.std.proofs.lemmas.List.Splits.{slice_split_first, slice_split_none}
use Rattle.std.proofs.lemmas.List.Sums.{fails_before_first}
use Rattle.mailparse.proofs.lemmas.EncodedWord.{any_from_place}
use Rattle.mail_data.specs.AddressEscapes.{cut_at, number_after, read_piece, read_pieces, unescaped, with_digit}
use Rattle.mail_read.proofs.lemmas.lenient.Ids.{SplitsAt}

-- ---- a text cut at a byte

pair_same : (a b x y : List ℕ) → x ≡ a → y ≡ b → ◌≡◌ {A = Option (List ℕ × List ℕ)} (Some (x, y)) (Some (a, b))
pair_same a b x y e f = ap (λ (l : List ℕ). Some (l, y)) e ∙ ap (λ (l : List ℕ). Some (a, l)) f

pub cut_at-is : (byte : ℕ) (bytes : List ℕ) (r : Option (Bor (List ℕ) × Bor (List ℕ))) → SplitsAt byte bytes r
    → option_map (λ p. (p.0.now, p.1.now)) r ≡ cut_at byte bytes
unfolding cut_at
cut_at-is byte bytes None h =
    sym (cond-false (list_any (λ b. eqb b byte) bytes) _ _ (any_from_place (λ b. eqb b byte) bytes ∙ le-ltb _ _ (omega arith)))
cut_at-is byte bytes (Some x) h =
    pair_same (before_first (λ b. eqb b byte) bytes) (after_first (λ b. eqb b byte) bytes) x.0.now x.1.now h.1 h.2
    ∙ sym (cond-true (list_any (λ b. eqb b byte) bytes) _ _ (any_from_place (λ b. eqb b byte) bytes ∙ lt-ltb _ _ h.0))

pub pieces-at : (byte : ℕ) (bytes : List ℕ) (r : Option (Bor (List ℕ) × Bor (List ℕ))) → SplitsAt byte bytes r
    → MatchOption r (slice_split (λ b. eqb b byte) bytes ≡ bytes ∷ []) (λ p. slice_split (λ b. eqb b byte) bytes ≡ p.0.now ∷ slice_split (λ b. eqb b byte) p.1.now)
pieces-at byte bytes None h =
    slice_split_none (λ b. eqb b byte) bytes (All-from_get_or (λ b. eqb b byte ≡ false) bytes 0 (λ k low. fails_before_first (λ b. eqb b byte) bytes k 0 (omega arith)))
pieces-at byte bytes (Some x) h =
    slice_split_first (λ b. eqb b byte) bytes 0 h.0
    ∙ ap (λ (piece : List ℕ). piece ∷ slice_split (λ b. eqb b byte) (after_first (λ b. eqb b byte) bytes)) (sym h.1)
    ∙ ap (λ (rest : List ℕ). x.0.now ∷ slice_split (λ b. eqb b byte) rest) (sym h.2)

-- ---- the pieces of a text

-- the text so far, and then that of the pieces of the rest
abbrev pub read_with : List ℕ → List ℕ → List ℕ
read_with read rest = read ++ flat_map read_piece (slice_split (λ b. eqb b 92) rest)

pub read-none : (text : List ℕ) → slice_split (λ b. eqb b 92) text ≡ text ∷ [] → text ++ [] ≡ unescaped text
unfolding unescaped
read-none text h = sym (ap read_pieces h)

pub read-start : (text front rest read : List ℕ) → slice_split (λ b. eqb b 92) text ≡ front ∷ slice_split (λ b. eqb b 92) rest → read ≡ front
    → read_with read rest ≡ unescaped text
unfolding unescaped
read-start text front rest read h is = ap (λ (r : List ℕ). read_with r rest) is ∙ sym (ap read_pieces h)

-- ---- the number of a character

-- that of the digits from one place onwards, after one digit more
pub number_next : (ds : List ℕ) (i number : ℕ) (next : Option ℕ) → i < length ds → next ≡ with_digit number (get_or ds i 0)
    → number_after number (drop i ds) ≡ option_and_then (λ n. number_after n (drop (i + 1) ds)) next
number_next ds i number next lt is =
    at_drop_more (number_after number) ds i 0 lt ∙ ap (option_and_then (λ n. number_after n (drop (i + 1) ds))) (sym is)
