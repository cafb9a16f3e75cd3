-- Few bytes are taken at a time.
use Rattle.std.proofs.Common.{◌≡◌, ℕ, ◌-◌, ◌<◌, ◌≤◌, Bool, true, false, cond, List, [], ◌∷◌, length, get_or, refl, arith, Option, None, Some}
use Rattle.std.specs.Prelude.{nat_lt}
use Rattle.std.specs.Int.{is_in_range}
use Rattle.std.proofs.lemmas.Bool.Decides.{nat_tests}
use Rattle.mail_codec.specs.Front.{Taken}
use Rattle.mail_charsets.specs.Front.{TakesFew, fault, faulty, front_by, long_or, no_long, one_or, pair, whole_or}
use Rattle.mail_charsets.specs.Gb18030.{four_chars, four_pointer, gb18030_four, gb18030_long}
use Rattle.mail_charsets.specs.EucJp.{begins_three, euc_jp_chars, euc_jp_long}

not_below : (a b : ℕ) → nat_lt a b ≡ false → b ≤ a
not_below a b h = grind (arith, nat_tests)

-- by cases
few_if : (count : ℕ) (t : Bool) (x y : Taken) → (t ≡ true → TakesFew count x) → (t ≡ false → TakesFew count y) → TakesFew count (cond t x y)
few_if count true x y then_few else_few = then_few refl
few_if count false x y then_few else_few = else_few refl

few_chars : (count n : ℕ) (cs : List ℕ) → 0 < n → n ≤ count → n ≤ 4 → TakesFew count (cs, n)
few_chars count n cs some within four = (some, within, four)

few_fault : (count n : ℕ) → 0 < n → n ≤ count → n ≤ 4 → TakesFew count (fault n)
few_fault count n some within four = (some, within, four)

few_or : (count n m : ℕ) (cs : List ℕ) → n ≤ count → n ≤ 4 → 0 < m → m ≤ n → TakesFew count (whole_or cs n m)
few_or count n m [] within four some less = few_fault count m some (omega (arith, less, within)) (omega (arith, less, four))
few_or count n m (c ∷ cs) within four some less = few_chars count n (c ∷ cs) (omega (arith, less, some)) within four

faulty_some : (t : Bool) (n : ℕ) → 1 < n → 0 < cond t (n - 1) n
faulty_some true n two = omega (arith, two)
faulty_some false n two = omega (arith, two)

faulty_less : (t : Bool) (n : ℕ) → cond t (n - 1) n ≤ n
faulty_less true n = omega arith
faulty_less false n = omega arith

few_faulty : (count n last : ℕ) (cs : List ℕ) → 1 < n → n ≤ count → n ≤ 4 → TakesFew count (whole_or cs n (faulty last n))
few_faulty count n last cs two within four = few_or count n (faulty last n) cs within four (faulty_some (nat_lt last 128) n two) (faulty_less (nat_lt last 128) n)

few_one : (count : ℕ) (o : Option ℕ) (t : Taken) → 0 < count → TakesFew count t → TakesFew count (one_or o t)
few_one count None t some rest = rest
few_one count (Some x) t some rest = few_chars count 1 (x ∷ []) (omega arith) some (omega arith)

-- a long sequence, if it is one, takes few bytes
abbrev pub IfFew : ℕ → Option Taken → Type 0
IfFew count None = Unit {0}
IfFew count (Some t) = TakesFew count t

few_long : (count : ℕ) (o : Option Taken) (t : Taken) → IfFew count o → TakesFew count t → TakesFew count (long_or o t)
few_long count None t long rest = rest
few_long count (Some x) t long rest = long

if_few : (count : ℕ) (t : Bool) (x : Taken) → TakesFew count x → IfFew count (cond t (Some x) None)
if_few count true x few = few
if_few count false x few = tt

pub front_few : (long : List ℕ → Option Taken) (single : ℕ → Option ℕ) (pairs : ℕ → ℕ → List ℕ) (bs : List ℕ) → 0 < length bs
    → (2 ≤ length bs → IfFew (length bs) (long bs)) → TakesFew (length bs) (front_by long single pairs bs)
unfolding front_by
front_few long single pairs bs some longs =
    let byte = get_or bs 0 0 in let trail = get_or bs 1 0 in let count = length bs in
    few_if count (nat_lt byte 128) (byte ∷ [], 1) (one_or (single byte) (cond (nat_lt count 2) (fault 1) (long_or (long bs) (pair (pairs byte trail) trail))))
    (λ _. few_chars count 1 (byte ∷ []) (omega arith) some (omega arith))
    (λ _. few_one count (single byte) (cond (nat_lt count 2) (fault 1) (long_or (long bs) (pair (pairs byte trail) trail))) some
    (few_if count (nat_lt count 2) (fault 1) (long_or (long bs) (pair (pairs byte trail) trail))
    (λ _. few_fault count 1 (omega arith) some (omega arith))
    (λ e. let two = not_below count 2 e in few_long count (long bs) (pair (pairs byte trail) trail) (longs two) (few_faulty count 2 trail (pairs byte trail) (omega arith) two (omega arith)))))

pub none_few : (bs : List ℕ) → 2 ≤ length bs → IfFew (length bs) (no_long bs)
none_few bs two = tt

pub four_few : (ranges : List (ℕ × ℕ)) (bs : List ℕ) → 2 ≤ length bs → IfFew (length bs) (gb18030_long ranges bs)
four_few ranges bs two =
    let count = length bs in let third = get_or bs 2 0 in let fourth = get_or bs 3 0 in
    let known = whole_or (four_chars ranges (four_pointer bs)) 4 4 in
    if_few count (is_in_range 0x30 0x39 (get_or bs 1 0)) (gb18030_four ranges bs)
    (few_if count (nat_lt count 3) (fault 2) (cond (is_in_range 0x81 0xFE third) (cond (nat_lt count 4) (fault 3) (cond (is_in_range 0x30 0x39 fourth) known (fault 1))) (fault 1))
    (λ _. few_fault count 2 (omega arith) two (omega arith))
    (λ e. let three = not_below count 3 e in
    few_if count (is_in_range 0x81 0xFE third) (cond (nat_lt count 4) (fault 3) (cond (is_in_range 0x30 0x39 fourth) known (fault 1))) (fault 1)
    (λ _. few_if count (nat_lt count 4) (fault 3) (cond (is_in_range 0x30 0x39 fourth) known (fault 1))
    (λ _. few_fault count 3 (omega arith) three (omega arith))
    (λ e. let four = not_below count 4 e in
    few_if count (is_in_range 0x30 0x39 fourth) known (fault 1)
    (λ _. few_or count 4 4 (four_chars ranges (four_pointer bs)) four (omega arith) (omega arith) (omega arith))
    (λ _. few_fault count 1 (omega arith) (omega (arith, two)) (omega arith))))
    (λ _. few_fault count 1 (omega arith) (omega (arith, two)) (omega arith))))

pub three_few : (second bs : List ℕ) → 2 ≤ length bs → IfFew (length bs) (euc_jp_long second bs)
three_few second bs two =
    let count = length bs in let row = get_or bs 1 0 in let column = get_or bs 2 0 in
    if_few count (begins_three bs) (cond (nat_lt count 3) (fault 2) (whole_or (euc_jp_chars second row column) 3 (faulty column 3)))
    (few_if count (nat_lt count 3) (fault 2) (whole_or (euc_jp_chars second row column) 3 (faulty column 3))
    (λ _. few_fault count 2 (omega arith) two (omega arith))
    (λ e. few_faulty count 3 column (euc_jp_chars second row column) (omega arith) (not_below count 3 e) (omega arith)))
