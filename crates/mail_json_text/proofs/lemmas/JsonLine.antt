-- The values are good, and the text of a good value is a line of JSON.
use Rattle.std.proofs.Common.{◌≡◌, ℕ, ℤ, pos, negsuc, zero, suc, ◌-◌, ◌^◌, ◌<◌, ◌≤◌, min, Bool, true, false, not, ◌&&◌, ◌==◌, nat_le, List, [], ◌∷◌, ◌++◌, length, get_or, map, Less, Option, Some, None, refl, sym, ap, subst, ◌∙◌, arith, decimal, bytes_eq}
use Rattle.std.proofs.lemmas.Bool.{and_parts, and_from, le-leb, not-true, ne_eqb}
use Rattle.std.proofs.lemmas.Fmt.{decimal_is_IsNumeral, decimal_digit}
use Rattle.std.proofs.lemmas.Map.Made.{AllPairs-from_IsDistinct}
use Rattle.std.proofs.lemmas.Map.Text.{is_eq-slice_cmp}
use Rattle.std.proofs.lemmas.Slice.Eq.{bytes_eq-Decides}
use Rattle.std.proofs.lemmas.Str.Parse.{digit_at}
use Rattle.std.specs.Prelude.{⊤}
use Rattle.std.specs.Cmp.Lexicographic.{slice_cmp}
use Rattle.std.specs.List.{list_all, AllByRecursion, IsDistinct}
use Rattle.std.specs.List.Sorted.{IsStrictlySortedBy}
use Rattle.std.specs.Ordering.{is_eq, nat_cmp}
use Rattle.json.proofs.Printed.Decimals.{IsNumber-decimal, IsNumber-signed_decimal}
use Rattle.json.specs.Json.{Json, null, boolean, string, object, Members, no_members, member, max_depth}
use Rattle.json.specs.Strict.{keys, AreDistinct, HasUniqueKeys, ItemsHaveUniqueKeys, MembersHaveUniqueKeys}
use Rattle.json.specs.Tree.{depth, items_depth, members_depth}
use Rattle.json.specs.Value.{items_of}
use Rattle.mail_json_text.specs.JsonText.{number_text, seconds_text}
use Rattle.mail_json_text.specs.Printed.{Member, list_of, members_of, number_or_null, number_value, seconds_value, string_or_null, text_of}
use Rattle.mail_json_text.specs.JsonLine.{is_within_line, IsJsonLine}
use Rattle.mail_json_text.proofs.lemmas.Texts.{document-text_of, IsLineNumber, LineNumbers, ItemsLineNumbers, MembersLineNumbers, HasNumbers-lines, one_line-text_of}

-- a value is good: its numbers are numbers of JSON on one line, no object has a key twice, and it nests no deeper than
-- `d`
pub record IsGood (d : ℕ) (j : Json) : Type 0 where
  pub numbers : LineNumbers j
  pub unique : HasUniqueKeys j
  pub shallow : depth j ≤ d

abbrev pub MembersGood : ℕ → Members → Type 0
MembersGood d no_members = ⊤
MembersGood d (member k j ms) = IsGood d j × MembersGood d ms

abbrev pub AreGood : ℕ → List Member → Type 0
AreGood d ms = MembersGood d (members_of ms)

-- ---- strings, numbers, `null`, `true` and `false`

pub string_good : (d : ℕ) (text : List ℕ) → IsGood d (string text)
string_good d text = record { numbers = tt; unique = tt; shallow = omega arith }

pub null_good : (d : ℕ) → IsGood d null
null_good d = record { numbers = tt; unique = tt; shallow = omega arith }

pub flag_good : (d : ℕ) (b : Bool) → IsGood d (boolean b)
flag_good d b = record { numbers = tt; unique = tt; shallow = omega arith }

pub optional_good : (d : ℕ) (text : Option (List ℕ)) → IsGood d (string_or_null text)
optional_good d (Some text) = string_good d text
optional_good d None = null_good d

digits_line : (ds : List ℕ) → ((i : ℕ) → i < length ds → (48 ≤ get_or ds i 0) × (get_or ds i 0 ≤ 57)) → list_all is_within_line ds ≡ true
digits_line [] h = refl
digits_line (d ∷ ds) h =
    let first : (48 ≤ d) × (d ≤ 57) = h 0 (omega arith) in
    let least = first.0 in
    let most = first.1 in
    and_from _ _ (and_from (nat_le 32 d) (not (d == 127)) (le-leb 32 d (omega arith)) (ap not (ne_eqb d 127 (λ e. omega arith))))
    (digits_line ds (λ i l. h (suc i) (omega arith)))

decimal_line : (n : ℕ) → n < 2 ^ 64 → list_all is_within_line (decimal n) ≡ true
decimal_line zero h = ap (list_all is_within_line) (decimal_digit 0 (omega arith))
decimal_line (suc n) h = digits_line (decimal (suc n)) (λ i l. digit_at _ i (decimal_is_IsNumeral (suc n) h).0.1 l)

line_number : (n : ℕ) → n < 2 ^ 64 → IsLineNumber (decimal n)
line_number n h = (IsNumber-decimal n h, decimal_line n h)

number_text-line : (n : ℕ) → IsLineNumber (number_text n)
unfolding number_text
number_text-line n = line_number (min n (2 ^ 64 - 1)) (omega arith)

seconds_text-line : (z : ℤ) → IsLineNumber (seconds_text z)
unfolding seconds_text
seconds_text-line (pos n) = line_number (min n (2 ^ 63 - 1)) (omega arith)
seconds_text-line (negsuc n) =
    let k = min n (2 ^ 63 - 1) in
    let e : suc k ≡ min (suc n) (2 ^ 63) = omega arith in
    subst (λ m. IsLineNumber (45 ∷ decimal m)) e (IsNumber-signed_decimal (negsuc k) (omega arith), decimal_line (suc k) (omega arith))

pub number_good : (d n : ℕ) → IsGood d (number_value n)
number_good d n = record { numbers = number_text-line n; unique = tt; shallow = omega arith }

pub number_or_null_good : (d : ℕ) (n : Option ℕ) → IsGood d (number_or_null n)
number_or_null_good d (Some n) = number_good d n
number_or_null_good d None = null_good d

pub seconds_good : (d : ℕ) (z : ℤ) → IsGood d (seconds_value z)
seconds_good d z = record { numbers = seconds_text-line z; unique = tt; shallow = omega arith }

-- ---- lists

-- a property of the elements of two lists
pub all_then : {X : Type 0} (P : X → Type 0) (xs ys : List X) → AllByRecursion P xs → AllByRecursion P ys → AllByRecursion P (xs ++ ys)
all_then P [] ys h k = k
all_then P (x ∷ xs) ys h k = (h.0, all_then P xs ys h.1 k)

items_numbers : (d : ℕ) (js : List Json) → AllByRecursion (IsGood d) js → ItemsLineNumbers (items_of js)
items_numbers d [] h = tt
items_numbers d (j ∷ js) h = (h.0.numbers, items_numbers d js h.1)

items_unique : (d : ℕ) (js : List Json) → AllByRecursion (IsGood d) js → ItemsHaveUniqueKeys (items_of js)
items_unique d [] h = tt
items_unique d (j ∷ js) h = (h.0.unique, items_unique d js h.1)

items_shallow : (d : ℕ) (js : List Json) → AllByRecursion (IsGood d) js → items_depth (items_of js) ≤ d
items_shallow d [] h = omega arith
items_shallow d (j ∷ js) h = let first = h.0.shallow in let others = items_shallow d js h.1 in omega arith

pub list_good : (d : ℕ) (js : List Json) → AllByRecursion (IsGood d) js → IsGood (suc d) (list_of js)
list_good d js h = record { numbers = items_numbers d js h; unique = items_unique d js h; shallow = let p = items_shallow d js h in omega arith }

all_mapped : {A : Type 0} (d : ℕ) (f : A → Json) → ((x : A) → IsGood d (f x)) → (xs : List A) → AllByRecursion (IsGood d) (map f xs)
all_mapped d f good [] = tt
all_mapped d f good (x ∷ xs) = (good x, all_mapped d f good xs)

-- a list of the values of items
pub mapped_good : {A : Type 0} (d : ℕ) (f : A → Json) → ((x : A) → IsGood d (f x)) → (xs : List A) → IsGood (suc d) (list_of (map f xs))
mapped_good d f good xs = list_good d (map f xs) (all_mapped d f good xs)

-- ---- objects

pub members_then : (d : ℕ) (ms ns : List Member) → AreGood d ms → AreGood d ns → AreGood d (ms ++ ns)
members_then d [] ns h k = k
members_then d (m ∷ ms) ns h k = (h.0, members_then d ms ns h.1 k)

members_numbers : (d : ℕ) (ms : Members) → MembersGood d ms → MembersLineNumbers ms
members_numbers d no_members h = tt
members_numbers d (member k j ms) h = (h.0.numbers, members_numbers d ms h.1)

members_unique : (d : ℕ) (ms : Members) → MembersGood d ms → MembersHaveUniqueKeys ms
members_unique d no_members h = tt
members_unique d (member k j ms) h = (h.0.unique, members_unique d ms h.1)

members_shallow : (d : ℕ) (ms : Members) → MembersGood d ms → members_depth ms ≤ d
members_shallow d no_members h = omega arith
members_shallow d (member k j ms) h = let first = h.0.shallow in let others = members_shallow d ms h.1 in omega arith

-- ---- no name occurs twice

-- no name of a list occurs twice
abbrev pub all_distinct : List (List ℕ) → Bool
all_distinct [] = true
all_distinct (x ∷ xs) = list_all (λ y. not (bytes_eq x y)) xs && all_distinct xs

others_distinct : (x : List ℕ) (ys : List (List ℕ)) → list_all (λ y. not (bytes_eq x y)) ys ≡ true → AllByRecursion (λ y. bytes_eq x y ≡ false) ys
others_distinct x [] e = tt
others_distinct x (y ∷ ys) e = let p = and_parts (not (bytes_eq x y)) _ e in (not-true _ p.0, others_distinct x ys p.1)

distinct_tested : (xs : List (List ℕ)) → all_distinct xs ≡ true → IsDistinct bytes_eq xs
unfolding IsDistinct
distinct_tested [] e = tt
distinct_tested (x ∷ xs) e = let p = and_parts (list_all (λ y. not (bytes_eq x y)) xs) _ e in (others_distinct x xs p.0, distinct_tested xs p.1)

distinct_names : (xs : List (List ℕ)) → all_distinct xs ≡ true → AreDistinct xs
distinct_names xs e = AllPairs-from_IsDistinct bytes_eq-Decides xs (distinct_tested xs e)

less_distinct : (x : List ℕ) (ys : List (List ℕ)) → AllByRecursion (λ y. slice_cmp nat_cmp x y ≡ Less) ys → AllByRecursion (λ y. bytes_eq x y ≡ false) ys
less_distinct x [] h = tt
less_distinct x (y ∷ ys) h = (sym (is_eq-slice_cmp x y) ∙ ap is_eq h.0, less_distinct x ys h.1)

sorted_distinct : (xs : List (List ℕ)) → IsStrictlySortedBy (slice_cmp nat_cmp) xs → IsDistinct bytes_eq xs
unfolding IsDistinct IsStrictlySortedBy
sorted_distinct [] h = tt
sorted_distinct (x ∷ xs) h = (less_distinct x xs h.0, sorted_distinct xs h.1)

-- names in their order occur once each
pub sorted_names : (xs : List (List ℕ)) → IsStrictlySortedBy (slice_cmp nat_cmp) xs → AreDistinct xs
sorted_names xs h = AllPairs-from_IsDistinct bytes_eq-Decides xs (sorted_distinct xs h)

-- ---- objects, and the law

pub object_good : (d : ℕ) (ms : Members) → AreDistinct (keys ms) → MembersGood d ms → IsGood (suc d) (object ms)
object_good d ms distinct good = record {
  numbers = members_numbers d ms good;
  unique = (distinct, members_unique d ms good);
  shallow = let p = members_shallow d ms good in omega arith;
}

-- an object whose names are given
pub named_good : {d : ℕ} {ms : Members} → all_distinct (keys ms) ≡ true → MembersGood d ms → IsGood (suc d) (object ms)
named_good {d} {ms} distinct good = object_good d ms (distinct_names (keys ms) distinct) good

pub json_line : (d : ℕ) (j : Json) → d ≤ max_depth → IsGood d j → IsJsonLine j (text_of j)
json_line d j within good = record {
  read = document-text_of j (HasNumbers-lines j good.numbers) (let p = good.shallow in omega arith);
  unique = good.unique;
  one_line = one_line-text_of j good.numbers;
}
