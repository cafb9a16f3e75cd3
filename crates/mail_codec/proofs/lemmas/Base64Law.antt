-- The result of the function is in the relation, and no other is; likewise for the fault.
use Rattle.std.proofs.Common.{◌≡◌, ℕ, zero, suc, ◌+◌, ◌*◌, ◌<◌, List, [], ◌∷◌, ◌++◌, length, take, drop, Option, Some, None, Result, Ok, Err, refl, sym, ap, ◌∙◌, arith, ◌⊎◌, inl, inr, ◌↔◌, All}
use Rattle.std.specs.List.{flat_map}
use Rattle.std.proofs.lemmas.Bool.{cases_eq, cases_lt}
use Rattle.std.proofs.lemmas.List.Elements.{All-nil, All-cons, All-head, All-tail}
use Rattle.mail_codec.specs.Base64.{letter, letter_value, padding, group_number, three_bytes, bytes_of_values, group_bytes, groups_from, group_at, after_group, base64, without_line_ends, IsGroup, IsBase64, IsBase64Fault}
use Rattle.mail_codec.specs.Base64.IsGroup.{four_letters, three_letters, two_letters}
use Rattle.mail_codec.proofs.lemmas.Base64Letters.{letter-letter_value, letter_value-letter}
use Rattle.mail_codec.proofs.lemmas.Base64Engine.{group_bytes-letters, group_bytes-three, group_bytes-two}
use Rattle.mail_codec.proofs.lemmas.Base64Groups.{after_group_ok, prepend_err}
use Rattle.mail_codec.proofs.lemmas.Base64Steps.{group_bytes-no_padding, group_bytes-one_padding, group_bytes-two_padding}

-- ---- one group

-- the values that are there
values_are : (n : ℕ) (a b c d : Option ℕ) (bytes : List ℕ) → bytes_of_values n a b c d ≡ Some bytes
    → (x : ℕ) × (y : ℕ) × (z : ℕ) × (w : ℕ) × (a ≡ Some x) × (b ≡ Some y) × (c ≡ Some z) × (d ≡ Some w) × (bytes ≡ take n (three_bytes (group_number x y z w)))
values_are n None b c d bytes h = cc h
values_are n (Some x) None c d bytes h = cc h
values_are n (Some x) (Some y) None d bytes h = cc h
values_are n (Some x) (Some y) (Some z) None bytes h = cc h
values_are n (Some x) (Some y) (Some z) (Some w) bytes h = (x, y, z, w, refl, refl, refl, refl, cc h)

-- the value of `A`
zero_value : (v : ℕ) → letter_value 65 ≡ Some v → v ≡ 0
zero_value v h =
    let e : Some 0 ≡ Some v = sym (letter_value-letter 0 (omega arith)) ∙ h in
    cc e

same_bytes : (n x y z w v u : ℕ) (bytes : List ℕ) → bytes ≡ take n (three_bytes (group_number x y z w)) → z ≡ v → w ≡ u
    → bytes ≡ take n (three_bytes (group_number x y v u))
same_bytes n x y z w v u bytes h e f =
    h ∙ ap (λ (i : ℕ). take n (three_bytes (group_number x y i w))) e ∙ ap (λ (i : ℕ). take n (three_bytes (group_number x y v i))) f

pub IsGroup-from_bytes : (p q r s : ℕ) (bytes : List ℕ) → group_bytes p q r s ≡ Some bytes → IsGroup (p ∷ q ∷ r ∷ s ∷ []) bytes
IsGroup-from_bytes p q r s bytes h = elim (cases_eq s padding) [
  | inl es ↦ elim (cases_eq r padding) [
    | inl er ↦
        let v = values_are 1 _ _ _ _ bytes (sym (group_bytes-two_padding p q r s es er) ∙ h) in
        let lp = letter-letter_value p v.0 v.4 in
        let lq = letter-letter_value q v.1 v.5 in
        two_letters v.0 v.1 lp.0 lq.0
        (cc (lp.1, lq.1, er, es))
        (same_bytes 1 v.0 v.1 v.2 v.3 0 0 bytes v.8 (zero_value v.2 v.6) (zero_value v.3 v.7))
    | inr nr ↦
        let v = values_are 2 _ _ _ _ bytes (sym (group_bytes-one_padding p q r s es nr) ∙ h) in
        let lp = letter-letter_value p v.0 v.4 in
        let lq = letter-letter_value q v.1 v.5 in
        let lr = letter-letter_value r v.2 v.6 in
        three_letters v.0 v.1 v.2 lp.0 lq.0 lr.0
        (cc (lp.1, lq.1, lr.1, es))
        (same_bytes 2 v.0 v.1 v.2 v.3 v.2 0 bytes v.8 refl (zero_value v.3 v.7))
  ]
  | inr ns ↦
      let v = values_are 3 _ _ _ _ bytes (sym (group_bytes-no_padding p q r s ns) ∙ h) in
      let lp = letter-letter_value p v.0 v.4 in
      let lq = letter-letter_value q v.1 v.5 in
      let lr = letter-letter_value r v.2 v.6 in
      let ls = letter-letter_value s v.3 v.7 in
      four_letters v.0 v.1 v.2 v.3 lp.0 lq.0 lr.0 ls.0
      (cc (lp.1, lq.1, lr.1, ls.1)) v.8
]

-- a group is four bytes, and has the bytes that the function gives
pub IsGroup-bytes : (group bytes : List ℕ) → IsGroup group bytes
    → (p : ℕ) × (q : ℕ) × (r : ℕ) × (s : ℕ) × (group ≡ p ∷ q ∷ r ∷ s ∷ []) × (group_bytes p q r s ≡ Some bytes)
IsGroup-bytes group bytes (four_letters a b c d ha hb hc hd eg eb) =
    (letter a, letter b, letter c, letter d, eg, group_bytes-letters a b c d ha hb hc hd ∙ ap Some (sym eb))
IsGroup-bytes group bytes (three_letters a b c ha hb hc eg eb) =
    (letter a, letter b, letter c, padding, eg, group_bytes-three a b c ha hb hc ∙ ap Some (sym eb))
IsGroup-bytes group bytes (two_letters a b ha hb eg eb) =
    (letter a, letter b, padding, padding, eg, group_bytes-two a b ha hb ∙ ap Some (sym eb))

four_bytes-same : (p q r s a b c d : ℕ) → p ∷ q ∷ r ∷ s ∷ [] ≡ a ∷ b ∷ c ∷ d ∷ [] → group_bytes p q r s ≡ group_bytes a b c d
four_bytes-same p q r s a b c d e =
    let ep : p ≡ a = cc e in
    let eq : q ≡ b = cc e in
    let er : r ≡ c = cc e in
    let es : s ≡ d = cc e in
    rw (ep, eq, er, es) refl

pub IsGroup-four : (p q r s : ℕ) (bytes : List ℕ) → IsGroup (p ∷ q ∷ r ∷ s ∷ []) bytes → group_bytes p q r s ≡ Some bytes
IsGroup-four p q r s bytes h =
    let v = IsGroup-bytes (p ∷ q ∷ r ∷ s ∷ []) bytes h in
    four_bytes-same p q r s v.0 v.1 v.2 v.3 v.4 ∙ v.5

-- ---- groups one after another

abbrev Groups : Type 0
Groups = List (List ℕ × List ℕ)

abbrev AreGroups : Groups → Type 0
AreGroups groups = All (λ (g : List ℕ × List ℕ). IsGroup g.0 g.1) groups

abbrev texts : Groups → List ℕ
texts groups = flat_map (λ (g : List ℕ × List ℕ). g.0) groups

abbrev bytes_of : Groups → List ℕ
bytes_of groups = flat_map (λ (g : List ℕ × List ℕ). g.1) groups

groups_of : (n : ℕ) (text bytes : List ℕ) → groups_from n text ≡ Ok bytes
    → (groups : Groups) × AreGroups groups × (text ≡ texts groups) × (bytes ≡ bytes_of groups)
unfolding groups_from
groups_of n [] bytes h = ([], All-nil (λ (g : List ℕ × List ℕ). IsGroup g.0 g.1), refl, cc h)
groups_of n (p ∷ []) bytes h = cc h
groups_of n (p ∷ q ∷ []) bytes h = cc h
groups_of n (p ∷ q ∷ r ∷ []) bytes h = cc h
groups_of n (p ∷ q ∷ r ∷ s ∷ text) bytes h =
    let parts = after_group_ok n (group_bytes p q r s) (groups_from (suc n) text) bytes h in
    let more = groups_of (suc n) text parts.1 parts.3 in (
      (p ∷ q ∷ r ∷ s ∷ [], parts.0) ∷ more.0,
      All-cons (λ (g : List ℕ × List ℕ). IsGroup g.0 g.1) (p ∷ q ∷ r ∷ s ∷ [], parts.0) more.0 (IsGroup-from_bytes p q r s parts.0 parts.2) more.1,
      ap (λ (t : List ℕ). p ∷ q ∷ r ∷ s ∷ t) more.2,
      sym parts.4 ∙ ap (λ (t : List ℕ). parts.0 ++ t) more.3,
    )

groups_from-group : (n : ℕ) (group bytes text more : List ℕ) → IsGroup group bytes → groups_from (suc n) text ≡ Ok more
    → groups_from n (group ++ text) ≡ Ok (bytes ++ more)
unfolding groups_from
groups_from-group n group bytes text more is h =
    let v = IsGroup-bytes group bytes is in
    ap (λ (g : List ℕ). groups_from n (g ++ text)) v.4
    ∙ ap (λ (g : Option (List ℕ)). after_group n g (groups_from (suc n) text)) v.5
    ∙ ap (after_group n (Some bytes)) h

groups_read : (n : ℕ) (groups : Groups) → AreGroups groups → groups_from n (texts groups) ≡ Ok (bytes_of groups)
unfolding groups_from
groups_read n [] are = refl
groups_read n (g ∷ groups) are =
    groups_from-group n g.0 g.1 (texts groups) (bytes_of groups) (All-head (λ (g : List ℕ × List ℕ). IsGroup g.0 g.1) g groups are)
    (groups_read (suc n) groups (All-tail (λ (g : List ℕ × List ℕ). IsGroup g.0 g.1) g groups are))

pub base64_reads : (text bytes : List ℕ) → (base64 text ≡ Ok bytes) ↔ IsBase64 text bytes
unfolding base64
base64_reads text bytes = (
  λ h. groups_of 0 (without_line_ends text) bytes h,
  λ is. ap (groups_from 0) is.2 ∙ groups_read 0 is.0 is.1 ∙ ap Ok (sym is.3),
)

-- ---- the fault

abbrev IsFault : List ℕ → ℕ → Type 0
IsFault letters n = (4 * n < length letters)
    × ((bytes : List ℕ) → IsGroup (group_at letters n) bytes → ⊥)
    × ((k : ℕ) → k < n → (bytes : List ℕ) × IsGroup (group_at letters k) bytes)

-- other than four bytes are no group
no_short : (group bytes : List ℕ) → length group < 4 → IsGroup group bytes → ⊥
no_short group bytes short h = absurd (omega (arith, short, ap length (IsGroup-bytes group bytes h).4))

no_four : (p q r s : ℕ) (bytes : List ℕ) → group_bytes p q r s ≡ None → IsGroup (p ∷ q ∷ r ∷ s ∷ []) bytes → ⊥
no_four p q r s bytes none h =
    let e : None ≡ Some bytes = sym none ∙ IsGroup-four p q r s bytes h in
    cc e

-- the next group of four
group_at-suc : (p q r s k : ℕ) (text : List ℕ) → group_at (p ∷ q ∷ r ∷ s ∷ text) (suc k) ≡ group_at text k
group_at-suc p q r s k text =
    let e : 4 * suc k ≡ suc (suc (suc (suc (4 * k)))) = omega arith in
    ap (λ (i : ℕ). take 4 (drop i (p ∷ q ∷ r ∷ s ∷ text))) e

option_cases : (g : Option (List ℕ)) → (g ≡ None) ⊎ ((bytes : List ℕ) × (g ≡ Some bytes))
option_cases None = inl refl
option_cases (Some bytes) = inr (bytes, refl)

fault_first : (p q r s : ℕ) (text : List ℕ) → group_bytes p q r s ≡ None → IsFault (p ∷ q ∷ r ∷ s ∷ text) 0
fault_first p q r s text none = (omega arith, λ bytes h. no_four p q r s bytes none h, λ k lt. absurd (omega arith))

fault_next : (p q r s j : ℕ) (text bytes : List ℕ) → group_bytes p q r s ≡ Some bytes → IsFault text j → IsFault (p ∷ q ∷ r ∷ s ∷ text) (suc j)
fault_next p q r s j text bytes some h = (
  omega (arith, h.0),
  λ b is. h.1 b (rw (group_at-suc p q r s j text) at is),
  before,
)
  where
    before : (k : ℕ) → k < suc j → (b : List ℕ) × IsGroup (group_at (p ∷ q ∷ r ∷ s ∷ text) k) b
    before zero lt = (bytes, IsGroup-from_bytes p q r s bytes some)
    before (suc k) lt =
        let here = h.2 k (omega arith) in
        (here.0, rw (group_at-suc p q r s k text) here.1)

same_end : (n m : ℕ) → ◌≡◌ {A = Result (List ℕ) ℕ} (Err n) (Err m) → m ≡ n + 0
same_end n m h =
    let e : n ≡ m = cc h in
    omega arith

fault_is : (n m : ℕ) (text : List ℕ) → groups_from n text ≡ Err m → (j : ℕ) × (m ≡ n + j) × IsFault text j
unfolding groups_from
fault_is n m [] h = cc h
fault_is n m (p ∷ []) h = (0, same_end n m h, (omega arith, λ b. no_short (p ∷ []) b (omega arith), λ k lt. absurd (omega arith)))
fault_is n m (p ∷ q ∷ []) h = (0, same_end n m h, (omega arith, λ b. no_short (p ∷ q ∷ []) b (omega arith), λ k lt. absurd (omega arith)))
fault_is n m (p ∷ q ∷ r ∷ []) h = (0, same_end n m h, (omega arith, λ b. no_short (p ∷ q ∷ r ∷ []) b (omega arith), λ k lt. absurd (omega arith)))
fault_is n m (p ∷ q ∷ r ∷ s ∷ text) h = elim (option_cases (group_bytes p q r s)) [
  | inl none ↦
      let e : Err n ≡ Err m = rw none at h in
      let same : n ≡ m = cc e in
      (0, omega arith, fault_first p q r s text none)
  | inr some ↦
      let rest : groups_from (suc n) text ≡ Err m = prepend_err some.0 m _ (rw some.1 at h) in
      let more = fault_is (suc n) m text rest in
      (suc more.0, omega (arith, more.1), fault_next p q r s more.0 text some.0 some.1 more.2)
]

-- a text that can be read has no fault
groups_all : (n : ℕ) (text bytes : List ℕ) → groups_from n text ≡ Ok bytes → (k : ℕ) → 4 * k < length text
    → (b : List ℕ) × IsGroup (group_at text k) b
unfolding groups_from
groups_all n [] bytes h k lt = absurd (omega arith)
groups_all n (p ∷ []) bytes h k lt = cc h
groups_all n (p ∷ q ∷ []) bytes h k lt = cc h
groups_all n (p ∷ q ∷ r ∷ []) bytes h k lt = cc h
groups_all n (p ∷ q ∷ r ∷ s ∷ text) bytes h zero lt =
    let parts = after_group_ok n (group_bytes p q r s) (groups_from (suc n) text) bytes h in
    (parts.0, IsGroup-from_bytes p q r s parts.0 parts.2)
groups_all n (p ∷ q ∷ r ∷ s ∷ text) bytes h (suc k) lt =
    let parts = after_group_ok n (group_bytes p q r s) (groups_from (suc n) text) bytes h in
    let more = groups_all (suc n) text parts.1 parts.3 k (omega arith) in
    (more.0, rw (group_at-suc p q r s k text) more.1)

answer_cases : (r : Result (List ℕ) ℕ) → ((bytes : List ℕ) × (r ≡ Ok bytes)) ⊎ ((n : ℕ) × (r ≡ Err n))
answer_cases (Ok bytes) = inl (bytes, refl)
answer_cases (Err n) = inr (n, refl)

-- two faults of a text are one
fault_once : (text : List ℕ) (i j : ℕ) → IsFault text i → IsFault text j → i ≡ j
fault_once text i j hi hj = elim (cases_lt i j) [
  | inl lt ↦
      let here = hj.2 i lt in
      absurd (hi.1 here.0 here.1)
  | inr ge ↦ elim (cases_lt j i) [
    | inl lt ↦
        let here = hi.2 j lt in
        absurd (hj.1 here.0 here.1)
    | inr le ↦ omega arith
  ]
]

fault_read : (text : List ℕ) (n : ℕ) → IsFault text n → groups_from 0 text ≡ Err n
fault_read text n h = elim (answer_cases (groups_from 0 text)) [
  | inl ok ↦
      let here = groups_all 0 text ok.0 ok.1 n h.0 in
      absurd (h.1 here.0 here.1)
  | inr err ↦
      let is = fault_is 0 err.0 text err.1 in
      let same : is.0 ≡ n = fault_once text is.0 n is.2 h in
      let e : err.0 ≡ n = omega (arith, is.1) in
      err.1 ∙ ap Err e
]

pub base64_faults : (text : List ℕ) (n : ℕ) → (base64 text ≡ Err n) ↔ IsBase64Fault text n
unfolding base64
base64_faults text n = (
  λ h.
      let is = fault_is 0 n (without_line_ends text) h in
      let e : is.0 ≡ n = omega (arith, is.1) in
      rw e at is.2,
  λ is. fault_read (without_line_ends text) n is,
)
