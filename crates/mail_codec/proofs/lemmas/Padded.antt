-- Padded groups filled up, read, and cut.
use Rattle.std.proofs.Common.{◌≡◌, ◌≢◌, ℕ, zero, suc, ◌+◌, ◌*◌, ◌/◌, ◌%◌, ◌<◌, ◌≤◌, ◌==◌, ◌&&◌, Bool, cond, List, [], ◌∷◌, ◌++◌, length, take, drop, slice_index, Option, Some, None, true, false, Ok, refl, sym, ap, ◌∙◌, arith, inl, inr}
use Rattle.std.proofs.lemmas.Bool.{cases_Bool, eqb-true, eqb-false}
use Rattle.std.proofs.lemmas.List.{append_assoc, drop_all, take-append-le, take-take, drop-append-le, length-append, append-nil, drop-drop}
use Rattle.std.proofs.lemmas.List.Sums.{prefix_len_passes}
use Rattle.std.specs.List.{prefix_len}
use Rattle.mail_codec.specs.Base64.{padding, letter_value, group_number, bytes_of_values, three_bytes, group_bytes, groups_from, after_group, prepend}
use Rattle.mail_codec.specs.private.Base64.{KeepsLetters, KeepsPadding}
use Rattle.mail_codec.specs.private.Runs.{ends_run, without_ends}
use Rattle.mail_codec.specs.private.Vectors.{is_letter}
use Rattle.mail_codec.specs.declared.bytescan.runs.RunEnd.{RunEnd}
use Rattle.mail_codec.specs.private.Padded.{zero_letter, third, fourth, filled, group_len, cut_groups}
use Rattle.base64.specs.GeneralPurpose.{IsBytes, decode_of}
use Rattle.base64.specs.Engines.{standard}
use Rattle.mail_codec.proofs.lemmas.Base64Groups.{drop_four, after_group_ok, prepend-nil}
use Rattle.mail_codec.proofs.lemmas.Base64Steps.{group_bytes-no_padding, groups_decoded}

-- `A` has the value 0
zero_value : letter_value zero_letter ≡ Some 0
unfolding letter_value
zero_value = refl

-- the first of three bytes
cut_values : (n : ℕ) (a b c d : Option ℕ) (bytes : List ℕ) → bytes_of_values 3 a b c d ≡ Some bytes
    → (bytes_of_values n a b c d ≡ Some (take n bytes)) × (length bytes ≡ 3)
cut_values n (Some a) (Some b) (Some c) (Some d) bytes h =
    let is : three_bytes (group_number a b c d) ≡ bytes = cc h in
    (ap (λ (x : List ℕ). Some (take n x)) is, sym (ap length is))
cut_values n None b c d bytes h = cc h
cut_values n (Some a) None c d bytes h = cc h
cut_values n (Some a) (Some b) None d bytes h = cc h
cut_values n (Some a) (Some b) (Some c) None bytes h = cc h

-- a property without padding, and with one or two, always holds
by_padding : (P : Bool → Bool → Type 0) → ((y : Bool) → P false y) → P true true → P true false → (x y : Bool) → P x y
by_padding P none two one false y = none y
by_padding P none two one true true = two
by_padding P none two one true false = one

group_len_few : (r s : ℕ) → group_len r s ≤ 3
group_len_few r s = by_padding (λ x y. cond (x && y) 1 (cond x 2 3) ≤ 3) (λ y. omega arith) (omega arith) (omega arith) (s == padding) (r == padding)

-- a group is the first bytes of the four letters that it is filled up to
pub group_bytes-filled : (p q r s : ℕ) → group_bytes p q r s
    ≡ bytes_of_values (group_len r s) (letter_value p) (letter_value q) (letter_value (third r s)) (letter_value (fourth s))
unfolding group_bytes
group_bytes-filled p q r s = elim (cases_Bool (s == padding)) [
  | inr whole ↦ rw whole refl
  | inl short ↦ elim (cases_Bool (r == padding)) [
    | inl both ↦ rw (short, both, zero_value) refl
    | inr one ↦ rw (short, one, zero_value) refl
  ]
]

-- so a group that reads once it is filled in encodes the first of its bytes
group_cut : (p q r s : ℕ) (bytes : List ℕ) → group_bytes p q (third r s) (fourth s) ≡ Some bytes
    → (group_bytes p q r s ≡ Some (take (group_len r s) bytes)) × (length bytes ≡ 3)
group_cut p q r s bytes h =
    let unpadded : fourth s ≢ padding = elim (cases_Bool (s == padding)) [ inl e ↦ rw e (omega arith) | inr e ↦ rw e (eqb-false s padding e) ] in
    let cut = cut_values (group_len r s) _ _ _ _ bytes (sym (group_bytes-no_padding p q (third r s) (fourth s) unpadded) ∙ h) in
    (group_bytes-filled p q r s ∙ cut.0, cut.1)

-- three bytes before others
front_of : (c d : List ℕ) (k : ℕ) → length c ≡ 3 → k ≤ 3 → (take k (c ++ d) ≡ take k c) × (drop 3 (c ++ d) ≡ d)
front_of c d k len few = (
  take-append-le k c d (omega (arith, len)),
  drop-append-le 3 c d (omega (arith, len)) ∙ ap (λ (x : List ℕ). x ++ d) (drop_all 3 c (omega (arith, len))),
)

-- if all groups read once they are filled in, the text reads as the bytes cut from theirs
pub cut_reads : (n : ℕ) (xs bytes : List ℕ) → length xs % 4 ≡ 0 → groups_from n (filled xs) ≡ Ok bytes
    → groups_from n xs ≡ Ok (cut_groups xs bytes)
unfolding groups_from filled cut_groups
cut_reads n [] bytes whole h = refl
cut_reads n (p ∷ []) bytes whole h = absurd (omega arith)
cut_reads n (p ∷ q ∷ []) bytes whole h = absurd (omega arith)
cut_reads n (p ∷ q ∷ r ∷ []) bytes whole h = absurd (omega arith)
cut_reads n (p ∷ q ∷ r ∷ s ∷ rest) bytes whole h =
    let parts = after_group_ok n (group_bytes p q (third r s) (fourth s)) (groups_from (suc n) (filled rest)) bytes h in
    let c : List ℕ = parts.0 in
    let d : List ℕ = parts.1 in
    let here = group_cut p q r s c parts.2 in
    let more : groups_from (suc n) rest ≡ Ok (cut_groups rest d) = cut_reads (suc n) rest d (omega (arith, whole)) parts.3 in
    let front = front_of c d (group_len r s) here.1 (group_len_few r s) in
    let k : ℕ = group_len r s in
    let read : after_group n (group_bytes p q r s) (groups_from (suc n) rest) ≡ Ok (take k c ++ cut_groups rest d) = rw (here.0, more) refl in
    let first : take k c ≡ take k bytes = sym front.0 ∙ ap (take k) parts.4 in
    let following : d ≡ drop 3 bytes = sym front.1 ∙ ap (drop 3) parts.4 in
    read ∙ ap (λ (x : List ℕ). Ok (x ++ cut_groups rest d)) first ∙ ap (λ (x : List ℕ). Ok (take k bytes ++ cut_groups rest x)) following

-- ---- at a place of the text

pub filled-drop : (at : ℕ) (xs : List ℕ) → at + 4 ≤ length xs
    → filled (drop at xs) ≡ slice_index xs at ∷ slice_index xs (at + 1) ∷ third (slice_index xs (at + 2)) (slice_index xs (at + 3)) ∷ fourth (slice_index xs (at + 3)) ∷ filled (drop (at + 4) xs)
unfolding filled
filled-drop at xs h = rw (drop_four at xs h) refl

pub cut_groups-drop : (at : ℕ) (xs bytes : List ℕ) → at + 4 ≤ length xs
    → cut_groups (drop at xs) bytes ≡ take (group_len (slice_index xs (at + 2)) (slice_index xs (at + 3))) bytes ++ cut_groups (drop (at + 4) xs) (drop 3 bytes)
unfolding cut_groups
cut_groups-drop at xs bytes h = rw (drop_four at xs h) refl

-- ---- steps of the loops

-- one more group filled in
pub fill_step : (xs full next : List ℕ) (number : ℕ) → 4 * number + 4 ≤ length xs
    → next ≡ full ++ slice_index xs (4 * number) ∷ slice_index xs (4 * number + 1) ∷ third (slice_index xs (4 * number + 2)) (slice_index xs (4 * number + 3)) ∷ fourth (slice_index xs (4 * number + 3)) ∷ []
    → next ++ filled (drop (4 * (number + 1)) xs) ≡ full ++ filled (drop (4 * number) xs)
fill_step xs full next number fits is =
    let four : 4 * (number + 1) ≡ 4 * number + 4 = omega arith in
    rw (four, is, filled-drop (4 * number) xs fits) (append_assoc full _ (filled (drop (4 * number + 4) xs)))

pub fill_end : (xs full : List ℕ) (number : ℕ) → length xs ≤ 4 * number → full ++ filled (drop (4 * number) xs) ≡ full
unfolding filled
fill_end xs full number over = rw (drop_all (4 * number) xs over) (append-nil full)

-- one more group cut
pub cut_step : (xs decoded old next : List ℕ) (number : ℕ) → 4 * number + 4 ≤ length xs
    → next ≡ old ++ take (group_len (slice_index xs (4 * number + 2)) (slice_index xs (4 * number + 3))) (drop (3 * number) decoded)
    → next ++ cut_groups (drop (4 * (number + 1)) xs) (drop (3 * (number + 1)) decoded) ≡ old ++ cut_groups (drop (4 * number) xs) (drop (3 * number) decoded)
cut_step xs decoded old next number fits is =
    let four : 4 * (number + 1) ≡ 4 * number + 4 = omega arith in
    let following : drop (3 * (number + 1)) decoded ≡ drop 3 (drop (3 * number) decoded) =
    ap (λ (k : ℕ). drop k decoded) (omega arith) ∙ sym (drop-drop 3 (3 * number) decoded) in
    rw (four, following, is, cut_groups-drop (4 * number) xs (drop (3 * number) decoded) fits) (append_assoc old _ _)

pub cut_end : (xs decoded old : List ℕ) (number : ℕ) → length xs ≤ 4 * number
    → old ++ cut_groups (drop (4 * number) xs) (drop (3 * number) decoded) ≡ old
unfolding cut_groups
cut_end xs decoded old number over = rw (drop_all (4 * number) xs over) (append-nil old)

-- all groups of a text give three bytes each, once they are filled up
pub filled_len : (n : ℕ) (xs bytes : List ℕ) → length xs % 4 ≡ 0 → groups_from n (filled xs) ≡ Ok bytes
    → length bytes ≡ 3 * (length xs / 4)
unfolding groups_from filled
filled_len n [] bytes whole h = let none : [] ≡ bytes = cc h in sym (ap length none)
filled_len n (p ∷ []) bytes whole h = absurd (omega arith)
filled_len n (p ∷ q ∷ []) bytes whole h = absurd (omega arith)
filled_len n (p ∷ q ∷ r ∷ []) bytes whole h = absurd (omega arith)
filled_len n (p ∷ q ∷ r ∷ s ∷ rest) bytes whole h =
    let parts = after_group_ok n (group_bytes p q (third r s) (fourth s)) (groups_from (suc n) (filled rest)) bytes h in
    let here = group_cut p q r s parts.0 parts.2 in
    let more : length parts.1 ≡ 3 * (length rest / 4) = filled_len (suc n) rest parts.1 (omega (arith, whole)) parts.3 in
    sym (ap length parts.4) ∙ length-append parts.0 parts.1 ∙ omega (arith, here.1, more)

-- ---- the engine on groups that were filled up

third_byte : (r s : ℕ) → r < 256 → third r s < 256
third_byte r s h = by_padding (λ x y. cond (x && y) zero_letter r < 256) (λ y. h) (omega arith) h (s == padding) (r == padding)

fourth_byte : (s : ℕ) → s < 256 → fourth s < 256
fourth_byte s h = elim (s == padding) as (λ x. cond x zero_letter s < 256) [ true ↦ omega arith | false ↦ h ]

no_bytes : IsBytes []
no_bytes i = omega arith

filled_bytes : (xs : List ℕ) → IsBytes xs → IsBytes (filled xs)
unfolding filled
filled_bytes [] h i = no_bytes i
filled_bytes (p ∷ []) h i = no_bytes i
filled_bytes (p ∷ q ∷ []) h i = no_bytes i
filled_bytes (p ∷ q ∷ r ∷ []) h i = no_bytes i
filled_bytes (p ∷ q ∷ r ∷ s ∷ rest) h zero = h 0
filled_bytes (p ∷ q ∷ r ∷ s ∷ rest) h (suc zero) = h 1
filled_bytes (p ∷ q ∷ r ∷ s ∷ rest) h (suc (suc zero)) = third_byte r s (h 2)
filled_bytes (p ∷ q ∷ r ∷ s ∷ rest) h (suc (suc (suc zero))) = fourth_byte s (h 3)
filled_bytes (p ∷ q ∷ r ∷ s ∷ rest) h (suc (suc (suc (suc i)))) = filled_bytes rest (λ j. h (suc (suc (suc (suc j))))) i

-- the bytes that the engine decodes from the filled groups into an empty list
pub engine_filled : (n k : ℕ) (letters full given old decoded : List ℕ) → old ≡ [] → given ≡ full → full ≡ filled letters
    → IsBytes letters → IsBytes (drop k decoded) → decode_of standard given ≡ Ok (drop k decoded) → take k decoded ≡ old
    → groups_from n (filled letters) ≡ Ok decoded
engine_filled n k letters full given old decoded none same is text_bytes bytes decoded_is front =
    let given_is : given ≡ filled letters = same ∙ is in
    let read : prepend old (groups_from n (filled letters)) ≡ Ok decoded =
    groups_decoded n k (filled letters) old decoded (filled_bytes letters text_bytes) bytes (ap (decode_of standard) (sym given_is) ∙ decoded_is) front in
    sym (prepend-nil (groups_from n (filled letters))) ∙ ap (λ (x : List ℕ). prepend x (groups_from n (filled letters))) (sym none) ∙ read

-- ---- a text of one group

-- four bytes that are letters, or padding, once they are filled up
module _ (absent : RunEnd) (keeps : KeepsLetters absent) (pads : KeepsPadding absent) where
  third_kept : (r s : ℕ) → is_letter (third r s) ≡ true → ends_run absent r ≡ false
  third_kept r s h = elim (cases_Bool (s == padding)) [
    | inr whole ↦ keeps r (rw whole at h)
    | inl short ↦ elim (cases_Bool (r == padding)) [
      | inl both ↦ ap (ends_run absent) (eqb-true r padding both) ∙ pads
      | inr one ↦ keeps r (rw (short, one) at h)
    ]
  ]

  fourth_kept : (s : ℕ) → is_letter (fourth s) ≡ true → ends_run absent s ≡ false
  fourth_kept s h = elim (cases_Bool (s == padding)) [
    | inl short ↦ ap (ends_run absent) (eqb-true s padding short) ∙ pads
    | inr whole ↦ keeps s (rw whole at h)
  ]

  pub one_group_read : (n p q r s t f : ℕ) (text more out old new : List ℕ) → text ≡ p ∷ q ∷ r ∷ s ∷ [] → t ≡ third r s → f ≡ fourth s
      → 4 ≤ prefix_len is_letter (p ∷ q ∷ t ∷ f ∷ more) → groups_from n (p ∷ q ∷ t ∷ f ∷ []) ≡ Ok (take 3 out)
      → new ≡ old ++ take (group_len r s) out → prepend old (groups_from n (without_ends absent text)) ≡ Ok new
  unfolding filled cut_groups
  one_group_read n p q r s t f text more out old new text_is t_is f_is letters read new_is =
      let all : List ℕ = p ∷ q ∷ t ∷ f ∷ more in
      let p_kept : ends_run absent p ≡ false = keeps p (prefix_len_passes is_letter all 0 0 (omega (arith, letters))) in
      let q_kept : ends_run absent q ≡ false = keeps q (prefix_len_passes is_letter all 1 0 (omega (arith, letters))) in
      let r_kept : ends_run absent r ≡ false = third_kept r s (ap is_letter (sym t_is) ∙ prefix_len_passes is_letter all 2 0 (omega (arith, letters))) in
      let s_kept : ends_run absent s ≡ false = fourth_kept s (ap is_letter (sym f_is) ∙ prefix_len_passes is_letter all 3 0 (omega (arith, letters))) in
      let kept : without_ends absent (p ∷ q ∷ r ∷ s ∷ []) ≡ p ∷ q ∷ r ∷ s ∷ [] = rw (p_kept, q_kept, r_kept, s_kept) refl in
      let full : groups_from n (filled (p ∷ q ∷ r ∷ s ∷ [])) ≡ Ok (take 3 out) =
      ap (λ x. groups_from n (p ∷ q ∷ x ∷ fourth s ∷ [])) (sym t_is) ∙ ap (λ x. groups_from n (p ∷ q ∷ t ∷ x ∷ [])) (sym f_is) ∙ read in
      ap (λ x. prepend old (groups_from n (without_ends absent x))) text_is
      ∙ ap (λ x. prepend old (groups_from n x)) kept
      ∙ ap (prepend old) (cut_reads n (p ∷ q ∷ r ∷ s ∷ []) (take 3 out) refl full)
      ∙ ap (λ x. Ok (old ++ x)) (append-nil (take (group_len r s) (take 3 out)) ∙ take-take (group_len r s) 3 out (group_len_few r s))
      ∙ ap Ok (sym new_is)
