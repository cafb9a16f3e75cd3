-- The steps of the decoder, over plain variables.
use Rattle.std.proofs.Common.{◌≡◌, ◌≢◌, ℕ, ◌+◌, ◌*◌, ◌<◌, ◌≤◌, true, false, List, [], ◌∷◌, ◌++◌, length, take, drop, slice_index, Option, Some, None, Result, Ok, Err, OnOk, refl, sym, ap, ◌∙◌, arith}
use Rattle.std.specs.Option.{option_map}
use Rattle.std.specs.Result.{is_err}
use Rattle.std.proofs.lemmas.Bool.{ne_eqb}
use Rattle.std.proofs.lemmas.List.{append-nil, drop_all, take-append-drop}
use Rattle.base64.specs.Engines.{standard}
use Rattle.base64.specs.declared.decode.DecodeSliceError.{DecodeSliceError}
use Rattle.base64.specs.GeneralPurpose.{IsBytes, decode_of, decode_slice_of, decoded_bytes_of}
use Rattle.mail_codec.specs.Base64.{letter_value, padding, bytes_of_values, group_bytes, groups_from, after_group, prepend}
use Rattle.mail_codec.specs.private.Runs.{without_ends}
use Rattle.mail_codec.specs.declared.bytescan.runs.RunEnd.{RunEnd}
use Rattle.mail_codec.proofs.lemmas.Base64Engine.{slice_letters, slice_no_letters, groups_from-decode_of}
use Rattle.mail_codec.proofs.lemmas.Base64Groups.{prepend-prepend, groups_from-drop, groups_from-nil, groups_from-short}

-- ---- four letters

module _ (len p q r s : ℕ) (old : List ℕ) where
  abbrev appended : Option (List ℕ)
  appended = option_map (λ (decoded : List ℕ). old ++ decoded) (bytes_of_values len (letter_value p) (letter_value q) (letter_value r) (letter_value s))

  pub appended_none : (result : Result ℕ DecodeSliceError) → decode_slice_of standard (p ∷ q ∷ r ∷ s ∷ []) 3 ≡ result → is_err result ≡ true → appended ≡ None
  appended_none (Ok k) value h = cc h
  appended_none (Err e) value h = ap (option_map (λ (decoded : List ℕ). old ++ decoded)) (slice_no_letters len p q r s e value)

  pub appended_some : (output new : List ℕ) (result : Result ℕ DecodeSliceError) → IsBytes (p ∷ q ∷ r ∷ s ∷ []) → s ≢ padding
      → decode_slice_of standard (p ∷ q ∷ r ∷ s ∷ []) 3 ≡ result → is_err result ≡ false
      → OnOk result (output ≡ decoded_bytes_of standard (p ∷ q ∷ r ∷ s ∷ []) ++ drop (length (decoded_bytes_of standard (p ∷ q ∷ r ∷ s ∷ []))) (0 ∷ 0 ∷ 0 ∷ []))
      → OnOk result (IsBytes (decoded_bytes_of standard (p ∷ q ∷ r ∷ s ∷ [])))
      → new ≡ old ++ take len output → appended ≡ Some new
  appended_some output new (Err e) text_bytes unpadded value h written bytes new_is = cc h
  appended_some output new (Ok k) text_bytes unpadded value h written bytes new_is =
      let decoded : List ℕ = decoded_bytes_of standard (p ∷ q ∷ r ∷ s ∷ []) in
      let read = slice_letters len p q r s k text_bytes unpadded bytes value in
      let nothing : drop (length decoded) (0 ∷ 0 ∷ 0 ∷ []) ≡ [] = ap (λ (n : ℕ). drop n (0 ∷ 0 ∷ 0 ∷ [])) read.1 in
      let output_is : output ≡ decoded = written ∙ ap (λ (x : List ℕ). decoded ++ x) nothing ∙ append-nil decoded in
      ap (option_map (λ (d : List ℕ). old ++ d)) read.0
      ∙ ap (λ (x : List ℕ). Some (old ++ take len x)) (sym output_is)
      ∙ ap Some (sym new_is)

-- ---- a group by its padding

pub group_bytes-no_padding : (p q r s : ℕ) → s ≢ padding
    → group_bytes p q r s ≡ bytes_of_values 3 (letter_value p) (letter_value q) (letter_value r) (letter_value s)
unfolding group_bytes
group_bytes-no_padding p q r s h = rw (ne_eqb s padding h) refl

pub group_bytes-one_padding : (p q r s : ℕ) → s ≡ padding → r ≢ padding
    → group_bytes p q r s ≡ bytes_of_values 2 (letter_value p) (letter_value q) (letter_value r) (letter_value 65)
unfolding group_bytes letter_value
group_bytes-one_padding p q r s e h = rw (e, ne_eqb r padding h) refl

pub group_bytes-two_padding : (p q r s : ℕ) → s ≡ padding → r ≡ padding
    → group_bytes p q r s ≡ bytes_of_values 1 (letter_value p) (letter_value q) (letter_value 65) (letter_value 65)
unfolding group_bytes letter_value
group_bytes-two_padding p q r s e f = rw (e, f) refl

-- ---- whole groups

pub groups_decoded : (n k : ℕ) (letters old new : List ℕ) → IsBytes letters → IsBytes (drop k new)
    → decode_of standard letters ≡ Ok (drop k new) → take k new ≡ old → prepend old (groups_from n letters) ≡ Ok new
groups_decoded n k letters old new text_bytes bytes decoded front =
    ap (prepend old) (groups_from-decode_of n letters (drop k new) text_bytes bytes decoded)
    ∙ ap (λ (x : List ℕ). Ok (x ++ drop k new)) (sym front) ∙ ap Ok (take-append-drop k new)

-- ---- a group at a time

-- a group's bytes, as the loop appended them
group_appended : (cur new : List ℕ) (g : Option (List ℕ)) → option_map (λ (d : List ℕ). cur ++ d) g ≡ Some new
    → (d : List ℕ) × (g ≡ Some d) × (cur ++ d ≡ new)
group_appended cur new None h = cc h
group_appended cur new (Some d) h = (d, refl, cc h)

group_refused : (cur : List ℕ) (g : Option (List ℕ)) → option_map (λ (d : List ℕ). cur ++ d) g ≡ None → g ≡ None
group_refused cur None h = refl
group_refused cur (Some d) h = cc h

module _ (letters cur : List ℕ) (first number : ℕ) (fits : 4 * number + 4 ≤ length letters) where
  abbrev group_here : Option (List ℕ)
  group_here = group_bytes (slice_index letters (4 * number)) (slice_index letters (4 * number + 1)) (slice_index letters (4 * number + 2)) (slice_index letters (4 * number + 3))

  step : groups_from (first + number) (drop (4 * number) letters) ≡ after_group (first + number) group_here (groups_from (first + number + 1) (drop (4 * number + 4) letters))
  step = groups_from-drop (first + number) (4 * number) letters fits

  pub group_step : (new : List ℕ) → option_map (λ (d : List ℕ). cur ++ d) group_here ≡ Some new
      → prepend cur (groups_from (first + number) (drop (4 * number) letters)) ≡ prepend new (groups_from (first + (number + 1)) (drop (4 * (number + 1)) letters))
  group_step new h =
      let rest : Result (List ℕ) ℕ = groups_from (first + number + 1) (drop (4 * number + 4) letters) in
      let parts = group_appended cur new group_here h in
      let place : 4 * number + 4 ≡ 4 * (number + 1) = omega arith in
      let count : first + number + 1 ≡ first + (number + 1) = omega arith in
      ap (prepend cur) step
      ∙ ap (λ (g : Option (List ℕ)). prepend cur (after_group (first + number) g rest)) parts.1
      ∙ prepend-prepend cur parts.0 rest
      ∙ ap (λ (x : List ℕ). prepend x rest) parts.2
      ∙ ap (λ (k : ℕ). prepend new (groups_from (first + number + 1) (drop k letters))) place
      ∙ ap (λ (k : ℕ). prepend new (groups_from k (drop (4 * (number + 1)) letters))) count

  pub group_fault : option_map (λ (d : List ℕ). cur ++ d) group_here ≡ None
      → prepend cur (groups_from (first + number) (drop (4 * number) letters)) ≡ Err (first + number)
  group_fault h =
      ap (prepend cur) step
      ∙ ap (λ (g : Option (List ℕ)). prepend cur (after_group (first + number) g (groups_from (first + number + 1) (drop (4 * number + 4) letters)))) (group_refused cur group_here h)

pub group_end : (letters cur : List ℕ) (n number : ℕ) → length letters ≤ 4 * number
    → prepend cur (groups_from n (drop (4 * number) letters)) ≡ Ok cur
group_end letters cur n number h =
    ap (λ (x : List ℕ). prepend cur (groups_from n x)) (drop_all (4 * number) letters h)
    ∙ ap (prepend cur) (groups_from-nil n) ∙ ap Ok (append-nil cur)

-- ---- the whole text

pub groups_start : (absent : RunEnd) (text bytes letters : List ℕ) (first from : ℕ) → letters ≡ []
    → prepend bytes (groups_from first (letters ++ without_ends absent (drop from text))) ≡ prepend bytes (groups_from first (without_ends absent (drop from text)))
groups_start absent text bytes letters first from e = rw e refl

-- at the end of the text nothing but the letters is left
rest_at_end : (absent : RunEnd) (text letters : List ℕ) (at : ℕ) → length text ≤ at → letters ++ without_ends absent (drop at text) ≡ letters
rest_at_end absent text letters at h =
    ap (λ (x : List ℕ). letters ++ without_ends absent x) (drop_all at text h) ∙ append-nil letters

pub groups_end : (absent : RunEnd) (text bytes letters : List ℕ) (at n : ℕ) → length text ≤ at → length letters ≡ 0
    → prepend bytes (groups_from n (letters ++ without_ends absent (drop at text))) ≡ Ok bytes
groups_end absent text bytes [] at n h none =
    ap (λ (x : List ℕ). prepend bytes (groups_from n x)) (rest_at_end absent text [] at h)
    ∙ ap (prepend bytes) (groups_from-nil n) ∙ ap Ok (append-nil bytes)
groups_end absent text bytes (x ∷ letters) at n h none = absurd (omega arith)

pub groups_short : (absent : RunEnd) (text bytes letters : List ℕ) (at n : ℕ) → length text ≤ at → 0 < length letters → length letters < 4
    → prepend bytes (groups_from n (letters ++ without_ends absent (drop at text))) ≡ Err n
groups_short absent text bytes letters at n h some few =
    ap (λ (x : List ℕ). prepend bytes (groups_from n x)) (rest_at_end absent text letters at h)
    ∙ ap (prepend bytes) (groups_from-short n letters some few)
