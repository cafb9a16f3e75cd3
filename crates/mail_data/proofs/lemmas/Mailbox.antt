-- Lemmas on mailboxes: where a mail ends, and that the mails make up the mailbox.
use Rattle.std.proofs.Common.{◌≡◌, ℕ, zero, suc, ◌+◌, ◌-◌, ◌<◌, ◌≤◌, Bool, true, false, List, [], ◌∷◌, ◌||◌, length, take, drop, refl, sym, ap, ◌∙◌, arith, length-drop, ◌++◌, inl, inr}
use Rattle.std.specs.Prelude.{nat_lt}
use Rattle.std.specs.List.{flat_map}
use Rattle.std.proofs.lemmas.Bool.{cond-true, cond-false, cases_Bool, ltb-true, and_parts, or_right, false≢true}
use Rattle.std.proofs.lemmas.List.{append_assoc, drop-drop, drop_all, take_rest, take-append-drop}
use Rattle.mail_codec.specs.Places.{is_empty}
use Rattle.mail_data.specs.LineEnds.{after_empty_line, after_line, empty_line, line_length}
use Rattle.mail_data.specs.Mailbox.{Entry, ends_mail, mail_length, entry_bytes, after_by, after_mail, entry_by, next_by, entries_within, entries_by, front_length}
use Rattle.mail_data.specs.Separator.{is_separator}
use Rattle.mail_data.proofs.lemmas.LineEnds.{line_place-≤, line_place-passes, line_length-some_bytes}

-- ---- the mails

pub mail_length-≤ : (bytes : List ℕ) → mail_length bytes ≤ length bytes
unfolding mail_length
mail_length-≤ bytes = line_place-≤ ends_mail bytes

-- the bytes are at their end or begin with a separator
abbrev pub opens : List ℕ → Bool
opens bytes = is_empty bytes || is_separator bytes

pub ends_mail-opens : (bytes : List ℕ) → ends_mail bytes ≡ true → opens (after_empty_line bytes) ≡ true
unfolding ends_mail
ends_mail-opens bytes h = (and_parts (nat_lt 0 (empty_line bytes)) (opens (after_empty_line bytes)) h).1

mail_ended : (bytes : List ℕ) → mail_length bytes < length bytes → ends_mail (after_mail bytes) ≡ true
unfolding mail_length
mail_ended bytes l = line_place-passes ends_mail bytes l

pub after_empty_line-nil : after_empty_line [] ≡ []
unfolding empty_line
after_empty_line-nil = refl

-- a separator or nothing follows a mail and its empty line
pub after_opens : (bytes : List ℕ) → opens (after_empty_line (after_mail bytes)) ≡ true
after_opens bytes = elim (cases_Bool (nat_lt (mail_length bytes) (length bytes))) [
  | inl l ↦ ends_mail-opens (after_mail bytes) (mail_ended bytes (ltb-true (mail_length bytes) (length bytes) l))
  | inr g ↦ let none : after_mail bytes ≡ [] = drop_all (mail_length bytes) bytes (grind (arith, g)) in
      ap (λ (r : List ℕ). opens (after_empty_line r)) none ∙ ap opens after_empty_line-nil
]

pub has_prefix-some : (bytes : List ℕ) → is_separator bytes ≡ true → 0 < length bytes
unfolding is_separator
has_prefix-some [] h = absurd (false≢true h)
has_prefix-some (b ∷ bytes) h = omega arith

-- each mail takes some bytes
pub next-shorter : (length_of : List ℕ → ℕ) (bytes : List ℕ) → is_separator bytes ≡ true → length (next_by length_of bytes) < length bytes
next-shorter length_of bytes h =
    let low = has_prefix-some bytes h in
    let some = line_length-some_bytes bytes low in
    let body = after_line bytes in
    let after = after_by length_of body in
    let a = length-drop (line_length bytes) bytes in
    let b = length-drop (length_of body) body in
    let c = length-drop (empty_line after) after in
    omega arith

within-nil : (length_of : List ℕ → ℕ) (n : ℕ) → entries_within length_of n [] ≡ []
unfolding is_separator
within-nil length_of zero = refl
within-nil length_of (suc n) = refl

within-enough : (length_of : List ℕ → ℕ) (n m : ℕ) (bytes : List ℕ) → length bytes ≤ n → length bytes ≤ m
    → entries_within length_of n bytes ≡ entries_within length_of m bytes
within-enough length_of zero m [] a b = sym (within-nil length_of m)
within-enough length_of (suc n) zero [] a b = within-nil length_of (suc n)
within-enough length_of zero m (x ∷ bytes) a b = absurd (omega arith)
within-enough length_of (suc n) zero (x ∷ bytes) a b = absurd (omega arith)
within-enough length_of (suc n) (suc m) bytes a b = elim (cases_Bool (is_separator bytes)) [
  | inl h ↦ let less = next-shorter length_of bytes h in
      cond-true _ _ _ h ∙ ap (λ es. entry_by length_of bytes ∷ es) (within-enough length_of n m (next_by length_of bytes) (omega arith) (omega arith)) ∙ sym (cond-true _ _ _ h)
  | inr h ↦ cond-false _ _ _ h ∙ sym (cond-false _ _ _ h)
]

pub entries-none : (length_of : List ℕ → ℕ) (bytes : List ℕ) → is_separator bytes ≡ false → entries_by length_of bytes ≡ []
unfolding entries_by
entries-none length_of bytes h = within-enough length_of (length bytes) (suc (length bytes)) bytes (omega arith) (omega arith) ∙ cond-false _ _ _ h

pub entries-some : (length_of : List ℕ → ℕ) (bytes : List ℕ) → is_separator bytes ≡ true
    → entries_by length_of bytes ≡ entry_by length_of bytes ∷ entries_by length_of (next_by length_of bytes)
unfolding entries_by
entries-some length_of bytes h =
    let less = next-shorter length_of bytes h in
    let next = next_by length_of bytes in
    within-enough length_of (length bytes) (suc (length bytes)) bytes (omega arith) (omega arith) ∙ cond-true _ _ _ h
    ∙ ap (λ es. entry_by length_of bytes ∷ es) (within-enough length_of (length bytes) (length next) next (omega arith) (omega arith))

-- ---- the mails make up the mailbox

pub entry-spans : (length_of : List ℕ → ℕ) (bytes : List ℕ) → entry_bytes (entry_by length_of bytes) ++ next_by length_of bytes ≡ bytes
entry-spans length_of bytes =
    let body = after_line bytes in
    let after = after_by length_of body in
    let line = take (line_length bytes) bytes in
    let mail = take (length_of body) body in
    let ending = take (empty_line after) after in
    append_assoc line (mail ++ ending) (next_by length_of bytes)
    ∙ ap (λ (r : List ℕ). line ++ r)
    (append_assoc mail ending (next_by length_of bytes) ∙ ap (λ (r : List ℕ). mail ++ r) (take-append-drop (empty_line after) after) ∙ take-append-drop (length_of body) body)
    ∙ take-append-drop (line_length bytes) bytes

-- a separator or nothing follows a mail of this length and its empty line
abbrev pub Opens : (List ℕ → ℕ) → Type 0
Opens length_of = (mail : List ℕ) → opens (after_empty_line (after_by length_of mail)) ≡ true

pub nothing : (bytes : List ℕ) → is_separator bytes ≡ false → opens bytes ≡ true → bytes ≡ []
nothing [] fails h = refl
nothing (b ∷ bytes) fails h = absurd (false≢true (sym fails ∙ h))

entries-span : (length_of : List ℕ → ℕ) (n : ℕ) (bytes : List ℕ) → Opens length_of → length bytes ≤ n → opens bytes ≡ true
    → flat_map entry_bytes (entries_within length_of n bytes) ≡ bytes
entries-span length_of zero [] beyond fits h = refl
entries-span length_of zero (b ∷ bytes) beyond fits h = absurd (omega arith)
entries-span length_of (suc n) bytes beyond fits h = elim (cases_Bool (is_separator bytes)) [
  | inl is ↦ let less = next-shorter length_of bytes is in
      let next = next_by length_of bytes in
      ap (flat_map entry_bytes) (cond-true _ _ _ is)
      ∙ ap (λ (r : List ℕ). entry_bytes (entry_by length_of bytes) ++ r) (entries-span length_of n next beyond (omega arith) (beyond (after_line bytes)))
      ∙ entry-spans length_of bytes
  | inr fails ↦
      ap (flat_map entry_bytes) (cond-false (is_separator bytes) (entry_by length_of bytes ∷ entries_within length_of n (next_by length_of bytes)) [] fails)
      ∙ sym (nothing bytes fails h)
]

pub front-opens : (bytes : List ℕ) → opens (drop (front_length bytes) bytes) ≡ true
unfolding front_length
front-opens bytes = elim (cases_Bool (is_separator bytes)) [
  | inl is ↦ ap (λ n. opens (drop n bytes)) (cond-true (is_separator bytes) 0 (mail_length bytes + empty_line (after_mail bytes)) is) ∙ or_right (is_empty bytes) (is_separator bytes) is
  | inr fails ↦ ap (λ n. opens (drop n bytes)) (cond-false (is_separator bytes) 0 (mail_length bytes + empty_line (after_mail bytes)) fails)
      ∙ ap opens (sym (drop-drop (empty_line (after_mail bytes)) (mail_length bytes) bytes)) ∙ after_opens bytes
]

-- the mails of a mailbox
abbrev pub mails : (List ℕ → ℕ) → List ℕ → List Entry
mails length_of bytes = entries_by length_of (drop (front_length bytes) bytes)

pub mailbox-spans : (length_of : List ℕ → ℕ) (bytes : List ℕ) → Opens length_of → take (front_length bytes) bytes ++ flat_map entry_bytes (mails length_of bytes) ≡ bytes
unfolding entries_by
mailbox-spans length_of bytes beyond =
    let rest = drop (front_length bytes) bytes in
    ap (λ (r : List ℕ). take (front_length bytes) bytes ++ r) (entries-span length_of (length rest) rest beyond (omega arith) (front-opens bytes))
    ∙ take-append-drop (front_length bytes) bytes

pub mailbox-whole : (length_of : List ℕ → ℕ) (bytes front rest : List ℕ) (n : ℕ) → Opens length_of → n ≡ front_length bytes → front ≡ take n bytes → rest ≡ drop n bytes
    → front ++ flat_map entry_bytes (entries_by length_of rest) ≡ bytes
mailbox-whole length_of bytes front rest n beyond is before after =
    ap (λ (f : List ℕ). f ++ flat_map entry_bytes (entries_by length_of rest)) (before ∙ ap (λ k. take k bytes) is)
    ∙ ap (λ (r : List ℕ). take (front_length bytes) bytes ++ flat_map entry_bytes (entries_by length_of r)) (after ∙ ap (λ k. drop k bytes) is)
    ∙ mailbox-spans length_of bytes beyond

-- ---- the bytes before the first separator

pub front_length-none : (bytes : List ℕ) → true ≡ is_separator bytes → 0 ≡ front_length bytes
unfolding front_length
front_length-none bytes h = sym (cond-true (is_separator bytes) 0 _ (sym h))

pub front_length-some : (bytes after : List ℕ) (n e : ℕ) → false ≡ is_separator bytes → n ≡ mail_length bytes → take (length bytes - n) (drop n bytes) ≡ after → e ≡ empty_line after
    → n + e ≡ front_length bytes
unfolding front_length
front_length-some bytes after n e fails is same ending =
    let rest : after_mail bytes ≡ after = ap (λ k. drop k bytes) (sym is) ∙ sym (take_rest bytes n) ∙ same in
    let which : e ≡ empty_line (after_mail bytes) = ending ∙ ap empty_line (sym rest) in
    sym (cond-false (is_separator bytes) 0 (mail_length bytes + empty_line (after_mail bytes)) (sym fails) ∙ omega arith)

-- a mailbox that begins with a separator has nothing before it
pub entries-here : (length_of : List ℕ → ℕ) (bytes : List ℕ) → is_separator bytes ≡ true → mails length_of bytes ≡ entries_by length_of bytes
entries-here length_of bytes first = ap (λ (n : ℕ). entries_by length_of (drop n bytes)) (sym (front_length-none bytes (sym first)))
