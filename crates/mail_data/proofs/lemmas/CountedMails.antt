-- Lemmas on counted mails: where they end, and that they make up the mailbox.
use Rattle.std.proofs.Common.{◌≡◌, ℕ, zero, suc, ◌+◌, ◌-◌, ◌<◌, ◌≤◌, Bool, true, false, cond, List, [], ◌∷◌, ◌&&◌, Option, Some, None, length, take, drop, refl, sym, ap, ◌∙◌, arith, inl, inr}
use Rattle.std.specs.Prelude.{◌==◌, ◌⊎◌, min, nat_le, nat_lt, option_and_then}
use Rattle.std.specs.Char.{is_ascii_digit, is_ascii_whitespace}
use Rattle.std.specs.List.{list_all, prefix_len}
use Rattle.std.specs.Option.{unwrap_or}
use Rattle.std.specs.Str.{IsTrimAscii, str_eq_ignore_ascii_case}
use Rattle.std.specs.Str.Parse.{AllDigits}
use Rattle.std.proofs.lemmas.Bool.{and_parts, cases_lt, cond_both, le-leb, le-ltb, lt-leb, or_cases, or_left, or_right}
use Rattle.std.proofs.lemmas.List.{drop_all, drop_min, length-take, take_min, take_rest}
use Rattle.std.proofs.lemmas.Str.Ascii.{trim_ascii_is}
use Rattle.mail_codec.specs.Places.{begins, first_place, is_empty, trimmed_at_end, trimmed_at_start}
use Rattle.mail_data.specs.CountedMails.{block_length, block_place, content_length, counted_length, counted_place, field_start, field_text, is_field, is_known, is_place_known, is_short_separator, may_end}
use Rattle.mail_data.specs.LineEnds.{after_empty_line, empty_line, line_length}
use Rattle.mail_data.specs.Mailbox.{after_by, mail_length}
use Rattle.mail_data.specs.Separator.{is_separator}
use Rattle.mail_data.proofs.lemmas.Mailbox.{Opens, after_opens, opens}
use Rattle.mail_read.proofs.lemmas.lenient.Date.{digit_below}

-- ---- the field

-- the code takes the lesser of two numbers the other way round
swapped : (m n : ℕ) → min m n ≡ min n m
swapped m n = omega arith

pub is_field-read : (bytes : List ℕ) (m : ℕ) (r : Bool) → m ≡ min (length bytes) 15 → r ≡ str_eq_ignore_ascii_case (take m bytes) field_start → r ≡ is_field bytes
unfolding is_field
is_field-read bytes m r is said = said ∙ ap (λ (t : List ℕ). str_eq_ignore_ascii_case t field_start) (ap (λ (k : ℕ). take k bytes) (is ∙ swapped (length bytes) 15) ∙ take_min 15 bytes)

pub field_text-trimmed : (field s r : List ℕ) (n m : ℕ) → n ≡ line_length field → m ≡ min (length (take n field)) 15
    → take (length (take n field) - m) (drop m (take n field)) ≡ s → IsTrimAscii s r → r ≡ field_text field
unfolding field_text
field_text-trimmed field s r n m is cut same trims =
    let beyond : s ≡ drop 15 (take (line_length field) field) =
    sym same ∙ take_rest (take n field) m ∙ ap (λ (k : ℕ). drop k (take n field)) (cut ∙ swapped (length (take n field)) 15) ∙ drop_min 15 (take n field) ∙ ap (λ (k : ℕ). drop 15 (take k field)) is in
    trim_ascii_is s r (drop (prefix_len is_ascii_whitespace s) s) refl trims
    ∙ ap (λ (t : List ℕ). trimmed_at_end is_ascii_whitespace (trimmed_at_start is_ascii_whitespace t)) beyond

pub all_digits : (text : List ℕ) → list_all is_ascii_digit text ≡ true → AllDigits 10 text
all_digits [] h = tt
all_digits (b ∷ text) h =
    let parts = and_parts (is_ascii_digit b) (list_all is_ascii_digit text) h in
    (digit_below b parts.0, all_digits text parts.1)

-- ---- short lines

first_place-take : (n : ℕ) (bytes : List ℕ) → n ≤ length bytes → first_place (begins (λ b. b == 10)) (take n bytes) ≡ min n (first_place (begins (λ b. b == 10)) bytes)
first_place-take zero bytes fits = omega arith
first_place-take (suc n) [] fits = absurd (omega arith)
first_place-take (suc n) (b ∷ bytes) fits =
    let later = first_place-take n bytes (omega arith) in
    elim (b == 10) as (λ t. cond t 0 (suc (first_place (begins (λ b. b == 10)) (take n bytes))) ≡ min (suc n) (cond t 0 (suc (first_place (begins (λ b. b == 10)) bytes)))) [
      | true ↦ omega arith
      | false ↦ omega arith
    ]

pub short-all : (bytes : List ℕ) → length bytes ≤ 1000 → true ≡ nat_le (line_length bytes) 1000
unfolding line_length
short-all bytes low = sym (le-leb (min (suc (first_place (begins (λ b. b == 10)) bytes)) (length bytes)) 1000 (omega arith))

pub short-part : (bytes : List ℕ) (n : ℕ) → 1000 < length bytes → n ≡ line_length (take 1001 bytes) → nat_le n 1000 ≡ nat_le (line_length bytes) 1000
unfolding line_length
short-part bytes n long is =
    let f = first_place (begins (λ b. b == 10)) bytes in
    let part = first_place-take 1001 bytes (omega arith) in
    let size = length-take 1001 bytes in
    elim (cases_lt f 1000) [
      | inl low ↦ let same : n ≡ min (suc f) (length bytes) = omega arith in ap (λ (k : ℕ). nat_le k 1000) same
      | inr high ↦ lt-leb n 1000 (omega arith) ∙ sym (lt-leb (min (suc f) (length bytes)) 1000 (omega arith))
    ]

-- ---- the place

is_known-nil : is_known [] ≡ false
unfolding is_known empty_line line_length
is_known-nil = refl

pub known-count : (mail rest : List ℕ) (count : Option ℕ) (k n : ℕ) (r : Bool) → count ≡ Some k → n ≡ block_length mail
    → take (length mail - (n + k)) (drop (n + k) mail) ≡ rest → r ≡ is_known rest → r ≡ is_place_known mail count
unfolding is_place_known
known-count mail rest count k n r some is same said =
    said ∙ ap is_known (sym same ∙ take_rest mail (n + k) ∙ ap (λ (m : ℕ). drop (m + k) mail) is) ∙ sym (ap (is_place_known mail) some)

pub known-past : (mail : List ℕ) (count : Option ℕ) (k n : ℕ) → count ≡ Some k → n ≡ block_length mail
    → length mail ≤ n + k → nat_lt (n + k) (length mail) ≡ is_place_known mail count
unfolding is_place_known
known-past mail count k n some is past =
    let none : drop (block_length mail + k) mail ≡ [] = drop_all (block_length mail + k) mail (omega arith) in
    le-ltb (n + k) (length mail) past ∙ sym (ap (is_place_known mail) some ∙ ap is_known none ∙ is_known-nil)

pub known-none : (mail : List ℕ) (count : Option ℕ) → count ≡ None → true ≡ is_place_known mail count
unfolding is_place_known
known-none mail count none = sym (ap (is_place_known mail) none)

-- ---- the bytes after a mail

may_end-opens : (bytes : List ℕ) → may_end bytes ≡ true → opens (after_empty_line bytes) ≡ true
unfolding may_end is_short_separator
may_end-opens bytes h =
    let after = after_empty_line bytes in
    elim (or_cases (is_empty after) (nat_le (line_length after) 1000 && is_separator after) h) [
      | inl none ↦ or_left (is_empty after) (is_separator after) none
      | inr short ↦ or_right (is_empty after) (is_separator after) (and_parts (nat_le (line_length after) 1000) (is_separator after) short).1
    ]

-- the mail ends as one of any mailbox does, or where it may
pub counted-cases : (mail : List ℕ) → (counted_length mail ≡ mail_length mail) ⊎ (may_end (after_by counted_length mail) ≡ true)
unfolding counted_length counted_place
counted-cases mail = go (content_length (take (block_place mail) mail))
  where
    go : (o : Option ℕ) → (unwrap_or (option_and_then (counted_place mail) o) (mail_length mail) ≡ mail_length mail)
        ⊎ (may_end (drop (unwrap_or (option_and_then (counted_place mail) o) (mail_length mail)) mail) ≡ true)
    go None = inl refl
    go (Some k) =
        let place = block_length mail + k in
        let m = mail_length mail in
        cond_both (nat_le place (length mail) && may_end (drop place mail)) (Some place) None
        (λ (o : Option ℕ). (unwrap_or o m ≡ m) ⊎ (may_end (drop (unwrap_or o m) mail) ≡ true))
        (λ h. inr (and_parts (nat_le place (length mail)) (may_end (drop place mail)) h).1) (λ h. inl refl)

pub after_counted-opens : Opens counted_length
after_counted-opens mail = elim (counted-cases mail) [
  | inl same ↦ ap (λ (n : ℕ). opens (after_empty_line (drop n mail))) same ∙ after_opens mail
  | inr ends ↦ may_end-opens (after_by counted_length mail) ends
]
