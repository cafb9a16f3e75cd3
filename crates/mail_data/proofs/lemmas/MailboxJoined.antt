-- Lemmas on a mailbox that is cut before a separator after an empty line: the mails of the two halves are those of the whole.
use Rattle.std.proofs.Common.{◌≡◌, ℕ, zero, suc, ◌+◌, ◌-◌, ◌<◌, ◌≤◌, Bool, true, false, cond, List, [], ◌∷◌, ◌++◌, ◌&&◌, length, take, drop, refl, sym, ap, subst, ◌∙◌, arith, length-append, inl, inr}
use Rattle.std.specs.Prelude.{nat_eq, nat_lt, ◌==◌}
use Rattle.std.specs.List.{list_any}
use Rattle.std.proofs.lemmas.Bool.{and_left, cases_Bool, cases_lt, eqb-true, or_parts, or_right}
use Rattle.std.proofs.lemmas.List.{append_assoc, drop-append-le, drop-drop, drop_all, take-append-le}
use Rattle.std.proofs.Math.Seq.{drop-append_seam, drop-append-add}
use Rattle.mail_codec.specs.Places.{begins, first_place, is_empty, has_prefix}
use Rattle.mail_codec.proofs.lemmas.Places.{first_place-past, least-before, least-is, least-passes, true_not_false}
use Rattle.mail_data.specs.LineEnds.{after_empty_line, after_line, empty_line, line_length, line_place, starts_line}
use Rattle.mail_data.specs.Mailbox.{EndsEmpty, Entry, IsEmptyLine, after_by, after_mail, ends_mail, entries, entries_from, entry_at, entry_by, mail_length, next_by, next_entry}
use Rattle.mail_data.specs.Separator.{has_time, is_separator, mark}
use Rattle.mail_data.proofs.lemmas.LineEnds.{empty_line-≤, is_line, line_length-more, line_length-≤, starts-stays}
use Rattle.mail_data.proofs.lemmas.Mailbox.{after_opens, entries-here, entries-none, entries-some, next-shorter, nothing, opens}

-- ---- bytes that end in LF, with more bytes after them

-- the bytes with a LF at their end
abbrev pub closed : List ℕ → List ℕ
closed front = front ++ (10 ∷ [])

pub length-closed : (front : List ℕ) → length (closed front) ≡ length front + 1
length-closed front = length-append front (10 ∷ [])

drop-closed : (front : List ℕ) (n : ℕ) → n ≤ length front → drop n (closed front) ≡ closed (drop n front)
drop-closed front n within = drop-append-le n front (10 ∷ []) within

empty_line-joined : (front more : List ℕ) → empty_line (closed front ++ more) ≡ empty_line (closed front)
unfolding empty_line
empty_line-joined [] more = refl
empty_line-joined (b ∷ []) more = refl
empty_line-joined (b ∷ c ∷ front) more = refl

-- the first LF is no later than any other
first_place-low : (front rest : List ℕ) → first_place (begins (λ b. b == 10)) (front ++ (10 ∷ rest)) ≤ length front
first_place-low [] rest = omega arith
first_place-low (b ∷ front) rest =
    let low = first_place-low front rest in
    elim (b == 10) as (λ t. cond t 0 (suc (first_place (begins (λ b. b == 10)) (front ++ (10 ∷ rest)))) ≤ length (b ∷ front)) [
      | true ↦ omega arith
      | false ↦ omega arith
    ]

line_length-low : (front rest : List ℕ) → line_length (front ++ (10 ∷ rest)) ≤ length front + 1
unfolding line_length
line_length-low front rest = let low = first_place-low front rest in omega arith

feed-low : (front : List ℕ) → first_place (begins (λ b. b == 10)) (closed front) < length (closed front)
feed-low front = let low = first_place-low front [] in let size = length-closed front in omega arith

-- ---- lengths of the bytes, with more bytes after them

-- the length stays as it is, within the bytes
pub record Stays (length_of : List ℕ → ℕ) (bytes more : List ℕ) : Type 0 where
  pub same : length_of (bytes ++ more) ≡ length_of bytes
  pub within : length_of bytes ≤ length bytes

take-joined : (f : List ℕ → ℕ) (bytes more : List ℕ) → Stays f bytes more → take (f (bytes ++ more)) (bytes ++ more) ≡ take (f bytes) bytes
take-joined f bytes more stays = ap (λ (n : ℕ). take n (bytes ++ more)) stays.same ∙ take-append-le (f bytes) bytes more stays.within

pub drop-joined : (f : List ℕ → ℕ) (bytes more : List ℕ) → Stays f bytes more → drop (f (bytes ++ more)) (bytes ++ more) ≡ drop (f bytes) bytes ++ more
drop-joined f bytes more stays = ap (λ (n : ℕ). drop n (bytes ++ more)) stays.same ∙ drop-append-le (f bytes) bytes more stays.within

-- the mail at the front stays as it is
pub record Joined (length_of : List ℕ → ℕ) (bytes more : List ℕ) : Type 0 where
  pub separator : is_separator (bytes ++ more) ≡ is_separator bytes
  pub entry : entry_by length_of (bytes ++ more) ≡ entry_by length_of bytes
  pub next : next_by length_of (bytes ++ more) ≡ next_by length_of bytes ++ more

pub joined-by : (length_of : List ℕ → ℕ) (bytes more : List ℕ) → is_separator (bytes ++ more) ≡ is_separator bytes → Stays line_length bytes more
    → Stays length_of (after_line bytes) more → Stays empty_line (after_by length_of (after_line bytes)) more → Joined length_of bytes more
joined-by length_of bytes more separator line mail end =
    let body = after_line bytes in
    let rest = after_by length_of body in
    let whole = bytes ++ more in
    let body_more : after_line whole ≡ body ++ more = drop-joined line_length bytes more line in
    let rest_more : after_by length_of (after_line whole) ≡ rest ++ more = ap (after_by length_of) body_more ∙ drop-joined length_of body more mail in
    let s : take (line_length whole) whole ≡ take (line_length bytes) bytes = take-joined line_length bytes more line in
    let t : take (length_of (after_line whole)) (after_line whole) ≡ take (length_of body) body =
    ap (λ (r : List ℕ). take (length_of r) r) body_more ∙ take-joined length_of body more mail in
    let u : take (empty_line (after_by length_of (after_line whole))) (after_by length_of (after_line whole)) ≡ take (empty_line rest) rest =
    ap (λ (r : List ℕ). take (empty_line r) r) rest_more ∙ take-joined empty_line rest more end in
    let same : entry_by length_of whole ≡ entry_by length_of bytes = λ i. record { separator = s i; mail = t i; ending = u i } in
    record { separator = separator; entry = same; next = ap after_empty_line rest_more ∙ drop-joined empty_line rest more end }

-- whether a text without a LF begins bytes with a LF does not depend on the bytes after them
has_prefix-more : (text bytes more : List ℕ) → list_any (λ t. t == 10) text ≡ false → first_place (begins (λ b. b == 10)) bytes < length bytes
    → has_prefix text (bytes ++ more) ≡ has_prefix text bytes
has_prefix-more [] bytes more none low = refl
has_prefix-more (t ∷ text) [] more none low = absurd (omega arith)
has_prefix-more (t ∷ text) (b ∷ bytes) more none low = elim (cases_Bool (nat_eq t b)) [
  | inl e ↦
      let parts = or_parts (t == 10) (list_any (λ t. t == 10) text) none in
      let past = first_place-past (begins (λ b. b == 10)) b bytes (ap (λ (x : ℕ). x == 10) (sym (eqb-true t b e)) ∙ parts.0) in
      ap (λ (f : Bool). nat_eq t b && f) (has_prefix-more text bytes more parts.1 (omega arith))
  | inr n ↦ and_left (nat_eq t b) (has_prefix text (bytes ++ more)) n ∙ sym (and_left (nat_eq t b) (has_prefix text bytes) n)
]

pub is_separator-more : (bytes more : List ℕ) → first_place (begins (λ b. b == 10)) bytes < length bytes → is_separator (bytes ++ more) ≡ is_separator bytes
unfolding is_separator
is_separator-more bytes more low =
    ap (λ (t : Bool). t && has_time (take (line_length (bytes ++ more)) (bytes ++ more))) (has_prefix-more mark bytes more refl low)
    ∙ ap (λ (line : List ℕ). has_prefix mark bytes && has_time line)
    (take-joined line_length bytes more (record { same = line_length-more bytes more low; within = line_length-≤ bytes }))

line-stays : (front more : List ℕ) → Stays line_length (closed front) more
line-stays front more = record { same = line_length-more (closed front) more (feed-low front); within = line_length-≤ (closed front) }

pub is_separator-joined : (front more : List ℕ) → is_separator (closed front ++ more) ≡ is_separator (closed front)
is_separator-joined front more = is_separator-more (closed front) more (feed-low front)

opens-closed : (front more : List ℕ) → opens (closed front ++ more) ≡ opens (closed front)
opens-closed [] more = is_separator-joined [] more
opens-closed (b ∷ front) more = is_separator-joined (b ∷ front) more

opens-joined : (front more : List ℕ) (n : ℕ) → n ≤ length (closed front) → is_separator more ≡ true → opens (drop n (closed front ++ more)) ≡ opens (drop n (closed front))
opens-joined front more n within marked = elim (cases_lt (length front) n) [
  | inl past ↦
      let size = length-closed front in
      let all : n ≡ length (closed front) = omega arith in
      ap (λ (k : ℕ). opens (drop k (closed front ++ more))) all ∙ ap opens (drop-append_seam (closed front) more) ∙ or_right (is_empty more) (is_separator more) marked
      ∙ sym (ap opens (drop_all n (closed front) (omega arith)))
  | inr low ↦
      ap opens (drop-append-le n (closed front) more within) ∙ ap (λ (r : List ℕ). opens (r ++ more)) (drop-closed front n low) ∙ opens-closed (drop n front) more
      ∙ sym (ap opens (drop-closed front n low))
]

ends_mail-joined : (front more : List ℕ) → is_separator more ≡ true → ends_mail (closed front ++ more) ≡ ends_mail (closed front)
unfolding ends_mail
ends_mail-joined front more marked =
    ap (λ (k : ℕ). nat_lt 0 k && opens (drop k (closed front ++ more))) (empty_line-joined front more)
    ∙ ap (λ (t : Bool). nat_lt 0 (empty_line (closed front)) && t) (opens-joined front more (empty_line (closed front)) (empty_line-≤ (closed front)) marked)

-- the bytes after a place within them
pub after_place : (front more : List ℕ) (n : ℕ) → n ≤ length front → drop n (closed front ++ more) ≡ closed (drop n front) ++ more
after_place front more n within =
    let size = length-closed front in
    drop-append-le n (closed front) more (omega arith) ∙ ap (λ (r : List ℕ). r ++ more) (drop-closed front n within)

is_line-joined : (front more : List ℕ) (n : ℕ) → n ≤ length front → is_separator more ≡ true → is_line ends_mail (closed front ++ more) n ≡ is_line ends_mail (closed front) n
is_line-joined front more n within marked =
    let size = length-closed front in
    ap (λ (t : Bool). t && ends_mail (drop n (closed front ++ more))) (starts-stays (closed front) more n (omega arith))
    ∙ ap (λ (r : List ℕ). starts_line (closed front) n && ends_mail r) (after_place front more n within)
    ∙ ap (λ (t : Bool). starts_line (closed front) n && t) (ends_mail-joined (drop n front) more marked)
    ∙ ap (λ (r : List ℕ). starts_line (closed front) n && ends_mail r) (sym (drop-closed front n within))

-- ---- where a mail ends

mail_length-joined : (front more : List ℕ) → is_separator more ≡ true → mail_length (closed front) < length (closed front) → mail_length (closed front ++ more) ≡ mail_length (closed front)
unfolding mail_length
mail_length-joined front more marked low =
    let size = length-closed front in
    let all = length-append (closed front) more in
    least-is (is_line ends_mail (closed front ++ more)) (length (closed front ++ more)) (line_place ends_mail (closed front)) (omega arith)
    (λ k l. is_line-joined front more k (omega arith) marked ∙ least-before (is_line ends_mail (closed front)) (length (closed front)) k l)
    (λ l. is_line-joined front more (line_place ends_mail (closed front)) (omega arith) marked ∙ least-passes (is_line ends_mail (closed front)) (length (closed front)) low)

found-low : (bytes : List ℕ) (n : ℕ) → n < length bytes → is_line ends_mail bytes n ≡ true → mail_length bytes < length bytes
unfolding mail_length
found-low bytes n low found = elim (cases_lt (line_place ends_mail bytes) (length bytes)) [
  | inl l ↦ l
  | inr g ↦ absurd (true_not_false found (least-before (is_line ends_mail bytes) (length bytes) n (omega arith)))
]

-- ---- the empty line at the end

ends_mail-line : (line : List ℕ) → IsEmptyLine line → ends_mail line ≡ true
unfolding ends_mail empty_line
ends_mail-line line (inl e) = ap ends_mail e
ends_mail-line line (inr e) = ap ends_mail e

unmarked : (line : List ℕ) (n : ℕ) → IsEmptyLine line → is_separator (drop n line) ≡ false
unfolding is_separator
unmarked line zero (inl e) = ap is_separator e
unmarked line (suc n) (inl e) = ap (λ (r : List ℕ). is_separator (drop (suc n) r)) e ∙ ap is_separator (drop_all {X = ℕ} n [] (omega arith))
unmarked line zero (inr e) = ap is_separator e
unmarked line (suc zero) (inr e) = ap (λ (r : List ℕ). is_separator (drop 1 r)) e
unmarked line (suc (suc n)) (inr e) = ap (λ (r : List ℕ). is_separator (drop (suc (suc n)) r)) e ∙ ap is_separator (drop_all {X = ℕ} n [] (omega arith))

-- the bytes before the last LF
abbrev pub before_last : List ℕ → List ℕ → List ℕ
before_last front line = front ++ take (length line) (10 ∷ line)

pub closed-line : (line : List ℕ) → IsEmptyLine line → (10 ∷ line ≡ closed (take (length line) (10 ∷ line))) × (0 < length line)
closed-line line (inl e) = (subst (λ (r : List ℕ). 10 ∷ r ≡ closed (take (length r) (10 ∷ r))) (sym e) refl, omega (arith, ap length e))
closed-line line (inr e) = (subst (λ (r : List ℕ). 10 ∷ r ≡ closed (take (length r) (10 ∷ r))) (sym e) refl, omega (arith, ap length e))

pub closed-bytes : (front line : List ℕ) → IsEmptyLine line → front ++ (10 ∷ line) ≡ closed (before_last front line)
closed-bytes front line is =
    ap (λ (r : List ℕ). front ++ r) (closed-line line is).0 ∙ sym (append_assoc front (take (length line) (10 ∷ line)) (10 ∷ []))

-- after a line that ends no later than the last LF but one, a mail ends before the end
body-low : (front line : List ℕ) (n : ℕ) → IsEmptyLine line → n ≤ length front + 1
    → mail_length (drop n (front ++ (10 ∷ line))) < length (drop n (front ++ (10 ∷ line)))
body-low front line n is within = elim (cases_lt (length front) n) [
  | inl past ↦
      let some = (closed-line line is).1 in
      let all : n ≡ length front + 1 = omega arith in
      let rest : drop n (front ++ (10 ∷ line)) ≡ line = ap (λ (k : ℕ). drop k (front ++ (10 ∷ line))) all ∙ drop-append-add front (10 ∷ line) 1 in
      subst (λ (r : List ℕ). mail_length r < length r) (sym rest) (found-low line 0 some (ends_mail-line line is))
  | inr low ↦ subst (λ (r : List ℕ). mail_length r < length r) (sym (drop-append-le n front (10 ∷ line) low)) (within_text (drop n front))
]
  where
    within_text : (text : List ℕ) → mail_length (text ++ (10 ∷ line)) < length (text ++ (10 ∷ line))
    within_text text =
        let some = (closed-line line is).1 in
        let all = length-append text (10 ∷ line) in
        let place : length text + 1 - 1 ≡ length text = omega arith in
        let starts : starts_line (text ++ (10 ∷ line)) (length text + 1) ≡ true =
        or_right (length text + 1 == 0) _ (ap (λ (k : ℕ). begins (λ b. b == 10) (drop k (text ++ (10 ∷ line)))) place ∙ ap (begins (λ b. b == 10)) (drop-append_seam text (10 ∷ line))) in
        let ends : ends_mail (drop (length text + 1) (text ++ (10 ∷ line))) ≡ true = ap ends_mail (drop-append-add text (10 ∷ line) 1) ∙ ends_mail-line line is in
        found-low (text ++ (10 ∷ line)) (length text + 1) (omega arith)
        (ap (λ (t : Bool). t && ends_mail (drop (length text + 1) (text ++ (10 ∷ line)))) starts ∙ ends)

-- ---- the mail at the front

entry-joined : (front more : List ℕ) → is_separator more ≡ true → line_length (closed front) ≤ length front
    → mail_length (after_line (closed front)) < length (after_line (closed front)) → Joined mail_length (closed front) more
entry-joined front more marked short low =
    let bytes = closed front in
    let n = line_length bytes in
    let body = drop n front in
    let body_is : after_line bytes ≡ closed body = drop-closed front n short in
    let low_body : mail_length (closed body) < length (closed body) = subst (λ (r : List ℕ). mail_length r < length r) body_is low in
    let m = mail_length (closed body) in
    let size = length-closed body in
    let rest = drop m body in
    let rest_is : after_mail (after_line bytes) ≡ closed rest = ap after_mail body_is ∙ drop-closed body m (omega arith) in
    let mail : Stays mail_length (closed body) more = record { same = mail_length-joined body more marked low_body; within = omega arith } in
    let end : Stays empty_line (closed rest) more = record { same = empty_line-joined rest more; within = empty_line-≤ (closed rest) } in
    joined-by mail_length bytes more (is_separator-joined front more) (line-stays front more)
    (subst (λ (r : List ℕ). Stays mail_length r more) (sym body_is) mail) (subst (λ (r : List ℕ). Stays empty_line r more) (sym rest_is) end)

pub front-joined : (bytes more : List ℕ) → EndsEmpty bytes → is_separator more ≡ true → Joined mail_length bytes more
front-joined bytes more ends marked =
    let whole : bytes ≡ closed (before_last ends.front ends.line) = ends.whole ∙ closed-bytes ends.front ends.line ends.is_empty in
    let some = (closed-line ends.line ends.is_empty).1 in
    let low = line_length-low ends.front ends.line in
    let size = ap length (closed-bytes ends.front ends.line ends.is_empty) in
    let all = length-append ends.front (10 ∷ ends.line) in
    let one = length-closed (before_last ends.front ends.line) in
    let same : line_length (closed (before_last ends.front ends.line)) ≡ line_length (ends.front ++ (10 ∷ ends.line)) = ap line_length (sym (closed-bytes ends.front ends.line ends.is_empty)) in
    subst (λ (r : List ℕ). Joined mail_length r more) (sym whole)
    (entry-joined (before_last ends.front ends.line) more marked (omega arith)
    (subst (λ (r : List ℕ). mail_length (after_line r) < length (after_line r)) (closed-bytes ends.front ends.line ends.is_empty)
    (body-low ends.front ends.line (line_length (ends.front ++ (10 ∷ ends.line))) ends.is_empty low)))

-- ---- all mails

-- bytes after the front of such bytes that begin with a separator end as they do
pub ends-later : (bytes : List ℕ) (n : ℕ) → EndsEmpty bytes → is_separator (drop n bytes) ≡ true → EndsEmpty (drop n bytes)
ends-later bytes n ends marked = elim (cases_lt (length ends.front) n) [
  | inl past ↦
      let place : n ≡ length ends.front + suc (n - length ends.front - 1) = omega arith in
      let rest : drop n bytes ≡ drop (n - length ends.front - 1) ends.line =
      ap (drop n) ends.whole ∙ ap (λ (k : ℕ). drop k (ends.front ++ (10 ∷ ends.line))) place ∙ drop-append-add ends.front (10 ∷ ends.line) (suc (n - length ends.front - 1)) in
      absurd (true_not_false marked (ap is_separator rest ∙ unmarked ends.line (n - length ends.front - 1) ends.is_empty))
  | inr low ↦ record { front = drop n ends.front; line = ends.line; is_empty = ends.is_empty; whole = ap (drop n) ends.whole ∙ drop-append-le n ends.front (10 ∷ ends.line) low }
]

-- the bytes after the mail at the front begin at some place
next-place : (bytes : List ℕ) → (n : ℕ) × (next_entry bytes ≡ drop n bytes)
next-place bytes =
    let body = after_line bytes in
    let rest = after_mail body in (
      line_length bytes + (mail_length body + empty_line rest),
      drop-drop (empty_line rest) (mail_length body) body ∙ drop-drop (mail_length body + empty_line rest) (line_length bytes) bytes,
    )

pub unmarked-nil : is_separator [] ≡ false
unfolding is_separator
unmarked-nil = refl

pub all-joined : (n : ℕ) (bytes more : List ℕ) → length bytes ≤ n → is_separator bytes ≡ true → EndsEmpty bytes → is_separator more ≡ true
    → entries_from (bytes ++ more) ≡ entries_from bytes ++ entries_from more
all-joined zero bytes more fits first ends marked = let less = next-shorter mail_length bytes first in absurd (omega arith)
all-joined (suc n) bytes more fits first ends marked =
    let joined = front-joined bytes more ends marked in
    let less = next-shorter mail_length bytes first in
    let whole : entries_from (bytes ++ more) ≡ entry_at bytes ∷ entries_from (next_entry bytes ++ more) =
    entries-some mail_length (bytes ++ more) (joined.separator ∙ first) ∙ ap (λ (e : Entry). e ∷ entries_from (next_entry (bytes ++ more))) joined.entry
    ∙ ap (λ (r : List ℕ). entry_at bytes ∷ entries_from r) joined.next in
    let here : entries_from bytes ≡ entry_at bytes ∷ entries_from (next_entry bytes) = entries-some mail_length bytes first in
    let rest : entries_from (next_entry bytes ++ more) ≡ entries_from (next_entry bytes) ++ entries_from more =
    elim (cases_Bool (is_separator (next_entry bytes))) [
      | inl again ↦
          let place = next-place bytes in
          let later : EndsEmpty (next_entry bytes) = subst EndsEmpty (sym place.1) (ends-later bytes place.0 ends (ap is_separator (sym place.1) ∙ again)) in
          all-joined n (next_entry bytes) more (omega arith) again later marked
      | inr over ↦
          let none : next_entry bytes ≡ [] = nothing (next_entry bytes) over (after_opens (after_line bytes)) in
          ap (λ (r : List ℕ). entries_from (r ++ more)) none ∙ sym (ap (λ (r : List ℕ). entries_from r ++ entries_from more) none ∙ ap (λ (r : List Entry). r ++ entries_from more) (entries-none mail_length [] unmarked-nil))
    ] in
    whole ∙ ap (λ (r : List Entry). entry_at bytes ∷ r) rest ∙ sym (ap (λ (r : List Entry). r ++ entries_from more) here)

pub entries-joined : (bytes more : List ℕ) → is_separator bytes ≡ true → EndsEmpty bytes → is_separator more ≡ true → entries (bytes ++ more) ≡ entries bytes ++ entries more
entries-joined bytes more first ends marked =
    let joined = front-joined bytes more ends marked in
    entries-here mail_length (bytes ++ more) (joined.separator ∙ first) ∙ all-joined (length bytes) bytes more (omega arith) first ends marked
    ∙ ap (λ (r : List Entry). r ++ entries_from more) (sym (entries-here mail_length bytes first)) ∙ ap (λ (r : List Entry). entries bytes ++ r) (sym (entries-here mail_length more marked))
