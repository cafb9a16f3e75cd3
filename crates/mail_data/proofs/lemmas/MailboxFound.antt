-- Lemmas on a mail whose next separator was read: it stays the same whatever follows.
use Rattle.std.proofs.Common.{◌≡◌, ℕ, ◌+◌, ◌-◌, ◌<◌, Bool, true, false, cond, List, [], ◌∷◌, ◌++◌, ◌&&◌, Option, Some, None, length, take, drop, refl, sym, ap, subst, ◌∙◌, arith, length-append, length-drop, inl, inr}
use Rattle.std.specs.Prelude.{nat_lt, ◌==◌}
use Rattle.std.proofs.lemmas.Bool.{and_parts, cases_Bool, cases_lt, cond-false, ltb-true}
use Rattle.std.proofs.lemmas.List.{append_assoc, drop-append-le, drop-drop, drop_all, take-append-drop}
use Rattle.mail_codec.specs.Places.{begins, first_place}
use Rattle.mail_codec.proofs.lemmas.Places.{first_place-passes, least-passes, true_not_false}
use Rattle.mail_data.specs.LineEnds.{after_empty_line, after_line, empty_line, line_length, line_place, starts_line}
use Rattle.mail_data.specs.Mailbox.{EndsEmpty, Entry, IsEmptyLine, after_mail, ends_mail, entries, entries_by, entry_at, entry_by, front_length, has_front, is_before_text, mail_length, next_by, next_entry}
use Rattle.mail_data.specs.Separator.{is_separator}
use Rattle.mail_data.proofs.lemmas.LineEnds.{empty_line-cases, has_feed, is_line, line_feed_first, starts-after_feed}
use Rattle.mail_data.proofs.lemmas.Mailbox.{after_empty_line-nil, entries-here, entries-some, front_length-none, mails, opens}
use Rattle.mail_data.proofs.lemmas.MailboxJoined.{Joined, after_place, before_last, closed, closed-bytes, closed-line, front-joined, is_separator-joined, is_separator-more, length-closed, unmarked-nil}
use Rattle.mail_data.proofs.lemmas.MailboxParts.{front_length-≤}

-- ---- the ends of a line and of a mail

line-end : (bytes : List ℕ) → line_length bytes < length bytes → (begins (λ b. b == 10) (drop (line_length bytes - 1) bytes) ≡ true) × (0 < line_length bytes)
unfolding line_length
line-end bytes low =
    let f = first_place (begins (λ b. b == 10)) bytes in
    let within : f < length bytes = omega arith in
    let place : f ≡ line_length bytes - 1 = omega arith in
    (ap (λ (k : ℕ). begins (λ b. b == 10) (drop k bytes)) (sym place) ∙ first_place-passes (begins (λ b. b == 10)) bytes within, omega arith)

mail-end : (body : List ℕ) → mail_length body < length body → (starts_line body (mail_length body) ≡ true) × (nat_lt 0 (empty_line (after_mail body)) ≡ true)
unfolding mail_length ends_mail
mail-end body low =
    let found = and_parts (starts_line body (line_place ends_mail body)) (ends_mail (drop (line_place ends_mail body) body)) (least-passes (is_line ends_mail body) (length body) low) in
    let rest = drop (line_place ends_mail body) body in
    (found.0, (and_parts (nat_lt 0 (empty_line rest)) (opens (after_empty_line rest)) found.1).0)

-- the bytes at the front, if there are any, are an empty line
empty_line-shape : (rest : List ℕ) → 0 < empty_line rest → IsEmptyLine (take (empty_line rest) rest)
empty_line-shape rest some = elim (empty_line-cases rest some) [
  | inl one ↦ inl (ap (λ (n : ℕ). take n rest) one.0 ∙ ap (take 1) one.1)
  | inr two ↦ inr (ap (λ (n : ℕ). take n rest) two.0 ∙ ap (take 2) two.1)
]

-- ---- the bytes of the mail at the front, where a separator follows it

pub record Cut (bytes : List ℕ) : Type 0 where
  pub first : List ℕ
  pub ends : EndsEmpty first
  pub whole : first ++ next_entry bytes ≡ bytes

mail-low : (body : List ℕ) → is_separator (after_empty_line (after_mail body)) ≡ true → mail_length body < length body
mail-low body marked = elim (cases_lt (mail_length body) (length body)) [
  | inl l ↦ l
  | inr g ↦
      let none : after_empty_line (after_mail body) ≡ [] = ap after_empty_line (drop_all (mail_length body) body g) ∙ after_empty_line-nil in
      absurd (true_not_false marked (ap is_separator none ∙ unmarked-nil))
]

-- a LF precedes the empty line that ends the mail
feed-before : (bytes : List ℕ) → is_separator (next_entry bytes) ≡ true
    → (begins (λ b. b == 10) (drop (line_length bytes + mail_length (after_line bytes) - 1) bytes) ≡ true) × (0 < line_length bytes)
feed-before bytes marked =
    let l = line_length bytes in
    let body = after_line bytes in
    let m = mail_length body in
    let low = mail-low body marked in
    let size = length-drop l bytes in
    let line = line-end bytes (omega arith) in
    let some = line.1 in
    elim (cases_lt 0 m) [
      | inl more ↦
          let place : l + (m - 1) ≡ l + m - 1 = omega arith in
          let start : starts_line body m ≡ true = (mail-end body low).0 in
          let begun = starts-after_feed body m more start in
          (ap (λ (k : ℕ). begins (λ b. b == 10) (drop k bytes)) (sym place) ∙ ap (begins (λ b. b == 10)) (sym (drop-drop (m - 1) l bytes)) ∙ begun, some)
      | inr none ↦
          let place : l - 1 ≡ l + m - 1 = omega arith in
          (ap (λ (k : ℕ). begins (λ b. b == 10) (drop k bytes)) (sym place) ∙ line.0, some)
    ]

pub cut-found : (bytes : List ℕ) → is_separator (next_entry bytes) ≡ true → Cut bytes
cut-found bytes marked =
    let l = line_length bytes in
    let body = after_line bytes in
    let m = mail_length body in
    let rest = after_mail body in
    let q = l + m - 1 in
    let feed = feed-before bytes marked in
    let some = feed.1 in
    let place : q + 1 ≡ l + m = omega arith in
    let end = take (empty_line rest) rest in
    let beyond : drop 1 (drop q bytes) ≡ rest = drop-drop 1 q bytes ∙ ap (λ (k : ℕ). drop k bytes) place ∙ sym (drop-drop m l bytes) in
    let split : rest ≡ end ++ next_entry bytes = sym (take-append-drop (empty_line rest) rest) in
    record {
      first = take q bytes ++ (10 ∷ end);
      ends = record { front = take q bytes; line = end; is_empty = empty_line-shape rest (ltb-true 0 (empty_line rest) (mail-end body (mail-low body marked)).1); whole = refl };
      whole =
          append_assoc (take q bytes) (10 ∷ end) (next_entry bytes)
          ∙ ap (λ (r : List ℕ). take q bytes ++ (10 ∷ r)) (sym split)
          ∙ ap (λ (r : List ℕ). take q bytes ++ (10 ∷ r)) (sym beyond)
          ∙ ap (λ (r : List ℕ). take q bytes ++ r) (sym (line_feed_first (drop q bytes) feed.0))
          ∙ take-append-drop q bytes;
    }

-- ---- a separator whose line was read

pub separator-stays : (bytes more : List ℕ) → line_length bytes < length bytes → is_separator (bytes ++ more) ≡ is_separator bytes
separator-stays bytes more low = is_separator-more bytes more (has_feed bytes low)

-- ---- the mail

-- the cut of the mail at the front, whatever follows
pub found : (bytes more : List ℕ) → is_separator (next_entry bytes) ≡ true → line_length (next_entry bytes) < length (next_entry bytes) → Joined mail_length bytes more
found bytes more marked past =
    let cut = cut-found bytes marked in
    let next = next_entry bytes in
    let here = front-joined cut.first next cut.ends marked in
    let there = front-joined cut.first (next ++ more) cut.ends (separator-stays next more past ∙ marked) in
    record {
      separator =
          ap (λ (r : List ℕ). is_separator (r ++ more)) (sym cut.whole) ∙ ap is_separator (append_assoc cut.first next more) ∙ there.separator
          ∙ sym here.separator ∙ ap is_separator cut.whole;
      entry = ap (λ (r : List ℕ). entry_at (r ++ more)) (sym cut.whole) ∙ ap entry_at (append_assoc cut.first next more) ∙ there.entry ∙ sym here.entry ∙ ap entry_at cut.whole;
      next =
          ap (λ (r : List ℕ). next_entry (r ++ more)) (sym cut.whole) ∙ ap next_entry (append_assoc cut.first next more) ∙ there.next
          ∙ sym (append_assoc (next_entry cut.first) next more) ∙ ap (λ (r : List ℕ). r ++ more) (sym here.next ∙ ap next_entry cut.whole);
    }

pub before-text : (bytes : List ℕ) → is_before_text bytes ≡ true → (is_separator bytes ≡ true) × (line_length bytes < length bytes)
unfolding is_before_text
before-text bytes h =
    let parts = and_parts (is_separator bytes) (nat_lt (line_length bytes) (length bytes)) h in
    (parts.0, ltb-true (line_length bytes) (length bytes) parts.1)

-- a separator is at the front, the mail there does not change, and the next separator was read
pub record Settled (length_of : List ℕ → ℕ) (bytes more : List ℕ) : Type 0 where
  pub first : is_separator bytes ≡ true
  pub before : is_before_text (next_by length_of bytes) ≡ true
  pub joined : Joined length_of bytes more

settled-first : (length_of : List ℕ → ℕ) (bytes more : List ℕ) → Settled length_of bytes more
    → mails length_of (bytes ++ more) ≡ entry_by length_of bytes ∷ mails length_of (next_by length_of bytes ++ more)
settled-first length_of bytes more settled =
    let next = next_by length_of bytes in
    let before = before-text next settled.before in
    let whole : is_separator (bytes ++ more) ≡ true = settled.joined.separator ∙ settled.first in
    entries-here length_of (bytes ++ more) whole ∙ entries-some length_of (bytes ++ more) whole
    ∙ ap (λ (e : Entry). e ∷ entries_by length_of (next_by length_of (bytes ++ more))) settled.joined.entry
    ∙ ap (λ (r : List ℕ). entry_by length_of bytes ∷ entries_by length_of r) settled.joined.next
    ∙ ap (λ (r : List Entry). entry_by length_of bytes ∷ r) (sym (entries-here length_of (next ++ more) (separator-stays next more before.1 ∙ before.0)))

pub settled-by : (length_of : List ℕ → ℕ) (bytes more rest : List ℕ) (entry : Entry) (test : Bool)
    → cond {A = Option (Entry × List ℕ)} test (Some (entry_by length_of bytes, next_by length_of bytes)) None ≡ Some (entry, rest) → (test ≡ true → Settled length_of bytes more)
    → mails length_of (bytes ++ more) ≡ entry ∷ mails length_of (rest ++ more)
settled-by length_of bytes more rest entry true is settled =
    let pair : (entry_by length_of bytes, next_by length_of bytes) ≡ (entry, rest) = cc in
    settled-first length_of bytes more (settled refl) ∙ ap (λ (p : Entry × List ℕ). p.0 ∷ mails length_of (p.1 ++ more)) pair
settled-by length_of bytes more rest entry false is settled = absurd (cc)

pub settled-stays : (bytes more rest : List ℕ) (entry : Entry)
    → cond {A = Option (Entry × List ℕ)} (is_separator bytes && is_before_text (next_entry bytes)) (Some (entry_at bytes, next_entry bytes)) None ≡ Some (entry, rest)
    → entries (bytes ++ more) ≡ entry ∷ entries (rest ++ more)
settled-stays bytes more rest entry is =
    settled-by mail_length bytes more rest entry (is_separator bytes && is_before_text (next_entry bytes)) is
    (λ yes_it_is.
    let parts = and_parts (is_separator bytes) (is_before_text (next_entry bytes)) yes_it_is in
    let before = before-text (next_entry bytes) parts.1 in
    record { first = parts.0; before = parts.1; joined = found bytes more before.0 before.1 })

-- ---- the bytes before the first separator

line_length-feed : (bytes : List ℕ) → line_length (10 ∷ bytes) ≡ 1
unfolding line_length
line_length-feed bytes = omega arith

-- with a line before it, that is a mail
pub after-front : (bytes : List ℕ) → is_separator bytes ≡ false → next_entry (10 ∷ bytes) ≡ drop (front_length bytes) bytes
unfolding front_length
after-front bytes fails =
    ap (λ (n : ℕ). after_empty_line (after_mail (drop n (10 ∷ bytes)))) (line_length-feed bytes)
    ∙ drop-drop (empty_line (after_mail bytes)) (mail_length bytes) bytes
    ∙ ap (λ (n : ℕ). drop n bytes) (sym (cond-false (is_separator bytes) 0 (mail_length bytes + empty_line (after_mail bytes)) fails))

-- bytes before whose first separator a line ends begin with none, whatever follows
none-stays : (bytes more : List ℕ) → is_separator (next_entry (10 ∷ bytes)) ≡ true → is_separator (bytes ++ more) ≡ is_separator bytes
none-stays bytes more marked =
    let cut = cut-found (10 ∷ bytes) marked in
    let next = next_entry (10 ∷ bytes) in
    let line = cut.ends.line in
    let before = before_last cut.ends.front line in
    let whole = cut.ends.whole ∙ closed-bytes cut.ends.front line cut.ends.is_empty in
    let some = (closed-line line cut.ends.is_empty).1 in
    let one = length-closed before in
    let size = ap length (sym (closed-bytes cut.ends.front line cut.ends.is_empty)) in
    let sum = length-append cut.ends.front (10 ∷ line) in
    let body : bytes ≡ closed (drop 1 before) ++ next =
    ap (drop 1) (sym cut.whole ∙ ap (λ (r : List ℕ). r ++ next) whole) ∙ after_place before next 1 (omega arith) in
    ap (λ (r : List ℕ). is_separator (r ++ more)) body ∙ ap is_separator (append_assoc (closed (drop 1 before)) next more)
    ∙ is_separator-joined (drop 1 before) (next ++ more) ∙ sym (is_separator-joined (drop 1 before) next) ∙ ap is_separator (sym body)

-- if no mail begins at the front, the bytes after the front are those after that mail
pub front-next : (bytes more : List ℕ) → is_separator bytes ≡ false → is_separator (bytes ++ more) ≡ false → Joined mail_length (10 ∷ bytes) more
    → (front_length (bytes ++ more) ≡ front_length bytes) × (drop (front_length (bytes ++ more)) (bytes ++ more) ≡ drop (front_length bytes) bytes ++ more)
front-next bytes more fails all_fails joined =
    let n = front_length bytes in
    let all = bytes ++ more in
    let rest : drop (front_length all) all ≡ drop n bytes ++ more =
    sym (after-front all all_fails) ∙ joined.next ∙ ap (λ (r : List ℕ). r ++ more) (after-front bytes fails) in
    let within = front_length-≤ bytes in
    let within_all = front_length-≤ all in
    let left = length-drop (front_length all) all in
    let sum = length-append bytes more in
    let next_size = length-drop n bytes in
    let next_sum = length-append (drop n bytes) more in
    let same = ap length rest in
    (omega arith, rest)

front_later : (bytes more : List ℕ) → is_separator bytes ≡ false → is_separator (drop (front_length bytes) bytes) ≡ true
    → line_length (drop (front_length bytes) bytes) < length (drop (front_length bytes) bytes) → front_length (bytes ++ more) ≡ front_length bytes
front_later bytes more fails marked past =
    let here = after-front bytes fails in
    let there : is_separator (next_entry (10 ∷ bytes)) ≡ true = ap is_separator here ∙ marked in
    let joined = found (10 ∷ bytes) more there (subst (λ (r : List ℕ). line_length r < length r) (sym here) past) in
    (front-next bytes more fails (none-stays bytes more there ∙ fails) joined).0

front-same : (bytes more : List ℕ) → has_front bytes ≡ true → front_length (bytes ++ more) ≡ front_length bytes
unfolding has_front
front-same bytes more h =
    let before = before-text (drop (front_length bytes) bytes) h in
    elim (cases_Bool (is_separator bytes)) [
      | inl is ↦
          let none : front_length bytes ≡ 0 = sym (front_length-none bytes (sym is)) in
          let low : line_length bytes < length bytes = subst (λ (k : ℕ). line_length (drop k bytes) < length (drop k bytes)) none before.1 in
          sym (front_length-none (bytes ++ more) (sym (separator-stays bytes more low ∙ is))) ∙ sym none
      | inr fails ↦ front_later bytes more fails before.0 before.1
    ]

-- the mails after a front that was read are the same whatever follows
pub front-beyond : (length_of : List ℕ → ℕ) (bytes more : List ℕ) → has_front bytes ≡ true → mails length_of (bytes ++ more) ≡ mails length_of (drop (front_length bytes) bytes ++ more)
unfolding has_front
front-beyond length_of bytes more h =
    let n = front_length bytes in
    let before = before-text (drop n bytes) h in
    ap (λ (k : ℕ). entries_by length_of (drop k (bytes ++ more))) (front-same bytes more h)
    ∙ ap (entries_by length_of) (drop-append-le n bytes more (front_length-≤ bytes))
    ∙ sym (entries-here length_of (drop n bytes ++ more) (separator-stays (drop n bytes) more before.1 ∙ before.0))

pub front-stays : (bytes more : List ℕ) → has_front bytes ≡ true
    → (front_length (bytes ++ more) ≡ front_length bytes) × (entries (bytes ++ more) ≡ entries (drop (front_length bytes) bytes ++ more))
front-stays bytes more h = (front-same bytes more h, front-beyond mail_length bytes more h)
