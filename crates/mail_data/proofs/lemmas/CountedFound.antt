-- Lemmas on a counted mail that was read with the bytes that decide its end: it does not change whatever follows.
use Rattle.std.proofs.Common.{◌≡◌, ℕ, ◌+◌, ◌<◌, ◌≤◌, Bool, true, false, cond, List, [], ◌∷◌, ◌++◌, ◌&&◌, ◌||◌, Option, Some, None, length, take, drop, refl, sym, ap, subst, ◌∙◌, arith, length-append, length-drop, inl, inr}
use Rattle.std.specs.Prelude.{nat_eq, nat_le, nat_lt, option_and_then}
use Rattle.std.specs.Option.{unwrap_or}
use Rattle.std.proofs.lemmas.Bool.{and_left, and_parts, cases_lt, false≢true, le-leb, lt-leb, ltb-true, or_cases}
use Rattle.std.proofs.lemmas.List.{drop-append-le, length-take, take-append-le}
use Rattle.mail_codec.specs.Places.{is_empty}
use Rattle.mail_codec.proofs.lemmas.Places.{least-before, least-is, least-passes}
use Rattle.mail_data.specs.CountedMails.{block_length, block_place, content_length, counted_length, counted_place, is_count_known, is_known, is_place_known, is_short_separator, may_end}
use Rattle.mail_data.specs.LineEnds.{after_empty_line, after_line, empty_line, is_empty_line, line_length, line_place, starts_line}
use Rattle.mail_data.specs.Mailbox.{Entry, after_by, entry_by, is_before_text, mail_length, next_by, next_entry}
use Rattle.mail_data.specs.Separator.{is_separator}
use Rattle.mail_data.proofs.lemmas.LineEnds.{first_place-more, has_feed, is_line, line_length-more, line_length-some_bytes, starts-stays}
use Rattle.mail_data.proofs.lemmas.Mailbox.{mail_length-≤, mails, has_prefix-some}
use Rattle.mail_data.proofs.lemmas.MailboxFound.{before-text, found, separator-stays, settled-by}
use Rattle.mail_data.proofs.lemmas.MailboxJoined.{Joined, Stays, drop-joined, joined-by}

-- ---- lines, whatever follows

empty_line-stays : (rest more : List ℕ) → 2 ≤ length rest → empty_line (rest ++ more) ≡ empty_line rest
unfolding empty_line
empty_line-stays [] more some = absurd (omega arith)
empty_line-stays (a ∷ []) more some = absurd (omega arith)
empty_line-stays (a ∷ b ∷ rest) more some = refl

empty_line-here : (rest more : List ℕ) → nat_lt 0 (empty_line rest) ≡ true → empty_line (rest ++ more) ≡ empty_line rest
unfolding empty_line
empty_line-here [] more h = absurd (false≢true h)
empty_line-here (a ∷ []) more h = go (nat_eq 10 a) (nat_eq 13 a) _ h
  where
    go : (f c : Bool) (m : ℕ) → nat_lt 0 (cond (f && true) 1 (cond (c && false) 2 0)) ≡ true → cond (f && true) 1 m ≡ cond (f && true) 1 (cond (c && false) 2 0)
    go true c m h = refl
    go false true m h = absurd (false≢true h)
    go false false m h = absurd (false≢true h)
empty_line-here (a ∷ b ∷ rest) more h = refl

line_length-grows : (bytes more : List ℕ) → line_length bytes ≤ line_length (bytes ++ more)
unfolding line_length
line_length-grows bytes more =
    let grows = (first_place-more bytes more).0 in
    let all = length-append bytes more in
    omega arith

-- ---- the header block

block-stays : (mail more : List ℕ) → block_place mail < length mail
    → (block_place (mail ++ more) ≡ block_place mail) × (block_length (mail ++ more) ≡ block_length mail)
unfolding block_place block_length
block-stays mail more low =
    let p = line_place is_empty_line mail in
    let whole = mail ++ more in
    let all = length-append mail more in
    let found_here = and_parts (starts_line mail p) (is_empty_line (drop p mail)) (least-passes (is_line is_empty_line mail) (length mail) low) in
    let end : empty_line (drop p whole) ≡ empty_line (drop p mail) =
    ap empty_line (drop-append-le p mail more (omega arith)) ∙ empty_line-here (drop p mail) more found_here.1 in
    let place : line_place is_empty_line whole ≡ p =
    least-is (is_line is_empty_line whole) (length whole) p (omega arith)
    (λ k l.
    let size = length-drop k mail in
    ap (λ (t : Bool). t && is_empty_line (drop k whole)) (starts-stays mail more k (omega arith))
    ∙ ap (λ (r : List ℕ). starts_line mail k && nat_lt 0 (empty_line r)) (drop-append-le k mail more (omega arith))
    ∙ ap (λ (n : ℕ). starts_line mail k && nat_lt 0 n) (empty_line-stays (drop k mail) more (omega arith))
    ∙ least-before (is_line is_empty_line mail) (length mail) k l)
    (λ l. ap (λ (t : Bool). t && is_empty_line (drop p whole)) (starts-stays mail more p low)
    ∙ ap (λ (n : ℕ). starts_line mail p && nat_lt 0 n) end ∙ least-passes (is_line is_empty_line mail) (length mail) low) in
    (place, ap (λ (k : ℕ). k + empty_line (drop k whole)) place ∙ ap (λ (n : ℕ). p + n) end)

-- ---- the place

-- bytes that decide are at least two
known-some : (bytes : List ℕ) → is_known bytes ≡ true → (2 ≤ length (after_empty_line bytes)) × (2 ≤ length bytes)
unfolding is_known
known-some bytes h =
    let after = after_empty_line bytes in
    let size = length-drop (empty_line bytes) bytes in
    elim (or_cases (nat_lt 1000 (length after)) (nat_lt (line_length after) (length after)) h) [
      | inl many ↦ let low = ltb-true 1000 (length after) many in (omega arith, omega arith)
      | inr line ↦
          let low = ltb-true (line_length after) (length after) line in
          let some = line_length-some_bytes after (omega arith) in
          (omega arith, omega arith)
    ]

short-stays : (after more : List ℕ) → (nat_lt 1000 (length after) || nat_lt (line_length after) (length after)) ≡ true
    → is_short_separator (after ++ more) ≡ is_short_separator after
unfolding is_short_separator
short-stays after more h = elim (cases_lt (line_length after) (length after)) [
  | inl low ↦
      ap (λ (n : ℕ). nat_le n 1000 && is_separator (after ++ more)) (line_length-more after more (has_feed after low))
      ∙ ap (λ (t : Bool). nat_le (line_length after) 1000 && t) (separator-stays after more low)
  | inr all ↦
      let many : 1000 < length after =
      elim (or_cases (nat_lt 1000 (length after)) (nat_lt (line_length after) (length after)) h) [
        | inl past ↦ ltb-true 1000 (length after) past
        | inr low ↦ absurd (let less = ltb-true (line_length after) (length after) low in omega arith)
      ] in
      let grows = line_length-grows after more in
      and_left (nat_le (line_length (after ++ more)) 1000) (is_separator (after ++ more)) (lt-leb (line_length (after ++ more)) 1000 (omega arith))
      ∙ sym (and_left (nat_le (line_length after) 1000) (is_separator after) (lt-leb (line_length after) 1000 (omega arith)))
]

known-stays : (bytes more : List ℕ) → is_known bytes ≡ true → may_end (bytes ++ more) ≡ may_end bytes
unfolding may_end is_known
known-stays bytes more h =
    let after = after_empty_line bytes in
    let some = known-some bytes h in
    let many = some.0 in
    let size = length-drop (empty_line bytes) bytes in
    let line = empty_line-stays bytes more some.1 in
    let beyond : after_empty_line (bytes ++ more) ≡ after ++ more =
    ap (λ (n : ℕ). drop n (bytes ++ more)) line ∙ drop-append-le (empty_line bytes) bytes more (omega arith) in
    ap (λ (r : List ℕ). is_empty r || is_short_separator r) beyond
    ∙ ap (λ (t : Bool). t || is_short_separator (after ++ more)) (not_empty after more (omega arith))
    ∙ ap (λ (t : Bool). is_empty after || t) (short-stays after more h)
  where
    not_empty : (rest more : List ℕ) → 0 < length rest → is_empty (rest ++ more) ≡ is_empty rest
    not_empty [] more some = absurd (omega arith)
    not_empty (b ∷ rest) more some = refl

place-stays : (mail more : List ℕ) (o : Option ℕ) → block_length (mail ++ more) ≡ block_length mail → is_place_known mail o ≡ true
    → option_and_then (counted_place (mail ++ more)) o ≡ option_and_then (counted_place mail) o
unfolding counted_place is_place_known
place-stays mail more None same h = refl
place-stays mail more (Some k) same h =
    let place = block_length mail + k in
    let some = (known-some (drop place mail) h).1 in
    let size = length-drop place mail in
    let all = length-append mail more in
    ap (λ (n : ℕ). cond (nat_le (n + k) (length (mail ++ more)) && may_end (drop (n + k) (mail ++ more))) (Some (n + k)) None) same
    ∙ ap (λ (t : Bool). cond (t && may_end (drop place (mail ++ more))) (Some place) None)
    (le-leb place (length (mail ++ more)) (omega arith) ∙ sym (le-leb place (length mail) (omega arith)))
    ∙ ap (λ (r : List ℕ). cond (nat_le place (length mail) && may_end r) (Some place) None) (drop-append-le place mail more (omega arith))
    ∙ ap (λ (t : Bool). cond (nat_le place (length mail) && t) (Some place) None) (known-stays (drop place mail) more h)

-- ---- the length

count-stays : (mail more : List ℕ) → is_count_known mail ≡ true → (counted_length mail ≡ mail_length mail → mail_length (mail ++ more) ≡ mail_length mail)
    → counted_length (mail ++ more) ≡ counted_length mail
unfolding counted_length is_count_known
count-stays mail more h as_any =
    let p = block_place mail in
    let o = content_length (take p mail) in
    let parts = and_parts (nat_lt p (length mail)) (is_place_known mail o) h in
    let low = ltb-true p (length mail) parts.0 in
    let block = block-stays mail more low in
    let field : content_length (take (block_place (mail ++ more)) (mail ++ more)) ≡ o =
    ap (λ (n : ℕ). content_length (take n (mail ++ more))) block.0 ∙ ap content_length (take-append-le p mail more (omega arith)) in
    ap (λ (c : Option ℕ). unwrap_or (option_and_then (counted_place (mail ++ more)) c) (mail_length (mail ++ more))) field
    ∙ ap (λ (c : Option ℕ). unwrap_or c (mail_length (mail ++ more))) (place-stays mail more o block.1 parts.1)
    ∙ chosen (option_and_then (counted_place mail) o) (mail_length mail) (mail_length (mail ++ more)) as_any
  where
    chosen : (c : Option ℕ) (m n : ℕ) → (unwrap_or c m ≡ m → n ≡ m) → unwrap_or c n ≡ unwrap_or c m
    chosen None m n same = same refl
    chosen (Some k) m n same = refl

-- ---- the mail

mail_length-kept : (bytes more : List ℕ) → after_line (bytes ++ more) ≡ after_line bytes ++ more
    → is_separator (next_entry bytes) ≡ true → line_length (next_entry bytes) < length (next_entry bytes)
    → mail_length (after_line bytes ++ more) ≡ mail_length (after_line bytes)
mail_length-kept bytes more body marked past =
    let b = after_line bytes in
    let same : take (mail_length (b ++ more)) (b ++ more) ≡ take (mail_length b) b =
    ap (λ (r : List ℕ). take (mail_length r) r) (sym body) ∙ ap (λ (e : Entry). e.mail) (found bytes more marked past).entry in
    let sizes = ap length same in
    let one = length-take (mail_length (b ++ more)) (b ++ more) in
    let two = length-take (mail_length b) b in
    let within = mail_length-≤ b in
    let within_all = mail_length-≤ (b ++ more) in
    omega arith

kept : (bytes more : List ℕ) → is_count_known (after_line bytes) ≡ true → is_separator (next_by counted_length bytes) ≡ true
    → line_length (next_by counted_length bytes) < length (next_by counted_length bytes) → Joined counted_length bytes more
kept bytes more known marked past =
    let body = after_line bytes in
    let rest = after_by counted_length body in
    let next = next_by counted_length bytes in
    let some = line_length-some_bytes next (has_prefix-some next marked) in
    let next_size = length-drop (empty_line rest) rest in
    let rest_size = length-drop (counted_length body) body in
    let body_size = length-drop (line_length bytes) bytes in
    let low : line_length bytes < length bytes = omega arith in
    let line : Stays line_length bytes more = record { same = line_length-more bytes more (has_feed bytes low); within = omega arith } in
    let count =
    count-stays body more known
    (λ same.
    let next_is : next ≡ next_entry bytes = ap (λ (k : ℕ). after_empty_line (drop k body)) same in
    mail_length-kept bytes more (drop-joined line_length bytes more line) (ap is_separator (sym next_is) ∙ marked) (subst (λ (r : List ℕ). line_length r < length r) next_is past)) in
    joined-by counted_length bytes more (separator-stays bytes more low) line (record { same = count; within = omega arith })
    (record { same = empty_line-stays rest more (omega arith); within = omega arith })

pub settled-stays : (bytes more rest : List ℕ) (entry : Entry)
    → cond {A = Option (Entry × List ℕ)} (is_separator bytes && (is_count_known (after_line bytes) && is_before_text (next_by counted_length bytes)))
    (Some (entry_by counted_length bytes, next_by counted_length bytes)) None ≡ Some (entry, rest)
    → mails counted_length (bytes ++ more) ≡ entry ∷ mails counted_length (rest ++ more)
settled-stays bytes more rest entry is =
    let next = next_by counted_length bytes in
    let known = is_count_known (after_line bytes) in
    settled-by counted_length bytes more rest entry (is_separator bytes && (known && is_before_text next)) is
    (λ yes_it_is.
    let parts = and_parts (is_separator bytes) (known && is_before_text next) yes_it_is in
    let both = and_parts known (is_before_text next) parts.1 in
    let before = before-text next both.1 in
    record { first = parts.0; before = both.1; joined = kept bytes more both.0 before.0 before.1 })
