-- The computed delimiters and parts of a body are those by places, and no others are.
use Rattle.std.proofs.Common.{◌≡◌, ℕ, zero, suc, ◌+◌, ◌-◌, ◌<◌, ◌≤◌, Bool, true, false, ◌&&◌, ◌||◌, List, [], ◌∷◌, length, map, take, drop, Option, Some, None, option_map, refl, sym, ap, ◌∙◌, subst, ⊎_elim, inl, inr, ◌⊎◌, arith, length-drop, get_or-drop}
use Rattle.std.specs.Prelude.{nat_lt, ◌==◌, filter_map, option_and_then, codes, if◌then◌else◌}
use Rattle.std.specs.List.{cons_option}
use Rattle.std.specs.Option.{option_map_or}
use Rattle.std.proofs.lemmas.Bool.{false_from_ne_true, cond-true, cond-false, cases_lt, cases_eq, cases_Bool, lt-ltb, le-ltb, eq-eqb, eqb-true, ne_eqb, and_parts, and_from, and_left, or_left, or_right, false≢true}
use Rattle.std.proofs.lemmas.Bool.Decides.{Decides-eqb}
use Rattle.std.proofs.lemmas.List.{drop_all}
use Rattle.std.proofs.lemmas.Slice.Eq.{slice_eq-Decides}
use Rattle.mail_codec.specs.Places.{begins, has_prefix, byte_place, least, HasByteAt, IsFirstOf}
use Rattle.mail_codec.proofs.lemmas.Places.{begins-at, least-before, true_not_false}
use Rattle.mail_codec.proofs.lemmas.PlacesLaw.{byte_place-says}
use Rattle.mailparse.specs.Header.{is_line_feed}
use Rattle.mailparse.specs.Ranges.{Range}
use Rattle.mailparse.specs.Delimiters.{cut_parts_as, least_from, starts_line, is_delimiter, delimiter_from, part_after, is_close_delimiter, before_byte, before_line_end, Cut, cut_parts}
use Rattle.mailparse.proofs.lemmas.Delimiters.{delimiter_from-some, delimiter_from-none, delimiter_from-out, somewhere, part_ranges, part_ranges-none, part_ranges-some}
use Rattle.mail_laws.specs.DelimiterPlaces.{range, EndsBefore, nothing_between, line_feed_before, both_before, HasDelimiterAt, NoneBetween, IsFirstFrom, EndsLine, NeverEnds, Closes, Follow, line_never_ends, last_delimiter, close_delimiter, next_delimiter, IsCutAt, no_delimiter, first_delimiter, delimiters}

-- ---- bytes and texts at places

byte-there : (bytes : List ℕ) (b p : ℕ) → HasByteAt bytes b p → begins (λ x. x == b) (drop p bytes) ≡ true
byte-there bytes b p has = begins-at (λ x. x == b) bytes p has.0 ∙ eq-eqb _ b has.1

byte-from : (bytes : List ℕ) (b p : ℕ) → begins (λ x. x == b) (drop p bytes) ≡ true → HasByteAt bytes b p
byte-from bytes b p h = ⊎_elim (λ low. (low, eqb-true _ b (sym (begins-at (λ x. x == b) bytes p low) ∙ h)))
    (λ high. absurd (false≢true (sym (ap (begins (λ x. x == b)) (drop_all p bytes high)) ∙ h))) (cases_lt p (length bytes))

has_prefix-there : (text bytes : List ℕ) → take (length text) bytes ≡ text → has_prefix text bytes ≡ true
has_prefix-there text bytes e = (slice_eq-Decides Decides-eqb text (take (length text) bytes) (has_prefix text bytes) refl).1 (sym e)

has_prefix-from : (text bytes : List ℕ) → has_prefix text bytes ≡ true → take (length text) bytes ≡ text
has_prefix-from text bytes h = sym ((slice_eq-Decides Decides-eqb text (take (length text) bytes) (has_prefix text bytes) refl).0 h)

-- a byte of the rest after a place
rest-byte : (bytes : List ℕ) (b q k : ℕ) → HasByteAt (drop q bytes) b k → HasByteAt bytes b (q + k)
rest-byte bytes b q k has = let len = length-drop q bytes in (omega (arith, has.0), sym (get_or-drop q bytes k 0) ∙ has.1)

byte-rest : (bytes : List ℕ) (b q k : ℕ) → HasByteAt bytes b (q + k) → HasByteAt (drop q bytes) b k
byte-rest bytes b q k has = let len = length-drop q bytes in (omega (arith, has.0), get_or-drop q bytes k 0 ∙ has.1)

-- ---- a range up to a place, without the line end before it

pub before_byte-start : (b : ℕ) (bytes : List ℕ) (start p : ℕ) → p ≤ start → before_byte b bytes start p ≡ p
before_byte-start b bytes start p low =
    cond-false (nat_lt start p && begins (λ x. x == b) (drop (p - 1) bytes)) (p - 1) p (and_left (nat_lt start p) _ (le-ltb start p low))

before_byte-other : (b : ℕ) (bytes : List ℕ) (start p : ℕ) → ¬ HasByteAt bytes b (p - 1) → before_byte b bytes start p ≡ p
before_byte-other b bytes start p other = ⊎_elim
    (λ h. absurd (other (byte-from bytes b (p - 1) (and_parts (nat_lt start p) (begins (λ x. x == b) (drop (p - 1) bytes)) h).1)))
    (λ h. ap (λ t. if t then p - 1 else p) h)
    (cases_Bool (nat_lt start p && begins (λ x. x == b) (drop (p - 1) bytes)))

pub before_byte-one : (b : ℕ) (bytes : List ℕ) (start p : ℕ) → start ≤ p → begins (λ x. x == b) (drop p bytes) ≡ true → before_byte b bytes start (suc p) ≡ p
before_byte-one b bytes start p low h =
    let less : suc p - 1 ≡ p = omega arith in
    let at : begins (λ x. x == b) (drop (suc p - 1) bytes) ≡ true = ap (λ n. begins (λ x. x == b) (drop n bytes)) less ∙ h in
    cond-true (nat_lt start (suc p) && begins (λ x. x == b) (drop (suc p - 1) bytes)) (suc p - 1) (suc p)
    (and_from _ _ (lt-ltb start (suc p) (omega arith)) at) ∙ less

pub before_line_end-crlf : (bytes : List ℕ) (start p : ℕ) → start ≤ p → begins (λ x. x == 13) (drop p bytes) ≡ true → begins (λ x. x == 10) (drop (suc p) bytes) ≡ true
    → before_line_end bytes start (suc (suc p)) ≡ p
before_line_end-crlf bytes start p low return feed =
    ap (before_byte 13 bytes start) (before_byte-one 10 bytes start (suc p) (omega arith) feed)
    ∙ before_byte-one 13 bytes start p low return

pub before_line_end-start : (bytes : List ℕ) (start : ℕ) → before_line_end bytes start start ≡ start
before_line_end-start bytes start =
    ap (before_byte 13 bytes start) (before_byte-start 10 bytes start start (omega arith)) ∙ before_byte-start 13 bytes start start (omega arith)

module _ (bytes : List ℕ) (s q : ℕ) where
  ends-is : (e : ℕ) → EndsBefore bytes s q e → e ≡ before_line_end bytes s q
  ends-is e (nothing_between start same) = start ∙ sym (ap (before_line_end bytes s) same ∙ before_line_end-start bytes s)
  ends-is e (line_feed_before next low feed other) =
      let here : before_byte 10 bytes s q ≡ e = ap (before_byte 10 bytes s) (sym next) ∙ before_byte-one 10 bytes s e low (byte-there bytes 10 e feed) in
      let none : before_byte 13 bytes s e ≡ e = ⊎_elim (λ start. before_byte-start 13 bytes s e (omega arith)) (λ not. before_byte-other 13 bytes s e not) other in
      sym (ap (before_byte 13 bytes s) here ∙ none)
  ends-is e (both_before next low return feed) =
      sym (ap (before_line_end bytes s) (sym next) ∙ before_line_end-crlf bytes s e low (byte-there bytes 13 e return) (byte-there bytes 10 (suc e) feed))

  as-computed : (e : ℕ) → EndsBefore bytes s q e → EndsBefore bytes s q (before_line_end bytes s q)
  as-computed e h = subst (EndsBefore bytes s q) (ends-is e h) h

  ends-fit : (q ≡ s) ⊎ ((s < q) × HasByteAt bytes 10 (q - 1)) → EndsBefore bytes s q (before_line_end bytes s q)
  ends-fit (inl same) = as-computed s (nothing_between refl same)
  ends-fit (inr line) = by_start (cases_eq (q - 1) s)
    where
      by_return : (q - 1 ≡ s → ⊥) → (begins (λ x. x == 13) (drop (q - 1 - 1) bytes) ≡ true) ⊎ (begins (λ x. x == 13) (drop (q - 1 - 1) bytes) ≡ false)
          → EndsBefore bytes s q (before_line_end bytes s q)
      by_return other (inl h) =
          as-computed (q - 1 - 1) (both_before (omega (arith, line.0, other)) (omega (arith, line.0, other)) (byte-from bytes 13 (q - 1 - 1) h)
          (subst (HasByteAt bytes 10) (omega (arith, line.0, other)) line.1))
      by_return other (inr h) =
          as-computed (q - 1) (line_feed_before (omega (arith, line.0)) (omega (arith, line.0)) line.1
          (inr (λ has. true_not_false (byte-there bytes 13 (q - 1 - 1) has) h)))

      by_start : (q - 1 ≡ s) ⊎ (q - 1 ≡ s → ⊥) → EndsBefore bytes s q (before_line_end bytes s q)
      by_start (inl start) = as-computed (q - 1) (line_feed_before (omega (arith, line.0)) (omega (arith, line.0)) line.1 (inl start))
      by_start (inr other) = by_return other (cases_Bool (begins (λ x. x == 13) (drop (q - 1 - 1) bytes)))

-- ---- delimiters

nowhere : (test : ℕ → Bool) (start end : ℕ) → least_from test start end ≡ None → (k : ℕ) → start ≤ k → k < end → test k ≡ false
nowhere test start end e k low high =
    let n = least (λ j. test (start + j)) (end - start) in
    ⊎_elim (λ small. absurd (clash (start + n) (sym (ap (λ t. if t then Some (start + n) else None) (lt-ltb n (end - start) small)) ∙ e)))
    (λ large. ap test (omega arith) ∙ least-before (λ j. test (start + j)) (end - start) (k - start) (omega arith))
    (cases_lt n (end - start))
  where
    clash : (p : ℕ) → Some p ≡ None → ⊥
    clash p h = cc

-- Of some bytes with a body that starts at a place.
module _ (d bytes : List ℕ) (body : ℕ) where
  -- a line of the body starts there
  abbrev LineStarts : ℕ → Type 0
  LineStarts s = (s ≡ body) ⊎ ((body < s) × HasByteAt bytes 10 (s - 1))

  line-of : (s p : ℕ) → LineStarts s → s ≤ p → starts_line bytes s p ≡ true → (p ≡ body) ⊎ HasByteAt bytes 10 (p - 1)
  line-of s p start low h = by_place start (cases_eq p s)
    where
      by_place : LineStarts s → (p ≡ s) ⊎ (p ≡ s → ⊥) → (p ≡ body) ⊎ HasByteAt bytes 10 (p - 1)
      by_place start (inr other) =
          inr (byte-from bytes 10 (p - 1) (sym (ap (λ t. t || begins is_line_feed (drop (p - 1) bytes)) (ne_eqb p s other)) ∙ h))
      by_place (inl e) (inl same) = inl (same ∙ e)
      by_place (inr line) (inl same) = inr (subst (λ k. HasByteAt bytes 10 (k - 1)) (sym same) line.1)

  line-is : (s p : ℕ) → LineStarts s → s ≤ p → (p ≡ body) ⊎ HasByteAt bytes 10 (p - 1) → starts_line bytes s p ≡ true
  line-is s p start low (inr feed) = or_right (p == s) (begins is_line_feed (drop (p - 1) bytes)) (byte-there bytes 10 (p - 1) feed)
  line-is s p (inl e) low (inl first) = or_left (p == s) (begins is_line_feed (drop (p - 1) bytes)) (eq-eqb p s (first ∙ sym e))
  line-is s p (inr line) low (inl first) = absurd (omega (arith, line.0))

  body-before : (s : ℕ) → LineStarts s → body ≤ s
  body-before s (inl e) = omega arith
  body-before s (inr line) = omega (arith, line.0)

  has-delimiter : (s p : ℕ) → LineStarts s → s ≤ p → p < length bytes → is_delimiter d bytes s p ≡ true → HasDelimiterAt d bytes body p
  has-delimiter s p start low high h =
      let parts = and_parts (starts_line bytes s p) (has_prefix d (drop p bytes)) h in
      let before = body-before s start in
      record { in_body = omega arith; within = high; line = line-of s p start low parts.0; begins = has_prefix-from d (drop p bytes) parts.1 }

  delimiter-is : (s p : ℕ) → LineStarts s → s ≤ p → HasDelimiterAt d bytes body p → is_delimiter d bytes s p ≡ true
  delimiter-is s p start low has =
      and_from (starts_line bytes s p) (has_prefix d (drop p bytes)) (line-is s p start low has.line) (has_prefix-there d (drop p bytes) has.begins)

  not-delimiter : (s p : ℕ) → LineStarts s → s ≤ p → p < length bytes → ¬ HasDelimiterAt d bytes body p → is_delimiter d bytes s p ≡ false
  not-delimiter s p start low high not =
      false_from_ne_true (is_delimiter d bytes s p) (λ h. not (has-delimiter s p start low high h))

  first-out : (s p : ℕ) → LineStarts s → delimiter_from d bytes s ≡ Some p → IsFirstFrom d bytes body s p
  first-out s p start e =
      let least = delimiter_from-out d bytes s p e in
      record {
        after = least.low;
        is_delimiter = has-delimiter s p start least.low least.high least.passes;
        before = λ k from to has. true_not_false (delimiter-is s k start from has) (least.before k from to);
      }

  first-is : (s p : ℕ) → LineStarts s → IsFirstFrom d bytes body s p → delimiter_from d bytes s ≡ Some p
  first-is s p start first =
      let high = first.is_delimiter.within in
      sym (delimiter_from-some d bytes s p first.after high (delimiter-is s p start first.after first.is_delimiter)
      (λ k low to. not-delimiter s k start low (omega arith) (first.before k low to)))

  none-out : (s : ℕ) → LineStarts s → delimiter_from d bytes s ≡ None → NoneBetween d bytes body s (length bytes)
  unfolding delimiter_from
  none-out s start e k low high has = true_not_false (delimiter-is s k start low has) (nowhere (is_delimiter d bytes s) s (length bytes) e k low high)

  none-is : (s : ℕ) → LineStarts s → NoneBetween d bytes body s (length bytes) → delimiter_from d bytes s ≡ None
  none-is s start none = sym (delimiter_from-none d bytes s (λ k low high. not-delimiter s k start low high (none k low high)))

  -- the first delimiter at or after the start of a line has nothing or a LF before it
  line-before : (s q : ℕ) → LineStarts s → IsFirstFrom d bytes body s q → (q ≡ s) ⊎ ((s < q) × HasByteAt bytes 10 (q - 1))
  line-before s q start first = ⊎_elim (λ same. inl same) (λ other. inr (⊎_elim
      (λ e. let before = body-before s start in let low = first.after in absurd (omega (arith, e, other, before, low)))
      (λ feed. let low = first.after in (omega (arith, other), feed)) first.is_delimiter.line)) (cases_eq q s)

  -- ---- the end of a delimiter's line, and the close-delimiter

  after-is : (p l : ℕ) → EndsLine d bytes body p l → part_after d bytes p ≡ Some (suc l)
  after-is p l ends =
      let q = p + length d in
      let after = ends.after in
      let here : q + (l - q) ≡ l = omega arith in
      let first : IsFirstOf (HasByteAt (drop q bytes) 10) (Some (l - q)) = (
        byte-rest bytes 10 q (l - q) (subst (HasByteAt bytes 10) (sym here) ends.feed),
        λ k low has. ends.before (q + k) (omega arith) (omega arith) (rest-byte bytes 10 q k has),
      ) in
      ap (option_map (λ k. suc (q + k))) (sym ((byte_place-says (drop q bytes) 10 (Some (l - q))).1 first)) ∙ ap (λ k. Some (suc k)) here

  never-is : (p : ℕ) → NeverEnds d bytes body p → part_after d bytes p ≡ None
  never-is p never =
      let q = p + length d in
      ap (option_map (λ k. suc (q + k))) (sym ((byte_place-says (drop q bytes) 10 None).1 (λ k has. never (q + k) (omega arith) (rest-byte bytes 10 q k has))))

  after-out : (p s : ℕ) → part_after d bytes p ≡ Some s → (l : ℕ) × (s ≡ suc l) × EndsLine d bytes body p l
  after-out p s e =
      let q = p + length d in
      let there = somewhere (λ k. suc (q + k)) s (byte_place (drop q bytes) 10) (sym e) in
      let first : IsFirstOf (HasByteAt (drop q bytes) 10) (Some there.0) = (byte_place-says (drop q bytes) 10 (Some there.0)).0 there.1 in (
        q + there.0,
        there.2,
        record {
          after = omega arith;
          feed = rest-byte bytes 10 q there.0 first.0;
          before = λ k low high has.
              first.1 (k - q) (omega arith) (byte-rest bytes 10 q (k - q) (subst (HasByteAt bytes 10) (omega arith) has));
        },
      )

  never-out : (p : ℕ) → part_after d bytes p ≡ None → NeverEnds d bytes body p
  never-out p e k low has =
      let q = p + length d in
      let none : IsFirstOf (HasByteAt (drop q bytes) 10) None = (byte_place-says (drop q bytes) 10 None).0 (unmapped (byte_place (drop q bytes) 10) e) in
      none (k - q) (byte-rest bytes 10 q (k - q) (subst (HasByteAt bytes 10) (omega arith) has))
    where
      unmapped : (o : Option ℕ) → option_map (λ k. suc (p + length d + k)) o ≡ None → None ≡ o
      unmapped None h = refl
      unmapped (Some x) h = cc

  closes-is : (p : ℕ) → Closes d bytes body p → is_close_delimiter d bytes p ≡ true
  closes-is p (inl short) =
      let len = length-drop (p + length d) bytes in
      or_left (nat_lt (length (drop (p + length d) bytes)) 2) (has_prefix (codes "--") (drop (p + length d) bytes)) (lt-ltb (length (drop (p + length d) bytes)) 2 (omega arith))
  closes-is p (inr dashes) =
      or_right (nat_lt (length (drop (p + length d) bytes)) 2) (has_prefix (codes "--") (drop (p + length d) bytes)) (has_prefix-there (codes "--") (drop (p + length d) bytes) dashes.1)

  closes-out : (p : ℕ) → is_close_delimiter d bytes p ≡ true → Closes d bytes body p
  closes-out p h =
      let rest = drop (p + length d) bytes in
      let len = length-drop (p + length d) bytes in
      ⊎_elim (λ short. inl (omega arith))
      (λ long. inr ((λ e. absurd (cc)), has_prefix-from (codes "--") rest (sym (ap (λ t. t || has_prefix (codes "--") rest) (le-ltb (length rest) 2 long)) ∙ h)))
      (cases_lt (length rest) 2)

  -- ---- the delimiters and parts after a delimiter

  -- the delimiters after the starts of parts
  abbrev found : List Range → List ℕ
  found parts = filter_map (delimiter_from d bytes) (map (λ part. part.start) parts)

  -- the start of the part after a delimiter that is not the first, if there is one
  abbrev next_from : Option ℕ → Option ℕ
  next_from o = option_and_then (λ q. if is_close_delimiter d bytes q then None else part_after d bytes q) o

  abbrev part_to : ℕ → Option ℕ → Range
  part_to s o = range s (option_map_or (before_line_end bytes s) o (length bytes))

  line-starts : (p l : ℕ) → body ≤ p → EndsLine d bytes body p l → LineStarts (suc l)
  line-starts p l low ends =
      let after = ends.after in
      inr (omega arith, subst (HasByteAt bytes 10) (omega arith) ends.feed)

  abbrev FollowFrom : ℕ → Type 0
  FollowFrom n = (p : ℕ) → body ≤ p → p < length bytes → length bytes - p < n
      → Follow d bytes body p (found (part_ranges d bytes (part_after d bytes p))) (part_ranges d bytes (part_after d bytes p))

  follow-fits : (n : ℕ) → FollowFrom n
  follow-fits zero p low high fuel = absurd (omega arith)
  follow-fits (suc n) p low high fuel = by_after (part_after d bytes p) refl (follow-fits n)
    where
      by_close : (l q : ℕ) → EndsLine d bytes body p l → IsFirstFrom d bytes body (suc l) q → (t : Bool) → is_close_delimiter d bytes q ≡ t → FollowFrom n
          → Follow d bytes body p (q ∷ found (part_ranges d bytes (if t then None else part_after d bytes q)))
          (range (suc l) (before_line_end bytes (suc l) q) ∷ part_ranges d bytes (if t then None else part_after d bytes q))
      by_close l q ends first true e ih =
          let fit = ends-fit bytes (suc l) q (line-before (suc l) q (line-starts p l low ends) first) in
          subst (λ rs. Follow d bytes body p (q ∷ found rs) (range (suc l) (before_line_end bytes (suc l) q) ∷ rs)) (sym (part_ranges-none d bytes))
          (close_delimiter ends first (closes-out q e) fit)
      by_close l q ends first false e ih =
          let fit = ends-fit bytes (suc l) q (line-before (suc l) q (line-starts p l low ends) first) in
          let after = ends.after in
          let from = first.after in
          let in_body = first.is_delimiter.in_body in
          let within = first.is_delimiter.within in
          next_delimiter ends first (λ closes. true_not_false (closes-is q closes) e) fit (ih q in_body within (omega arith))

      by_delimiter : (l : ℕ) → EndsLine d bytes body p l → (o : Option ℕ) → delimiter_from d bytes (suc l) ≡ o → FollowFrom n
          → Follow d bytes body p (cons_option o (found (part_ranges d bytes (next_from o)))) (part_to (suc l) o ∷ part_ranges d bytes (next_from o))
      by_delimiter l ends None e ih =
          subst (λ rs. Follow d bytes body p (found rs) (range (suc l) (length bytes) ∷ rs)) (sym (part_ranges-none d bytes))
          (last_delimiter ends (none-out (suc l) (line-starts p l low ends) e))
      by_delimiter l ends (Some q) e ih = by_close l q ends (first-out (suc l) q (line-starts p l low ends) e) (is_close_delimiter d bytes q) refl ih

      by_after : (o : Option ℕ) → part_after d bytes p ≡ o → FollowFrom n
          → Follow d bytes body p (found (part_ranges d bytes o)) (part_ranges d bytes o)
      by_after None e ih = subst (λ rs. Follow d bytes body p (found rs) rs) (sym (part_ranges-none d bytes)) (line_never_ends (never-out p e))
      by_after (Some s) e ih =
          let there = after-out p s e in
          subst (λ k. Follow d bytes body p (found (part_ranges d bytes (Some k))) (part_ranges d bytes (Some k))) (sym there.1)
          (subst (λ rs. Follow d bytes body p (found rs) rs) (sym (part_ranges-some d bytes (suc there.0)))
          (by_delimiter there.0 there.2 (delimiter_from d bytes (suc there.0)) refl ih))

  -- the parts after a delimiter, by the delimiter after the start of the first
  ranges-by : (s : ℕ) (o next : Option ℕ) → delimiter_from d bytes s ≡ o → next_from o ≡ next
      → (found (part_ranges d bytes (Some s)) ≡ cons_option o (found (part_ranges d bytes next)))
      × (part_ranges d bytes (Some s) ≡ part_to s o ∷ part_ranges d bytes next)
  ranges-by s o next e f =
      let some = part_ranges-some d bytes s in (
        ap found some ∙ ap (λ x. cons_option x (found (part_ranges d bytes (next_from x)))) e ∙ ap (λ x. cons_option o (found (part_ranges d bytes x))) f,
        some ∙ ap (λ x. part_to s x ∷ part_ranges d bytes (next_from x)) e ∙ ap (λ x. part_to s o ∷ part_ranges d bytes x) f,
      )

  follow-only : {p : ℕ} {places : List ℕ} {parts : List Range} → Follow d bytes body p places parts → body ≤ p
      → (places ≡ found (part_ranges d bytes (part_after d bytes p))) × (parts ≡ part_ranges d bytes (part_after d bytes p))
  follow-only {p} (line_never_ends never) low =
      let none : part_ranges d bytes (part_after d bytes p) ≡ [] = ap (part_ranges d bytes) (never-is p never) ∙ part_ranges-none d bytes in
      (sym (ap found none), sym none)
  follow-only {p} (last_delimiter {l = l} ends none) low =
      let after = after-is p l ends in
      let by = ranges-by (suc l) None None (none-is (suc l) (line-starts p l low ends) none) refl in
      let left = part_ranges-none d bytes in (
        sym (ap (λ o. found (part_ranges d bytes o)) after ∙ by.0 ∙ ap found left),
        sym (ap (part_ranges d bytes) after ∙ by.1 ∙ ap (λ rs. range (suc l) (length bytes) ∷ rs) left),
      )
  follow-only {p} (close_delimiter {l = l} {q = q} {e = e} ends first closes end) low =
      let after = after-is p l ends in
      let by = ranges-by (suc l) (Some q) None (first-is (suc l) q (line-starts p l low ends) first) (ap (λ t. if t then None else part_after d bytes q) (closes-is q closes)) in
      let left = part_ranges-none d bytes in
      let is = ends-is bytes (suc l) q e end in (
        sym (ap (λ o. found (part_ranges d bytes o)) after ∙ by.0 ∙ ap (λ rs. q ∷ found rs) left),
        ap (λ k. range (suc l) k ∷ []) is
            ∙ sym (ap (part_ranges d bytes) after ∙ by.1 ∙ ap (λ rs. range (suc l) (before_line_end bytes (suc l) q) ∷ rs) left),
      )
  follow-only {p} (next_delimiter {l = l} {q = q} {e = e} {places = places} {parts = parts} ends first not end more) low =
      let after = after-is p l ends in
      let by = ranges-by (suc l) (Some q) (part_after d bytes q) (first-is (suc l) q (line-starts p l low ends) first)
      (ap (λ t. if t then None else part_after d bytes q) (false_from_ne_true (is_close_delimiter d bytes q) (λ h. not (closes-out q h)))) in
      let rest = follow-only more first.is_delimiter.in_body in
      let is = ends-is bytes (suc l) q e end in (
        ap (λ (ps : List ℕ). q ∷ ps) rest.0 ∙ sym (ap (λ o. found (part_ranges d bytes o)) after ∙ by.0),
        ap (λ k. range (suc l) k ∷ parts) is ∙ ap (λ (rs : List Range). range (suc l) (before_line_end bytes (suc l) q) ∷ rs) rest.1
            ∙ sym (ap (part_ranges d bytes) after ∙ by.1),
      )

  -- ---- all of a body

  cut : Range → List Range → Cut
  cut whole parts = record { body = whole; parts = parts }

  abbrev preamble_to : Option ℕ → Range
  preamble_to o = range body (option_map_or (before_line_end bytes body) o body)

  abbrev first_after : Option ℕ → Option ℕ
  first_after o = option_and_then (part_after d bytes) o

  pub cut-fits : IsCutAt d bytes body (delimiters d bytes body) (cut_parts d bytes body)
  unfolding cut_parts_as
  cut-fits = by_delimiter (delimiter_from d bytes body) refl
    where
      by_delimiter : (o : Option ℕ) → delimiter_from d bytes body ≡ o
          → IsCutAt d bytes body (cons_option o (found (part_ranges d bytes (first_after o)))) (record { body = preamble_to o; parts = part_ranges d bytes (first_after o) })
      by_delimiter None e =
          subst (λ rs. IsCutAt d bytes body (found rs) (record { body = range body body; parts = rs })) (sym (part_ranges-none d bytes)) (no_delimiter (none-out body (inl refl) e))
      by_delimiter (Some p) e =
          let first = first-out body p (inl refl) e in
          let fit = ends-fit bytes body p (line-before body p (inl refl) first) in
          first_delimiter first fit (follow-fits (suc (length bytes)) p first.is_delimiter.in_body first.is_delimiter.within (omega arith))

  cut-by : (o : Option ℕ) → delimiter_from d bytes body ≡ o
      → (delimiters d bytes body ≡ cons_option o (found (part_ranges d bytes (first_after o))))
      × (cut_parts d bytes body ≡ record { body = preamble_to o; parts = part_ranges d bytes (first_after o) })
  unfolding cut_parts_as cut
  cut-by o e = (
    ap (λ x. cons_option x (found (part_ranges d bytes (first_after x)))) e,
    ap (λ x. cut (preamble_to x) (part_ranges d bytes (first_after x))) e,
  )

  pub cut-is : {places : List ℕ} {whole : Cut} → IsCutAt d bytes body places whole → (places ≡ delimiters d bytes body) × (whole ≡ cut_parts d bytes body)
  unfolding cut
  cut-is (no_delimiter none) =
      let by = cut-by None (none-is body (inl refl) none) in
      let left = part_ranges-none d bytes in
      (sym (by.0 ∙ ap found left), sym (by.1 ∙ ap (cut (range body body)) left))
  cut-is (first_delimiter {p = p} {e = e} {places = places} {parts = parts} first end follow) =
      let by = cut-by (Some p) (first-is body p (inl refl) first) in
      let rest = follow-only follow first.is_delimiter.in_body in
      let is = ends-is bytes body p e end in (
        ap (λ (ps : List ℕ). p ∷ ps) rest.0 ∙ sym by.0,
        ap (λ k. cut (range body k) parts) is ∙ ap (cut (range body (before_line_end bytes body p))) rest.1 ∙ sym by.1,
      )
