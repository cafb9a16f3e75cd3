-- What is met in a message, and what is left of a limit on it.
use Rattle.std.proofs.Common.{◌≡◌, ℕ, cond, zero, suc, ◌+◌, ◌-◌, ◌<◌, ◌≤◌, Bool, true, false, List, [], ◌∷◌, length, map, drop, slice_range, option_map, Option, Some, None, Result, Ok, Err, IfOk, is_ok, refl, sym, ap, ◌∙◌, subst, arith, nat_lt}
use Rattle.mailparse.specs.Refusal.{Refusal, generic, encoding, base64_fault, Reads, too_many_items}
use Rattle.mailparse.specs.Header.{Header}
use Rattle.mailparse.specs.Header.{read_header}
use Rattle.mailparse.specs.Block.{HeaderList, block_end, read_block, read_headers}
use Rattle.mailparse.specs.ContentType.{ContentType}
use Rattle.mailparse.specs.Manner.{Manner}
use Rattle.mailparse.specs.Ranges.{Range, slice}
use Rattle.mailparse.specs.Delimiters.{first_part_as, next_part_as, end_from_as, cut_parts_as}
use Rattle.mailparse.specs.Mail.{Tree, root, kept_message, or_kept, is_digest, dash_boundary_of, whole_lines_for, read_levels}
use Rattle.mailparse.specs.Limit.{headers_met, limited, met_in_each, met_in_parts, met_after, items_met}
use Rattle.mailparse.specs.private.Limit.{less}
use Rattle.mailparse.specs.Outcome.{refusal_of, Refuses, IsRefusal, IsRefusalOrMemory, Answers, AnswersOrMemory}
use Rattle.mailparse.specs.Views.{tree_of}
use Rattle.mailparse.specs.declared.mail.message.ParsedMail.{ParsedMail}
use Rattle.mailparse.specs.declared.error.MailParseError.TheVariants.{QuotedPrintableDecodeError, Base64DecodeError, EncodingError, Generic, Memory}
use Rattle.std.specs.Cow.{cow_str_bytes}
use Rattle.mailparse.proofs.lemmas.Outcome.{IsRefusal-along}
use Rattle.mailparse.specs.declared.error.MailParseError.{MailParseError}
use Rattle.mailparse.proofs.lemmas.Block.{with_front, block_end-some, block_end-err, block_end-header, read_headers-found, read_headers-bounded}
use Rattle.mailparse.proofs.lemmas.Delimiters.{part_ranges_as-none, part_ranges_as-some, part_ranges_as}
use Rattle.mailparse.proofs.lemmas.Mail.{line_delimiter_some, or_kept-read}
use Rattle.std.specs.Option.{option_map_or}
use Rattle.std.proofs.lemmas.Bool.{lt-ltb, le-ltb, ltb-true, ltb-false}
use Rattle.std.proofs.lemmas.List.{drop-drop}

-- ---- the headers of a block

-- some headers, and those of the rest of the block if it is not refused
abbrev pub met_with : ℕ → Reads HeaderList → ℕ
met_with count (Ok block) = count + length block.headers
met_with count (Err refusal) = 0

met_with-front : (count n : ℕ) (header : Header) (rest : Reads HeaderList) → met_with count (with_front (header ∷ []) n rest) ≡ met_with (count + 1) rest
met_with-front count n header (Ok block) = omega arith
met_with-front count n header (Err refusal) = refl

pub met_with-none : (rest : Reads HeaderList) → met_with 0 rest ≡ headers_met rest
met_with-none (Ok block) = omega arith
met_with-none (Err refusal) = refl

-- one more header
pub met_with-more : (raw : List ℕ) (count place : ℕ) (found : Header × ℕ) → block_end (drop place raw) ≡ Ok None → read_header (drop place raw) ≡ Ok found
    → met_with (count + 1) (read_headers (drop (place + found.1) raw)) ≡ met_with count (read_headers (drop place raw))
met_with-more raw count place found e read =
    ap (λ (xs : List ℕ). met_with (count + 1) (read_headers xs)) (sym (drop-drop found.1 place raw))
    ∙ sym (met_with-front count found.1 found.0 (read_headers (drop found.1 (drop place raw))))
    ∙ ap (met_with count) (sym (read_headers-found (drop place raw) found e read))

-- no block has more headers than bytes
pub headers_met-≤ : (raw : List ℕ) → headers_met (read_headers raw) ≤ length raw
headers_met-≤ raw = by_block (read_headers raw) refl
  where
    by_block : (block : Reads HeaderList) → read_headers raw ≡ block → headers_met block ≤ length raw
    by_block (Ok block) e =
        let bounded = read_headers-bounded raw block e in
        let many = bounded.headers in
        let within = bounded.index in
        omega arith
    by_block (Err refusal) e = omega arith

-- a refused block has none
refuses_met : {Y : Type 0} (refusal : Option Refusal) (x : Reads Y) (met : ℕ) → ((r : Refusal) → x ≡ Err r → 0 ≡ met) → Refuses refusal x → 0 ≡ met
refuses_met None x met none h = absurd h
refuses_met (Some r) x met none h = none r h

-- In a block, after some headers.
module _ (raw : List ℕ) (count place : ℕ) (all : met_with count (read_headers (drop place raw)) ≡ headers_met (read_headers raw)) where
  pub met_at_end : (taken : ℕ) → block_end (drop place raw) ≡ Ok (Some taken) → count ≡ headers_met (read_headers raw)
  met_at_end taken e =
      let one : met_with count (read_headers (drop place raw)) ≡ count + 0 = ap (met_with count) (block_end-some (drop place raw) taken e) in
      omega (arith, one, all)

  pub met_if_refused : (e : MailParseError) → IsRefusal e (block_end (drop place raw)) → 0 ≡ headers_met (read_headers raw)
  met_if_refused e h =
      refuses_met (refusal_of e) (block_end (drop place raw)) (headers_met (read_headers raw))
      (λ r f. sym (ap (met_with count) (block_end-err (drop place raw) r f)) ∙ all) h

  pub met_if_header_refused : (e : MailParseError) → block_end (drop place raw) ≡ Ok None → IsRefusal e (read_header (drop place raw)) → 0 ≡ headers_met (read_headers raw)
  met_if_header_refused e more h =
      refuses_met (refusal_of e) (read_header (drop place raw)) (headers_met (read_headers raw))
      (λ r f. sym (ap (met_with count) (block_end-header (drop place raw) r more f)) ∙ all) h

-- ---- the limit

-- a limit that is not reached
pub limited-enough : {A : Type 0} (most met : ℕ) (reading : Reads A) → met ≤ most → limited (Some most) met reading ≡ reading
limited-enough {A = A} most met reading low = ap (λ (t : Bool). cond {A = Reads A} t (Err too_many_items) reading) (le-ltb most met low)

-- one that is
pub limited-over : {A : Type 0} (most met : ℕ) (reading : Reads A) → most < met → limited (Some most) met reading ≡ Err too_many_items
limited-over {A = A} most met reading high = ap (λ (t : Bool). cond {A = Reads A} t (Err too_many_items) reading) (lt-ltb most met high)

-- what was read within a limit did not reach it
pub within_limit : {A : Type 0} (most met : ℕ) (reading : Reads A) (x : A) → limited (Some most) met reading ≡ Ok x → (met ≤ most) × (reading ≡ Ok x)
within_limit {A = A} most met reading x e = by_test (nat_lt most met) refl e
  where
    by_test : (t : Bool) → nat_lt most met ≡ t → cond {A = Reads A} t (Err too_many_items) reading ≡ Ok x → (met ≤ most) × (reading ≡ Ok x)
    by_test true h f = absurd (cc)
    by_test false h f = (ltb-false most met h, f)

pub limited-read : {A : Type 0} (limit : Option ℕ) (met : ℕ) (reading : Reads A) (x : A) → limited limit met reading ≡ Ok x → reading ≡ Ok x
limited-read None met reading x e = e
limited-read (Some most) met reading x e = (within_limit most met reading x e).1

-- a limit that refuses what is met first refuses all
pub limited-first : {A B : Type 0} (limit : Option ℕ) (met more : ℕ) (x : A) (reading : Reads B) (r : Refusal) → limited limit met (Ok x) ≡ Err r → limited limit (met + more) reading ≡ Err r
limited-first None met more x reading r e = absurd (cc)
limited-first {A = A} {B = B} (Some most) met more x reading r e = by_test (nat_lt most met) refl e
  where
    by_test : (t : Bool) → nat_lt most met ≡ t → cond {A = Reads A} t (Err too_many_items) (Ok x) ≡ Err r → limited {A = B} (Some most) (met + more) reading ≡ Err r
    by_test true h f =
        let less = ltb-true most met h in
        let same : ◌≡◌ {A = Refusal} too_many_items r = cc in
        limited-over most (met + more) reading (omega arith) ∙ ap Err same
    by_test false h f = absurd (cc)

-- a part that is refused, for the limit or by itself; nothing is met after it
pub limited-refused : {A B : Type 0} (limit : Option ℕ) (met more : ℕ) (x : Reads A) (reading : Reads B) (r : Refusal) → limited limit met x ≡ Err r → (x ≡ Err r → reading ≡ Err r)
    → limited limit (met + cond (is_ok x) more 0) reading ≡ Err r
limited-refused None met more x reading r e pass = pass e
limited-refused {A = A} {B = B} (Some most) met more x reading r e pass = by_test (nat_lt most met) refl e
  where
    by_test : (t : Bool) → nat_lt most met ≡ t → cond {A = Reads A} t (Err too_many_items) x ≡ Err r → limited {A = B} (Some most) (met + cond (is_ok x) more 0) reading ≡ Err r
    by_test true h f =
        let less = ltb-true most met h in
        let same : ◌≡◌ {A = Refusal} too_many_items r = cc in
        limited-over most (met + cond (is_ok x) more 0) reading (omega arith) ∙ ap Err same
    by_test false h f =
        let low = ltb-false most met h in
        let none : cond (is_ok x) more 0 ≡ 0 = ap (λ (y : Reads A). cond (is_ok y) more 0) f in
        limited-enough most (met + cond (is_ok x) more 0) reading (omega arith) ∙ pass f

-- what is met in all beside a limit, as what is still to be met beside what is left
pub record Leaves (limit : Option ℕ) (all : ℕ) (left : Option ℕ) (rest : ℕ) : Type 0 where
  pub read : (reading : Reads Tree) → limited limit all reading ≡ limited left rest reading
  pub after : less limit all ≡ less left rest

pub leaves_all : (limit : Option ℕ) (all rest : ℕ) → all ≡ rest → Leaves limit all limit rest
leaves_all limit all rest e = record { read = λ reading. ap (λ n. limited limit n reading) e; after = ap (less limit) e }

limited-after : {A : Type 0} (most met rest : ℕ) (reading : Reads A) → met ≤ most → limited (Some most) (met + rest) reading ≡ limited (Some (most - met)) rest reading
limited-after {A = A} most met rest reading low = by_test (nat_lt (most - met) rest) refl
  where
    by_test : (t : Bool) → nat_lt (most - met) rest ≡ t → limited {A = A} (Some most) (met + rest) reading ≡ cond t (Err too_many_items) reading
    by_test true h = let less = ltb-true (most - met) rest h in limited-over most (met + rest) reading (omega arith)
    by_test false h = let enough = ltb-false (most - met) rest h in limited-enough most (met + rest) reading (omega arith)

-- after some of it was met
pub leaves_after : {A : Type 0} (limit : Option ℕ) (all : ℕ) (left after : Option ℕ) (met rest : ℕ) (reading : Reads A) (x : A) → Leaves limit all left (met + rest)
    → limited left met reading ≡ Ok x → after ≡ less left met → Leaves limit all after rest
leaves_after limit all None after met rest reading x before e is =
    subst (λ (o : Option ℕ). Leaves limit all o rest) (sym is) (record { read = before.read; after = before.after })
leaves_after limit all (Some most) after met rest reading x before e is =
    let low = (within_limit most met reading x e).0 in
    let same : most - (met + rest) ≡ most - met - rest = omega arith in
    subst (λ (o : Option ℕ). Leaves limit all o rest) (sym is)
    (record { read = λ r. before.read r ∙ limited-after most met rest r low; after = before.after ∙ ap Some same })

-- after all of it
pub leaves_end : (limit : Option ℕ) (all : ℕ) (left : Option ℕ) → Leaves limit all left 0 → left ≡ less limit all
leaves_end limit all None before = sym before.after
leaves_end limit all (Some most) before = let same : most ≡ most - 0 = omega arith in ap Some same ∙ sym before.after

pub leaves_read : (limit : Option ℕ) (all : ℕ) (left : Option ℕ) (reading : Reads Tree) → Leaves limit all left 0 → limited limit all reading ≡ reading
leaves_read limit all None reading before = before.read reading
leaves_read limit all (Some most) reading before = before.read reading ∙ limited-enough most 0 reading (omega arith)

-- after the items that `less` takes
pub leaves_spent : (limit : Option ℕ) (all : ℕ) (left after : Option ℕ) (met rest : ℕ) → Leaves limit all left (met + rest)
    → limited left met (Ok (less left met)) ≡ Ok after → Leaves limit all after rest
leaves_spent limit all left after met rest before e =
    let same : ◌≡◌ {A = Reads (Option ℕ)} (Ok (less left met)) (Ok after) = limited-read left met (Ok (less left met)) after e in
    leaves_after limit all left after met rest (Ok (less left met)) after before e (cc)

-- after the message itself and its headers
pub leaves_two : (limit : Option ℕ) (all : ℕ) (left after : Option ℕ) (headers rest : ℕ) → all ≡ 1 + (headers + rest)
    → limited limit 1 (Ok (less limit 1)) ≡ Ok left → limited left headers (Ok (less left headers)) ≡ Ok after → Leaves limit all after rest
leaves_two limit all left after headers rest met one more =
    leaves_spent limit all left after headers rest (leaves_spent limit all limit left 1 (headers + rest) (leaves_all limit all (1 + (headers + rest)) met) one) more

-- a refusal for the limit of what is met next
pub leaves_refused : {A : Type 0} (limit : Option ℕ) (all : ℕ) (left : Option ℕ) (met rest : ℕ) (x : A) (reading : Reads Tree) (e : MailParseError) → Leaves limit all left (met + rest)
    → IsRefusal e (limited left met (Ok x)) → IsRefusal e (limited limit all reading)
leaves_refused limit all left met rest x reading e before h =
    IsRefusal-along e (limited left met (Ok x)) (limited limit all reading) (λ r f. before.read reading ∙ limited-first left met rest x reading r f) h

-- ---- what is met in a message

-- In a manner of reading.
module _ (manner : Manner) where
  -- what is met in the parts from one on
  abbrev pub met_from : ℕ → Bool → List ℕ → List ℕ → Option ℕ → ℕ
  met_from levels in_digest dash_boundary raw next =
      met_in_each (read_levels manner levels in_digest) (items_met manner levels in_digest)
      (map (slice raw) (part_ranges_as (whole_lines_for manner.whole_lines dash_boundary) dash_boundary raw next))

  pub met_from-none : (levels : ℕ) (in_digest : Bool) (dash_boundary raw : List ℕ) → met_from levels in_digest dash_boundary raw None ≡ 0
  met_from-none levels in_digest dash_boundary raw =
      ap (λ (rs : List Range). met_in_each (read_levels manner levels in_digest) (items_met manner levels in_digest) (map (slice raw) rs))
      (part_ranges_as-none (whole_lines_for manner.whole_lines dash_boundary) dash_boundary raw)

  pub met_from-some : (levels : ℕ) (in_digest : Bool) (dash_boundary raw : List ℕ) (s part_end : ℕ) (after : Option ℕ)
      → part_end ≡ end_from_as (whole_lines_for manner.whole_lines dash_boundary) dash_boundary raw s (length raw)
      → after ≡ next_part_as (whole_lines_for manner.whole_lines dash_boundary) dash_boundary raw s
      → met_from levels in_digest dash_boundary raw (Some s)
      ≡ items_met manner levels in_digest (slice_range raw s part_end)
      + cond (is_ok (read_levels manner levels in_digest (slice_range raw s part_end))) (met_from levels in_digest dash_boundary raw after) 0
  met_from-some levels in_digest dash_boundary raw s part_end after ends next =
      ap (λ (rs : List Range). met_in_each (read_levels manner levels in_digest) (items_met manner levels in_digest) (map (slice raw) rs))
      (part_ranges_as-some (whole_lines_for manner.whole_lines dash_boundary) dash_boundary raw s)
      ∙ ap (λ n. items_met manner levels in_digest (slice_range raw s n)
      + cond (is_ok (read_levels manner levels in_digest (slice_range raw s n))) (met_from levels in_digest dash_boundary raw (next_part_as (whole_lines_for manner.whole_lines dash_boundary) dash_boundary raw s)) 0) (sym ends)
      ∙ ap (λ (o : Option ℕ). items_met manner levels in_digest (slice_range raw s part_end)
      + cond (is_ok (read_levels manner levels in_digest (slice_range raw s part_end))) (met_from levels in_digest dash_boundary raw o) 0) (sym next)

  -- a message with no levels left
  pub items_met-none : (levels : ℕ) (in_digest : Bool) (raw : List ℕ) → levels ≡ 0 → items_met manner levels in_digest raw ≡ 1
  unfolding items_met
  items_met-none zero in_digest raw e = refl
  items_met-none (suc levels) in_digest raw e = absurd (omega arith)

  -- one with levels left
  abbrev after_headers : ℕ → Bool → List ℕ → Reads HeaderList → ℕ
  after_headers levels in_digest raw block = met_after manner (read_levels manner (levels - 1)) (items_met manner (levels - 1)) in_digest raw block

  items_met-some : (levels : ℕ) (in_digest : Bool) (raw : List ℕ) → 0 < levels
      → items_met manner levels in_digest raw ≡ 1 + (headers_met (read_block manner.lenient_headers raw) + after_headers levels in_digest raw (read_block manner.lenient_headers raw))
  unfolding items_met
  items_met-some zero in_digest raw some = absurd (omega arith)
  items_met-some (suc levels) in_digest raw some =
      let same : levels ≡ suc levels - 1 = omega arith in
      ap (λ n. 1 + (headers_met (read_block manner.lenient_headers raw) + met_after manner (read_levels manner n) (items_met manner n) in_digest raw (read_block manner.lenient_headers raw))) same

  -- at least the message itself is met
  pub items_met-own : (levels : ℕ) (in_digest : Bool) (raw : List ℕ) → (more : ℕ) × (items_met manner levels in_digest raw ≡ 1 + more)
  unfolding items_met
  items_met-own zero in_digest raw = (0, refl)
  items_met-own (suc levels) in_digest raw = (_, refl)

  -- and then its headers
  pub met_after_own : ℕ → Bool → List ℕ → ℕ
  met_after_own levels in_digest raw = after_headers levels in_digest raw (read_block manner.lenient_headers raw)

  pub items_met-headers : (levels : ℕ) (in_digest : Bool) (raw : List ℕ) → 0 < levels
      → items_met manner levels in_digest raw ≡ 1 + (headers_met (read_block manner.lenient_headers raw) + met_after_own levels in_digest raw)
  unfolding met_after_own
  items_met-headers levels in_digest raw some = items_met-some levels in_digest raw some

  -- one that is refused for its own headers
  pub items_met-refused : (levels : ℕ) (in_digest : Bool) (raw : List ℕ) (r : Refusal) → 0 < levels → read_block manner.lenient_headers raw ≡ Err r → items_met manner levels in_digest raw ≡ 1
  items_met-refused levels in_digest raw r some refused =
      items_met-some levels in_digest raw some
      ∙ ap (λ (block : Reads HeaderList). 1 + (headers_met block + after_headers levels in_digest raw block)) refused

  -- a message with this block and this type
  module _ (levels : ℕ) (in_digest : Bool) (raw : List ℕ) (headers : List Header) (index : ℕ) (ctype : ContentType)
      (some : 0 < levels) (read : read_block manner.lenient_headers raw ≡ Ok (record { headers = headers; index = index })) (type : manner.type_of in_digest headers ≡ ctype) where
    met_typed : items_met manner levels in_digest raw
        ≡ 1 + (length headers + met_in_parts manner (read_levels manner (levels - 1)) (items_met manner (levels - 1)) raw index ctype)
    met_typed =
        items_met-some levels in_digest raw some
        ∙ ap (λ (block : Reads HeaderList). 1 + (headers_met block + after_headers levels in_digest raw block)) read
        ∙ ap (λ (t : ContentType). 1 + (length headers + met_in_parts manner (read_levels manner (levels - 1)) (items_met manner (levels - 1)) raw index t)) type

    -- one that has no parts
    pub items_met-leaf : dash_boundary_of ctype ≡ None → items_met manner levels in_digest raw ≡ 1 + (length headers + 0)
    items_met-leaf none = met_typed ∙ (rw none refl)

    -- one that may have parts, in the terms of the code
    pub items_met-whole : (line_delimiter : List ℕ) (digest : Bool) → Some line_delimiter ≡ option_map (λ dash_boundary. 10 ∷ dash_boundary) (dash_boundary_of ctype) → digest ≡ is_digest ctype
        → items_met manner levels in_digest raw
        ≡ 1 + (length headers + met_from (levels - 1) digest (drop 1 line_delimiter) raw (first_part_as (whole_lines_for manner.whole_lines (drop 1 line_delimiter)) (drop 1 line_delimiter) raw index))
    unfolding cut_parts_as
    items_met-whole line_delimiter digest made is =
        let delimiter = (line_delimiter_some line_delimiter (dash_boundary_of ctype) made).0 in
        met_typed
        ∙ ap (λ (o : Option (List ℕ)). 1 + (length headers
        + met_in_each (read_levels manner (levels - 1) (is_digest ctype)) (items_met manner (levels - 1) (is_digest ctype))
        (map (slice raw) (option_map_or (λ dash_boundary. cut_parts_as (whole_lines_for manner.whole_lines dash_boundary) dash_boundary raw index) o (record { body = record { start = index; end = length raw }; parts = [] })).parts))) delimiter
        ∙ ap (λ (b : Bool). 1 + (length headers + met_from (levels - 1) b (drop 1 line_delimiter) raw (first_part_as (whole_lines_for manner.whole_lines (drop 1 line_delimiter)) (drop 1 line_delimiter) raw index))) (sym is)

-- ---- a message that is refused for its own headers, or memory that runs out

pub if_ok : {X : Type 0} {P : Type 0} (result : Result X MailParseError) → P → IfOk result (λ _. P)
if_ok (Ok x) p = p
if_ok (Err e) p = tt

first_bytes : Reads Tree → List ℕ
first_bytes (Ok t) = (root t).bytes
first_bytes (Err refusal) = []

-- a call that may answer anything ran out of memory
memory_answer : (result : Result ParsedMail MailParseError) → ((t : Tree) → AnswersOrMemory tree_of result (Ok t)) → (given : Reads Tree) → AnswersOrMemory tree_of result given
unfolding first_bytes
memory_answer (Ok mail) h given =
    let one : ◌≡◌ {A = Reads Tree} (Ok (kept_message [])) (Ok (tree_of mail)) = h (kept_message []) in
    let other : ◌≡◌ {A = Reads Tree} (Ok (kept_message (0 ∷ []))) (Ok (tree_of mail)) = h (kept_message (0 ∷ [])) in
    let same : ◌≡◌ {A = List ℕ} [] (0 ∷ []) = ap first_bytes (one ∙ sym other) in
    absurd (cc)
memory_answer (Err (QuotedPrintableDecodeError fault)) h given = absurd (h (kept_message []))
memory_answer (Err (Base64DecodeError fault)) h given = let e : ◌≡◌ {A = Reads Tree} (Ok (kept_message [])) (Err (base64_fault fault.group)) = h (kept_message []) in absurd (cc)
memory_answer (Err (EncodingError text)) h given = let e : ◌≡◌ {A = Reads Tree} (Ok (kept_message [])) (Err (encoding (cow_str_bytes text))) = h (kept_message []) in absurd (cc)
memory_answer (Err (Generic text)) h given = let e : ◌≡◌ {A = Reads Tree} (Ok (kept_message [])) (Err (generic text.now)) = h (kept_message []) in absurd (cc)
memory_answer (Err (Memory e)) h given = tt

-- In a manner of reading.
module _ (manner : Manner) (raw : List ℕ) (result : Result ParsedMail MailParseError) where
  -- what is answered if a message is refused
  abbrev Handles : MailParseError → Type 0
  Handles refusal = (reading : Reads Tree) → IsRefusalOrMemory refusal reading → AnswersOrMemory tree_of result (or_kept manner raw reading)

  any_answer : ((reading : Reads Tree) → AnswersOrMemory tree_of result (or_kept manner raw reading)) → (given : Reads Tree) → AnswersOrMemory tree_of result given
  any_answer handles given = memory_answer result (λ t. subst (AnswersOrMemory tree_of result) (or_kept-read manner raw (Ok t) t refl) (handles (Ok t))) given

  pub answer_given : (refusal : MailParseError) (block : Reads HeaderList) (given : Reads Tree) → IsRefusalOrMemory refusal block → Handles refusal
      → ((r : Refusal) → block ≡ Err r → given ≡ or_kept manner raw (Err r)) → AnswersOrMemory tree_of result given
  answer_given (QuotedPrintableDecodeError fault) block given h handles pass = absurd h
  answer_given (Base64DecodeError fault) block given h handles pass =
      subst (AnswersOrMemory tree_of result) (sym (pass (base64_fault fault.group) h)) (handles (Err (base64_fault fault.group)) refl)
  answer_given (EncodingError text) block given h handles pass =
      subst (AnswersOrMemory tree_of result) (sym (pass (encoding (cow_str_bytes text)) h)) (handles (Err (encoding (cow_str_bytes text))) refl)
  answer_given (Generic text) block given h handles pass =
      subst (AnswersOrMemory tree_of result) (sym (pass (generic text.now) h)) (handles (Err (generic text.now)) refl)
  answer_given (Memory e) block given h handles pass = any_answer (λ reading. handles reading tt) given

  -- it is kept only if its headers are refused
  pub ok_given : {P : Type 0} (refusal : MailParseError) (block : Reads HeaderList) → IsRefusalOrMemory refusal block → Handles refusal
      → ((r : Refusal) → block ≡ Err r → P) → IfOk result (λ _. P)
  ok_given (QuotedPrintableDecodeError fault) block h handles pass = absurd h
  ok_given (Base64DecodeError fault) block h handles pass = if_ok result (pass (base64_fault fault.group) h)
  ok_given (EncodingError text) block h handles pass = if_ok result (pass (encoding (cow_str_bytes text)) h)
  ok_given (Generic text) block h handles pass = if_ok result (pass (generic text.now) h)
  ok_given {P = P} (Memory e) block h handles pass = by_result result (any_answer (λ reading. handles reading tt))
    where
      by_result : (r : Result ParsedMail MailParseError) → ((given : Reads Tree) → AnswersOrMemory tree_of r given) → IfOk r (λ _. P)
      by_result (Err e) any = tt
      by_result (Ok mail) any = let f : ◌≡◌ {A = Reads Tree} (Err too_many_items) (Ok (tree_of mail)) = any (Err too_many_items) in absurd (cc)

-- the same for a call that does not run out of memory
pub answer_refused : (result : Result ParsedMail MailParseError) (refusal : MailParseError) (block : Reads HeaderList) {given own : Reads Tree} → IsRefusal refusal block
    → ((r : Refusal) → block ≡ Err r → given ≡ own) → Answers tree_of result own → Answers tree_of result given
answer_refused result refusal block {given = given} {own = own} h pass answers = by_refusal (refusal_of refusal) h
  where
    by_refusal : (o : Option Refusal) → Refuses o block → Answers tree_of result given
    by_refusal None f = absurd f
    by_refusal (Some r) f = subst (Answers tree_of result) (sym (pass r f)) answers
