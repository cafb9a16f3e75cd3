-- Lemmas on the front of a Base64 body.
use Rattle.std.proofs.Common.{◌≡◌, ℕ, zero, suc, ◌+◌, ◌-◌, ◌*◌, ◌≤◌, Bool, true, false, not, List, [], ◌∷◌, ◌++◌, length, take, drop, get_or, Option, Some, None, Result, Ok, Err, refl, sym, ap, ◌∙◌, arith, append_assoc}
use Rattle.std.specs.Prelude.{All, ◌==◌, if◌then◌else◌}
use Rattle.std.specs.Char.{is_ascii_whitespace}
use Rattle.std.proofs.lemmas.Bool.{cond-true, false≢true}
use Rattle.std.proofs.lemmas.List.{append-nil}
use Rattle.std.proofs.lemmas.List.Elements.{All-drop, All-head, All-same, All-tail, All-take, filter-append, filter_passes}
use Rattle.mail_codec.specs.Base64.{base64, group_bytes, groups_from, after_group, prepend, padding}
use Rattle.mail_codec.specs.Places.{without_ascii_whitespace}
use Rattle.mail_codec.proofs.lemmas.Base64Groups.{after_group_ok, prepend_err, base64_without_whitespace}
use Rattle.mail_read.specs.lenient.Base64.{Front, Recovered, all_read, base64_front, before, data_of, front_from, group_then, read_or_recovered, recovered, text_front}

-- ---- texts without whitespace

-- a text is without whitespace
abbrev pub Clean : List ℕ → Type 0
Clean l = without_ascii_whitespace l ≡ l

-- a byte is none
abbrev IsKept : ℕ → Type 0
IsKept b = not (is_ascii_whitespace b) ≡ true

clean-from : (l : List ℕ) → All IsKept l → Clean l
clean-from [] h = refl
clean-from (b ∷ l) h = cond-true _ _ _ (All-head IsKept b l h) ∙ ap (λ (r : List ℕ). b ∷ r) (clean-from l (All-tail IsKept b l h))

all-kept : (l : List ℕ) → Clean l → All IsKept l
all-kept l h = All-same IsKept l (without_ascii_whitespace l) (sym h) (filter_passes (λ b. not (is_ascii_whitespace b)) l)

clean-take : (n : ℕ) (l : List ℕ) → Clean l → Clean (take n l)
clean-take n l h = clean-from (take n l) (All-take IsKept n l (all-kept l h))

pub clean-drop : (n : ℕ) (l : List ℕ) → Clean l → Clean (drop n l)
clean-drop n l h = clean-from (drop n l) (All-drop IsKept n l (all-kept l h))

clean-append : (l m : List ℕ) → Clean l → Clean m → Clean (l ++ m)
clean-append l m h k =
    filter-append (λ b. not (is_ascii_whitespace b)) l m ∙ ap (λ (x : List ℕ). x ++ without_ascii_whitespace m) h ∙ ap (λ (x : List ℕ). l ++ x) k

-- the reading of a clean text
pub base64-clean : (l : List ℕ) → Clean l → base64 (without_ascii_whitespace l) ≡ groups_from 0 l
base64-clean l h = base64_without_whitespace l ∙ ap (groups_from 0) h

-- ---- where all is read

before-before : (a b : List ℕ) (f : Front) → before a (before b f) ≡ before (a ++ b) f
before-before a b f = ap (λ (x : List ℕ). let r : Front = record { bytes = x; fault = f.fault } in r) (sym (append_assoc a b f.bytes))

-- these bytes and no fault
abbrev pub whole : List ℕ → Front
whole bytes = record { bytes = bytes; fault = None }

front_from-ok : (n : ℕ) (l bytes : List ℕ) → groups_from n l ≡ Ok bytes → front_from n l ≡ whole bytes
unfolding front_from groups_from
front_from-ok n [] bytes h = let e : [] ≡ bytes = cc h in ap whole e
front_from-ok n (p ∷ []) bytes h = cc h
front_from-ok n (p ∷ q ∷ []) bytes h = cc h
front_from-ok n (p ∷ q ∷ r ∷ []) bytes h = cc h
front_from-ok n (p ∷ q ∷ r ∷ s ∷ l) bytes h =
    let parts = after_group_ok n (group_bytes p q r s) (groups_from (suc n) l) bytes h in
    let c : List ℕ = parts.0 in
    let d : List ℕ = parts.1 in
    ap (λ (g : Option (List ℕ)). group_then n g (front_from (suc n) l)) parts.2
    ∙ ap (before c) (front_from-ok (suc n) l d parts.3) ∙ ap whole parts.4

pub text_front-ok : (body bytes : List ℕ) → base64 (without_ascii_whitespace body) ≡ Ok bytes → text_front body ≡ whole bytes
unfolding text_front
text_front-ok body bytes h =
    front_from-ok 0 (without_ascii_whitespace body) bytes (sym (base64_without_whitespace body) ∙ h)

-- ---- the groups before the first invalid one

-- m groups are read, and then the rest, whose first group is invalid
pub record Cut (k m n : ℕ) (l : List ℕ) : Type 0 where
  pub fits : 4 * m ≤ length l
  pub read : List ℕ
  pub ok : groups_from k (take (4 * m) l) ≡ Ok read
  pub front : front_from k l ≡ before read (front_from n (drop (4 * m) l))
  pub fault : groups_from n (drop (4 * m) l) ≡ Err n

err-is : (a b : ℕ) → ◌≡◌ {A = Result (List ℕ) ℕ} (Err a) (Err b) → a ≡ b
err-is a b h = cc h

cut-more : (k m n p q r s : ℕ) (l c : List ℕ) → group_bytes p q r s ≡ Some c → Cut (suc k) m n l → Cut k (suc m) n (p ∷ q ∷ r ∷ s ∷ l)
unfolding front_from groups_from
cut-more k m n p q r s l c g h =
    let e : 4 * suc m ≡ suc (suc (suc (suc (4 * m)))) = omega arith in
    let fits = h.fits in
    record {
      fits = omega arith;
      read = c ++ h.read;
      ok = ap (λ t. groups_from k (take t (p ∷ q ∷ r ∷ s ∷ l))) e
          ∙ ap (λ (o : Option (List ℕ)). after_group k o (groups_from (suc k) (take (4 * m) l))) g ∙ ap (prepend c) h.ok;
      front = ap (λ (o : Option (List ℕ)). group_then k o (front_from (suc k) l)) g ∙ ap (before c) h.front
          ∙ before-before c h.read (front_from n (drop (4 * m) l))
          ∙ ap (λ t. before (c ++ h.read) (front_from n (drop t (p ∷ q ∷ r ∷ s ∷ l)))) (sym e);
      fault = ap (λ t. groups_from n (drop t (p ∷ q ∷ r ∷ s ∷ l))) e ∙ h.fault;
    }

pub cut : (k m n : ℕ) (l : List ℕ) → n ≡ k + m → groups_from k l ≡ Err n → Cut k m n l
unfolding front_from groups_from
cut k zero n l e h =
    let same : k ≡ n = omega arith in
    record {
      fits = omega arith;
      read = [];
      ok = refl;
      front = ap (λ t. front_from t l) same;
      fault = ap (λ t. groups_from t l) (sym same) ∙ h;
    }
cut k (suc m) n [] e h = cc h
cut k (suc m) n (p ∷ []) e h = let s = err-is k n h in absurd (omega arith)
cut k (suc m) n (p ∷ q ∷ []) e h = let s = err-is k n h in absurd (omega arith)
cut k (suc m) n (p ∷ q ∷ r ∷ []) e h = let s = err-is k n h in absurd (omega arith)
cut k (suc m) n (p ∷ q ∷ r ∷ s ∷ l) e h = go (group_bytes p q r s) refl h (cut (suc k) m n l (omega arith))
  where
    go : (g : Option (List ℕ)) → group_bytes p q r s ≡ g → after_group k g (groups_from (suc k) l) ≡ Err n → (groups_from (suc k) l ≡ Err n → Cut (suc k) m n l)
        → Cut k (suc m) n (p ∷ q ∷ r ∷ s ∷ l)
    go None is f more = let same = err-is k n f in absurd (omega arith)
    go (Some c) is f more = cut-more k m n p q r s l c is (more (prepend_err c n (groups_from (suc k) l) f))

-- ---- the last group

-- the number of a fault is at least that of the first group
fault-low : (k m : ℕ) (l : List ℕ) → groups_from k l ≡ Err m → k ≤ m
unfolding groups_from
fault-low k m [] h = cc h
fault-low k m (p ∷ []) h = let e = err-is k m h in omega arith
fault-low k m (p ∷ q ∷ []) h = let e = err-is k m h in omega arith
fault-low k m (p ∷ q ∷ r ∷ []) h = let e = err-is k m h in omega arith
fault-low k m (p ∷ q ∷ r ∷ s ∷ l) h = go (group_bytes p q r s) h (fault-low (suc k) m l)
  where
    go : (g : Option (List ℕ)) → after_group k g (groups_from (suc k) l) ≡ Err m → (groups_from (suc k) l ≡ Err m → suc k ≤ m) → k ≤ m
    go None f later = let e = err-is k m f in omega arith
    go (Some c) f later = let more = later (prepend_err c m (groups_from (suc k) l) f) in omega arith

-- nothing is read from an index onwards
abbrev pub stopped : ℕ → Front
stopped n = record { bytes = []; fault = Some n }

-- one letter, or an invalid group of four, gives nothing
front_from-fault : (n : ℕ) (l : List ℕ) → groups_from n l ≡ Err n → (length l ≡ 2 → ⊥) → (length l ≡ 3 → ⊥) → front_from n l ≡ stopped n
unfolding front_from groups_from
front_from-fault n [] h two three = cc h
front_from-fault n (p ∷ []) h two three = refl
front_from-fault n (p ∷ q ∷ []) h two three = absurd (two refl)
front_from-fault n (p ∷ q ∷ r ∷ []) h two three = absurd (three refl)
front_from-fault n (p ∷ q ∷ r ∷ s ∷ l) h two three = go (group_bytes p q r s) h
  where
    go : (g : Option (List ℕ)) → after_group n g (groups_from (suc n) l) ≡ Err n → group_then n g (front_from (suc n) l) ≡ stopped n
    go None f = refl
    go (Some c) f = let low = fault-low (suc n) n l (prepend_err c n (groups_from (suc n) l) f) in absurd (omega arith)

-- the same after bytes that were read
pub last-fault : (old l : List ℕ) (n : ℕ) → groups_from n l ≡ Err n → (length l ≡ 2 → ⊥) → (length l ≡ 3 → ⊥)
    → ◌≡◌ {A = Front} (record { bytes = old; fault = Some n }) (before old (front_from n l))
last-fault old l n h two three =
    ap (λ (x : List ℕ). let r : Front = record { bytes = x; fault = Some n } in r) (sym (append-nil old)) ∙ ap (before old) (sym (front_from-fault n l h two three))

-- the third letter, or padding in its place
abbrev pub third_of : List ℕ → ℕ
third_of l = if length l == 3 then get_or l 2 0 else padding

-- two or three letters, with their padding
abbrev pub padded : List ℕ → List ℕ
padded l = get_or l 0 0 ∷ get_or l 1 0 ∷ third_of l ∷ padding ∷ []

padded-clean : (l : List ℕ) → Clean l → 2 ≤ length l → length l ≤ 3 → Clean (padded l)
padded-clean [] h low high = absurd (omega arith)
padded-clean (p ∷ []) h low high = absurd (omega arith)
padded-clean (p ∷ q ∷ []) h low high = clean-append (p ∷ q ∷ []) (61 ∷ 61 ∷ []) h refl
padded-clean (p ∷ q ∷ r ∷ []) h low high = clean-append (p ∷ q ∷ r ∷ []) (61 ∷ []) h refl
padded-clean (p ∷ q ∷ r ∷ s ∷ l) h low high = absurd (omega arith)

-- the bytes of the last group, if it is one
abbrev last_bytes : List ℕ → Option (List ℕ)
last_bytes l = group_bytes (get_or l 0 0) (get_or l 1 0) (third_of l) padding

padded-read : (l : List ℕ) → Clean l → 2 ≤ length l → length l ≤ 3 → base64 (without_ascii_whitespace (padded l)) ≡ after_group 0 (last_bytes l) (Ok [])
unfolding groups_from
padded-read l h low high = base64-clean (padded l) (padded-clean l h low high)

front_from-last : (n : ℕ) (l : List ℕ) → 2 ≤ length l → length l ≤ 3 → front_from n l ≡ group_then n (last_bytes l) all_read
unfolding front_from
front_from-last n [] low high = absurd (omega arith)
front_from-last n (p ∷ []) low high = absurd (omega arith)
front_from-last n (p ∷ q ∷ []) low high = refl
front_from-last n (p ∷ q ∷ r ∷ []) low high = refl
front_from-last n (p ∷ q ∷ r ∷ s ∷ l) low high = absurd (omega arith)

pub last-some : (old new l last : List ℕ) (n : ℕ) → Clean l → 2 ≤ length l → length l ≤ 3 → Ok last ≡ base64 (without_ascii_whitespace (padded l))
    → new ≡ old ++ last → whole new ≡ before old (front_from n l)
last-some old new l last n h low high e push =
    go (last_bytes l) (e ∙ padded-read l h low high) ∙ ap (before old) (sym (front_from-last n l low high))
  where
    go : (g : Option (List ℕ)) → ◌≡◌ {A = Result (List ℕ) ℕ} (Ok last) (after_group 0 g (Ok [])) → whole new ≡ before old (group_then n g all_read)
    go None f = cc f
    go (Some c) f = let is : last ≡ c ++ [] = cc f in ap whole (push ∙ ap (λ (x : List ℕ). old ++ x) is)

pub last-none : (old l : List ℕ) (n k : ℕ) → Clean l → 2 ≤ length l → length l ≤ 3 → Err k ≡ base64 (without_ascii_whitespace (padded l))
    → ◌≡◌ {A = Front} (record { bytes = old; fault = Some n }) (before old (front_from n l))
last-none old l n k h low high e =
    go (last_bytes l) (e ∙ padded-read l h low high) ∙ ap (before old) (sym (front_from-last n l low high))
  where
    go : (g : Option (List ℕ)) → ◌≡◌ {A = Result (List ℕ) ℕ} (Err k) (after_group 0 g (Ok [])) → ◌≡◌ {A = Front} (record { bytes = old; fault = Some n }) (before old (group_then n g all_read))
    go None f = ap (λ (x : List ℕ). let r : Front = record { bytes = x; fault = Some n } in r) (sym (append-nil old))
    go (Some c) f = cc f

-- ---- the whole front

pub front-cut : (l bytes : List ℕ) (n : ℕ) (f : Front) → groups_from 0 l ≡ Err n → Clean l → Ok bytes ≡ base64 (without_ascii_whitespace (take (4 * n) l))
    → f ≡ before bytes (front_from n (drop (4 * n) l)) → f ≡ front_from 0 l
front-cut l bytes n f h clean ok e =
    let c = cut 0 n n l (omega arith) h in
    let both : ◌≡◌ {A = Result (List ℕ) ℕ} (Ok bytes) (Ok c.read) = ok ∙ base64-clean (take (4 * n) l) (clean-take (4 * n) l clean) ∙ c.ok in
    let same : bytes ≡ c.read = cc in
    e ∙ ap (λ (b : List ℕ). before b (front_from n (drop (4 * n) l))) same ∙ sym c.front

pub front-no_err : (l : List ℕ) (n k : ℕ) → groups_from 0 l ≡ Err n → Clean l → Err k ≡ base64 (without_ascii_whitespace (take (4 * n) l)) → ⊥
front-no_err l n k h clean bad =
    let c = cut 0 n n l (omega arith) h in
    let both : ◌≡◌ {A = Result (List ℕ) ℕ} (Err k) (Ok c.read) = bad ∙ base64-clean (take (4 * n) l) (clean-take (4 * n) l clean) ∙ c.ok in
    cc

pub cut_fits : (l : List ℕ) (n : ℕ) → groups_from 0 l ≡ Err n → 4 * n ≤ length l
cut_fits l n h = (cut 0 n n l (omega arith) h).fits

pub cut-fault : (l : List ℕ) (n : ℕ) → groups_from 0 l ≡ Err n → groups_from n (drop (4 * n) l) ≡ Err n
cut-fault l n h = (cut 0 n n l (omega arith) h).fault

-- a text that the strict reading refuses
pub strict-err : (body letters : List ℕ) (n : ℕ) → Err n ≡ base64 (without_ascii_whitespace body) → letters ≡ without_ascii_whitespace body → groups_from 0 letters ≡ Err n
strict-err body letters n e is = ap (groups_from 0) is ∙ sym (base64_without_whitespace body) ∙ sym e

pub clean-is : (l m body : List ℕ) → l ≡ m → m ≡ without_ascii_whitespace body → Clean l
clean-is l m body e f = clean-from l (All-same IsKept l (without_ascii_whitespace body) (e ∙ f) (filter_passes (λ b. not (is_ascii_whitespace b)) body))

pub letters-front : (body letters : List ℕ) → letters ≡ without_ascii_whitespace body → front_from 0 letters ≡ text_front body
unfolding text_front
letters-front body letters e = ap (front_from 0) e

-- the front after the last group, by whether that was read
pub branch-read : (items : List ℕ) (n : ℕ) (b : Bool) (g : Front) → b ≡ true
    → ◌≡◌ {A = Front} (record { bytes = items; fault = (if b then None else Some n) }) g → whole items ≡ g
branch-read items n true g e h = h
branch-read items n false g e h = absurd (false≢true e)

pub branch-left : (items : List ℕ) (n : ℕ) (b : Bool) (g : Front) → b ≡ false
    → ◌≡◌ {A = Front} (record { bytes = items; fault = (if b then None else Some n) }) g → ◌≡◌ {A = Front} (record { bytes = items; fault = Some n }) g
branch-left items n false g e h = h
branch-left items n true g e h = absurd (false≢true (sym e))

-- ---- the data of a body

pub base64_front-ok : (body bytes : List ℕ) → base64 (without_ascii_whitespace body) ≡ Ok bytes
    → ◌≡◌ {A = Recovered} (base64_front body) (record { bytes = bytes; fault = None; ignored = 0 })
unfolding base64_front
base64_front-ok body bytes h = ap (read_or_recovered body) h

pub base64_front-err : (body : List ℕ) (n : ℕ) → Err n ≡ base64 (without_ascii_whitespace body) → recovered body ≡ base64_front body
unfolding base64_front
base64_front-err body n h = ap (read_or_recovered body) h

front_and : ℕ → Front → Recovered
front_and n f = record { bytes = f.bytes; fault = f.fault; ignored = n }

pub recovered-is : (body text kept : List ℕ) (front : Front) (n : ℕ) → text ≡ without_ascii_whitespace body → kept ≡ data_of text → front ≡ text_front kept
    → n ≡ length text - length kept → ◌≡◌ {A = Recovered} (record { bytes = front.bytes; fault = front.fault; ignored = n }) (recovered body)
unfolding recovered front_and
recovered-is body text kept front n is made read count =
    ap (λ (k : ℕ). front_and k front) count ∙ ap (front_and (length text - length kept)) (read ∙ ap text_front made)
    ∙ ap (λ (d : List ℕ). front_and (length text - length d) (text_front (data_of text))) made
    ∙ ap (λ (t : List ℕ). front_and (length t - length (data_of t)) (text_front (data_of t))) is
