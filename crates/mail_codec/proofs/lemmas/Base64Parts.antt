-- A text read in parts: blocks of letters, groups over line ends, and absent bytes.
use Rattle.std.proofs.Common.{◌≡◌, ℕ, zero, suc, ◌+◌, ◌*◌, ◌/◌, ◌<◌, ◌≤◌, Bool, true, false, cond, List, [], ◌∷◌, ◌++◌, length, take, drop, get_or, replicate, set, Ok, refl, sym, ap, ◌∙◌, arith, inl, inr}
use Rattle.std.proofs.lemmas.Bool.{cases_Bool}
use Rattle.std.proofs.lemmas.List.{append_assoc, drop-drop, drop_all, drop_more, take-append-drop, take-append-le, take_more_set, length-take-le, length-drop}
use Rattle.std.proofs.Math.Seq.{take-add}
use Rattle.std.specs.List.{prefix_len}
use Rattle.mail_codec.specs.Base64.{letter_value, groups_from, prepend}
use Rattle.mail_codec.specs.private.Base64.{KeepsLetters}
use Rattle.mail_codec.specs.private.Runs.{ends_run, without_ends}
use Rattle.mail_codec.specs.private.Vectors.{is_letter}
use Rattle.mail_codec.specs.declared.bytescan.runs.RunEnd.{RunEnd}
use Rattle.mail_codec.specs.declared.bytescan.runs.RunEnd.TheVariants.{LineEnd, Whitespace}
use Rattle.mail_codec.proofs.lemmas.Base64Groups.{drop_four, groups_from-append, groups_from-nil, prepend-prepend, without_ends-append}
use Rattle.mail_codec.proofs.lemmas.Base64Steps.{groups_end}

-- ---- bytes that are kept

byte_kept : (absent : RunEnd) (text : List ℕ) (at : ℕ) → at < length text → ends_run absent (get_or text at 0) ≡ false
    → without_ends absent (drop at text) ≡ get_or text at 0 ∷ without_ends absent (drop (at + 1) text)
byte_kept absent text at h e = rw (drop_more text at 0 h, e) refl

-- letters are kept
letters_kept : (absent : RunEnd) → KeepsLetters absent → (m : ℕ) (xs : List ℕ) → m ≤ prefix_len is_letter xs → without_ends absent (take m xs) ≡ take m xs
letters_kept absent keeps zero xs h = refl
letters_kept absent keeps (suc m) [] h = refl
letters_kept absent keeps (suc m) (x ∷ xs) h = elim (cases_Bool (is_letter x)) [
  | inl e ↦ let more : suc m ≤ 1 + prefix_len is_letter xs = rw e at h in rw (keeps x e) (ap (λ r. x ∷ r) (letters_kept absent keeps m xs (omega arith)))
  | inr e ↦ let none : suc m ≤ 0 = rw e at h in absurd (omega arith)
]

pub prefix_take : (p : ℕ → Bool) (n : ℕ) (xs : List ℕ) → prefix_len p (take n xs) ≤ prefix_len p xs
prefix_take p zero xs = omega arith
prefix_take p (suc n) [] = omega arith
prefix_take p (suc n) (x ∷ xs) =
    let rest = prefix_take p n xs in
    elim (p x) as (λ v. cond v (1 + prefix_len p (take n xs)) 0 ≤ cond v (1 + prefix_len p xs) 0) [ true ↦ omega arith | false ↦ omega arith ]

-- a line end is absent
line_end : (absent : RunEnd) (rest : List ℕ) → without_ends absent (13 ∷ 10 ∷ rest) ≡ without_ends absent rest
line_end LineEnd rest = refl
line_end Whitespace rest = refl

pub line_end_passed : (absent : RunEnd) (text : List ℕ) (at : ℕ) → at + 2 ≤ length text → get_or text at 0 ≡ 13 → get_or text (at + 1) 0 ≡ 10
    → without_ends absent (drop at text) ≡ without_ends absent (drop (at + 2) text)
line_end_passed absent text at h cr lf =
    let two : drop at text ≡ 13 ∷ 10 ∷ drop (at + 1 + 1) text = drop_more text at 0 (omega arith) ∙ (λ i. cr i ∷ drop_more text (at + 1) 0 (omega arith) i) ∙ (λ i. 13 ∷ lf i ∷ drop (at + 1 + 1) text) in
    ap (without_ends absent) two ∙ line_end absent (drop (at + 1 + 1) text) ∙ ap (λ k. without_ends absent (drop k text)) {x = at + 1 + 1} {y = at + 2} (omega arith)

-- no letters make no groups
pub no_groups : (xs bytes : List ℕ) (k n : ℕ) → 4 * k ≤ 0 → groups_from n (take (4 * k) xs) ≡ Ok (take (3 * k) bytes)
no_groups xs bytes zero n h = groups_from-nil n
no_groups xs bytes (suc k) n h = absurd (omega arith)

-- zeros are no letters, and after a text they change nothing
no_letter : is_letter 0 ≡ false
unfolding letter_value
no_letter = refl

no_letters : (n k : ℕ) → prefix_len is_letter (drop k (replicate n 0)) ≡ 0
no_letters zero zero = refl
no_letters zero (suc k) = refl
no_letters (suc n) zero = rw no_letter refl
no_letters (suc n) (suc k) = no_letters n k

letters_before_zeros : (n k : ℕ) (xs : List ℕ) → prefix_len is_letter (xs ++ drop k (replicate n 0)) ≡ prefix_len is_letter xs
letters_before_zeros n k [] = no_letters n k
letters_before_zeros n k (x ∷ xs) = ap (λ i. cond (is_letter x) (1 + i) 0) (letters_before_zeros n k xs)

-- the letters of a tail, which zeros fill up to a vector
pub tail_letters : (tail copied : List ℕ) (len : ℕ) → copied ≡ tail → len ≡ prefix_len is_letter (copied ++ drop (length tail) (replicate 16 0)) → len ≡ prefix_len is_letter tail
tail_letters tail copied len is len_is =
    len_is ∙ ap (λ xs. prefix_len is_letter (xs ++ drop (length tail) (replicate 16 0))) is ∙ letters_before_zeros 16 (length tail) tail

pub tail_groups : (tail copied bytes : List ℕ) (k n : ℕ) → copied ≡ tail → 4 * k ≤ length tail
    → groups_from n (take (4 * k) (copied ++ drop (length tail) (replicate 16 0))) ≡ Ok bytes → groups_from n (take (4 * k) tail) ≡ Ok bytes
tail_groups tail copied bytes k n is few read =
    ap (groups_from n) (sym (take-append-le (4 * k) tail (drop (length tail) (replicate 16 0)) few)
    ∙ ap (λ xs. take (4 * k) (xs ++ drop (length tail) (replicate 16 0))) (sym is)) ∙ read

-- one more byte is gathered
pub gathered_one : (absent : RunEnd) (text four : List ℕ) (found place b : ℕ) → found < length four → place < length text → b ≡ get_or text place 0 → ends_run absent b ≡ false
    → take found four ++ without_ends absent (drop place text) ≡ take (found + 1) (set four found b) ++ without_ends absent (drop (place + 1) text)
gathered_one absent text four found place b capacity within is kept =
    let rest = without_ends absent (drop (place + 1) text) in
    ap (λ r. take found four ++ r) (byte_kept absent text place within (ap (ends_run absent) (sym is) ∙ kept) ∙ ap (λ x. x ∷ rest) (sym is))
    ∙ sym (append_assoc (take found four) (b ∷ []) rest)
    ∙ ap (λ xs. xs ++ rest) (sym (take_more_set four found b capacity))

-- at the end nothing is left
pub read_whole : (absent : RunEnd) (text bytes : List ℕ) (count at : ℕ)
    → groups_from 0 (without_ends absent text) ≡ prepend bytes (groups_from count (without_ends absent (drop at text)))
    → length text ≤ at → Ok bytes ≡ groups_from 0 (without_ends absent text)
read_whole absent text bytes count at read e =
    sym (read ∙ groups_end absent text bytes [] at count e refl)

-- bytes that were decoded before, and then those of a buffer
pub buffer_read : (whole old new bytes : List ℕ) (first count : ℕ) (here later : List ℕ) → groups_from 0 whole ≡ prepend old (groups_from first here)
    → ((n : ℕ) → groups_from n here ≡ prepend bytes (groups_from (n + count) later)) → new ≡ old ++ bytes
    → groups_from 0 whole ≡ prepend new (groups_from (first + count) later)
buffer_read whole old new bytes first count here later so_far read is =
    so_far ∙ ap (prepend old) (read first) ∙ prepend-prepend old bytes (groups_from (first + count) later)
    ∙ ap (λ xs. prepend xs (groups_from (first + count) later)) (sym is)

-- four items
pub four_items : (xs : List ℕ) → length xs ≡ 4 → xs ≡ get_or xs 0 0 ∷ get_or xs 1 0 ∷ get_or xs 2 0 ∷ get_or xs 3 0 ∷ []
four_items xs h = drop_four 0 xs (omega arith) ∙ ap (λ r. get_or xs 0 0 ∷ get_or xs 1 0 ∷ get_or xs 2 0 ∷ get_or xs 3 0 ∷ r) (drop_all 4 xs (omega arith))

-- ---- steps

module _ (absent : RunEnd) (text whole : List ℕ) where
  -- the whole reads as these bytes, and then as the rest of the text from a place onwards, whose
  -- first group has this number
  abbrev pub ReadTo : List ℕ → ℕ → ℕ → Type 0
  ReadTo bytes count at = (n : ℕ) → groups_from n whole ≡ prepend bytes (groups_from (n + count) (without_ends absent (drop at text)))

  -- more groups
  read_more : (xs old new : List ℕ) (count at k next : ℕ) → ReadTo old count at
      → without_ends absent (drop at text) ≡ xs ++ without_ends absent (drop next text) → length xs ≡ 4 * k → ((n : ℕ) → groups_from n xs ≡ Ok new)
      → ReadTo (old ++ new) (count + k) next
  read_more xs old new count at k next so_far split len read n =
      let later = without_ends absent (drop next text) in
      so_far n
      ∙ ap (λ r. prepend old (groups_from (n + count) r)) split
      ∙ ap (prepend old) (groups_from-append (n + count) xs later new (omega (arith, len)) (read (n + count)))
      ∙ ap (λ m. prepend old (prepend new (groups_from m later))) {x = n + count + length xs / 4} {y = n + (count + k)} (omega (arith, len))
      ∙ prepend-prepend old new (groups_from (n + (count + k)) later)

  -- the bytes before a place stay, and more are written there
  written_more : (old new : List ℕ) (count k : ℕ) → take (3 * count) new ≡ take (3 * count) old
      → take (3 * count) old ++ take (3 * k) (drop (3 * count) new) ≡ take (3 * (count + k)) new
  written_more old new count k kept =
      ap (λ xs. xs ++ take (3 * k) (drop (3 * count) new)) (sym kept)
      ∙ sym (take-add (3 * count) (3 * k) new)
      ∙ ap (λ m. take m new) {x = 3 * count + 3 * k} {y = 3 * (count + k)} (omega arith)

  -- k groups of a block of letters
  pub block_read : KeepsLetters absent → (old new : List ℕ) (count at len : ℕ) → ReadTo (take (3 * count) old) count at
      → at + len ≤ length text → len ≤ prefix_len is_letter (drop at text) → take (3 * count) new ≡ take (3 * count) old
      → ((k n : ℕ) → 4 * k ≤ len → groups_from n (take (4 * k) (drop at text)) ≡ Ok (take (3 * k) (drop (3 * count) new)))
      → (k : ℕ) → 4 * k ≤ len → (count' at' : ℕ) → count' ≡ count + k → at' ≡ at + 4 * k → ReadTo (take (3 * count') new) count' at'
  block_read keeps old new count at len so_far within letters kept read k few count' at' count_is at_is n =
      let xs = take (4 * k) (drop at text) in
      let following : drop (4 * k) (drop at text) ≡ drop at' text = drop-drop (4 * k) at text ∙ ap (λ i. drop i text) (omega (arith, at_is)) in
      let split : without_ends absent (drop at text) ≡ xs ++ without_ends absent (drop at' text) =
      ap (without_ends absent) (sym (take-append-drop (4 * k) (drop at text)))
      ∙ without_ends-append absent xs (drop (4 * k) (drop at text))
      ∙ ap (λ r. r ++ without_ends absent (drop (4 * k) (drop at text))) (letters_kept absent keeps (4 * k) (drop at text) (omega (arith, few, letters)))
      ∙ ap (λ r. xs ++ without_ends absent r) following in
      let long : length xs ≡ 4 * k = length-take-le (4 * k) (drop at text) (omega (arith, few, within, length-drop at text)) in
      read_more xs (take (3 * count) old) (take (3 * k) (drop (3 * count) new)) count at k at' so_far split long (λ m. read k m few) n
      ∙ ap (λ bs. prepend bs (groups_from (n + (count + k)) (without_ends absent (drop at' text)))) (written_more old new count k kept)
      ∙ ap (λ c. prepend (take (3 * c) new) (groups_from (n + c) (without_ends absent (drop at' text)))) (sym count_is)

  -- the groups of a wide block, which stops within it or is whole, and then k groups of a block
  pub blocks_read : KeepsLetters absent → (old mid new : List ℕ) (count at wide len : ℕ) → ReadTo (take (3 * count) old) count at
      → at + wide ≤ length text → wide ≤ prefix_len is_letter (drop at text) → take (3 * count) mid ≡ take (3 * count) old
      → ((k n : ℕ) → 4 * k ≤ wide → groups_from n (take (4 * k) (drop at text)) ≡ Ok (take (3 * k) (drop (3 * count) mid)))
      → at + wide / 4 * 4 + len ≤ length text → len ≤ prefix_len is_letter (drop (at + wide / 4 * 4) text) → take (3 * (count + wide / 4)) new ≡ take (3 * (count + wide / 4)) mid
      → ((k n : ℕ) → 4 * k ≤ len → groups_from n (take (4 * k) (drop (at + wide / 4 * 4) text)) ≡ Ok (take (3 * k) (drop (3 * (count + wide / 4)) new)))
      → (k : ℕ) → 4 * k ≤ len → (count' at' : ℕ) → count' ≡ count + wide / 4 + k → at' ≡ at + wide / 4 * 4 + 4 * k → ReadTo (take (3 * count') new) count' at'
  blocks_read keeps old mid new count at wide len so_far within letters kept read within' letters' kept' read' k few count' at' count_is at_is =
      let first = block_read keeps old mid count at wide so_far within letters kept read (wide / 4) (omega arith) (count + wide / 4) (at + wide / 4 * 4) refl (omega arith) in
      block_read keeps mid new (count + wide / 4) (at + wide / 4 * 4) len first within' letters' kept' read' k few count' at' count_is at_is

  -- one more group, perhaps over a line end
  pub group_more : (old new : List ℕ) (count at next : ℕ) → ReadTo (take (3 * count) old) count at → take (3 * count) new ≡ take (3 * count) old
      → ((n : ℕ) → groups_from n (without_ends absent (drop at text)) ≡ prepend (take 3 (drop (3 * count) new)) (groups_from (n + 1) (without_ends absent (drop next text))))
      → ReadTo (take (3 * (count + 1)) new) (count + 1) next
  group_more old new count at next so_far kept read n =
      let later = without_ends absent (drop next text) in
      so_far n
      ∙ ap (prepend (take (3 * count) old)) (read (n + count))
      ∙ prepend-prepend (take (3 * count) old) (take 3 (drop (3 * count) new)) (groups_from (n + count + 1) later)
      ∙ ap (λ m. prepend (take (3 * count) old ++ take 3 (drop (3 * count) new)) (groups_from m later)) {x = n + count + 1} {y = n + (count + 1)} (omega arith)
      ∙ ap (λ bs. prepend bs (groups_from (n + (count + 1)) later)) (written_more old new count 1 kept)

  -- absent bytes
  pub absent_passed : (bytes : List ℕ) (count at next : ℕ) → ReadTo bytes count at
      → without_ends absent (drop at text) ≡ without_ends absent (drop next text) → ReadTo bytes count next
  absent_passed bytes count at next so_far passed n = so_far n ∙ ap (λ r. prepend bytes (groups_from (n + count) r)) passed

-- a group of four bytes that were gathered
pub gathered_read : (xs ys rest later bytes : List ℕ) → rest ≡ xs ++ later → length xs ≡ 4 → take 4 ys ≡ xs
    → ((n : ℕ) → groups_from n (take 4 ys) ≡ Ok bytes) → (n : ℕ) → groups_from n rest ≡ prepend bytes (groups_from (n + 1) later)
gathered_read xs ys rest later bytes split len front read n =
    ap (groups_from n) split
    ∙ groups_from-append n xs later bytes (omega (arith, len)) (ap (groups_from n) (sym front) ∙ read n)
    ∙ ap (λ m. prepend bytes (groups_from m later)) {x = n + length xs / 4} {y = n + 1} (omega (arith, len))
