-- The headers of a block in which nothing is found are those of the grammar of strict messages.
use Rattle.std.proofs.Common.{◌≡◌, ◌∙◌, ◌+◌, ◌<◌, ◌≤◌, ℕ, zero, suc, Bool, true, false, not, cond, List, [], ◌∷◌, ◌++◌, length, drop, take, Result, Ok, Err, refl, sym, ap, subst, inl, inr, arith, append_assoc, append-nil, length-append, length-drop, length-take, take-add}
use Rattle.std.specs.Prelude.{◌⊎◌, ◌&&◌, ◌||◌, ◌==◌, nat_lt, Option, is_some, codes}
use Rattle.std.specs.List.{AllByRecursion, list_all}
use Rattle.std.proofs.lemmas.Bool.{cases_lt, eqb-true, eq-eqb}
use Rattle.std.proofs.lemmas.Bool.{and_left, cases_Bool, or_from}
use Rattle.std.proofs.lemmas.List.{drop-take, drop-drop, take_all}
use Rattle.mail_codec.specs.Ascii.{colon, is_blank, space}
use Rattle.mail_codec.specs.Places.{begins, has_prefix}
use Rattle.mailparse.specs.Block.{HeaderList, blank_line, has_header, headers_end, read_headers}
use Rattle.mailparse.specs.Header.{Header, header_end, header_length, header_of, key_end}
use Rattle.mailparse.specs.Refusal.{Refusal, leading_space, lone_carriage_return}
use Rattle.mailparse.proofs.lemmas.Block.{read_headers-bounded, read_headers-more, read_headers-none, with_front}
use Rattle.mail_check.specs.Bytes.{first_byte, is_blank_fold, is_high}
use Rattle.mail_check.specs.Clean.{Nowhere}
use Rattle.mail_check.specs.Lines.{HeaderLine, ends_block, has_high_value, is_bad_key, line_of, lines_from}
use Rattle.mail_grammar.specs.Headers.{is_address_name, HasNoCommentFold, is_name_byte, IsHeader, IsBlock, last_header, next_header}
use Rattle.mail_check_laws.proofs.lemmas.Headers.{bad, bad-opened, cut_header, front, good_key, header_folds, header_from, header_low, key_at, length_at, low_found, name_parts, one_prefix, past_name, two_prefix}
use Rattle.mail_grammar.proofs.lemmas.Boundaries.{all_head}

-- nothing is found in a header of a block of this size
pub record GoodLine (size : ℕ) (line : HeaderLine) : Type 0 where
  pub goes_on : ends_block size line ≡ false
  pub key : is_bad_key line ≡ false
  pub folds : Nowhere (is_blank_fold line.bytes) line.bytes
  pub ascii : has_high_value line ≡ false
  pub comments : is_address_name line.key ≡ true → HasNoCommentFold line.bytes

-- ---- readings

abbrev pub listed_in : Result HeaderList Refusal → List Header
listed_in (Ok block) = block.headers
listed_in (Err refusal) = []

abbrev pub index_in : Result HeaderList Refusal → ℕ
index_in (Ok block) = block.index
index_in (Err refusal) = 0

abbrev pub was_read : Result HeaderList Refusal → Bool
was_read (Ok block) = true
was_read (Err refusal) = false

-- a list with headers begins with one
abbrev end_read : Bool → Bool → ℕ → Refusal → Refusal → Result HeaderList Refusal
end_read ended returned n a b = cond ended (Ok (record { headers = []; index = n })) (cond returned (Err a) (Err b))

none_listed : (ended returned : Bool) (n : ℕ) (a b : Refusal) → listed_in (end_read ended returned n a b) ≡ []
none_listed true returned n a b = refl
none_listed false true n a b = refl
none_listed false false n a b = refl

-- if no header begins, there are no headers
no_headers : (xs : List ℕ) → has_header xs ≡ false → listed_in (read_headers xs) ≡ []
no_headers xs e =
    ap listed_in (read_headers-none xs e)
    ∙ none_listed (headers_end xs) (has_prefix (13 ∷ []) xs) (0 + blank_line xs) lone_carriage_return leading_space

pub header_there : (h : Header) (hs : List Header) (index : ℕ) (raw : List ℕ) → read_headers raw ≡ Ok (record { headers = h ∷ hs; index = index }) → has_header raw ≡ true
header_there h hs index raw read = elim (cases_Bool (has_header raw)) [
  | inl e ↦ e
  | inr e ↦
      let none : [] ≡ h ∷ hs = sym (no_headers raw e) ∙ ap listed_in read in
      absurd (cc)
]

two_feeds : (b : ℕ) (rest : List ℕ) → ((b == 13) && begins (λ x. x == 10) rest) ≡ true → take 2 (b ∷ rest) ≡ codes "\r\n"
two_feeds b [] h = absurd (let no : ((b == 13) && false) ≡ false = left_right (b == 13) in cc)
  where
    left_right : (s : Bool) → (s && false) ≡ false
    left_right true = refl
    left_right false = refl
two_feeds b (c ∷ rest) h = both (b == 13) (c == 10) h refl refl
  where
    both : (s t : Bool) → (s && t) ≡ true → (b == 13) ≡ s → (c == 10) ≡ t → b ∷ c ∷ [] ≡ codes "\r\n"
    both true true h e f = ap (λ (x : ℕ). x ∷ c ∷ []) (eqb-true b 13 e) ∙ ap (λ (x : ℕ). 13 ∷ x ∷ []) (eqb-true c 10 f)
    both true false h e f = absurd (cc)
    both false t h e f = absurd (cc)

-- the length of the blank line, by what is at the front
abbrev blank_size : Bool → Bool → ℕ
blank_size feed return_feed = cond feed 1 (cond return_feed 2 0)

-- it is 0, or there is a line end
abbrev MayBeBlank : List ℕ → ℕ → Type 0
MayBeBlank xs n = (n ≡ 0) ⊎ ((take n xs ≡ codes "\n") ⊎ (take n xs ≡ codes "\r\n"))

blank_lines : (xs : List ℕ) → MayBeBlank xs (blank_line xs)
unfolding blank_line
blank_lines [] = inl refl
blank_lines (b ∷ rest) = by_prefix (has_prefix (10 ∷ []) (b ∷ rest)) (has_prefix (13 ∷ 10 ∷ []) (b ∷ rest)) refl refl
  where
    by_prefix : (s t : Bool) → has_prefix (10 ∷ []) (b ∷ rest) ≡ s → has_prefix (13 ∷ 10 ∷ []) (b ∷ rest) ≡ t → MayBeBlank (b ∷ rest) (blank_size s t)
    by_prefix true t e f = inr (inl (ap (λ (x : ℕ). x ∷ []) (eqb-true b 10 (sym (one_prefix 10 (b ∷ rest)) ∙ e))))
    by_prefix false true e f = inr (inr (two_feeds b rest (sym (two_prefix 13 10 b rest) ∙ f)))
    by_prefix false false e f = inl refl

end_index : (ended returned : Bool) (n index : ℕ) (a b : Refusal) → end_read ended returned n a b ≡ Ok (record { headers = []; index = index }) → n ≡ index
end_index true returned n index a b h = ap index_in h
end_index false true n index a b h = let no : false ≡ true = ap was_read h in absurd (cc)
end_index false false n index a b h = let no : false ≡ true = ap was_read h in absurd (cc)

-- the end of a list without headers
list_ends : (xs : List ℕ) (index : ℕ) → read_headers xs ≡ Ok (record { headers = []; index = index }) → MayBeBlank xs index
list_ends xs index read = elim (cases_Bool (has_header xs)) [
  | inl e ↦ absurd (headed (read_headers (drop (header_length xs) xs)) (sym (read_headers-more xs e) ∙ read))
  | inr e ↦
      let same : 0 + blank_line xs ≡ index =
      end_index (headers_end xs) (has_prefix (13 ∷ []) xs) (0 + blank_line xs) index lone_carriage_return leading_space (sym (read_headers-none xs e) ∙ read) in
      let size : blank_line xs ≡ index = omega (arith, same) in
      subst (MayBeBlank xs) size (blank_lines xs)
]
  where
    headed : (r : Result HeaderList Refusal) → with_front (header_of xs ∷ []) (header_length xs) r ≡ Ok (record { headers = []; index = index }) → ⊥
    headed (Ok b) h = let no : header_of xs ∷ b.headers ≡ [] = ap listed_in h in cc
    headed (Err refusal) h = let no : false ≡ true = ap was_read h in cc

-- ---- from findings to the grammar

pub take_first : (m n : ℕ) (xs : List ℕ) → m ≤ n → take m (take n xs) ≡ take m xs
take_first zero n xs low = refl
take_first (suc m) zero xs low = absurd (omega arith)
take_first (suc m) (suc n) [] low = refl
take_first (suc m) (suc n) (x ∷ xs) low = ap (λ (ys : List ℕ). x ∷ ys) (take_first m n xs (omega arith))

-- one header, of the part of a block that its bytes make up
module _ (at size : ℕ) (block : List ℕ) (short : suc (header_end block) ≤ length block) where
  length_is : header_length block ≡ suc (header_end block)
  unfolding header_length
  length_is = omega (arith, short)

  header_is : GoodLine size (line_of at block) → IsHeader (take (suc (header_end block)) block)
  header_is good =
      let line = line_of at block in
      let opened : (n : ℕ) → n ≡ suc (header_end block) → bad (take (key_end block) block) (drop (length (take (key_end block) block)) (take n block)) ≡ false
      → bad (take (key_end block) block) (drop (length (take (key_end block) block)) (take (suc (header_end block)) block)) ≡ false
      = λ n e h. subst (λ (i : ℕ). bad (take (key_end block) block) (drop (length (take (key_end block) block)) (take i block)) ≡ false) e h in
      header_from block short
      (opened (header_length block) length_is (sym (bad-opened line) ∙ good.key))
      (subst (λ (i : ℕ). Nowhere (is_blank_fold (take i block)) (take i block)) length_is good.folds)
      (subst (λ (i : ℕ). list_all (λ b. nat_lt b 128) (drop (length (take (key_end block) block)) (take i block)) ≡ true) length_is
      (low_found (drop (length (take (key_end block) block)) (take (header_length block) block)) good.ascii))
      (λ e. subst (λ (i : ℕ). HasNoCommentFold (take i block)) length_is (good.comments e))

-- the lines of a list of headers that were read make up a block
abbrev BlockFor : List Header → Type 0
BlockFor hs =
    (index at size : ℕ) (raw block : List ℕ) → read_headers raw ≡ Ok (record { headers = hs; index = index }) → size ≡ at + index → drop at block ≡ take index raw
    → 0 < length hs → AllByRecursion (GoodLine size) (lines_from hs block at) → IsBlock (take index raw)

-- a header that ends where the block ends
at_end : (at size : ℕ) (block : List ℕ) → GoodLine size (line_of at block) → at + header_length block ≡ size → ⊥
at_end at size block good e = let no = good.goes_on in let yes = eq-eqb (at + header_length block) size e in cc

-- the length of a header that ends at the end of the bytes, or before it
pub whole_header : (raw : List ℕ) → length raw ≤ header_end raw → header_length raw ≡ length raw
unfolding header_length
whole_header raw most = omega (arith, most)

pub short_header : (raw : List ℕ) → header_end raw < length raw → header_length raw ≡ suc (header_end raw)
unfolding header_length
short_header raw low = omega (arith, low)

pub flip_drop : (n m : ℕ) (xs : List ℕ) → drop (n + m) xs ≡ drop n (drop m xs)
flip_drop n m xs = ap (λ (i : ℕ). drop i xs) {x = n + m} {y = m + n} (omega arith) ∙ sym (drop-drop n m xs)

one_header : (h : Header) (hs : List Header) → BlockFor hs → BlockFor (h ∷ hs)
one_header h hs ih index at size raw block read is cut some good = by_rest (read_headers (drop (header_length raw) raw)) refl (sym (read_headers-more raw (header_there h hs index raw read)) ∙ read)
  where
    by_last : (hs : List Header) → BlockFor hs → (n j : ℕ) → IsHeader (take n raw) → take index raw ≡ take n raw ++ take j (drop n raw)
        → read_headers (drop n raw) ≡ Ok (record { headers = hs; index = j }) → size ≡ (at + n) + j → drop (at + n) block ≡ take j (drop n raw)
        → AllByRecursion (GoodLine size) (lines_from hs block (at + n)) → (j ≡ 0 → ⊥) → IsBlock (take index raw)
    by_last [] ih n j own split rest total next more left = elim (list_ends (drop n raw) j rest) [
      | inl none ↦ absurd (left none)
      | inr line ↦ last_header own line split
    ]
    by_last (x ∷ xs) ih n j own split rest total next more left = next_header own (ih j (at + n) size (drop n raw) block rest total next (omega arith) more) split

    by_rest : (r : Result HeaderList Refusal) → read_headers (drop (header_length raw) raw) ≡ r
        → with_front (header_of raw ∷ []) (header_length raw) r ≡ Ok (record { headers = h ∷ hs; index = index }) → IsBlock (take index raw)
    by_rest (Err refusal) f g = let no : false ≡ true = ap was_read g in absurd (cc)
    by_rest (Ok b) f g =
        let n = header_length raw in
        let tail : b.headers ≡ hs = ap (λ (r : Result HeaderList Refusal). drop 1 (listed_in r)) g in
        let total : n + b.index ≡ index = ap index_in g in
        let bound = (read_headers-bounded (drop n raw) b f).index in
        let size_left = length-drop n raw in
        let rest : read_headers (drop n raw) ≡ Ok (record { headers = hs; index = b.index }) = f ∙ ap (λ (xs : List Header). Ok (record { headers = xs; index = b.index })) tail in
        let here : GoodLine size (line_of at (take index raw)) = subst (λ (xs : List ℕ). GoodLine size (line_of at xs)) cut good.0 in
        elim (cases_lt (header_end raw) (length raw)) [
          | inr g ↦
              let span = whole_header raw (omega arith) in
              let all : index ≡ length raw = omega (arith, total, bound, size_left, span) in
              let same : take index raw ≡ raw = ap (λ (i : ℕ). take i raw) all ∙ take_all (length raw) raw (omega arith) in
              absurd (at_end at size raw (subst (λ (xs : List ℕ). GoodLine size (line_of at xs)) same here) (omega (arith, is, all, span)))
          | inl l ↦
              let own : n ≡ suc (header_end raw) = short_header raw (omega arith) in
              let within : suc (header_end raw) ≤ index = omega (arith, own, total) in
              let fits : length (take index raw) ≡ index = let size = length-take index raw in omega (arith, size, total, bound, size_left, own, l) in
              let same : header_end (take index raw) ≡ header_end raw = cut_header raw index within in
              let short : suc (header_end (take index raw)) ≤ length (take index raw) = omega (arith, same, within, fits) in
              let header : IsHeader (take n raw) = subst IsHeader
              (ap (λ (i : ℕ). take (suc i) (take index raw)) same ∙ ap (λ (i : ℕ). take i (take index raw)) (sym own) ∙ take_first n index raw (omega (arith, total)))
              (header_is at size (take index raw) short here) in
              let length_cut : header_length (drop at block) ≡ n = ap header_length cut ∙ length_is at size (take index raw) short ∙ ap suc same ∙ sym own in
              let more : AllByRecursion (GoodLine size) (lines_from hs block (at + n)) = subst (λ (i : ℕ). AllByRecursion (GoodLine size) (lines_from hs block (at + i))) length_cut good.1 in
              let next : drop (at + n) block ≡ take b.index (drop n raw) =
              ap (λ (i : ℕ). drop i block) {x = at + n} {y = n + at} (omega arith) ∙ flip_drop n at block ∙ ap (drop n) cut
              ∙ ap (λ (i : ℕ). drop n (take i raw)) (sym total) ∙ drop-take n b.index raw in
              let split : take index raw ≡ take n raw ++ take b.index (drop n raw) = ap (λ (i : ℕ). take i raw) (sym total) ∙ take-add n b.index raw in
              by_last hs ih n b.index header split rest (omega (arith, is, total)) next more
              (λ none. at_end at size (take index raw) here (omega (arith, is, total, none, length_is at size (take index raw) short, same, own)))
        ]

pub lines_block : (hs : List Header) → BlockFor hs
lines_block [] = λ index at size raw block read is cut some good. absurd (omega arith)
lines_block (h ∷ hs) = one_header h hs (lines_block hs)

-- ---- from the grammar to findings

-- a byte above the space is no byte up to it
other_byte : (b c : ℕ) → nat_lt space b ≡ true → nat_lt space c ≡ false → (b == c) ≡ false
other_byte b c h e = elim (cases_Bool (b == c)) [
  | inr f ↦ f
  | inl f ↦ let no : nat_lt space c ≡ true = subst (λ (x : ℕ). nat_lt space x ≡ true) (eqb-true b c f) h in absurd (cc)
]

abbrev header_test : Bool → Bool → Bool → Bool → Bool
header_test feed return_feed return blank = not (false || nat_lt 0 (cond feed 1 (cond return_feed 2 0))) && (not return && not blank)

header_tests : (b : ℕ) (rest : List ℕ) → has_header (b ∷ rest)
    ≡ header_test (has_prefix (10 ∷ []) (b ∷ rest)) (has_prefix (13 ∷ 10 ∷ []) (b ∷ rest)) (has_prefix (13 ∷ []) (b ∷ rest)) (has_prefix (32 ∷ []) (b ∷ rest))
unfolding has_header headers_end blank_line
header_tests b rest = refl

named_header : (b : ℕ) (rest : List ℕ) → nat_lt space b ≡ true → has_header (b ∷ rest) ≡ true
named_header b rest h =
    header_tests b rest
    ∙ ap (λ (t : Bool). header_test t (has_prefix (13 ∷ 10 ∷ []) (b ∷ rest)) (has_prefix (13 ∷ []) (b ∷ rest)) (has_prefix (32 ∷ []) (b ∷ rest))) (one_prefix 10 (b ∷ rest) ∙ other_byte b 10 h refl)
    ∙ ap (λ (t : Bool). header_test false t (has_prefix (13 ∷ []) (b ∷ rest)) (has_prefix (32 ∷ []) (b ∷ rest))) (two_prefix 13 10 b rest ∙ and_left (b == 13) _ (other_byte b 13 h refl))
    ∙ ap (λ (t : Bool). header_test false false t (has_prefix (32 ∷ []) (b ∷ rest))) (one_prefix 13 (b ∷ rest) ∙ other_byte b 13 h refl)
    ∙ ap (λ (t : Bool). header_test false false false t) (one_prefix 32 (b ∷ rest) ∙ other_byte b 32 h refl)

-- a blank line is no header
pub no_header : (line body : List ℕ) → (line ≡ codes "\n") ⊎ (line ≡ codes "\r\n") → has_header (line ++ body) ≡ false
unfolding has_header headers_end blank_line
no_header line body (inl e) = ap (λ (xs : List ℕ). has_header (xs ++ body)) e
no_header line body (inr e) = ap (λ (xs : List ℕ). has_header (xs ++ body)) e

pub line_start : (line body : List ℕ) → (line ≡ codes "\n") ⊎ (line ≡ codes "\r\n") → (begins is_blank (line ++ body) ≡ false) × (0 < length line)
line_start line body (inl e) = subst (λ (xs : List ℕ). (begins is_blank (xs ++ body) ≡ false) × (0 < length xs)) (sym e) (refl, omega arith)
line_start line body (inr e) = subst (λ (xs : List ℕ). (begins is_blank (xs ++ body) ≡ false) × (0 < length xs)) (sym e) (refl, omega arith)

-- a header begins with a byte of its name
header_start : (header rest : List ℕ) → IsHeader header → (begins is_blank (header ++ rest) ≡ false) × (0 < length header)
header_start header rest is =
    let first = (name_parts is.first (all_head is_name_byte is.first is.others is.is_name)).0 in
    subst (λ (xs : List ℕ). (begins is_blank (xs ++ rest) ≡ false) × (0 < length xs)) (sym is.made)
    (or_from (is.first == 32) (is.first == 9) (other_byte is.first 32 first refl) (other_byte is.first 9 first refl), omega arith)

pub block_start : (part body : List ℕ) → IsBlock part → (begins is_blank (part ++ body) ≡ false) × (0 < length part)
block_start part body (last_header {header = header} {line = line} is empty made) = started part body header line (header_start header (line ++ body) is) made
  where
    started : (part body header rest : List ℕ) → (begins is_blank (header ++ (rest ++ body)) ≡ false) × (0 < length header) → part ≡ header ++ rest
        → (begins is_blank (part ++ body) ≡ false) × (0 < length part)
    started part body header rest h made = (
      ap (λ (xs : List ℕ). begins is_blank (xs ++ body)) made ∙ ap (begins is_blank) (append_assoc header rest body) ∙ h.0,
      let size = ap length made ∙ length-append header rest in omega (arith, size, h.1),
    )
block_start part body (next_header {header = header} {rest = rest} is more made) = started part body header rest (header_start header (rest ++ body) is) made
  where
    started : (part body header rest : List ℕ) → (begins is_blank (header ++ (rest ++ body)) ≡ false) × (0 < length header) → part ≡ header ++ rest
        → (begins is_blank (part ++ body) ≡ false) × (0 < length part)
    started part body header rest h made = (
      ap (λ (xs : List ℕ). begins is_blank (xs ++ body)) made ∙ ap (begins is_blank) (append_assoc header rest body) ∙ h.0,
      let size = ap length made ∙ length-append header rest in omega (arith, size, h.1),
    )

-- a header with bytes after it
module _ (header rest : List ℕ) (is : IsHeader header) (after : begins is_blank rest ≡ false) where
  whole_text : header ++ rest ≡ (is.first ∷ is.others) ++ colon ∷ (is.value ++ rest)
  whole_text = ap (λ (xs : List ℕ). xs ++ rest) is.made ∙ append_assoc (is.first ∷ is.others) (colon ∷ is.value) rest

  pub header_size : header_length (header ++ rest) ≡ length header
  header_size = ap header_length whole_text ∙ length_at (is.first ∷ is.others) is.value rest is.is_name is.is_value after ∙ sym (ap length is.made)

  pub starts : has_header (header ++ rest) ≡ true
  starts =
      ap (λ (xs : List ℕ). has_header (xs ++ rest)) is.made
      ∙ named_header is.first ((is.others ++ colon ∷ is.value) ++ rest) (name_parts is.first (all_head is_name_byte is.first is.others is.is_name)).0

  key_is : take (key_end (header ++ rest)) (header ++ rest) ≡ is.first ∷ is.others
  key_is =
      ap (λ (xs : List ℕ). take (key_end xs) xs) whole_text
      ∙ ap (λ (n : ℕ). take n ((is.first ∷ is.others) ++ colon ∷ (is.value ++ rest))) (key_at (is.first ∷ is.others) is.value rest is.is_name is.is_value after)
      ∙ front (is.first ∷ is.others) (colon ∷ (is.value ++ rest))

  bytes_are : take (header_length (header ++ rest)) (header ++ rest) ≡ (is.first ∷ is.others) ++ colon ∷ is.value
  bytes_are = ap (λ (n : ℕ). take n (header ++ rest)) header_size ∙ front header rest ∙ is.made

  header_good : (at size : ℕ) → 0 < length rest → size ≡ at + (length header + length rest) → GoodLine size (line_of at (header ++ rest))
  header_good at size some total = record {
    goes_on = elim (cases_Bool (at + header_length (header ++ rest) == size)) [
      | inr e ↦ e
      | inl e ↦ let same = eqb-true (at + header_length (header ++ rest)) size e in absurd (omega (arith, same, some, total, header_size))
    ];
    key = good_key (line_of at (header ++ rest)) is.first is.others is.value is.is_name is.one_colon key_is bytes_are;
    folds = subst (λ (xs : List ℕ). Nowhere (is_blank_fold xs) xs) (sym bytes_are) (header_folds (is.first ∷ is.others) is.value is.is_name is.is_value);
    ascii =
        ap (λ (xs : List ℕ). is_some (first_byte is_high (drop (length xs) (take (header_length (header ++ rest)) (header ++ rest))))) key_is
        ∙ ap (λ (xs : List ℕ). is_some (first_byte is_high (drop (length (is.first ∷ is.others)) xs))) bytes_are
        ∙ ap (λ (xs : List ℕ). is_some (first_byte is_high xs)) (past_name (is.first ∷ is.others) (colon ∷ is.value))
        ∙ ap (λ (o : Option ℕ). is_some o) (header_low is.value is.is_value);
    comments = λ e. subst HasNoCommentFold (is.made ∙ sym bytes_are) (is.comments (subst (λ (xs : List ℕ). is_address_name xs ≡ true) key_is e));
  }

-- the first header of a list that was read, and the others
record FirstRead (raw : List ℕ) (hs : List Header) : Type 0 where
  others : List Header
  index : ℕ
  is : hs ≡ header_of raw ∷ others
  read : read_headers (drop (header_length raw) raw) ≡ Ok (record { headers = others; index = index })

first_read : (raw : List ℕ) (hs : List Header) (index : ℕ) → has_header raw ≡ true → read_headers raw ≡ Ok (record { headers = hs; index = index }) → FirstRead raw hs
first_read raw hs index there read = by_rest (read_headers (drop (header_length raw) raw)) refl (sym (read_headers-more raw there) ∙ read)
  where
    by_rest : (r : Result HeaderList Refusal) → read_headers (drop (header_length raw) raw) ≡ r
        → with_front (header_of raw ∷ []) (header_length raw) r ≡ Ok (record { headers = hs; index = index }) → FirstRead raw hs
    by_rest (Err refusal) f g = let no : false ≡ true = ap was_read g in absurd (cc)
    by_rest (Ok b) f g = record { others = b.headers; index = b.index; is = sym (ap listed_in g); read = f }

-- the headers of a part of a block, with the bytes of a body after it
abbrev LinesFor : List ℕ → Type 0
LinesFor part =
    (body : List ℕ) (at size : ℕ) (hs : List Header) (index : ℕ) (block : List ℕ) → read_headers (part ++ body) ≡ Ok (record { headers = hs; index = index })
    → drop at block ≡ part → size ≡ at + length part → AllByRecursion (GoodLine size) (lines_from hs block at) × (0 < length hs)

-- one header, and those after it
header_lines_for : (header rest part : List ℕ) → IsHeader header → begins is_blank rest ≡ false → 0 < length rest → part ≡ header ++ rest
    → ((body : List ℕ) → begins is_blank (rest ++ body) ≡ false)
    → ((body : List ℕ) (at size : ℕ) (hs : List Header) (index : ℕ) (block : List ℕ) → read_headers (rest ++ body) ≡ Ok (record { headers = hs; index = index })
    → drop at block ≡ rest → size ≡ at + length rest → AllByRecursion (GoodLine size) (lines_from hs block at))
    → LinesFor part
header_lines_for header rest part is after some made starting ih body at size hs index block read cut total =
    let whole : part ++ body ≡ header ++ (rest ++ body) = ap (λ (xs : List ℕ). xs ++ body) made ∙ append_assoc header rest body in
    let found = first_read (header ++ (rest ++ body)) hs index (starts header (rest ++ body) is (starting body)) (ap read_headers (sym whole) ∙ read) in
    let size_is = header_size header (rest ++ body) is (starting body) in
    let read_rest : read_headers (rest ++ body) ≡ Ok (record { headers = found.others; index = found.index }) =
    sym (ap read_headers (ap (λ (n : ℕ). drop n (header ++ (rest ++ body))) size_is ∙ past_name header (rest ++ body))) ∙ found.read in
    let long = ap length made ∙ length-append header rest in
    let cut_here : drop at block ≡ header ++ rest = cut ∙ made in
    let own : GoodLine size (line_of at (drop at block)) = subst (λ (xs : List ℕ). GoodLine size (line_of at xs)) (sym cut_here)
    (header_good header rest is after at size some (omega (arith, total, long))) in
    let own_size : header_length (drop at block) ≡ length header = ap header_length cut_here ∙ header_size header rest is after in
    let next : drop (at + length header) block ≡ rest =
    ap (λ (i : ℕ). drop i block) {x = at + length header} {y = length header + at} (omega arith) ∙ flip_drop (length header) at block ∙ ap (drop (length header)) cut_here ∙ past_name header rest in
    let later : AllByRecursion (GoodLine size) (lines_from found.others block (at + length header)) = ih body (at + length header) size found.others found.index block read_rest next (omega (arith, total, long)) in
    let all : AllByRecursion (GoodLine size) (lines_from (header_of (header ++ (rest ++ body)) ∷ found.others) block at) =
    (own, subst (λ (i : ℕ). AllByRecursion (GoodLine size) (lines_from found.others block (at + i))) (sym own_size) later) in
    subst (λ (xs : List Header). AllByRecursion (GoodLine size) (lines_from xs block at) × (0 < length xs)) (sym found.is) (all, omega arith)

-- no header is left before the blank line
none_left : (line body : List ℕ) → (line ≡ codes "\n") ⊎ (line ≡ codes "\r\n") → (at size : ℕ) (hs : List Header) (index : ℕ) (block : List ℕ)
    → read_headers (line ++ body) ≡ Ok (record { headers = hs; index = index }) → AllByRecursion (GoodLine size) (lines_from hs block at)
none_left line body empty at size hs index block read =
    let none : [] ≡ hs = sym (no_headers (line ++ body) (no_header line body empty)) ∙ ap listed_in read in
    subst (λ (xs : List Header). AllByRecursion (GoodLine size) (lines_from xs block at)) none tt

pub block_lines : (part : List ℕ) → IsBlock part → LinesFor part
block_lines part (last_header {header = header} {line = line} is empty made) =
    let start = line_start line [] empty in
    header_lines_for header line part is (subst (λ (xs : List ℕ). begins is_blank xs ≡ false) (append-nil line) start.0) start.1 made
    (λ body. (line_start line body empty).0)
    (λ body at size hs index block read cut total. none_left line body empty at size hs index block read)
block_lines part (next_header {header = header} {rest = rest} is more made) =
    let start = block_start rest [] more in
    let ih = block_lines rest more in
    header_lines_for header rest part is (subst (λ (xs : List ℕ). begins is_blank xs ≡ false) (append-nil rest) start.0) start.1 made
    (λ body. (block_start rest body more).0)
    (λ body at size hs index block read cut total. (ih body at size hs index block read cut total).0)
