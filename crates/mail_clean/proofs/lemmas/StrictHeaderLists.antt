-- The headers of a block by the grammar of strict mails are those that are read, and each block of the grammar has some.
use Rattle.std.proofs.Common.{◌≡◌, ◌∙◌, ◌+◌, ◌-◌, ℕ, suc, Bool, true, false, not, List, [], ◌∷◌, ◌++◌, length, take, drop, Result}
use Rattle.std.proofs.Common.{Ok, Err, eqb, refl, sym, ap, subst, inl, inr, arith, append_assoc, length-append}
use Rattle.std.specs.Prelude.{◌==◌, slice_range}
use Rattle.std.specs.List.{list_all}
use Rattle.std.proofs.lemmas.Bool.{eqb-true}
use Rattle.std.proofs.lemmas.Bool.{and_from, and_left, and_parts, and_right, cases_Bool}
use Rattle.std.proofs.lemmas.List.{drop-drop}
use Rattle.mail_codec.specs.Ascii.{colon, is_blank, line_feed, space}
use Rattle.mail_codec.specs.Places.{begins, first_place}
use Rattle.mail_codec.proofs.lemmas.Places.{first_place-here, first_place-past}
use Rattle.mailparse.specs.Block.{HeaderList, blank_line, headers_end, read_headers}
use Rattle.mailparse.specs.Header.{Header, ends_header, header_length, header_of, is_line_end}
use Rattle.mailparse.specs.Refusal.{Refusal}
use Rattle.mailparse.proofs.lemmas.Block.{end_at, read_headers-more, read_headers-none, with_front}
use Rattle.mailparse.proofs.lemmas.Header.{header_of-value}
use Rattle.mail_grammar.specs.Headers.{IsBlock, last_header, next_header, IsHeader, IsValue, value_byte, value_ends}
use Rattle.mail_grammar.specs.Headers.{value_folds}
use Rattle.mail_grammar.specs.LineEnds.{IsLineEnd}
use Rattle.mail_check_laws.proofs.lemmas.Blocks.{block_start, header_size, line_start, no_header, starts}
use Rattle.mail_check_laws.proofs.lemmas.Headers as strict_headers
use Rattle.mail_check_laws.proofs.lemmas.Headers.{front}
use Rattle.mail_check_laws.proofs.lemmas.Headers.{past_name}
use Rattle.mail_clean.specs.StrictMails.{AreHeaders, last_of_all, before_more, EndsInOther, no_last, last_other, before_others}
use Rattle.mail_clean.specs.StrictMails.{IsHeaderOf}
use Rattle.mail_grammar.proofs.lemmas.Boundaries.{all_head, all_tail}

-- ---- values

-- the first LF that no blank follows is the last byte of a value
value_size : (value rest : List ℕ) → IsValue value → begins is_blank rest ≡ false
    → suc (first_place ends_header (value ++ rest)) ≡ length value
value_size value rest value_ends after = ap suc (first_place-here ends_header (line_feed ∷ rest) (ap not after))
value_size value rest (value_byte {b = b} {rest = more} is left) after =
    ap suc (first_place-past ends_header b (more ++ rest)
    (and_left (b == line_feed) _ (other (b == line_feed) (and_parts _ (not (b == line_feed)) is).1))
    ∙ value_size more rest left after)
  where
    other : (t : Bool) → not t ≡ true → t ≡ false
    other true h = sym h
    other false h = refl
value_size value rest (value_folds {rest = more} blank text left made) after =
    subst (λ (xs : List ℕ). suc (first_place ends_header (xs ++ rest)) ≡ length xs) (sym made)
    (ap suc (first_place-past ends_header line_feed (more ++ rest) (ap not (blank_more more blank))
    ∙ value_size more rest left after))
  where
    blank_more : (more : List ℕ) → begins is_blank more ≡ true → begins is_blank (more ++ rest) ≡ true
    blank_more [] h = let clash : false ≡ true = h in absurd (cc)
    blank_more (b ∷ more) h = h

-- spaces are passed
spaces_passed : (spaces xs : List ℕ) → list_all (λ b. b == space) spaces ≡ true → begins (λ b. b == space) xs ≡ false
    → first_place (begins (λ b. not (eqb b 32))) (spaces ++ xs) ≡ length spaces
spaces_passed [] [] all other = refl
spaces_passed [] (b ∷ xs) all other = first_place-here (begins (λ b. not (eqb b 32))) (b ∷ xs) (ap not other)
spaces_passed (s ∷ spaces) xs all other =
    first_place-past (begins (λ b. not (eqb b 32))) s (spaces ++ xs) (ap not (all_head (λ b. b == space) s spaces all))
    ∙ ap suc (spaces_passed spaces xs (all_tail (λ b. b == space) s spaces all) other)

-- bytes of line ends are left
not_all : (b : ℕ) (value ends : List ℕ) → EndsInOther is_line_end (b ∷ value) → list_all is_line_end ((b ∷ value) ++ ends) ≡ false
not_all b value ends (last_other fails) = and_left (is_line_end b) (list_all is_line_end ends) fails
not_all b value ends (before_others {c = c} {rest = rest} more) =
    and_right (is_line_end b) (list_all is_line_end ((c ∷ rest) ++ ends)) (not_all c rest ends more)

ends_left : (value ends : List ℕ) → EndsInOther is_line_end value → list_all is_line_end ends ≡ true
    → first_place (list_all is_line_end) (value ++ ends) ≡ length value
ends_left value ends no_last all = first_place-here (list_all is_line_end) ends all
ends_left value ends (last_other {b = b} fails) all =
    first_place-past (list_all is_line_end) b ends (and_left (is_line_end b) (list_all is_line_end ends) fails)
    ∙ ap suc (first_place-here (list_all is_line_end) ends all)
ends_left value ends (before_others {b = b} {c = c} {rest = rest} more) all =
    first_place-past (list_all is_line_end) b ((c ∷ rest) ++ ends)
    (and_right (is_line_end b) (list_all is_line_end ((c ∷ rest) ++ ends)) (not_all c rest ends more))
    ∙ ap suc (ends_left (c ∷ rest) ends more all)

spaceless : (value ends : List ℕ) → begins (λ b. b == space) value ≡ false → list_all is_line_end ends ≡ true
    → begins (λ b. b == space) (value ++ ends) ≡ false
spaceless (b ∷ value) ends other all = other
spaceless [] [] other all = refl
spaceless [] (c ∷ ends) other all = elim (cases_Bool (c == space)) [
  | inr e ↦ e
  | inl e ↦ let is : is_line_end 32 ≡ true = ap is_line_end (sym (eqb-true c space e))
      ∙ all_head is_line_end c ends all in absurd (cc)
]

-- ---- a header

module _ (header : Header) (part rest : List ℕ) (of : IsHeaderOf header part) (after : begins is_blank rest ≡ false) where
  abbrev name : List ℕ
  name = of.is.first ∷ of.is.others

  abbrev value : List ℕ
  value = of.is.value

  abbrev raw : List ℕ
  raw = name ++ colon ∷ (value ++ rest)

  abbrev inner : List ℕ
  inner = of.spaces ++ (header.value ++ of.ends)

  whole_text : part ++ rest ≡ raw
  whole_text = ap (λ (xs : List ℕ). xs ++ rest) of.is.made ∙ append_assoc name (colon ∷ value) rest

  inner_there : value ++ rest ≡ inner ++ (line_feed ∷ rest)
  inner_there =
      ap (λ (xs : List ℕ). xs ++ rest)
      (of.value ∙ ap (λ (xs : List ℕ). of.spaces ++ xs) (sym (append_assoc header.value of.ends (line_feed ∷ [])))
      ∙ sym (append_assoc of.spaces (header.value ++ of.ends) (line_feed ∷ [])))
      ∙ append_assoc inner (line_feed ∷ []) rest

  abbrev end : ℕ
  end = suc (length name) + first_place ends_header (value ++ rest)

  inner_size : first_place ends_header (value ++ rest) ≡ length inner
  inner_size =
      let size = value_size value rest of.is.is_value after in
      let whole = ap length inner_there in
      let a = length-append value rest in
      let b = length-append inner (line_feed ∷ rest) in
      omega (arith, size, whole, a, b)

  inner_is : inner ≡ slice_range raw (length name + 1) end
  inner_is =
      let size : end - (length name + 1) ≡ length inner = let e = inner_size in omega (arith, e) in
      let there : drop (length name + 1) raw ≡ inner ++ (line_feed ∷ rest) =
      sym (drop-drop 1 (length name) raw) ∙ ap (drop 1) (past_name name (colon ∷ (value ++ rest))) ∙ inner_there in
      sym (ap (λ (n : ℕ). take n (drop (length name + 1) raw)) size ∙ ap (take (length inner)) there
      ∙ front inner (line_feed ∷ rest))

  -- it is the one that is read
  header_is : header_of (part ++ rest) ≡ header
  header_is =
      let is = of.is in
      let left : header.value ++ of.ends ≡ drop (first_place (begins (λ b. not (eqb b 32))) inner) inner =
      sym (ap (λ (n : ℕ). drop n inner)
      (spaces_passed of.spaces (header.value ++ of.ends) of.all_spaces
      (spaceless header.value of.ends of.no_space of.all_ends))
      ∙ past_name of.spaces (header.value ++ of.ends)) in
      let trimmed : header.value ≡ take (first_place (list_all is_line_end) (header.value ++ of.ends)) (header.value ++ of.ends) =
      sym (ap (λ (n : ℕ). take n (header.value ++ of.ends)) (ends_left header.value of.ends of.no_end of.all_ends)
      ∙ front header.value of.ends) in
      ap header_of whole_text
      ∙ header_of-value raw (length name) end
      (strict_headers.colon_at name value rest is.is_name is.is_value after)
      (sym (strict_headers.key_at name value rest is.is_name is.is_value after))
      (sym (strict_headers.end_at name value rest is.is_name is.is_value after))
      inner (header.value ++ of.ends) header.value inner_is left trimmed
      ∙ ap (λ (key : List ℕ). let h : Header = record { key = key; value = header.value } in h)
      (front name (colon ∷ (value ++ rest)) ∙ sym of.key)

-- ---- blocks

pub is_block : (headers : List Header) (part : List ℕ) → AreHeaders headers part → IsBlock part
is_block headers part (last_of_all of ends made) = last_header of.is ends made
is_block headers part (before_more {headers = others} {rest = rest} of more made) = next_header of.is
    (is_block others rest more) made

line_ends_block : (line body : List ℕ) → IsLineEnd line
    → end_at [] 0 (line ++ body) ≡ Ok (record { headers = []; index = length line })
unfolding headers_end blank_line
line_ends_block line body (inl e) = subst
    (λ (xs : List ℕ). end_at [] 0 (xs ++ body) ≡ Ok (record { headers = []; index = length xs })) (sym e) refl
line_ends_block line body (inr e) = subst
    (λ (xs : List ℕ). end_at [] 0 (xs ++ body) ≡ Ok (record { headers = []; index = length xs })) (sym e) refl

line_only : (line body : List ℕ) → IsLineEnd line
    → read_headers (line ++ body) ≡ Ok (record { headers = []; index = length line })
line_only line body ends = read_headers-none (line ++ body) (no_header line body ends) ∙ line_ends_block line body ends

first_more : (header : Header) (headers : List Header) (part rest whole body : List ℕ) → IsHeaderOf header part
    → begins is_blank (rest ++ body) ≡ false → whole ≡ part ++ rest
    → read_headers (rest ++ body) ≡ Ok (record { headers = headers; index = length rest })
    → read_headers (whole ++ body) ≡ Ok (record { headers = header ∷ headers; index = length whole })
first_more header headers part rest whole body of after made more =
    let text : whole ++ body ≡ part ++ (rest ++ body) = ap (λ (xs : List ℕ). xs ++ body) made ∙ append_assoc part rest body in
    let raw = part ++ (rest ++ body) in
    let size = header_size part (rest ++ body) of.is after in
    let left : drop (header_length raw) raw ≡ rest ++ body = ap (λ (n : ℕ). drop n raw) size ∙ past_name part (rest ++ body) in
    let total : header_length raw + length rest ≡ length whole = ap (λ (n : ℕ). n + length rest) size
    ∙ sym (length-append part rest) ∙ sym (ap length made) in
    ap read_headers text
    ∙ read_headers-more raw (starts part (rest ++ body) of.is after)
    ∙ ap (λ (xs : List ℕ). with_front (header_of raw ∷ []) (header_length raw) (read_headers xs)) left
    ∙ ap (with_front (header_of raw ∷ []) (header_length raw)) more
    ∙ ap (λ (n : ℕ). Ok (record { headers = header_of raw ∷ headers; index = n })) total
    ∙ ap (λ (h : Header). Ok (record { headers = h ∷ headers; index = length whole }))
    (header_is header part (rest ++ body) of after)

pub headers_read : (headers : List Header) (part : List ℕ) → AreHeaders headers part → (body : List ℕ)
    → read_headers (part ++ body) ≡ Ok (record { headers = headers; index = length part })
headers_read headers part (last_of_all {header = header} {part = own} {line = line} of ends made) body =
    first_more header [] own line part body of (line_start line body ends).0 made (line_only line body ends)
headers_read headers part (before_more {header = header} {headers = others} {part = own} {rest = rest} of more made) body =
    first_more header others own rest part body of (block_start rest body (is_block others rest more)).0 made
    (headers_read others rest more body)

pub one_list : (headers others : List Header) (part : List ℕ) → AreHeaders headers part → AreHeaders others part
    → headers ≡ others
one_list headers others part are also =
    let same : ◌≡◌ {A = Result HeaderList Refusal} (Ok (record { headers = headers; index = length part }))
    (Ok (record { headers = others; index = length part })) =
    sym (headers_read headers part are []) ∙ headers_read others part also [] in
    ap headers_in same
  where
    headers_in : Result HeaderList Refusal → List Header
    headers_in (Ok block) = block.headers
    headers_in (Err refusal) = []

-- ---- each block has headers

-- bytes without the spaces before them
record HasSpaces (xs : List ℕ) : Type 0 where
  spaces : List ℕ
  left : List ℕ
  made : xs ≡ spaces ++ left
  all : list_all (λ b. b == space) spaces ≡ true
  other : begins (λ b. b == space) left ≡ false

spaces_of : (xs : List ℕ) → HasSpaces xs
spaces_of [] = record { spaces = []; left = []; made = refl; all = refl; other = refl }
spaces_of (b ∷ xs) = elim (cases_Bool (b == space)) [
  | inr e ↦ record { spaces = []; left = b ∷ xs; made = refl; all = refl; other = e }
  | inl e ↦
      let more = spaces_of xs in
      record {
        spaces = b ∷ more.spaces;
        left = more.left;
        made = ap (λ (ys : List ℕ). b ∷ ys) more.made;
        all = and_from (b == space) (list_all (λ b. b == space) more.spaces) e more.all;
        other = more.other;
      }
]

-- bytes without those of line ends after them
record HasEnds (xs : List ℕ) : Type 0 where
  kept : List ℕ
  ends : List ℕ
  made : xs ≡ kept ++ ends
  all : list_all is_line_end ends ≡ true
  other : EndsInOther is_line_end kept

ends_of : (xs : List ℕ) → HasEnds xs
ends_of [] = record { kept = []; ends = []; made = refl; all = refl; other = no_last }
ends_of (b ∷ xs) = let more = ends_of xs in by_kept more.kept more.ends more.made more.all more.other
  where
    by_kept : (kept ends : List ℕ) → xs ≡ kept ++ ends → list_all is_line_end ends ≡ true → EndsInOther is_line_end kept
        → HasEnds (b ∷ xs)
    by_kept (c ∷ kept) ends made all other =
        record {
          kept = b ∷ (c ∷ kept);
          ends = ends;
          made = ap
              (λ (ys : List ℕ). b ∷ ys) made;
          all = all;
          other = before_others other;
        }
    by_kept [] ends made all other = elim (cases_Bool (is_line_end b)) [
      | inl e ↦ record {
        kept = [];
        ends = b ∷ ends;
        made = ap (λ (ys : List ℕ). b ∷ ys) made;
        all = and_from (is_line_end b)
            (list_all is_line_end ends) e all;
        other = no_last;
      }
      | inr e ↦ record { kept = b ∷ []; ends = ends; made = ap (λ (ys : List ℕ). b ∷ ys) made; all = all; other = last_other e }
    ]

last_feed : (bytes : List ℕ) → IsValue bytes → (inner : List ℕ) × (bytes ≡ inner ++ line_feed ∷ [])
last_feed bytes value_ends = ([], refl)
last_feed bytes (value_byte {b = b} {rest = rest} is more) =
    let last = last_feed rest more in
    (b ∷ last.0, ap (λ (xs : List ℕ). b ∷ xs) last.1)
last_feed bytes (value_folds {rest = rest} blank text more made) =
    let last = last_feed rest more in
    (line_feed ∷ last.0, made ∙ ap (λ (xs : List ℕ). line_feed ∷ xs) last.1)

kept_start : (kept ends : List ℕ) → begins (λ b. b == space) (kept ++ ends) ≡ false → begins (λ b. b == space) kept ≡ false
kept_start [] ends h = refl
kept_start (b ∷ kept) ends h = h

header_there : (part : List ℕ) → IsHeader part → (header : Header) × IsHeaderOf header part
header_there part is =
    let last = last_feed is.value is.is_value in
    let first = spaces_of last.0 in
    let trimmed = ends_of first.left in
    let header : Header = record { key = is.first ∷ is.others; value = trimmed.kept } in (
      header,
      record {
        is = is;
        spaces = first.spaces;
        ends = trimmed.ends;
        key = refl;
        value =
            last.1
            ∙ ap (λ (xs : List ℕ). xs ++ line_feed ∷ []) (first.made ∙ ap (λ (xs : List ℕ). first.spaces ++ xs) trimmed.made)
            ∙ append_assoc first.spaces (trimmed.kept ++ trimmed.ends) (line_feed ∷ [])
            ∙ ap (λ (xs : List ℕ). first.spaces ++ xs) (append_assoc trimmed.kept trimmed.ends (line_feed ∷ []));
        all_spaces = first.all;
        all_ends = trimmed.all;
        no_space = kept_start trimmed.kept trimmed.ends (sym (ap (begins (λ b. b == space)) trimmed.made) ∙ first.other);
        no_end = trimmed.other;
      },
    )

pub headers_there : (part : List ℕ) → IsBlock part → (headers : List Header) × AreHeaders headers part
headers_there part (last_header {header = own} is ends made) =
    let first = header_there own is in
    (first.0 ∷ [], last_of_all first.1 ends made)
headers_there part (next_header {header = own} {rest = rest} is more made) =
    let first = header_there own is in
    let others = headers_there rest more in
    (first.0 ∷ others.0, before_more first.1 others.1 made)
