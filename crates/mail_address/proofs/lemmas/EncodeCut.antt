-- A text that is cut into words character by character, and written as it is cut.
use Rattle.std.proofs.Common.{◌≡◌, ℕ, ◌+◌, ◌-◌, ◌<◌, ◌≤◌, List, [], ◌∷◌, ◌++◌, length, take, drop, Result, Ok, Err, OnOk, refl, sym, ap, subst, ◌∙◌, arith, append_assoc, length-append, length-drop, take-add}
use Rattle.std.specs.Prelude.{nat_le, encode_utf8_all, codes}
use Rattle.std.specs.Char.{encode_utf8, len_utf8}
use Rattle.std.specs.Str.{chars, IsUtf8, IsCharBoundary}
use Rattle.std.proofs.lemmas.Bool.{cond_both, cond-true, cond-false, le-leb, lt-leb}
use Rattle.std.proofs.lemmas.List.{append-nil, take_all, take-append-le, drop-drop, length-take-le}
use Rattle.std.proofs.lemmas.Str.{chars-nil, chars_past_char, encodes-append, encodes-chars, IsCharBoundary-start, length-encode, IsUtf8-past_char, IsCharBoundary-past_char, drop_past_char}
use Rattle.mail_address.specs.Encode.{most, size, letters, one_word, encoded_word, word_lines, words_after, words_of}
use Rattle.mail_address.proofs.lemmas.Encode.{size-one}

-- the written bytes, the start and the end of the current word, and the rest of the text
pub record Cutting (text old written : List ℕ) (start end : ℕ) (rest : List ℕ) : Type 0 where
  pub utf8 : IsUtf8 rest
  pub rest_is : drop end text ≡ rest
  pub ordered : start ≤ end
  pub within : end ≤ length text
  pub starts : IsCharBoundary text start
  pub ends : IsCharBoundary text end
  pub word : List ℕ
  pub word_is : encode_utf8_all word ≡ take (end - start) (drop start text)
  pub lines : written ++ word_lines (words_after word (chars rest)) ≡ old ++ word_lines (words_of (chars text))

-- ---- the words step by step

words_begin : (c : ℕ) (cs : List ℕ) → words_after [] (c ∷ cs) ≡ words_of (c ∷ cs)
words_begin c cs = cond-true _ _ _ (le-leb _ _ (size-one c))

words_some : (word cs : List ℕ) → (first : List ℕ) × (more : List (List ℕ)) × (words_after word cs ≡ first ∷ more)
words_some word [] = (word, [], refl)
words_some word (c ∷ cs) =
    cond_both (nat_le (size (word ++ c ∷ [])) most) _ _ (λ ws. (first : List ℕ) × (more : List (List ℕ)) × (ws ≡ first ∷ more)) (λ e. words_some (word ++ c ∷ []) cs)
    (λ e. (word, words_after (c ∷ []) cs, refl))

lines_more : (word next cs : List ℕ)
    → word_lines (word ∷ words_after next cs) ≡ encoded_word word ++ (13 ∷ 10 ∷ 32 ∷ word_lines (words_after next cs))
lines_more word next cs =
    let some = words_some next cs in
    ap (λ ws. word_lines (word ∷ ws)) some.2 ∙ sym (ap (λ ws. encoded_word word ++ (13 ∷ 10 ∷ 32 ∷ word_lines ws)) some.2)

-- ---- the start

chars_begin : (text cs : List ℕ) → 0 < length text → IsUtf8 text → chars text ≡ cs → words_after [] cs ≡ words_of cs
chars_begin text [] some utf8 e =
    let none : text ≡ [] = sym (encodes-chars text utf8) ∙ ap encode_utf8_all e in
    let zero : length text ≡ 0 = ap length none in
    absurd (omega arith)
chars_begin text (c ∷ cs) some utf8 e = words_begin c cs

pub cutting_starts : (text old rest : List ℕ) → 0 < length text → IsUtf8 text → rest ≡ text → Cutting text old old 0 0 rest
cutting_starts text old rest some utf8 all = record {
  utf8 = subst IsUtf8 (sym all) utf8;
  rest_is = sym all;
  ordered = omega arith;
  within = omega arith;
  starts = IsCharBoundary-start text utf8;
  ends = IsCharBoundary-start text utf8;
  word = [];
  word_is = refl;
  lines = ap (λ r. old ++ word_lines (words_after [] (chars r))) all ∙ ap (λ ws. old ++ word_lines ws) (chars_begin text (chars text) some utf8 refl);
}

-- ---- a character that fits

module _ (text old written rest next : List ℕ) (start end c len : ℕ) (now : Cutting text old written start end rest) (cut : rest ≡ encode_utf8 c ++ next) (len_is : len ≡ len_utf8 c) where
  past : drop end text ≡ encode_utf8 c ++ next
  past = now.rest_is ∙ cut

  rest_next : drop (end + len) text ≡ next
  rest_next = ap (λ n. drop (end + n) text) len_is ∙ drop_past_char text next end c past

  pub fits : end + len ≤ length text
  fits =
      let a = length-drop end text in
      let b : length (drop end text) ≡ length (encode_utf8 c) + length next = ap length past ∙ length-append (encode_utf8 c) next in
      let d = length-encode c in
      let e = now.within in
      omega (arith, len_is)

  boundary_next : IsCharBoundary text (end + len)
  boundary_next = subst (λ n. IsCharBoundary text (end + n)) (sym len_is) (IsCharBoundary-past_char text next end c now.within (subst IsUtf8 (sym now.rest_is) now.utf8) past)

  chars_here : chars rest ≡ c ∷ chars next
  chars_here = chars_past_char rest next c now.utf8 cut

  -- the bytes of that character
  char_is : take len (drop end text) ≡ encode_utf8 c
  char_is =
      let whole : len ≡ length (encode_utf8 c) = len_is ∙ sym (length-encode c) in
      ap (take len) past ∙ take-append-le len (encode_utf8 c) next (omega arith) ∙ take_all len (encode_utf8 c) (omega arith)

  word_next : (s : ℕ) → s ≤ end → (word : List ℕ) → encode_utf8_all word ≡ take (end - s) (drop s text)
      → encode_utf8_all (word ++ c ∷ []) ≡ take (end + len - s) (drop s text)
  word_next s le word e =
      let there : drop (end - s) (drop s text) ≡ drop end text = drop-drop (end - s) s text ∙ ap (λ k. drop k text) (omega arith) in
      encodes-append word (c ∷ []) ∙ ap (λ r. encode_utf8_all word ++ r) (append-nil (encode_utf8 c))
      ∙ ap (λ r. r ++ encode_utf8 c) e ∙ ap (λ r. take (end - s) (drop s text) ++ r) (sym (ap (take len) there ∙ char_is))
      ∙ sym (take-add (end - s) len (drop s text))
      ∙ ap (λ n. take n (drop s text)) (omega arith)

  -- how large the word is with that character
  size_next : size (now.word ++ c ∷ []) ≡ end + len - start
  size_next =
      let a = length-drop start text in
      let o = now.ordered in
      let r = fits in
      ap length (word_next start now.ordered now.word now.word_is) ∙ length-take-le (end + len - start) (drop start text) (omega arith)

  pub cutting_goes_on : end + len - start ≤ most → Cutting text old written start (end + len) next
  cutting_goes_on few = record {
    utf8 = IsUtf8-past_char rest next c now.utf8 cut;
    rest_is = rest_next;
    ordered = omega (arith, now.ordered);
    within = fits;
    starts = now.starts;
    ends = boundary_next;
    word = now.word ++ c ∷ [];
    word_is = word_next start now.ordered now.word now.word_is;
    lines = ap (λ ws. written ++ word_lines ws)
        (sym (ap (words_after now.word) chars_here ∙ cond-true _ _ _ (le-leb (size (now.word ++ c ∷ [])) most (let s = size_next in omega arith))))
        ∙ now.lines;
  }

  -- a character that does not
  pub cutting_cuts : (middle new : List ℕ) → most < end + len - start
      → middle ≡ written ++ one_word (take (end - start) (drop start text))
      → new ≡ middle ++ 13 ∷ 10 ∷ 32 ∷ [] → Cutting text old new end (end + len) next
  cutting_cuts middle new many m n = record {
    utf8 = IsUtf8-past_char rest next c now.utf8 cut;
    rest_is = rest_next;
    ordered = omega arith;
    within = fits;
    starts = now.ends;
    ends = boundary_next;
    word = c ∷ [];
    word_is = let none : 0 ≡ end - end = omega arith in word_next end (omega arith) [] (ap (λ k. take k (drop end text)) none);
    lines =
        let here : middle ≡ written ++ encoded_word now.word = m ∙ ap (λ b. written ++ one_word b) (sym now.word_is) in
        let more : List ℕ = word_lines (words_after (c ∷ []) (chars next)) in
        ap (λ w. w ++ more) (n ∙ ap (λ w. w ++ 13 ∷ 10 ∷ 32 ∷ []) here)
        ∙ append_assoc (written ++ encoded_word now.word) (13 ∷ 10 ∷ 32 ∷ []) more
        ∙ append_assoc written (encoded_word now.word) (13 ∷ 10 ∷ 32 ∷ more)
        ∙ ap (λ r. written ++ r) (sym (lines_more now.word (c ∷ []) (chars next)))
        ∙ ap (λ ws. written ++ word_lines ws)
        (sym (ap (words_after now.word) chars_here ∙ cond-false _ _ _ (lt-leb (size (now.word ++ c ∷ [])) most (let s = size_next in omega arith))))
        ∙ now.lines;
  }

-- ---- the end

pub cutting_ends : (text old written rest new : List ℕ) (start end : ℕ) → Cutting text old written start end rest → rest ≡ []
    → new ≡ written ++ one_word (drop start text)
    → new ≡ old ++ word_lines (words_of (chars text))
cutting_ends text old written rest new start end now none n =
    let a = length-drop end text in
    let b : length (drop end text) ≡ 0 = ap length (now.rest_is ∙ none) in
    let w = now.within in
    let len = length-drop start text in
    let all : encode_utf8_all now.word ≡ drop start text = now.word_is ∙ take_all (end - start) (drop start text) (omega arith) in
    n ∙ ap (λ b. written ++ one_word b) (sym all)
    ∙ ap (λ cs. written ++ word_lines (words_after now.word cs)) (sym (ap chars none ∙ chars-nil))
    ∙ now.lines

-- ---- one word

-- a consequence of what a call's success implies
pub on_ok_then : {T E P Q : Type 0} (r : Result T E) → OnOk r P → (P → Q) → OnOk r Q
on_ok_then (Ok x) p done = done p
on_ok_then (Err x) p done = _

-- a word is written in three pieces
pub word_pushed : (old first second new word bytes : List ℕ) → first ≡ old ++ codes "=?utf-8?B?" → bytes ≡ word
    → second ≡ first ++ letters bytes → new ≡ second ++ codes "?="
    → new ≡ old ++ one_word word
word_pushed old first second new word bytes a same b c =
    c ∙ ap (λ w. w ++ codes "?=") (b ∙ ap (λ w. w ++ letters bytes) a ∙ ap (λ w. (old ++ codes "=?utf-8?B?") ++ letters w) same)
    ∙ append_assoc (old ++ codes "=?utf-8?B?") (letters word) (codes "?=")
    ∙ append_assoc old (codes "=?utf-8?B?") (letters word ++ codes "?=")

-- a word that is a part of the text
pub word_at : (written new word part : List ℕ) → word ≡ part → new ≡ written ++ one_word word
    → new ≡ written ++ one_word part
word_at written new word part same n = n ∙ ap (λ w. written ++ one_word w) same
