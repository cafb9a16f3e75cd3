-- Lemmas on header values that are read leniently.
use Rattle.std.proofs.Common.{◌≡◌, ℕ, zero, suc, ◌+◌, ◌-◌, ◌<◌, ◌≤◌, Bool, true, false, cond, List, [], ◌∷◌, ◌++◌, length, take, drop, length-drop, Option, Some, None, eqb, ◌&&◌, ◌||◌, inl, inr, refl, sym, ap, ◌∙◌, append_assoc, arith}
use Rattle.std.specs.Prelude.{option_and_then, IfSome}
use Rattle.std.specs.Option.{option_map_or, MatchOption}
use Rattle.std.specs.List.{All, prefix_len}
use Rattle.std.proofs.lemmas.Bool.{and_parts, cases_Bool, cond-false, eq-eqb, eqb-true, false≢true, le-ltb, ne_eqb}
use Rattle.std.proofs.lemmas.List.Elements.{All-head}
use Rattle.std.proofs.lemmas.Str.{is_utf8-from_IsUtf8}
use Rattle.std.specs.Str.{IsUtf8}
use Rattle.std.proofs.lemmas.List.{append-nil, drop-drop, take-append-drop, take_all, take_rest}
use Rattle.std.proofs.Math.Seq.{take-add}
use Rattle.std.proofs.Math.ListN.{drop_of_length-le}
use Rattle.mail_codec.specs.Charset.{Charsets, text_of}
use Rattle.mail_codec.specs.Places.{begins, byte_place, either_place, first_place, has_prefix, place, text_place, trimmed_at_start}
use Rattle.mail_codec.proofs.lemmas.Places.{first_place-here, first_place-past, first_place-passes}
use Rattle.mail_codec.proofs.lemmas.PlacesSearches.{place_none, place_some}
use Rattle.mail_codec.specs.declared.charset.built_in.Charset.TheVariants.{Windows1252}
use Rattle.mailparse.specs.Value.{IsPlain, lenient_value_in}
use Rattle.mailparse.proofs.lemmas.Value.{lenient-utf8}
use Rattle.mailparse.proofs.lemmas.Places.{not_some}
use Rattle.mailparse.proofs.lemmas.ValuePlain.{plain_feeds, plain_utf8, unfolded_value-plain}
use Rattle.mail_read.specs.Files.{text_of_octets}
use Rattle.mail_read.specs.lenient.ValueViews.{word_view}
use Rattle.mail_read.specs.declared.lenient.values.EncodedWord.{EncodedWord}
use Rattle.mail_read.specs.lenient.Values.{Head, Pieces, last, piece, with_text, if_known, head_of, pieces_at, pieces, word_of, header_text, shown}
use Rattle.mail_read.specs.lenient.Folding.{is_blank}
use Rattle.mail_read.proofs.lemmas.lenient.Folding.{and_false, last_line}

-- ---- text in front

pub with_text-twice : (a b : List ℕ) (ps : Pieces) → with_text a (with_text b ps) ≡ with_text (a ++ b) ps
with_text-twice a b (last t) = ap last (sym (append_assoc a b t))
with_text-twice a b (piece t w ps) = ap (λ (x : List ℕ). piece x w ps) (sym (append_assoc a b t))

pub with_text-nil : (ps : Pieces) → with_text [] ps ≡ ps
with_text-nil (last t) = refl
with_text-nil (piece t w ps) = refl

-- ---- two bytes that were found

two_bytes : (a c : ℕ) (bytes : List ℕ) → has_prefix (a ∷ c ∷ []) bytes ≡ true → 2 ≤ length bytes
two_bytes a c [] e = absurd (false≢true e)
two_bytes a c (x ∷ []) e = absurd (false≢true ((and_parts _ _ e).1))
two_bytes a c (x ∷ y ∷ bytes) e = omega arith

pub two_found : (a c : ℕ) (bytes : List ℕ) (at p : ℕ) → Some p ≡ text_place (take (length bytes - at) (drop at bytes)) (a ∷ c ∷ []) → at + p + 2 ≤ length bytes
two_found a c bytes at p found =
    let is = place_some (has_prefix (a ∷ c ∷ [])) (drop at bytes) p (found ∙ ap (λ (t : List ℕ). text_place t (a ∷ c ∷ [])) (take_rest bytes at)) in
    let two = two_bytes a c (drop (first_place (has_prefix (a ∷ c ∷ [])) (drop at bytes)) (drop at bytes)) (first_place-passes (has_prefix (a ∷ c ∷ [])) (drop at bytes) is.1) in
    let size = length-drop at bytes in
    let left = length-drop (first_place (has_prefix (a ∷ c ∷ [])) (drop at bytes)) (drop at bytes) in
    omega (arith, is.0, is.1, two, size, left)

-- the bytes begin with `=?`
abbrev pub opens : List ℕ → Bool
opens = has_prefix (61 ∷ 63 ∷ [])

module _ (known : Charsets) where
  -- ---- the pieces of the rest

  pub pieces-skipped : (n : ℕ) (bytes : List ℕ) → pieces known n bytes ≡ pieces known 0 (drop n bytes)
  pieces-skipped zero bytes = refl
  pieces-skipped (suc n) [] = refl
  pieces-skipped (suc n) (b ∷ bytes) = pieces-skipped n bytes

  -- the pieces of bytes, by the head of the word at their front
  abbrev by_head : (b : ℕ) (rest : List ℕ) → Option Head → Pieces
  by_head b rest head =
      option_map_or (λ h. pieces_at h (b ∷ rest) (λ n. pieces known (n - 1) rest)) head (with_text (b ∷ []) (pieces known 0 rest))

  abbrev head_if : List ℕ → Bool → Option Head
  head_if bytes opening = cond opening (option_and_then (if_known known) (head_of (drop 2 bytes))) None

  no_opening : (b : ℕ) (rest : List ℕ) → opens (b ∷ rest) ≡ false → pieces known 0 (b ∷ rest) ≡ with_text (b ∷ []) (pieces known 0 rest)
  no_opening b rest e = ap (λ (t : Bool). by_head b rest (head_if (b ∷ rest) t)) e

  opening : (b : ℕ) (rest : List ℕ) (head : Option Head) → opens (b ∷ rest) ≡ true → head ≡ option_and_then (if_known known) (head_of (drop 2 (b ∷ rest)))
      → pieces known 0 (b ∷ rest) ≡ by_head b rest head
  opening b rest head e is = ap (λ (t : Bool). by_head b rest (head_if (b ∷ rest) t)) e ∙ ap (by_head b rest) (sym is)

  -- bytes before the first `=?` are text
  past : (k : ℕ) (bytes : List ℕ) → k ≤ first_place opens bytes → pieces known 0 bytes ≡ with_text (take k bytes) (pieces known 0 (drop k bytes))
  past zero bytes h = sym (with_text-nil (pieces known 0 bytes))
  past (suc k) [] h = absurd (omega arith)
  past (suc k) (b ∷ bytes) h = elim (cases_Bool (opens (b ∷ bytes))) [
    | inl e ↦ let here = first_place-here opens (b ∷ bytes) e in absurd (omega arith)
    | inr e ↦
        let later = first_place-past opens b bytes e in
        no_opening b bytes e ∙ ap (with_text (b ∷ [])) (past k bytes (omega arith)) ∙ with_text-twice (b ∷ []) (take k bytes) (pieces known 0 (drop k bytes))
  ]

  -- ---- steps of the search for a word

  -- the bytes before a place are text of the first piece
  abbrev pub IsText : List ℕ → ℕ → Type 0
  IsText bytes at = pieces known 0 bytes ≡ with_text (take at bytes) (pieces known 0 (drop at bytes))

  pub text-start : (bytes : List ℕ) → IsText bytes 0
  text-start bytes = sym (with_text-nil (pieces known 0 bytes))

  pub text-more : (bytes : List ℕ) (at k : ℕ) → IsText bytes at → IsText (drop at bytes) k → IsText bytes (at + k)
  text-more bytes at k so more =
      so ∙ ap (with_text (take at bytes)) more ∙ with_text-twice (take at bytes) (take k (drop at bytes)) (pieces known 0 (drop k (drop at bytes)))
      ∙ ap (λ (t : List ℕ). with_text t (pieces known 0 (drop k (drop at bytes)))) (sym (take-add at k bytes))
      ∙ ap (λ (r : List ℕ). with_text (take (at + k) bytes) (pieces known 0 r)) (drop-drop k at bytes)

  -- the next `=?`
  pub text-opening : (bytes : List ℕ) (at p : ℕ) → IsText bytes at → Some p ≡ text_place (drop at bytes) (61 ∷ 63 ∷ []) → IsText bytes (at + p)
  text-opening bytes at p so found =
      let is = place_some opens (drop at bytes) p found in
      text-more bytes at p so (past p (drop at bytes) (omega (arith, is.0)))

  pub opens-there : (bytes : List ℕ) (at p : ℕ) → Some p ≡ text_place (drop at bytes) (61 ∷ 63 ∷ []) → opens (drop (at + p) bytes) ≡ true
  opens-there bytes at p found =
      let is = place_some opens (drop at bytes) p found in
      ap opens (sym (drop-drop p at bytes)) ∙ ap (λ (k : ℕ). opens (drop k (drop at bytes))) is.0 ∙ first_place-passes opens (drop at bytes) is.1

  -- there is none
  pub text-end : (bytes : List ℕ) (at : ℕ) → IsText bytes at → None ≡ text_place (drop at bytes) (61 ∷ 63 ∷ []) → pieces known 0 bytes ≡ last bytes
  text-end bytes at so none =
      let rest = drop at bytes in
      let is = place_none opens rest none in
      let all = text-more bytes at (length rest) so (past (length rest) rest (omega (arith, is))) in
      let size = length-drop at bytes in
      all ∙ ap (λ (r : List ℕ). with_text (take (at + length rest) bytes) (pieces known 0 r)) (drop_of_length-le bytes (omega arith))
      ∙ ap last (append-nil (take (at + length rest) bytes) ∙ take_all (at + length rest) bytes (omega arith))

  -- a word at the front
  front_word : (front : List ℕ) (head : Head) → opens front ≡ true → Some head ≡ option_and_then (if_known known) (head_of (drop 2 front))
      → pieces known 0 front ≡ pieces_at head front (λ n. pieces known (n - 1) (drop 1 front))
  front_word [] head e is = absurd (false≢true e)
  front_word (b ∷ rest) head e is = opening b rest (Some head) e is

  -- no word at the front
  front_none : (front : List ℕ) → opens front ≡ true → None ≡ option_and_then (if_known known) (head_of (drop 2 front)) → IsText front 1
  front_none [] e is = absurd (false≢true e)
  front_none (b ∷ rest) e is = opening b rest None e is

  pub text-past : (bytes : List ℕ) (from : ℕ) → IsText bytes from → opens (drop from bytes) ≡ true
      → None ≡ option_and_then (if_known known) (head_of (drop 2 (drop from bytes))) → IsText bytes (from + 1)
  text-past bytes from so e is = text-more bytes from 1 so (front_none (drop from bytes) e is)

  -- the pieces after a word that ends at a place
  after_end : (bytes : List ℕ) (from end : ℕ) → from < end → pieces known (end - from - 1) (drop 1 (drop from bytes)) ≡ pieces known 0 (drop end bytes)
  after_end bytes from end h =
      pieces-skipped (end - from - 1) (drop 1 (drop from bytes))
      ∙ ap (pieces known 0) (ap (drop (end - from - 1)) (drop-drop 1 from bytes) ∙ drop-drop (end - from - 1) (from + 1) bytes
      ∙ ap (λ (k : ℕ). drop k bytes) {x = from + 1 + (end - from - 1)} {y = end} (omega (arith, h)))

  -- the result of `word_at`
  abbrev pub GivesWord : List ℕ → ℕ → Head → Option EncodedWord → Type 0
  GivesWord bytes from head r = (after : ℕ → Pieces) → MatchOption r
      (pieces_at head (drop from bytes) after ≡ last (drop from bytes))
      (λ word. pieces_at head (drop from bytes) after ≡ piece [] (word_view word) (after (word.end - from)))

  -- the result of `next_word`
  abbrev pub GivesNext : List ℕ → Option EncodedWord → Type 0
  GivesNext bytes r = MatchOption r (pieces known 0 bytes ≡ last bytes)
      (λ word. pieces known 0 bytes ≡ piece word.before.now (word_view word) (pieces known 0 (drop word.end bytes)))

  pub word-next : (bytes : List ℕ) (from : ℕ) (head : Head) (r : Option EncodedWord) → IsText bytes from → opens (drop from bytes) ≡ true
      → Some head ≡ option_and_then (if_known known) (head_of (drop 2 (drop from bytes))) → GivesWord bytes from head r
      → IfSome r (λ word. word.before.now ≡ take from bytes) → IfSome r (λ word. (from < word.end) × (word.end ≤ length bytes)) → GivesNext bytes r
  word-next bytes from head None so e is given before bounds =
      so ∙ ap (with_text (take from bytes)) (front_word (drop from bytes) head e is ∙ given (λ n. pieces known (n - 1) (drop 1 (drop from bytes))))
      ∙ ap last (take-append-drop from bytes)
  word-next bytes from head (Some w) so e is given before bounds =
      so ∙ ap (with_text (take from bytes)) (front_word (drop from bytes) head e is ∙ given (λ n. pieces known (n - 1) (drop 1 (drop from bytes))))
      ∙ ap (λ (ps : Pieces). piece (take from bytes ++ []) (word_view w) ps) (after_end bytes from w.end bounds.0)
      ∙ ap (λ (t : List ℕ). piece t (word_view w) (pieces known 0 (drop w.end bytes))) (append-nil (take from bytes) ∙ sym before)

  -- ---- the same of slices

  pub past_opening : (bytes : List ℕ) (at p : ℕ) → IsText bytes at → Some p ≡ text_place (take (length bytes - at) (drop at bytes)) (61 ∷ 63 ∷ [])
      → None ≡ option_and_then (if_known known) (head_of (take (length bytes - (at + p + 2)) (drop (at + p + 2) bytes))) → IsText bytes (at + p + 1)
  past_opening bytes at p so found none =
      let there = found ∙ ap (λ (t : List ℕ). text_place t (61 ∷ 63 ∷ [])) (take_rest bytes at) in
      text-past bytes (at + p) (text-opening bytes at p so there) (opens-there bytes at p there)
      (none ∙ ap (λ (t : List ℕ). option_and_then (if_known known) (head_of t)) (take_rest bytes (at + p + 2) ∙ sym (drop-drop 2 (at + p) bytes)))

  pub no_opening_left : (bytes : List ℕ) (at : ℕ) → IsText bytes at → None ≡ text_place (take (length bytes - at) (drop at bytes)) (61 ∷ 63 ∷ []) → pieces known 0 bytes ≡ last bytes
  no_opening_left bytes at so none = text-end bytes at so (none ∙ ap (λ (t : List ℕ). text_place t (61 ∷ 63 ∷ [])) (take_rest bytes at))

  pub given_word : (bytes : List ℕ) (at p : ℕ) (head : Head) (r : Option EncodedWord) → IsText bytes at → Some p ≡ text_place (take (length bytes - at) (drop at bytes)) (61 ∷ 63 ∷ [])
      → Some head ≡ option_and_then (if_known known) (head_of (take (length bytes - (at + p + 2)) (drop (at + p + 2) bytes)))
      → GivesWord bytes (at + p) head r → IfSome r (λ word. word.before.now ≡ take (at + p) bytes)
      → IfSome r (λ word. (at + p < word.end) × (word.end ≤ length bytes)) → GivesNext bytes r
  given_word bytes at p head r so found is given before bounds =
      let there = found ∙ ap (λ (t : List ℕ). text_place t (61 ∷ 63 ∷ [])) (take_rest bytes at) in
      word-next bytes (at + p) head r (text-opening bytes at p so there) (opens-there bytes at p there)
      (is ∙ ap (λ (t : List ℕ). option_and_then (if_known known) (head_of t)) (take_rest bytes (at + p + 2) ∙ sym (drop-drop 2 (at + p) bytes)))
      given before bounds

pub some_bytes : (bytes : List ℕ) (from : ℕ) (r : Option EncodedWord) → IfSome r (λ word. (from < word.end) × (word.end ≤ length bytes)) → IfSome r (λ word. (0 < word.end) × (word.end ≤ length bytes))
some_bytes bytes from None h = h
some_bytes bytes from (Some w) h = (omega (arith, h.0), h.1)

-- the search for a word
pub ruleset next_words = (text-start, two_found, past_opening, no_opening_left, given_word, some_bytes)

-- ---- the word at a place

place_there : (raw : List ℕ) (from start : ℕ) (r : Option ℕ) → r ≡ text_place (drop (from + 2 + start) raw) (63 ∷ 61 ∷ []) → text_place (drop (2 + start) (drop from raw)) (63 ∷ 61 ∷ []) ≡ r
place_there raw from start r is =
    ap (λ (t : List ℕ). text_place t (63 ∷ 61 ∷ [])) (drop-drop (2 + start) from raw ∙ ap (λ (k : ℕ). drop k raw) {x = from + (2 + start)} {y = from + 2 + start} (omega arith)) ∙ sym is

pub word_at-none : (raw : List ℕ) (from : ℕ) (head : Head) → None ≡ text_place (drop (from + 2 + head.start) raw) (63 ∷ 61 ∷ [])
    → (after : ℕ → Pieces) → pieces_at head (drop from raw) after ≡ last (drop from raw)
word_at-none raw from head is after =
    ap (λ (o : Option ℕ). option_map_or (λ n. piece [] (word_of head.label head.encoding (take n (drop (2 + head.start) (drop from raw)))) (after (2 + head.start + n + 2))) o (last (drop from raw)))
    (place_there raw from head.start None is)

pub word_at-some : (raw : List ℕ) (from n end : ℕ) (head : Head) (encoded : List ℕ) → Some n ≡ text_place (drop (from + 2 + head.start) raw) (63 ∷ 61 ∷ [])
    → encoded ≡ take n (drop (from + 2 + head.start) raw) → end ≡ from + 2 + head.start + n + 2
    → (after : ℕ → Pieces) → pieces_at head (drop from raw) after ≡ piece [] (word_of head.label head.encoding encoded) (after (end - from))
word_at-some raw from n end head encoded is same at after =
    ap (λ (o : Option ℕ). option_map_or (λ n. piece [] (word_of head.label head.encoding (take n (drop (2 + head.start) (drop from raw)))) (after (2 + head.start + n + 2))) o (last (drop from raw)))
    (place_there raw from head.start (Some n) is)
    ∙ ap (λ (t : List ℕ). piece [] (word_of head.label head.encoding (take n t)) (after (2 + head.start + n + 2)))
    (drop-drop (2 + head.start) from raw ∙ ap (λ (k : ℕ). drop k raw) {x = from + (2 + head.start)} {y = from + 2 + head.start} (omega arith))
    ∙ ap (λ (t : List ℕ). piece [] (word_of head.label head.encoding t) (after (2 + head.start + n + 2))) (sym same)
    ∙ ap (λ (k : ℕ). piece [] (word_of head.label head.encoding encoded) (after k)) {x = 2 + head.start + n + 2} {y = end - from} (omega (arith, at))

-- the same of slices
pub word_none : (raw : List ℕ) (from : ℕ) (head : Head) → None ≡ text_place (take (length raw - (from + 2 + head.start)) (drop (from + 2 + head.start) raw)) (63 ∷ 61 ∷ [])
    → (after : ℕ → Pieces) → pieces_at head (drop from raw) after ≡ last (drop from raw)
word_none raw from head is = word_at-none raw from head (is ∙ ap (λ (t : List ℕ). text_place t (63 ∷ 61 ∷ [])) (take_rest raw (from + 2 + head.start)))

pub word_some : (raw : List ℕ) (from n : ℕ) (head : Head) → Some n ≡ text_place (take (length raw - (from + 2 + head.start)) (drop (from + 2 + head.start) raw)) (63 ∷ 61 ∷ [])
    → (after : ℕ → Pieces) → pieces_at head (drop from raw) after
    ≡ piece [] (word_of head.label head.encoding (take n (take (length raw - (from + 2 + head.start)) (drop (from + 2 + head.start) raw)))) (after (from + 2 + head.start + n + 2 - from))
word_some raw from n head is =
    word_at-some raw from n (from + 2 + head.start + n + 2) head (take n (take (length raw - (from + 2 + head.start)) (drop (from + 2 + head.start) raw)))
    (is ∙ ap (λ (t : List ℕ). text_place t (63 ∷ 61 ∷ [])) (take_rest raw (from + 2 + head.start))) (ap (take n) (take_rest raw (from + 2 + head.start))) refl

-- a word at a place
pub ruleset words_at = (two_found, word_none, word_some)

-- ---- values that are their own text

-- nothing at any place passes
none_passes : (test : List ℕ → Bool) (bytes : List ℕ) → ((k : ℕ) → test (drop k bytes) ≡ false) → first_place test bytes ≡ length bytes
none_passes test [] none = refl
none_passes test (b ∷ rest) none = first_place-past test b rest (none 0) ∙ ap suc (none_passes test rest (λ k. none (suc k)))

nowhere : (test : List ℕ → Bool) (bytes : List ℕ) → length bytes ≤ first_place test bytes → None ≡ place test bytes
nowhere test bytes past = sym (cond-false _ _ _ (le-ltb (first_place test bytes) (length bytes) past))

-- a byte that ends a line or may open a word
abbrev cuts : ℕ → Bool
cuts b = eqb b 10 || eqb b 63

uncut_head : (b : ℕ) (rest : List ℕ) → first_place (begins cuts) (b ∷ rest) ≡ suc (length rest) → (cuts b ≡ false) × (first_place (begins cuts) rest ≡ length rest)
uncut_head b rest h = elim (cases_Bool (cuts b)) [
  | inl e ↦ let here = first_place-here (begins cuts) (b ∷ rest) e in absurd (omega (arith, h, here))
  | inr e ↦ let later = first_place-past (begins cuts) b rest e in (e, omega (arith, h, later))
]

uncut_feed : (b : ℕ) → cuts b ≡ false → eqb b 10 ≡ false
uncut_feed b h = elim (cases_Bool (eqb b 10)) [
  | inl e ↦ absurd (false≢true (sym h ∙ ap (λ (t : Bool). t || eqb b 63) e))
  | inr e ↦ e
]

uncut_mark : (bytes : List ℕ) → first_place (begins cuts) bytes ≡ length bytes → has_prefix (63 ∷ []) bytes ≡ false
uncut_mark [] h = refl
uncut_mark (b ∷ rest) h = elim (cases_Bool (eqb 63 b)) [
  | inl e ↦ absurd (false≢true (sym ((uncut_head b rest h).0) ∙ ap cuts (sym (eqb-true 63 b e))))
  | inr e ↦ ap (λ (t : Bool). t && true) e
]

uncut_feeds : (bytes : List ℕ) → first_place (begins cuts) bytes ≡ length bytes → first_place (begins (λ b. eqb b 10)) bytes ≡ length bytes
uncut_feeds [] h = refl
uncut_feeds (b ∷ rest) h =
    let head = uncut_head b rest h in
    first_place-past (begins (λ b. eqb b 10)) b rest (uncut_feed b head.0) ∙ ap suc (uncut_feeds rest head.1)

uncut_opens : (bytes : List ℕ) → first_place (begins cuts) bytes ≡ length bytes → first_place opens bytes ≡ length bytes
uncut_opens [] h = refl
uncut_opens (b ∷ rest) h =
    let head = uncut_head b rest h in
    first_place-past opens b rest (and_false (eqb 61 b) (has_prefix (63 ∷ []) rest) (uncut_mark rest head.1)) ∙ ap suc (uncut_opens rest head.1)

trimmed_unblank : (bytes : List ℕ) → begins is_blank bytes ≡ false → trimmed_at_start is_blank bytes ≡ bytes
trimmed_unblank [] h = refl
trimmed_unblank (b ∷ rest) h = ap (λ (t : Bool). drop (cond t (1 + prefix_len is_blank rest) 0) (b ∷ rest)) h

-- bytes without words
pub no_words : (known : Charsets) (bytes : List ℕ) → None ≡ text_place bytes (61 ∷ 63 ∷ []) → text_of_octets bytes ≡ shown known None (pieces known 0 bytes)
no_words known bytes none = sym (ap (shown known None) (text-end known bytes 0 (text-start known bytes) none))

pub whole_value : (value : List ℕ) → begins is_blank value ≡ false → None ≡ byte_place value 10 → None ≡ text_place value (61 ∷ 63 ∷ [])
    → (known : Charsets) → text_of_octets value ≡ header_text known value
unfolding header_text
whole_value value unblank unfed unopened known =
    no_words known value unopened
    ∙ ap (λ (v : List ℕ). shown known None (pieces known 0 v)) (sym (ap (trimmed_at_start is_blank) (last_line value unfed) ∙ trimmed_unblank value unblank))

pub bare_value : (value : List ℕ) → begins is_blank value ≡ false → None ≡ either_place value 10 63 → (known : Charsets) → text_of_octets value ≡ header_text known value
bare_value value unblank none =
    let uncut = place_none (begins cuts) value none in
    whole_value value unblank (nowhere (begins (λ b. eqb b 10)) value (omega (arith, uncut_feeds value uncut)))
    (nowhere opens value (omega (arith, uncut_opens value uncut)))

-- ---- plain values

abbrev Printable : List ℕ → Type 0
Printable value = All (λ b. (32 ≤ b) × (b ≤ 126)) value

pub plain_unblank : (value : List ℕ) → IsPlain value → begins is_blank value ≡ false
plain_unblank [] plain = refl
plain_unblank (b ∷ rest) plain =
    let first = All-head (λ b. (32 ≤ b) × (b ≤ 126)) b rest plain.printable in
    let no_space : eqb b 32 ≡ false = ne_eqb b 32 (λ e. absurd (false≢true (sym plain.no_space ∙ ap (λ (t : Bool). t && true) (eq-eqb 32 b (sym e))))) in
    let no_tab : eqb b 9 ≡ false = ne_eqb b 9 (λ e. absurd (omega (arith, first.0))) in
    ap (λ (t : Bool). t || eqb b 9) no_space ∙ no_tab

pub plain_unfed : (value : List ℕ) → IsPlain value → None ≡ byte_place value 10
plain_unfed value plain = not_some (byte_place value 10) (plain_feeds value plain)

pub plain_unopened : (value : List ℕ) → IsPlain value → None ≡ text_place value (61 ∷ 63 ∷ [])
plain_unopened value plain = nowhere opens value (omega (arith, none_passes opens value plain.no_opening))

pub ruleset whole_values = (whole_value, bare_value, plain_unblank, plain_unfed, plain_unopened)

-- a whole value in UTF-8
pub own_utf8 : (value text : List ℕ) → text ≡ value → IsUtf8 value → ((known : Charsets) → text_of_octets value ≡ header_text known value)
    → (known : Charsets) → text ≡ header_text known value
unfolding text_of_octets
own_utf8 value text same utf8 whole known =
    same ∙ sym (ap (λ (t : Bool). cond t value (text_of Windows1252 value)) (is_utf8-from_IsUtf8 value utf8)) ∙ whole known

pub ruleset own_texts = (own_utf8, plain_utf8)

header_plain : (known : Charsets) (value : List ℕ) → IsPlain value → header_text known value ≡ value
header_plain known value plain =
    sym (own_utf8 value value refl (plain_utf8 value plain)
    (whole_value value (plain_unblank value plain) (plain_unfed value plain) (plain_unopened value plain)) known)

pub plain-agree : (known : Charsets) (value : List ℕ) → IsPlain value → header_text known value ≡ lenient_value_in known value
plain-agree known value plain = header_plain known value plain ∙ sym (lenient-utf8 known value (plain_utf8 value plain) ∙ unfolded_value-plain known value plain)
