-- Lemmas on the parameters of values in the usual form.
use Rattle.std.proofs.Common.{◌≡◌, ◌≢◌, ◌<◌, ◌≤◌, ◌+◌, ◌-◌, ◌⊎◌, ℕ, zero, suc, Bool, true, false, cond, eqb, ltb, ◌||◌, List, [], ◌∷◌, ◌++◌, length, take, drop, get_or, Some, None, refl, sym, ap, subst, ◌∙◌, ⊎_elim, arith, append_assoc, length-append, length-drop}
use Rattle.std.proofs.Math.Nat.{sub-zero}
use Rattle.std.proofs.lemmas.Bool.{and_from, and_left, and_parts, and_right, cond-false, cond-true, eq-eqb, eqb-false, eqb-true, le-leb, lt-ltb, ne_eqb, or_from}
use Rattle.std.proofs.lemmas.List.{append-nil, drop-append-le, drop-drop, drop_all, drop_more, get_or-append-add, take-append-drop, take-append-le, take_all}
use Rattle.std.proofs.lemmas.Str.{IsAscii-append, IsAscii-drop, IsAscii-take, IsUtf8-from_ascii, chars-IsAscii, encodes-IsAscii}
use Rattle.std.specs.Char.{is_ascii_graphic, to_ascii_lowercase}
use Rattle.std.specs.List.{after_first, before_first, list_any, position_or_len}
use Rattle.std.specs.Map.{update}
use Rattle.std.specs.Prelude.{encode_utf8_all, slice_range}
use Rattle.std.specs.Str.{IsAscii, IsUtf8, bytes_eq, chars, str_to_ascii_lowercase, trim, trim_end, trim_start}
use Rattle.mail_codec.specs.Charset.{Charsets}
use Rattle.mail_codec.specs.Places.{begins, either_place, first_place, place_from}
use Rattle.mail_codec.proofs.lemmas.Places.{first_place-begins}
use Rattle.mail_codec.proofs.lemmas.PlacesSearches.{place_some}
use Rattle.mailparse.specs.ContentType.{ContentType, charset_named, content_type_in}
use Rattle.mailparse.specs.Continuations.{parameters_in}
use Rattle.mailparse.specs.Pairs.{Texts, is_equals, last_of, pair_of, pairs_in}
use Rattle.mailparse.specs.Segments.{IsRunAfter, IsSegment, closed_run, closing_quote, is_quoted, last_segment, more_segments, other_byte, plain_byte, segment_ends, segments, unescape, without_escapes}
use Rattle.mailparse.specs.Sections.{is_star}
use Rattle.mailparse.proofs.lemmas.ContentType.{type_is}
use Rattle.mailparse.proofs.lemmas.Pairs.{pair_of-some, pairs_of-later, stores, stores_pair, value_of-first}
use Rattle.mailparse.proofs.lemmas.StarFree.{another_key, parameters_are_pairs}
use Rattle.mailparse.proofs.lemmas.Segments.{segments_fit, segments_only}
use Rattle.mailparse.proofs.lemmas.Trims.{trim-space, trim-visible}
use Rattle.mail_read.specs.private.Usual.{HasPair, Holds, IsRun, IsValue, ends_run, ends_value, segments_left}
use Rattle.mail_read.specs.lenient.Repairs.{lacks_nothing, repaired}
use Rattle.mail_read.specs.declared.lenient.repairs.Position.TheVariants.{BeforeWord}
use Rattle.mail_read.proofs.lemmas.lenient.Repairs.{whole-ascii}
use Rattle.mail_read.proofs.lemmas.lenient.Usual.{at_byte, others}

-- ---- runs

pub front-run : (bytes : List ℕ) → IsRun (take (first_place (begins ends_run) bytes) bytes)
front-run [] = tt
front-run (c ∷ cs) = go (ends_run c) refl (front-run cs)
  where
    go : (t : Bool) → ends_run c ≡ t → IsRun (take (first_place (begins ends_run) cs) cs) → IsRun (take (cond t 0 (suc (first_place (begins ends_run) cs))) (c ∷ cs))
    go true e ih = tt
    go false e ih = (e, ih)

run-at : (bytes : List ℕ) (i : ℕ) → IsRun bytes → i < length bytes → ends_run (get_or bytes i 0) ≡ false
run-at [] i run low = absurd (omega (arith, low))
run-at (c ∷ cs) zero run low = run.0
run-at (c ∷ cs) (suc i) run low = run-at cs i run.1 (omega (arith, low))

visible : (b : ℕ) → ends_run b ≡ false → is_ascii_graphic b ≡ true
visible b h = let o = others b h in and_from _ _ (le-leb 33 b (omega (arith, o.0))) (le-leb b 126 (omega (arith, o.1)))

run-ascii : (bytes : List ℕ) → IsRun bytes → IsAscii bytes
run-ascii [] run i = omega arith
run-ascii (c ∷ cs) run zero = let o = others c run.0 in omega (arith, o.1)
run-ascii (c ∷ cs) run (suc i) = run-ascii cs run.1 i

pub trim-run : (bytes : List ℕ) → IsRun bytes → trim bytes ≡ bytes
unfolding trim_start trim_end chars
trim-run [] run = refl
trim-run (c ∷ cs) run =
    trim-visible (c ∷ cs) (IsUtf8-from_ascii (c ∷ cs) (run-ascii (c ∷ cs) run)) (omega arith) (visible c run.0)
    (visible (get_or (c ∷ cs) (length (c ∷ cs) - 1) 0) (run-at (c ∷ cs) (length (c ∷ cs) - 1) run (omega arith)))

space-ascii : (bytes : List ℕ) → IsRun bytes → IsAscii (32 ∷ bytes)
space-ascii bytes run zero = omega arith
space-ascii bytes run (suc i) = run-ascii bytes run i

pub trim-spaced : (bytes : List ℕ) → IsRun bytes → trim (32 ∷ bytes) ≡ bytes
trim-spaced bytes run =
    sym (trim-space (32 ∷ bytes) bytes (IsUtf8-from_ascii (32 ∷ bytes) (space-ascii bytes run)) (omega arith) refl refl) ∙ trim-run bytes run

pub unescape-run : (bytes : List ℕ) → IsRun bytes → unescape bytes ≡ bytes
unfolding unescape
unescape-run [] run = refl
unescape-run (c ∷ cs) run =
    let o = others c run.0 in
    cond-false _ _ _ (and_left _ _ (and_right _ _ (ne_eqb c 34 (λ e. absurd (omega (arith, o.0, e))))))

-- in lower case it has no star
star-lowered : (c : ℕ) → 45 ≤ c → is_star (to_ascii_lowercase c) ≡ false
star-lowered c low = go (ltb c 65) (ltb c 91)
  where
    go : (s t : Bool) → eqb (cond s c (cond t (c + 32) c)) 42 ≡ false
    go true t = ne_eqb c 42 (λ e. absurd (omega (arith, low, e)))
    go false true = ne_eqb (c + 32) 42 (λ e. absurd (omega (arith, low, e)))
    go false false = ne_eqb c 42 (λ e. absurd (omega (arith, low, e)))

pub run-starless : (bytes : List ℕ) → IsRun bytes → list_any is_star (str_to_ascii_lowercase bytes) ≡ false
run-starless [] run = refl
run-starless (c ∷ cs) run = or_from _ _ (star-lowered c (others c run.0).0) (run-starless cs run.1)

-- ---- bytes in quotes

abbrev Inside : List ℕ → Type 0
Inside [] = Unit
Inside (c ∷ cs) = ((c ≢ 34) × (c ≢ 92)) × Inside cs

front-inside : (bytes : List ℕ) → Inside (take (first_place (begins (λ b. eqb b 34 || eqb b 92)) bytes) bytes)
front-inside [] = tt
front-inside (c ∷ cs) = go (eqb c 34) (eqb c 92) refl refl (front-inside cs)
  where
    go : (s t : Bool) → eqb c 34 ≡ s → eqb c 92 ≡ t → Inside (take (first_place (begins (λ b. eqb b 34 || eqb b 92)) cs) cs)
        → Inside (take (cond (s || t) 0 (suc (first_place (begins (λ b. eqb b 34 || eqb b 92)) cs))) (c ∷ cs))
    go true t e f ih = tt
    go false true e f ih = tt
    go false false e f ih = ((eqb-false c 34 e, eqb-false c 92 f), ih)

inside-run : (bytes : List ℕ) → Inside bytes → IsRunAfter true (bytes ++ 34 ∷ [])
inside-run [] is = closing_quote
inside-run (c ∷ cs) is = plain_byte is.0.0 is.0.1 (inside-run cs is.1)

no_escapes : (bytes : List ℕ) → Inside bytes → without_escapes 0 bytes ≡ bytes
no_escapes [] is = refl
no_escapes (c ∷ cs) is = cond-false _ _ _ (ne_eqb c 92 is.0.1) ∙ ap (λ rest. c ∷ rest) (no_escapes cs is.1)

-- the text with its quotes
abbrev pub quoted : List ℕ → List ℕ
quoted bytes = 34 ∷ (bytes ++ 34 ∷ [])

quoted-size : (bytes : List ℕ) → length (quoted bytes) ≡ length bytes + 2
quoted-size bytes = let size = length-append bytes (34 ∷ []) in omega (arith, size)

quoted-last : (bytes : List ℕ) → get_or (quoted bytes) (length (quoted bytes) - 1) 0 ≡ 34
quoted-last bytes =
    let size = quoted-size bytes in
    let last : length (quoted bytes) - 1 ≡ suc (length bytes + 0) = omega (arith, size) in
    ap (λ n. get_or (quoted bytes) n 0) last ∙ get_or-append-add bytes (34 ∷ []) 0 0

trim-quoted : (bytes : List ℕ) → IsAscii (quoted bytes) → trim (quoted bytes) ≡ quoted bytes
trim-quoted bytes ascii =
    trim-visible (quoted bytes) (IsUtf8-from_ascii (quoted bytes) ascii) (omega arith) refl (ap is_ascii_graphic (quoted-last bytes))

unescape-quoted : (bytes : List ℕ) → Inside bytes → IsAscii bytes → unescape (quoted bytes) ≡ bytes
unfolding unescape
unescape-quoted bytes is ascii =
    let size = quoted-size bytes in
    let both : is_quoted (quoted bytes) ≡ true =
    and_from _ _ (and_from _ _ (lt-ltb 1 (length (quoted bytes)) (omega (arith, size))) refl) (eq-eqb _ 34 (quoted-last bytes)) in
    let inner : slice_range (quoted bytes) 1 (length (quoted bytes) - 1) ≡ bytes =
    ap (λ n. take n (bytes ++ 34 ∷ [])) (omega (arith, size)) ∙ take-append-le (length bytes) bytes (34 ∷ []) (omega arith) ∙ take_all (length bytes) bytes (omega arith) in
    cond-true _ _ _ both
    ∙ ap (λ text. encode_utf8_all (without_escapes 0 (chars text))) inner
    ∙ ap (λ cs. encode_utf8_all (without_escapes 0 cs)) (chars-IsAscii bytes ascii)
    ∙ ap encode_utf8_all (no_escapes bytes is) ∙ encodes-IsAscii bytes ascii

-- ---- segments

-- bytes in front of a `=`
abbrev Plain : ℕ → Type 0
Plain c = (c ≢ 34) × (c ≢ 59) × (c ≢ 61)

abbrev Front : List ℕ → Type 0
Front [] = Unit
Front (c ∷ cs) = Plain c × Front cs

run-front : (bytes : List ℕ) → IsRun bytes → Front bytes
run-front [] run = tt
run-front (c ∷ cs) run = let o = others c run.0 in (((λ e. absurd (omega (arith, o.0, e))), o.3, o.4), run-front cs run.1)

space-front : (bytes : List ℕ) → IsRun bytes → Front (32 ∷ bytes)
space-front bytes run = (((λ e. absurd (omega (arith, e))), (λ e. absurd (omega (arith, e))), (λ e. absurd (omega (arith, e)))), run-front bytes run)

front-segment : (front rest : List ℕ) → Front front → IsSegment true rest → IsSegment true (front ++ rest)
front-segment [] rest is more = more
front-segment (c ∷ cs) rest is more = other_byte is.0.0 is.0.1 (front-segment cs rest is.1 more)

run-segment : (bytes : List ℕ) → IsRun bytes → IsSegment true bytes
run-segment bytes run = subst (IsSegment true) (append-nil bytes) (front-segment bytes [] (run-front bytes run) segment_ends)

quoted-segment : (bytes : List ℕ) → Inside bytes → IsSegment true (quoted bytes)
quoted-segment bytes is = closed_run (inside-run bytes is) segment_ends (ap (λ run. 34 ∷ run) (sym (append-nil (bytes ++ 34 ∷ []))))

pub cut-segment : (bytes segment left : List ℕ) → bytes ≡ segment ++ left → IsSegment true segment → ends_value left ≡ true → segments bytes ≡ segment ∷ segments_left left
cut-segment bytes segment [] e is ends = ap segments (e ∙ append-nil segment) ∙ sym (segments_only segment (segment ∷ []) (last_segment is))
cut-segment bytes segment (c ∷ cs) e is ends =
    sym (segments_only bytes (segment ∷ segments cs)
    (more_segments is (segments_fit cs) (e ∙ ap (λ b. segment ++ b ∷ cs) (eqb-true c 59 (and_parts _ _ ends).0))))

-- ---- pairs

equals-at : (front text : List ℕ) → Front front → first_place (begins is_equals) (front ++ 61 ∷ text) ≡ length front
equals-at [] text is = refl
equals-at (c ∷ cs) text is = cond-false _ _ _ (ne_eqb c 61 is.0.2) ∙ ap suc (equals-at cs text is.1)

pair-cut : (front text key value : List ℕ) → Front front → trim front ≡ key → unescape (trim text) ≡ value
    → pair_of (front ++ 61 ∷ text) ≡ Some (str_to_ascii_lowercase key, value)
pair-cut front text key value is named means =
    let whole = front ++ 61 ∷ text in
    let at : position_or_len is_equals whole ≡ length front = sym (first_place-begins is_equals whole) ∙ equals-at front text is in
    let size = length-append front (61 ∷ text) in
    let before : before_first is_equals whole ≡ front =
    ap (λ n. take n whole) at ∙ take-append-le (length front) front (61 ∷ text) (omega arith) ∙ take_all (length front) front (omega arith) in
    let after : after_first is_equals whole ≡ text =
    ap (λ n. drop (n + 1) whole) at ∙ sym (drop-drop 1 (length front) whole)
    ∙ ap (drop 1) (drop-append-le (length front) front (61 ∷ text) (omega arith) ∙ ap (λ xs. xs ++ 61 ∷ text) (drop_all (length front) front (omega arith))) in
    pair_of-some whole (omega (arith, at, size))
    ∙ (λ i. Some (str_to_ascii_lowercase ((ap trim before ∙ named) i), (ap (λ t. unescape (trim t)) after ∙ means) i))

has-pair : (bytes front text left key value : List ℕ) → Front front → trim front ≡ key → IsSegment true text → unescape (trim text) ≡ value
    → bytes ≡ front ++ 61 ∷ (text ++ left) → ends_value left ≡ true → HasPair bytes left key value
has-pair bytes front text left key value is named segment means e ends = (
  front ++ 61 ∷ text,
  cut-segment bytes (front ++ 61 ∷ text) left (e ∙ sym (append_assoc front (61 ∷ text) left)) (front-segment front (61 ∷ text) is
      (other_byte (λ e. absurd (omega (arith, e))) (λ e. absurd (omega (arith, e))) segment)) ends,
  pair-cut front text key value is named means,
)

-- ---- at offsets

slice-cut : (bytes : List ℕ) (from end : ℕ) → from ≤ end → drop from bytes ≡ slice_range bytes from end ++ drop end bytes
slice-cut bytes from end low =
    sym (take-append-drop (end - from) (drop from bytes))
    ∙ ap (λ left. take (end - from) (drop from bytes) ++ left) (drop-drop (end - from) from bytes ∙ ap (λ n. drop n bytes) (omega (arith, low)))

pub run-slice : (bytes : List ℕ) (from end : ℕ) → end ≡ place_from (begins ends_run) bytes from → IsRun (slice_range bytes from end)
run-slice bytes from end found =
    let size : first_place (begins ends_run) (drop from bytes) ≡ end - from = omega (arith, found) in
    subst (λ n. IsRun (take n (drop from bytes))) size (front-run (drop from bytes))

-- a text at an offset, which is read as this one
abbrev pub Reads : List ℕ → ℕ → ℕ → List ℕ → Type 0
Reads bytes from end text = (value : List ℕ) × (drop from bytes ≡ value ++ drop end bytes) × IsSegment true value × (unescape (trim value) ≡ text)

pub reads-run : (bytes : List ℕ) (from end : ℕ) → end ≡ place_from (begins ends_run) bytes from → Reads bytes from end (slice_range bytes from end)
reads-run bytes from end found =
    let text = slice_range bytes from end in
    let run = run-slice bytes from end found in
    (text, slice-cut bytes from end (omega (arith, found)), run-segment text run, ap unescape (trim-run text run) ∙ unescape-run text run)

quoted-ascii : (bytes : List ℕ) → IsAscii bytes → IsAscii (quoted bytes)
quoted-ascii bytes ascii zero = omega arith
quoted-ascii bytes ascii (suc i) = IsAscii-append bytes (34 ∷ []) ascii quote i
  where
    quote : IsAscii (34 ∷ [])
    quote zero = omega arith
    quote (suc i) = omega arith

pub reads-quoted : (bytes rest : List ℕ) (from count : ℕ) → begins (λ b. eqb b 34) (drop from bytes) ≡ true → rest ≡ drop (from + 1) bytes
    → Some count ≡ either_place rest 34 92 → begins (λ b. eqb b 34) (drop (from + 1 + count) bytes) ≡ true → IsAscii bytes
    → Reads bytes from (from + 1 + count + 1) (slice_range bytes (from + 1) (from + 1 + count))
reads-quoted bytes rest from count is same found quote ascii =
    let start = from + 1 in
    let stop = start + count in
    let text = slice_range bytes start stop in
    let test : List ℕ → Bool = begins (λ b. eqb b 34 || eqb b 92) in
    let at = place_some test rest count found in
    let size : first_place test (drop start bytes) ≡ stop - start = ap (first_place test) (sym same) ∙ sym at.0 ∙ omega arith in
    let inside : Inside text = subst (λ n. Inside (take n (drop start bytes))) size (front-inside (drop start bytes)) in
    let low : IsAscii text = IsAscii-take (drop start bytes) (stop - start) (IsAscii-drop bytes start ascii) in
    let whole : drop from bytes ≡ quoted text ++ drop (stop + 1) bytes =
    at_byte 34 bytes from is
    ∙ ap (λ left. 34 ∷ left) (slice-cut bytes start stop (omega arith) ∙ ap (λ left. text ++ left) (at_byte 34 bytes stop quote)
    ∙ sym (append_assoc text (34 ∷ []) (drop (stop + 1) bytes))) in
    (quoted text, whole, quoted-segment text inside, ap unescape (trim-quoted text (quoted-ascii text low)) ∙ unescape-quoted text inside low)

pub parameter-means : (bytes : List ℕ) (at name equals end : ℕ) (text : List ℕ)
    → (drop (at + 1) bytes ≡ drop name bytes) ⊎ (drop (at + 1) bytes ≡ 32 ∷ drop name bytes) → equals ≡ place_from (begins ends_run) bytes name
    → begins (λ b. eqb b 61) (drop equals bytes) ≡ true → Reads bytes (equals + 1) end text → ends_value (drop end bytes) ≡ true
    → HasPair (drop (at + 1) bytes) (drop end bytes) (slice_range bytes name equals) text
parameter-means bytes at name equals end text start found equal reads ends =
    let key = slice_range bytes name equals in
    let run = run-slice bytes name equals found in
    let value = reads.0 in
    let left = drop end bytes in
    let whole : drop name bytes ≡ key ++ 61 ∷ (value ++ left) =
    slice-cut bytes name equals (omega (arith, found)) ∙ ap (λ more. key ++ more) (at_byte 61 bytes equals equal ∙ ap (λ more. 61 ∷ more) reads.1) in
    ⊎_elim (λ same. has-pair (drop (at + 1) bytes) key value left key text (run-front key run) (trim-run key run) reads.2 reads.3 (same ∙ whole) ends)
    (λ spaced. has-pair (drop (at + 1) bytes) (32 ∷ key) value left key text (space-front key run) (trim-spaced key run) reads.2 reads.3
    (spaced ∙ ap (λ more. 32 ∷ more) whole) ends) start

-- ---- values

-- a word, or two with a slash between them
abbrev Value : List ℕ → Type 0
Value [] = Unit
Value (c ∷ cs) = ((c ≢ 34) × (c ≢ 59) × (33 ≤ c) × (c ≤ 126)) × Value cs

value-run : (bytes rest : List ℕ) → IsRun bytes → Value rest → Value (bytes ++ rest)
value-run [] rest run is = is
value-run (c ∷ cs) rest run is =
    let o = others c run.0 in
    (((λ e. absurd (omega (arith, o.0, e))), o.3, omega (arith, o.0), o.1), value-run cs rest run.1 is)

value-segment : (bytes : List ℕ) → Value bytes → IsSegment true bytes
value-segment [] is = segment_ends
value-segment (c ∷ cs) is = other_byte is.0.0 is.0.1 (value-segment cs is.1)

value-at : (bytes : List ℕ) (i : ℕ) → Value bytes → i < length bytes → is_ascii_graphic (get_or bytes i 0) ≡ true
value-at [] i is low = absurd (omega (arith, low))
value-at (c ∷ cs) zero is low = and_from _ _ (le-leb 33 c is.0.2) (le-leb c 126 is.0.3)
value-at (c ∷ cs) (suc i) is low = value-at cs i is.1 (omega (arith, low))

value-ascii : (bytes : List ℕ) → Value bytes → IsAscii bytes
value-ascii [] is i = omega arith
value-ascii (c ∷ cs) is zero = omega (arith, is.0.3)
value-ascii (c ∷ cs) is (suc i) = value-ascii cs is.1 i

value-trim : (bytes : List ℕ) → Value bytes → trim bytes ≡ bytes
unfolding trim_start trim_end chars
value-trim [] is = refl
value-trim (c ∷ cs) is =
    trim-visible (c ∷ cs) (IsUtf8-from_ascii (c ∷ cs) (value-ascii (c ∷ cs) is)) (omega arith) (value-at (c ∷ cs) 0 is (omega arith))
    (value-at (c ∷ cs) (length (c ∷ cs) - 1) is (omega arith))

is-value : (bytes : List ℕ) (end : ℕ) (value : List ℕ) → take end bytes ≡ value → Value value → IsValue bytes end
is-value bytes end value e is =
    (subst (IsSegment true) (sym e) (value-segment value is), ap trim e ∙ value-trim value is ∙ sym e)

pub one-word : (bytes : List ℕ) (end : ℕ) → end ≡ place_from (begins ends_run) bytes 0 → IsValue bytes end
one-word bytes end found =
    let run = run-slice bytes 0 end found in
    is-value bytes end (slice_range bytes 0 end ++ []) (ap (λ n. take n bytes) (sym (sub-zero end)) ∙ sym (append-nil (slice_range bytes 0 end))) (value-run (slice_range bytes 0 end) [] run tt)

take-front : (bytes front : List ℕ) (n : ℕ) → n ≤ length bytes → bytes ≡ front ++ drop n bytes → take n bytes ≡ front
take-front bytes front n low e =
    let whole = ap (λ (xs : List ℕ). length xs) e in
    let size : length front ≡ n = omega (arith, whole, length-append front (drop n bytes), length-drop n bytes, low) in
    ap (take n) e ∙ take-append-le n front (drop n bytes) (omega (arith, size)) ∙ take_all n front (omega (arith, size))

pub two-words : (bytes : List ℕ) (slash end : ℕ) → slash ≡ place_from (begins ends_run) bytes 0 → begins (λ b. eqb b 47) (drop slash bytes) ≡ true
    → end ≡ place_from (begins ends_run) bytes (slash + 1) → end ≤ length bytes → IsValue bytes end
two-words bytes slash end first is second low =
    let main = slice_range bytes 0 slash in
    let more = slice_range bytes (slash + 1) end in
    let whole : bytes ≡ (main ++ 47 ∷ more) ++ drop end bytes =
    slice-cut bytes 0 slash (omega arith) ∙ ap (λ left. main ++ left) (at_byte 47 bytes slash is ∙ ap (λ left. 47 ∷ left) (slice-cut bytes (slash + 1) end (omega (arith, second))))
    ∙ sym (append_assoc main (47 ∷ more) (drop end bytes)) in
    is-value bytes end (main ++ 47 ∷ more) (take-front bytes (main ++ 47 ∷ more) end low whole)
    (value-run main (47 ∷ more) (run-slice bytes 0 slash first)
    ((((λ e. absurd (omega (arith, e))), (λ e. absurd (omega (arith, e))), omega arith, omega arith), subst Value (append-nil more) (value-run more [] (run-slice bytes (slash + 1) end second) tt))))

-- ---- the map

pub put-starless : (old new : Texts) (key value : List ℕ) → IsRun key → new ≡ update bytes_eq old (str_to_ascii_lowercase key) (Some value)
    → ((q : List ℕ) → list_any is_star q ≡ true → old q ≡ None) → (q : List ℕ) → list_any is_star q ≡ true → new q ≡ None
put-starless old new key value run put none q star =
    ap (λ (t : Texts). t q) put
    ∙ ap (λ (t : Bool). cond t (Some value) (old q)) (another_key (str_to_ascii_lowercase key) q (run-starless key run) star) ∙ none q star

pub put-pair : (bytes : List ℕ) (at end : ℕ) (key value : List ℕ) (old new all : Texts) → at < length bytes
    → HasPair (drop (at + 1) bytes) (drop end bytes) key value → new ≡ update bytes_eq old (str_to_ascii_lowercase key) (Some value)
    → stores old (pairs_in (segments_left (drop at bytes))) ≡ all → stores new (pairs_in (segments_left (drop end bytes))) ≡ all
put-pair bytes at end key value old new all low has put here =
    stores_pair old new all (segments_left (drop at bytes)) has.0 (segments_left (drop end bytes)) (str_to_ascii_lowercase key) value
    (ap segments_left (drop_more bytes at 0 low) ∙ has.1) has.2 put here

-- ---- types

pub usual-built : (known : Charsets) (text : List ℕ) (end : ℕ) (mimetype charset : List ℕ) (params : Texts) → IsAscii text → lacks_nothing BeforeWord text ≡ true
    → IsValue text end → Holds text end params → mimetype ≡ str_to_ascii_lowercase (take end text) → charset ≡ charset_named params
    → ◌≡◌ {A = ContentType} (record { mimetype = mimetype; charset = charset; params = params }) (content_type_in known (repaired text))
usual-built known text end mimetype charset params ascii whole value holds name label =
    let cut = cut-segment text (take end text) (drop end text) (sym (take-append-drop end text)) value.0 holds.ends in
    let pairs = pairs_in (segments_left (drop end text)) in
    let none : (q : List ℕ) → list_any is_star q ≡ true → last_of pairs q ≡ None = λ q star. sym (ap (λ (t : Texts). t q) holds.same) ∙ holds.starless q star in
    type_is known text (take end text) mimetype charset params (sym (value_of-first text (take end text) (segments_left (drop end text)) cut ∙ value.1)) name
    (λ q. ap (λ (t : Texts). t q) holds.same ∙ sym (parameters_are_pairs known pairs none q)
    ∙ ap (λ (ps : List (List ℕ × List ℕ)). parameters_in known ps q) (sym (pairs_of-later text (take end text) (segments_left (drop end text)) cut)))
    label
    ∙ ap (content_type_in known) (whole-ascii text ascii (ap (lacks_nothing BeforeWord) (chars-IsAscii text ascii) ∙ whole))
