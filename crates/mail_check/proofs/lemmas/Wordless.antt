-- Lemmas on values without a question mark: none of their pieces is a word or looks like one.
use Rattle.std.proofs.Common.{◌≡◌, ◌<◌, ℕ, suc, Bool, true, false, List, [], ◌∷◌, ◌++◌, length, refl, sym, ap, subst, Option, None, arith, inl, inr}
use Rattle.std.specs.Prelude.{◌==◌, ◌&&◌, ◌||◌, is_some, codes}
use Rattle.std.specs.List.{AllByRecursion, list_any, onto_first, slice_split}
use Rattle.std.proofs.lemmas.Bool.{and_left, and_right, cases_Bool, cases_lt, eqb-false, le-ltb, lt-ltb, ne_eqb, or_from, or_parts, true≢false}
use Rattle.std.proofs.lemmas.List.Splits.{slice_split-cons_no, slice_split-cons_yes}
use Rattle.mail_codec.specs.Places.{begins, byte_place, first_place, has_prefix, place}
use Rattle.mail_codec.specs.Charset.{Charsets}
use Rattle.mail_check.specs.Findings.{Spot, listed_if, word_findings}
use Rattle.mail_check.specs.Lines.{HeaderLine, is_named}
use Rattle.mail_check.specs.WordBytes.{has_bad_octets}
use Rattle.mail_check.specs.Words.{has_early_at, has_join, has_word_delimiter, hides_address, is_bad_name, is_bad_piece, is_gap, is_padded, is_sender, is_word, joins, later_piece, pieces}
use Rattle.mail_check.specs.declared.names.Name.TheVariants.{NameAddress, WordBytes, WordJoin, WordSyntax}
use Rattle.mail_check.proofs.lemmas.WordFronts.{no_front}

-- a byte does not occur in others if it is not the first and does not occur in the rest
lacks_next : (byte b : ℕ) (bytes : List ℕ) → is_some (byte_place (b ∷ bytes) byte) ≡ false → ((b == byte) ≡ false) × (is_some (byte_place bytes byte) ≡ false)
lacks_next byte b bytes h = elim (cases_Bool (b == byte)) [
  | inl e ↦ let now = rw (e, lt-ltb 0 (suc (length bytes)) (omega arith)) at h in absurd (true≢false now)
  | inr e ↦ (
    e,
    elim (cases_lt (first_place (begins (λ x. x == byte)) bytes) (length bytes)) [
      | inl l ↦
          let low : suc (first_place (begins (λ x. x == byte)) bytes) < suc (length bytes) = omega (arith, l) in
          let now = rw (e, lt-ltb (suc (first_place (begins (λ x. x == byte)) bytes)) (suc (length bytes)) low) at h in absurd (true≢false now)
      | inr g ↦ rw (le-ltb (first_place (begins (λ x. x == byte)) bytes) (length bytes) g) refl
    ],
  )
]

-- bytes without a question mark
abbrev pub Lacks : List ℕ → Type 0
Lacks bytes = list_any (λ b. b == 63) bytes ≡ false

mark_lacked : (bytes : List ℕ) → is_some (byte_place bytes 63) ≡ false → Lacks bytes
mark_lacked [] h = refl
mark_lacked (b ∷ bytes) h =
    let next = lacks_next 63 b bytes h in or_from (b == 63) (list_any (λ x. x == 63) bytes) next.0 (mark_lacked bytes next.1)

-- so their pieces have none
onto : (b : ℕ) (found : List (List ℕ)) → (b == 63) ≡ false → AllByRecursion Lacks found → AllByRecursion Lacks (onto_first b found)
onto b [] e h = (or_from (b == 63) false e refl, tt)
onto b (piece ∷ found) e h = (or_from (b == 63) (list_any (λ x. x == 63) piece) e h.0, h.1)

pieces_lack : (value : List ℕ) → Lacks value → AllByRecursion Lacks (slice_split is_gap value)
pieces_lack [] h = (refl, tt)
pieces_lack (b ∷ value) h =
    let parts = or_parts (b == 63) (list_any (λ x. x == 63) value) h in
    let rest = pieces_lack value parts.1 in
    elim (cases_Bool (is_gap b)) [
      | inl e ↦ subst (AllByRecursion Lacks) (sym (slice_split-cons_yes is_gap b value e)) (refl, rest)
      | inr e ↦ subst (AllByRecursion Lacks) (sym (slice_split-cons_no is_gap b value e)) (onto b (slice_split is_gap value) parts.0 rest)
    ]

-- ---- a piece

turned : (b : ℕ) → (b == 63) ≡ false → (63 == b) ≡ false
turned b h = ne_eqb 63 b (λ e. eqb-false b 63 h (sym e))

no_begin : (bytes : List ℕ) → Lacks bytes → has_prefix (codes "=?") bytes ≡ false
no_begin [] h = refl
no_begin (a ∷ []) h = and_right (61 == a) false refl
no_begin (a ∷ (b ∷ bytes)) h =
    let second = or_parts (b == 63) (list_any (λ x. x == 63) bytes) ((or_parts (a == 63) (list_any (λ x. x == 63) (b ∷ bytes)) h).1) in
    and_right (61 == a) ((63 == b) && true) (and_left (63 == b) true (turned b second.0))

no_end : (bytes : List ℕ) → Lacks bytes → has_prefix (codes "?=") bytes ≡ false
no_end [] h = refl
no_end (a ∷ []) h = and_right (63 == a) false refl
no_end (a ∷ (b ∷ bytes)) h =
    let first = or_parts (a == 63) (list_any (λ x. x == 63) (b ∷ bytes)) h in
    and_left (63 == a) ((61 == b) && true) (turned a first.0)

module _ (test : List ℕ → Bool) (weak : (bytes : List ℕ) → Lacks bytes → test bytes ≡ false) where
  nowhere : (bytes : List ℕ) → Lacks bytes → first_place test bytes ≡ length bytes
  nowhere [] h = refl
  nowhere (b ∷ bytes) h = rw (weak (b ∷ bytes) h) (ap suc (nowhere bytes ((or_parts (b == 63) (list_any (λ x. x == 63) bytes) h).1)))

  no_place : (bytes : List ℕ) → Lacks bytes → place test bytes ≡ None
  no_place bytes h = rw (nowhere bytes h, le-ltb (length bytes) (length bytes) (omega arith)) refl

  -- none of some pieces passes such a test
  pub none_passes : (found : List (List ℕ)) → AllByRecursion Lacks found → list_any test found ≡ false
  none_passes [] h = refl
  none_passes (piece ∷ found) h = or_from (test piece) (list_any test found) (weak piece h.0) (none_passes found h.1)

no_delimiter : (piece : List ℕ) → Lacks piece → has_word_delimiter piece ≡ false
no_delimiter piece h =
    or_from _ _
    (ap (λ (o : Option ℕ). is_some o) (no_place (has_prefix (codes "=?")) no_begin piece h))
    (ap (λ (o : Option ℕ). is_some o) (no_place (has_prefix (codes "?=")) no_end piece h))

no_word : (piece : List ℕ) → Lacks piece → is_word piece ≡ false
no_word piece h = no_front piece (no_begin piece h)

no_bad_piece : (piece : List ℕ) → Lacks piece → is_bad_piece piece ≡ false
no_bad_piece piece h = and_left (has_word_delimiter piece) _ (no_delimiter piece h)

-- ---- the findings of a header

no_padding : (before : List ℕ) → Lacks before → (piece : List ℕ) → joins before piece ≡ false
no_padding before h piece = and_left (is_padded before) _ (and_left (is_word before) _ (no_word before h))

no_join : (before : List ℕ) (found : List (List ℕ)) → Lacks before → AllByRecursion Lacks found → has_join before found ≡ false
no_join before [] h all = refl
no_join before (piece ∷ found) h all =
    or_from (joins before piece) (has_join (later_piece before piece) found) (no_padding before h piece)
    (no_join (later_piece before piece) found (later before piece h all.0) all.1)
  where
    later : (before piece : List ℕ) → Lacks before → Lacks piece → Lacks (later_piece before piece)
    later before [] h g = h
    later before (b ∷ piece) h g = g

hides_none : (piece : List ℕ) → Lacks piece → hides_address piece ≡ false
hides_none piece h = and_left (is_word piece) _ (no_word piece h)

pub wordless : (known : Charsets) (spot : Spot) (line : HeaderLine) → is_some (byte_place line.value 63) ≡ false
    → word_findings known spot line (pieces line.value) ≡ listed_if spot NameAddress (is_bad_name line [])
wordless known spot line h =
    let all = pieces_lack line.value (mark_lacked line.value h) in
    let found = pieces line.value in
    four spot line (none_passes is_bad_piece no_bad_piece found all) (no_join [] found refl all)
    (none_passes (has_bad_octets known) (λ piece g. and_left (is_word piece) _ (no_word piece g)) found all)
    (none_passes hides_address hides_none found all)
  where
    four : {a b c d : Bool} (spot : Spot) (line : HeaderLine) → a ≡ false → b ≡ false → c ≡ false → d ≡ false
        → listed_if spot WordSyntax a ++ (listed_if spot WordJoin b ++ (listed_if spot WordBytes c
        ++ listed_if spot NameAddress (is_sender line && ((is_named (codes "From") line && has_early_at line.value) || d))))
        ≡ listed_if spot NameAddress (is_bad_name line [])
    four spot line e f g h = rw (e, f, g, h) refl
