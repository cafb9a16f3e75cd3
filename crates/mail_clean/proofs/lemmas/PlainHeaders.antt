-- The headers of plain outlines are those of strict mails.
use Rattle.std.proofs.Common.{◌≡◌, ◌∙◌, ◌≤◌, ℕ, Bool, true, false, not, List, [], ◌∷◌, ◌++◌, length, append-nil, append_assoc, refl, sym, ap, subst, inl, inr, arith, flat_map}
use Rattle.std.specs.Prelude.{◌&&◌, ◌==◌, codes}
use Rattle.std.specs.List.{AllByRecursion, list_all}
use Rattle.std.specs.Str.{is_utf8}
use Rattle.std.proofs.lemmas.Bool.{and_parts, cond_both, cond-true, eqb-true, false≢true}
use Rattle.std.proofs.lemmas.Bool.{and_from, cases_Bool}
use Rattle.std.proofs.lemmas.Bool.Decides.{nat_tests}
use Rattle.mail_codec.specs.Ascii.{colon, closing_parenthesis, equals_sign, is_blank, question_mark}
use Rattle.mail_codec.specs.Charset.{Charsets}
use Rattle.mail_codec.specs.Places.{begins, has_prefix, is_empty}
use Rattle.mail_codec.specs.QuotedPrintable.{cr_lf}
use Rattle.mailparse.specs.Header.{Header}
use Rattle.mail_address.specs.Encode.{is_plain_byte, is_plain_value, written_value}
use Rattle.mail_check.specs.Words.{pieces}
use Rattle.mail_grammar.specs.Headers.{is_name_byte, is_value_byte, is_text_byte, IsValue, value_ends, value_byte, HasNoColonFirst, colon_later, other_first, HasNoFold, fold_later, other_byte, return_feed_only, HasNoCommentFold, no_comment, no_parenthesis, parenthesis, IsHeader, IsBlock, last_header, next_header}
use Rattle.mail_grammar.specs.LineEnds.{is_line_byte, AreLines, no_line, in_line, end_of_line}
use Rattle.mail_check_laws.specs.SenderNames.{HidesNothing}
use Rattle.mail_check_laws.specs.Worded.{HasWordedValue}
use Rattle.mail_check_laws.specs.WordBytes.{IsReadablePiece}
use Rattle.mail_grammar.specs.Words.{HasNoPair, no_pair, not_first, first_alone, HasNoWordEnd, IsStrictPiece, IsWord, ArePieces, one_piece, piece_and_more, IsPaddedWord, AreApart, no_more_pieces, empty_piece, apart_piece}
use Rattle.mail_check_laws.proofs.lemmas.Words.{pieces_are}
use Rattle.mail_clean.specs.PlainOutlines.{IsPlainHeader}
use Rattle.mail_laws.specs.Render.{header_line, header_block, is_key_byte, is_key, written_bytes, written_headers}
use Rattle.mail_grammar.proofs.lemmas.FlatPairs.{all_both}
use Rattle.mail_grammar.proofs.lemmas.Boundaries.{all_head, all_tail}

-- ---- plain values are written as they are

value_same : (value : List ℕ) → is_plain_value value ≡ true → written_bytes value ≡ value
unfolding written_value
value_same value plain =
    cond_both (is_utf8 value) (written_value value) value (λ x. x ≡ value) (λ e. cond-true (is_plain_value value) _ _ plain)
    (λ e. refl)

pub same_written : (headers : List Header) → AllByRecursion IsPlainHeader headers → written_headers headers ≡ headers
same_written [] plain = refl
same_written (h ∷ headers) plain =
    ap (λ (v : List ℕ). with_value v ∷ written_headers headers) (value_same h.value plain.0.value)
    ∙ ap (λ hs. h ∷ hs) (same_written headers plain.1)
  where
    with_value : List ℕ → Header
    with_value v = record { key = h.key; value = v }

-- ---- bytes

pub all_so : (p q : ℕ → Bool) → ((b : ℕ) → p b ≡ true → q b ≡ true) → (xs : List ℕ) → list_all p xs ≡ true → list_all q xs ≡ true
all_so p q f [] h = refl
all_so p q f (b ∷ xs) h = and_from (q b) (list_all q xs) (f b (all_head p b xs h)) (all_so p q f xs (all_tail p b xs h))

key_name : (b : ℕ) → is_key_byte b ≡ true → is_name_byte b ≡ true
key_name b h = grind (arith, nat_tests)

key_plain : (b : ℕ) → is_key_byte b ≡ true → is_plain_byte b ≡ true
key_plain b h = grind (arith, nat_tests)

plain_value_byte : (b : ℕ) → is_plain_byte b ≡ true → is_value_byte b ≡ true
plain_value_byte b h = grind (arith, nat_tests)

plain_line_byte : (b : ℕ) → is_plain_byte b ≡ true → is_line_byte b ≡ true
plain_line_byte b h = grind (arith, nat_tests)

plain_text_byte : (b : ℕ) → is_plain_byte b ≡ true → is_blank b ≡ false → is_text_byte b ≡ true
plain_text_byte b h e = grind (arith, nat_tests)

plain_blank : (b : ℕ) → is_plain_byte b ≡ true → not ((32 == b) && true) ≡ true → is_blank b ≡ false
plain_blank b h e = grind (arith, nat_tests)

-- ---- a header

colon_first : (value : List ℕ) → is_plain_value value ≡ true → begins (λ b. b == colon) value ≡ false
    → HasNoColonFirst (value ++ 13 ∷ 10 ∷ [])
colon_first [] plain none = other_first refl refl
colon_first (b ∷ value) plain none =
    let parts = and_parts (list_all is_plain_byte (b ∷ value)) _ plain in
    let front = and_parts (not (has_prefix (codes " ") (b ∷ value))) _ parts.1 in
    other_first (plain_blank b (all_head is_plain_byte b value parts.0) front.0) none

valued : (value : List ℕ) → list_all is_plain_byte value ≡ true → IsValue (value ++ 13 ∷ 10 ∷ [])
valued [] plain = value_byte refl value_ends
valued (b ∷ value) plain =
    value_byte (plain_value_byte b (all_head is_plain_byte b value plain)) (valued value (all_tail is_plain_byte b value plain))

unfolded : (line : List ℕ) → list_all is_plain_byte line ≡ true → HasNoFold (line ++ 13 ∷ 10 ∷ [])
unfolded [] plain = return_feed_only {rest = []} refl refl
unfolded (b ∷ line) plain = elim (cases_Bool (is_blank b)) [
  | inl e ↦ fold_later e (unfolded line (all_tail is_plain_byte b line plain))
  | inr e ↦ other_byte (plain_text_byte b (all_head is_plain_byte b line plain) e)
]

uncommented : (line : List ℕ) → list_all is_plain_byte line ≡ true → HasNoCommentFold (line ++ 13 ∷ 10 ∷ [])
uncommented [] plain = no_parenthesis refl (no_parenthesis refl no_comment)
uncommented (b ∷ line) plain =
    let others = all_tail is_plain_byte b line plain in
    elim (cases_Bool (b == closing_parenthesis)) [
      | inl e ↦ parenthesis (unfolded line others) (uncommented line others)
          (ap (λ (c : ℕ). c ∷ (line ++ 13 ∷ 10 ∷ [])) (eqb-true b closing_parenthesis e))
      | inr e ↦ no_parenthesis e (uncommented line others)
    ]

written_line : (key value : List ℕ) → list_all is_plain_byte key ≡ true → list_all is_plain_byte value ≡ true
    → list_all is_plain_byte (key ++ 58 ∷ 32 ∷ value) ≡ true
written_line key value named plain = all_both is_plain_byte key (58 ∷ 32 ∷ value) named plain

line_apart : (key value : List ℕ) → (key ++ 58 ∷ 32 ∷ value) ++ 13 ∷ 10 ∷ [] ≡ key ++ 58 ∷ 32 ∷ (value ++ 13 ∷ 10 ∷ [])
line_apart key value = append_assoc key (58 ∷ 32 ∷ value) (13 ∷ 10 ∷ [])

plain_bytes : (value : List ℕ) → is_plain_value value ≡ true → list_all is_plain_byte value ≡ true
plain_bytes value plain = (and_parts (list_all is_plain_byte value) _ plain).0

key_bytes : (key : List ℕ) → is_key key ≡ true → list_all is_plain_byte key ≡ true
key_bytes key named = all_so is_key_byte is_plain_byte key_plain key
    (and_parts (list_all is_key_byte key) (not (is_empty key)) named).0

line_is_header : (key value : List ℕ) → is_key key ≡ true → is_plain_value value ≡ true → begins (λ b. b == colon) value ≡ false
    → IsHeader (key ++ 58 ∷ 32 ∷ (value ++ 13 ∷ 10 ∷ []))
line_is_header [] value named plain none = absurd (false≢true named)
line_is_header (b ∷ key) value named plain none = record {
  first = b;
  others = key;
  value = 32 ∷ (value ++ 13 ∷ 10 ∷ []);
  is_name = all_so is_key_byte is_name_byte key_name (b ∷ key)
      (and_parts (list_all is_key_byte (b ∷ key)) (not (is_empty (b ∷ key))) named).0;
  one_colon = colon_later refl (colon_first value plain none);
  is_value = value_byte refl (valued value (plain_bytes value plain));
  comments = λ e. subst HasNoCommentFold (line_apart (b ∷ key) value)
      (uncommented ((b ∷ key) ++ 58 ∷ 32 ∷ value)
      (written_line (b ∷ key) value (key_bytes (b ∷ key) named) (plain_bytes value plain)));
  made = refl;
}

pub block_is_strict : (headers : List Header) → 1 ≤ length headers → list_all (λ h. is_key h.key) headers ≡ true
    → AllByRecursion IsPlainHeader headers → IsBlock (header_block headers)
block_is_strict [] some keys plain = absurd (omega arith)
block_is_strict (h ∷ []) some keys plain =
    let key = and_parts (is_key h.key) true keys in
    last_header (line_is_header h.key h.value key.0 plain.0.value plain.0.no_colon) (inr refl)
    (ap (λ (x : List ℕ). x ++ cr_lf) (append-nil (header_line h)))
block_is_strict (h ∷ g ∷ headers) some keys plain =
    let key = and_parts (is_key h.key) (list_all (λ x. is_key x.key) (g ∷ headers)) keys in
    next_header (line_is_header h.key h.value key.0 plain.0.value plain.0.no_colon)
    (block_is_strict (g ∷ headers) (omega arith) key.1 plain.1)
    (append_assoc (header_line h) (flat_map header_line (g ∷ headers)) cr_lf)

-- ---- lines

pub lines_joined : (end xs ys : List ℕ) → AreLines end xs → AreLines end ys → AreLines end (xs ++ ys)
lines_joined end xs ys no_line more = more
lines_joined end xs ys (in_line {rest = rest} is lines) more = in_line is (lines_joined end rest ys lines more)
lines_joined end xs ys (end_of_line {rest = rest} lines made) more =
    end_of_line (lines_joined end rest ys lines more) (ap (λ (x : List ℕ). x ++ ys) made ∙ append_assoc end rest ys)

pub plain_lines : (xs : List ℕ) → list_all is_plain_byte xs ≡ true → AreLines (codes "\r\n") xs
plain_lines [] plain = no_line
plain_lines (b ∷ xs) plain =
    in_line (plain_line_byte b (all_head is_plain_byte b xs plain)) (plain_lines xs (all_tail is_plain_byte b xs plain))

pub line_end : (xs : List ℕ) → AreLines (codes "\r\n") xs → AreLines (codes "\r\n") (13 ∷ 10 ∷ xs)
line_end xs lines = end_of_line lines refl

header_lined : (key value : List ℕ) → is_key key ≡ true → is_plain_value value ≡ true
    → AreLines (codes "\r\n") (key ++ 58 ∷ 32 ∷ (value ++ 13 ∷ 10 ∷ []))
header_lined key value named plain =
    subst (AreLines (codes "\r\n")) (line_apart key value)
    (lines_joined (codes "\r\n") (key ++ 58 ∷ 32 ∷ value) (13 ∷ 10 ∷ [])
    (plain_lines (key ++ 58 ∷ 32 ∷ value) (written_line key value (key_bytes key named) (plain_bytes value plain)))
    (line_end [] no_line))

pub block_lined : (headers : List Header) → list_all (λ h. is_key h.key) headers ≡ true → AllByRecursion IsPlainHeader headers
    → AreLines (codes "\r\n") (header_block headers)
block_lined [] keys plain = line_end [] no_line
block_lined (h ∷ headers) keys plain =
    let key = and_parts (is_key h.key) (list_all (λ x. is_key x.key) headers) keys in
    subst (AreLines (codes "\r\n")) (sym (append_assoc (header_line h) (flat_map header_line headers) cr_lf))
    (lines_joined (codes "\r\n") (header_line h) (header_block headers) (header_lined h.key h.value key.0 plain.0.value)
    (block_lined headers key.1 plain.1))

-- ---- words

pair_front : (c d : ℕ) (bytes : List ℕ) → HasNoPair c d bytes → (xs ys : List ℕ) → bytes ≡ xs ++ ys → HasNoPair c d xs
pair_front c d bytes none [] ys e = no_pair
pair_front c d bytes no_pair (x ∷ xs) ys e = absurd (cc)
pair_front c d bytes (not_first {b = b} {rest = rest} other more) (x ∷ xs) ys e =
    let head : b ≡ x = cc in
    let left : rest ≡ xs ++ ys = cc in
    not_first (ap (λ (n : ℕ). n == c) (sym head) ∙ other) (pair_front c d rest more xs ys left)
pair_front c d bytes (first_alone {rest = rest} other more made) (x ∷ xs) ys e =
    let both : c ∷ rest ≡ x ∷ (xs ++ ys) = sym made ∙ e in
    let head : x ≡ c = cc in
    let left : rest ≡ xs ++ ys = cc in
    first_alone (front xs (ap (begins (λ b. b == d)) (sym left) ∙ other)) (pair_front c d rest more xs ys left)
    (ap (λ (n : ℕ). n ∷ xs) head)
  where
    front : (xs : List ℕ) → begins (λ b. b == d) (xs ++ ys) ≡ false → begins (λ b. b == d) xs ≡ false
    front [] h = refl
    front (z ∷ zs) h = h

pair_later : (c d : ℕ) (xs bytes : List ℕ) → HasNoPair c d bytes → (ys : List ℕ) → bytes ≡ xs ++ ys → HasNoPair c d ys
pair_later c d [] bytes none ys e = subst (HasNoPair c d) e none
pair_later c d (x ∷ xs) bytes no_pair ys e = absurd (cc)
pair_later c d (x ∷ xs) bytes (not_first {rest = rest} other more) ys e =
    let left : rest ≡ xs ++ ys = cc in pair_later c d xs rest more ys left
pair_later c d (x ∷ xs) bytes (first_alone {rest = rest} other more made) ys e =
    let both : c ∷ rest ≡ x ∷ (xs ++ ys) = sym made ∙ e in
    let left : rest ≡ xs ++ ys = cc in pair_later c d xs rest more ys left

piece_none : (value : List ℕ) → HasNoWordEnd value → (xs ys : List ℕ) → value ≡ xs ++ ys → HasNoWordEnd xs
piece_none value none xs ys e = record {
  opening = pair_front equals_sign question_mark value none.opening xs ys e;
  closing = pair_front question_mark equals_sign value none.closing xs ys e;
}

rest_none : (value : List ℕ) → HasNoWordEnd value → (xs ys : List ℕ) → value ≡ xs ++ ys → HasNoWordEnd ys
rest_none value none xs ys e = record {
  opening = pair_later equals_sign question_mark xs value none.opening ys e;
  closing = pair_later question_mark equals_sign xs value none.closing ys e;
}

pieces_none : (value : List ℕ) (found : List (List ℕ)) → ArePieces value found → HasNoWordEnd value
    → AllByRecursion HasNoWordEnd found
pieces_none value found (one_piece all) none = (none, tt)
pieces_none value found (piece_and_more {piece = piece} {rest = rest} {found = more} b all is are made) none = (
  piece_none value none piece (b ∷ rest) made,
  pieces_none rest more are (rest_none value none (piece ++ b ∷ []) rest (made ∙ sym (append_assoc piece (b ∷ []) rest))),
)

-- a piece without `=?` does not begin with it
pair_first : (c d : ℕ) (bytes rest : List ℕ) → HasNoPair c d bytes → bytes ≡ c ∷ d ∷ rest → ⊥
pair_first c d bytes rest no_pair e = absurd (cc)
pair_first c d bytes rest (not_first {b = b} other more) e =
    let head : b ≡ c = cc in
    false≢true (sym other ∙ eq_so b c head)
  where
    eq_so : (m n : ℕ) → m ≡ n → (m == n) ≡ true
    eq_so m n e = grind (arith, nat_tests)
pair_first c d bytes rest (first_alone {rest = more} other none made) e =
    let both : c ∷ more ≡ c ∷ d ∷ rest = sym made ∙ e in
    let left : more ≡ d ∷ rest = cc in
    false≢true (sym other ∙ ap (begins (λ b. b == d)) left ∙ eq_so d)
  where
    eq_so : (n : ℕ) → (n == n) ≡ true
    eq_so n = grind (arith, nat_tests)

no_word : (piece : List ℕ) → HasNoWordEnd piece → IsWord piece → ⊥
no_word piece none word = pair_first equals_sign question_mark piece _ none.opening word.made

no_padded : (head piece : List ℕ) → HasNoWordEnd piece → IsPaddedWord head piece → ⊥
no_padded head piece none word =
    pair_first equals_sign question_mark piece _ none.opening
    (word.made
    ∙ ap (λ (x : List ℕ). x ++ (((word.letter ∷ word.letters) ++ (equals_sign ∷ word.padding)) ++ codes "?=")) word.front)

all_apart : (before : List ℕ) (found : List (List ℕ)) → HasNoWordEnd before → AllByRecursion HasNoWordEnd found
    → AreApart before found
all_apart before [] none all = no_more_pieces
all_apart before ([] ∷ found) none all = empty_piece (all_apart before found none all.1)
all_apart before ((b ∷ piece) ∷ found) none all =
    apart_piece refl (λ head same rest padded e. absurd (no_padded head before none padded))
    (all_apart (b ∷ piece) found all.0 all.1)

pub all_are : {X : Type 0} (P Q : X → Type 0) → ((x : X) → P x → Q x) → (xs : List X) → AllByRecursion P xs → AllByRecursion Q xs
all_are P Q f [] h = tt
all_are P Q f (x ∷ xs) h = (f x h.0, all_are P Q f xs h.1)

pub value_worded : (known : Charsets) (header : Header) → IsPlainHeader header → HasWordedValue known header
value_worded known header plain worded =
    let value = header.value in
    let found = pieces value in
    let are = pieces_are value in
    let none = pieces_none value found are (plain.no_word worded) in
    record {
      words = record { found = found; are = are; strict = all_are HasNoWordEnd IsStrictPiece (λ piece h. inl h) found none };
      apart = record {
        found = found;
        are = are;
        apart = all_apart [] found (record { opening = no_pair; closing = no_pair }) none;
      };
      readable = record {
        found = found;
        are = are;
        readable = all_are HasNoWordEnd (IsReadablePiece known)
            (λ piece h word octets are. absurd (no_word piece h word)) found none;
      };
      names = record {
        early = plain.early;
        words = λ e. record {
          found = found;
          are = are;
          plain = all_are HasNoWordEnd HidesNothing (λ piece h word octets are. absurd (no_word piece h word)) found none;
        };
      };
    }
