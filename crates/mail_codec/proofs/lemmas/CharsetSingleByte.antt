-- Texts in which each byte is one character: the tables, ASCII, and texts in pieces.
use Rattle.std.proofs.Common.{◌≡◌, ℕ, ◌+◌, ◌-◌, ◌<◌, ◌≤◌, Bool, true, false, leb-false, List, [], ◌∷◌, ◌++◌, map, take, drop, length, get_or, IsAscii, refl, sym, ap, subst, append-nil, take-append-drop, ◌∙◌, encode_utf8, encode_utf8_all, append_assoc, arith, suc-le-suc, Fits, w8, map-id, ap₂, zero, suc, ◌==◌}
use Rattle.std.proofs.lemmas.Bool.{agree_below, agree_below_at, eqb-true}
use Rattle.std.proofs.lemmas.Bool.Decides.{nat_tests}
use Rattle.std.proofs.Math.Seq.{take-add}
use Rattle.std.proofs.lemmas.Str.{IsAscii-append, encodes-IsAscii, encodes-append}
use Rattle.std.proofs.lemmas.List.{map-append, take_more, take-take}
use Rattle.std.specs.Prelude.{nat_le}
use Rattle.mail_codec.specs.Places.{begins, first_place}
use Rattle.mail_codec.specs.Charset.{single_byte_char, windows_1252_char, ascii_char, ascii_text}
use Rattle.mail_codec.specs.Latin1.{latin1_text}
use Rattle.mail_codec.specs.declared.charset.single_byte.TheConstants.{LATIN_1, WINDOWS_1252, ASCII}

-- the text of bytes under a high half
abbrev pub spelled : List ℕ → List ℕ → List ℕ
spelled high bytes = encode_utf8_all (map (single_byte_char high) bytes)

-- ASCII bytes followed by a block of ASCII bytes are ASCII
pub IsAscii-block : (bs : List ℕ) (n k : ℕ) → IsAscii (take n bs) → IsAscii (take ((n + k) - n) (drop n bs)) → IsAscii (take (n + k) bs)
IsAscii-block bs n k front block = let e : (n + k) - n ≡ k = omega arith in rw take-add (IsAscii-append (take n bs) (take k (drop n bs)) front (rw e at block))

-- functions that agree on each number below n agree on a list of such numbers
pub map_agree : (f g : ℕ → ℕ) (n : ℕ) → ((b : ℕ) → b < n → f b ≡ g b) → (bs : List ℕ) → ((k : ℕ) → k < length bs → get_or bs k 0 < n) → map f bs ≡ map g bs
map_agree f g n same [] low = refl
map_agree f g n same (b ∷ bs) low = ap₂ (λ x y. x ∷ y) (same b (low 0 (omega arith))) (map_agree f g n same bs (λ k h. low (suc k) (suc-le-suc h)))

-- what the test says of one byte
pub agree : (f g : ℕ → ℕ) (n : ℕ) → agree_below (λ k. f k == g k) (λ _. true) n ≡ true → (b : ℕ) → b < n → f b ≡ g b
agree f g n all b h = eqb-true _ _ (agree_below_at (λ k. f k == g k) (λ _. true) n b all h)

-- each number of the list is a byte
abbrev pub AreBytes : List ℕ → Type 0
AreBytes bs = (k : ℕ) → Fits w8 (get_or bs k 0)

-- a high half with the characters of a charset gives its texts
spelled_by : (high : List ℕ) (char : ℕ → ℕ) → agree_below (λ b. single_byte_char high b == char b) (λ _. true) 256 ≡ true → (bs : List ℕ) → AreBytes bs → spelled high bs ≡ encode_utf8_all (map char bs)
spelled_by high char all bs bytes =
    ap encode_utf8_all (map_agree (single_byte_char high) char 256 (agree (single_byte_char high) char 256 all) bs (λ k _. let fits : Fits w8 (get_or bs k 0) = bytes k in omega arith))

pub spelled_latin1 : (bs : List ℕ) → AreBytes bs → spelled LATIN_1 bs ≡ latin1_text bs
spelled_latin1 bs bytes = spelled_by LATIN_1 (λ b. b) refl bs bytes ∙ ap encode_utf8_all (map-id bs)

pub spelled_windows_1252 : (bs : List ℕ) → AreBytes bs → spelled WINDOWS_1252 bs ≡ encode_utf8_all (map windows_1252_char bs)
spelled_windows_1252 = spelled_by WINDOWS_1252 windows_1252_char refl

pub spelled_ascii : (bs : List ℕ) → AreBytes bs → spelled ASCII bs ≡ ascii_text bs
spelled_ascii = spelled_by ASCII ascii_char refl

-- ASCII bytes are their own text
single_byte_char_low : (high : List ℕ) (b : ℕ) → b < 128 → single_byte_char high b ≡ b
single_byte_char_low high b h = grind (arith, nat_tests)

pub spelled_low : (high bs : List ℕ) → IsAscii bs → spelled high bs ≡ bs
spelled_low high bs low = ap encode_utf8_all (map_agree (single_byte_char high) (λ b. b) 128 (single_byte_char_low high) bs (λ k _. low k) ∙ map-id bs) ∙ encodes-IsAscii bs low

-- the text of two runs of bytes
pub spelled-append : (high xs ys : List ℕ) → spelled high (xs ++ ys) ≡ spelled high xs ++ spelled high ys
spelled-append high xs ys = ap encode_utf8_all (map-append (single_byte_char high) xs ys) ∙ encodes-append (map (single_byte_char high) xs) (map (single_byte_char high) ys)

-- the text of some bytes at the front, and then that of the others
spelled_cut : (high bs : List ℕ) (n : ℕ) → spelled high bs ≡ spelled high (take n bs) ++ spelled high (drop n bs)
spelled_cut high bs n = ap (spelled high) (sym (take-append-drop n bs)) ∙ spelled-append high (take n bs) (drop n bs)

-- the text so far and that of the rest stay the whole text when the text of some bytes at the front is appended
pub front_pushed : (high rest made total pushed others : List ℕ) (n : ℕ) → made ++ spelled high rest ≡ total
    → pushed ≡ spelled high (take n rest) → others ≡ drop n rest → (made ++ pushed) ++ spelled high others ≡ total
front_pushed high rest made total pushed others n h front back =
    rw (front, back, append_assoc) (rw (← spelled_cut high rest n) h)

-- the text of one more byte
pub spelled_more : (high bs made character : List ℕ) (i : ℕ) → i < length bs → made ≡ spelled high (take i bs) → character ≡ encode_utf8 (single_byte_char high (get_or bs i 0))
    → made ++ character ≡ spelled high (take (i + 1) bs)
spelled_more high bs made character i below h one =
    rw (h, one, take_more bs i 0, spelled-append) (ap (λ x. spelled high (take i bs) ++ x) (sym (append-nil (encode_utf8 (single_byte_char high (get_or bs i 0))))))

-- the bytes before the first high byte are ASCII
ascii_front : (v : List ℕ) → IsAscii (take (first_place (begins (λ b. nat_le 128 b)) v) v)
ascii_front [] = λ k. omega arith
ascii_front (b ∷ v) = go (nat_le 128 b) refl (ascii_front v)
  where
    go : (t : Bool) → nat_le 128 b ≡ t → IsAscii (take (first_place (begins (λ x. nat_le 128 x)) v) v) → IsAscii (take (first_place (begins (λ x. nat_le 128 x)) (b ∷ v)) (b ∷ v))
    go true e rest = rw e (λ k. omega arith)
    go false e rest = rw e (elim [ zero ↦ leb-false 128 b e | suc k ↦ rest k ])

-- and so are those of a vector after ASCII bytes
pub ascii_more : (bs : List ℕ) (at m : ℕ) → m ≡ first_place (begins (λ b. nat_le 128 b)) (take 16 (drop at bs)) → m ≤ 16 → IsAscii (take at bs) → IsAscii (take (at + m) bs)
ascii_more bs at m is few front =
    let low : IsAscii (take m (take 16 (drop at bs))) = subst (λ n. IsAscii (take n (take 16 (drop at bs)))) (sym is) (ascii_front (take 16 (drop at bs))) in
    rw take-add (IsAscii-append (take at bs) (take m (drop at bs)) front (rw (take-take m 16 (drop at bs) few) at low))

-- the text with a run of ASCII bytes appended
pub spelled_run : (high bs : List ℕ) (from run : ℕ) → IsAscii (take run (drop from bs)) → spelled high (take from bs) ++ take run (drop from bs) ≡ spelled high (take (from + run) bs)
spelled_run high bs from run low =
    ap (λ xs. spelled high (take from bs) ++ xs) (sym (spelled_low high (take run (drop from bs)) low))
    ∙ sym (spelled-append high (take from bs) (take run (drop from bs)))
    ∙ ap (spelled high) (sym (take-add from run bs))
