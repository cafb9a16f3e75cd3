-- Lines as an encoder writes them decode to the bytes that they were made of.
use Rattle.std.proofs.Common.{◌≡◌, ℕ, zero, suc, ◌+◌, ◌-◌, ◌*◌, ◌/◌, ◌%◌, ◌^◌, ◌<◌, ◌≤◌, ◌==◌, min, length-append, Bool, true, false, ◌&&◌, List, [], ◌∷◌, ◌++◌, length, take, drop, All, refl, sym, ap, ◌∙◌, arith, append_assoc, append-nil}
use Rattle.std.specs.List.{flat_map, list_all}
use Rattle.std.proofs.lemmas.Bool.{agree_below_at, and_parts}
use Rattle.std.proofs.lemmas.List.Elements.{All-cons, All-head, All-nil, All-tail}
use Rattle.std.proofs.lemmas.List.Splits.{slice_split_at}
use Rattle.mail_codec.specs.Base64.{group_number, three_bytes}
use Rattle.mail_codec.specs.Uuencode.{bytes_of, data_bytes, data_length, data_lines, encoded, encoded_line, encoded_lines, first_bytes, is_data, is_letter, is_lf, letter, letter_value, letters_of, line_bytes, lines_length, lines_of, needed}
use Rattle.mail_codec.proofs.lemmas.CharsetSingleByte.{agree}
use Rattle.mail_codec.proofs.lemmas.Uuencode.{data_bytes-cons, data_bytes-is, data_length-cons, data_length-is}

-- ---- a letter

letter_is : (v : ℕ) → v < 64 → letter_value (letter v) ≡ v
letter_is v low = agree (λ v. letter_value (letter v)) (λ v. v) 64 refl v low

letter_passes : (v : ℕ) → v < 64 → is_letter (letter v) ≡ true
letter_passes v low = agree_below_at (λ v. is_letter (letter v)) (λ _. true) 64 v refl low

letter_no_lf : (v : ℕ) → v < 64 → is_lf (letter v) ≡ false
letter_no_lf v low = agree_below_at (λ v. is_lf (letter v)) (λ _. false) 64 v refl low

both : (a b : Bool) → a ≡ true → b ≡ true → (a && b) ≡ true
both a b holds also = ap (λ x. x && b) holds ∙ also

-- ---- the letters of three bytes

abbrev of_values : ℕ → ℕ → ℕ → ℕ → List ℕ
of_values a b c d = three_bytes (group_number a b c d)

first_bytes-is : (p q r s : ℕ) (more : List ℕ)
    → first_bytes (p ∷ q ∷ r ∷ s ∷ more) ≡ of_values (letter_value p) (letter_value q) (letter_value r) (letter_value s)
unfolding first_bytes
first_bytes-is p q r s more = refl

abbrev IsLf : ℕ → Type 0
IsLf b = is_lf b ≡ false

abbrev IsByte : ℕ → Type 0
IsByte b = b < 256

module _ (x y z : ℕ) (x_low : x < 256) (y_low : y < 256) (z_low : z < 256) where
  a_low : x / 4 < 64
  a_low = omega arith

  b_low : x % 4 * 16 + y / 16 < 64
  b_low = omega arith

  c_low : y % 16 * 4 + z / 64 < 64
  c_low = omega arith

  d_low : z % 64 < 64
  d_low = omega arith

  number_is : group_number (x / 4) (x % 4 * 16 + y / 16) (y % 16 * 4 + z / 64) (z % 64) ≡ x * 65536 + y * 256 + z
  number_is = omega arith

  three_are : three_bytes (x * 65536 + y * 256 + z) ≡ x ∷ y ∷ z ∷ []
  three_are =
      let first : (x * 65536 + y * 256 + z) / 65536 ≡ x = omega arith in
      let second : (x * 65536 + y * 256 + z) / 256 % 256 ≡ y = omega arith in
      let third : (x * 65536 + y * 256 + z) % 256 ≡ z = omega arith in
      ap (λ (k : ℕ). k ∷ ((x * 65536 + y * 256 + z) / 256 % 256) ∷ ((x * 65536 + y * 256 + z) % 256) ∷ []) first
      ∙ ap (λ (k : ℕ). x ∷ k ∷ ((x * 65536 + y * 256 + z) % 256) ∷ []) second
      ∙ ap (λ (k : ℕ). x ∷ y ∷ k ∷ []) third

  group_read : (more : List ℕ) → first_bytes (letters_of x y z ++ more) ≡ x ∷ y ∷ z ∷ []
  group_read more =
      let a : ℕ = x / 4 in
      let b : ℕ = x % 4 * 16 + y / 16 in
      let c : ℕ = y % 16 * 4 + z / 64 in
      let d : ℕ = z % 64 in
      first_bytes-is (letter a) (letter b) (letter c) (letter d) more
      ∙ ap (λ (k : ℕ). of_values k (letter_value (letter b)) (letter_value (letter c)) (letter_value (letter d))) (letter_is a a_low)
      ∙ ap (λ (k : ℕ). of_values a k (letter_value (letter c)) (letter_value (letter d))) (letter_is b b_low)
      ∙ ap (λ (k : ℕ). of_values a b k (letter_value (letter d))) (letter_is c c_low)
      ∙ ap (λ (k : ℕ). of_values a b c k) (letter_is d d_low)
      ∙ ap three_bytes number_is
      ∙ three_are

  group_passes : (more : List ℕ) → list_all is_letter more ≡ true → list_all is_letter (letters_of x y z ++ more) ≡ true
  group_passes more h =
      both _ _ (letter_passes (x / 4) a_low) (both _ _ (letter_passes (x % 4 * 16 + y / 16) b_low)
      (both _ _ (letter_passes (y % 16 * 4 + z / 64) c_low) (both _ _ (letter_passes (z % 64) d_low) h)))

  group_no_lf : (more : List ℕ) → All IsLf more → All IsLf (letters_of x y z ++ more)
  group_no_lf more h =
      let a : ℕ = letter (x / 4) in
      let b : ℕ = letter (x % 4 * 16 + y / 16) in
      let c : ℕ = letter (y % 16 * 4 + z / 64) in
      let d : ℕ = letter (z % 64) in
      All-cons IsLf a (b ∷ c ∷ d ∷ more) (letter_no_lf (x / 4) a_low) (All-cons IsLf b (c ∷ d ∷ more) (letter_no_lf (x % 4 * 16 + y / 16) b_low)
      (All-cons IsLf c (d ∷ more) (letter_no_lf (y % 16 * 4 + z / 64) c_low) (All-cons IsLf d more (letter_no_lf (z % 64) d_low) h)))

-- ---- a line

none_low : 0 < 256
none_low = omega arith

bytes_read : (bytes more : List ℕ) → All IsByte bytes → bytes_of (length bytes) (encoded bytes ++ more) ≡ bytes
bytes_read [] more h = refl
bytes_read (x ∷ []) more h = ap (take 1) (group_read x 0 0 (All-head IsByte x [] h) none_low none_low more)
bytes_read (x ∷ y ∷ []) more h =
    ap (take 2) (group_read x y 0 (All-head IsByte x (y ∷ []) h) (All-head IsByte y [] (All-tail IsByte x (y ∷ []) h)) none_low more)
bytes_read (x ∷ y ∷ z ∷ bytes) more h =
    let ys = All-tail IsByte x (y ∷ z ∷ bytes) h in
    let zs = All-tail IsByte y (z ∷ bytes) ys in
    ap (λ (f : List ℕ). f ++ bytes_of (length bytes) (encoded bytes ++ more))
    (group_read x y z (All-head IsByte x (y ∷ z ∷ bytes) h) (All-head IsByte y (z ∷ bytes) ys) (All-head IsByte z bytes zs) (encoded bytes ++ more))
    ∙ ap (λ (r : List ℕ). x ∷ y ∷ z ∷ r) (bytes_read bytes more (All-tail IsByte z bytes zs))

encoded_passes : (bytes : List ℕ) → All IsByte bytes → list_all is_letter (encoded bytes) ≡ true
encoded_passes [] h = refl
encoded_passes (x ∷ []) h = group_passes x 0 0 (All-head IsByte x [] h) none_low none_low [] refl
encoded_passes (x ∷ y ∷ []) h =
    group_passes x y 0 (All-head IsByte x (y ∷ []) h) (All-head IsByte y [] (All-tail IsByte x (y ∷ []) h)) none_low [] refl
encoded_passes (x ∷ y ∷ z ∷ bytes) h =
    let ys = All-tail IsByte x (y ∷ z ∷ bytes) h in
    let zs = All-tail IsByte y (z ∷ bytes) ys in
    group_passes x y z (All-head IsByte x (y ∷ z ∷ bytes) h) (All-head IsByte y (z ∷ bytes) ys) (All-head IsByte z bytes zs) (encoded bytes)
    (encoded_passes bytes (All-tail IsByte z bytes zs))

encoded_no_lf : (bytes : List ℕ) → All IsByte bytes → All IsLf (encoded bytes)
encoded_no_lf [] h = All-nil IsLf
encoded_no_lf (x ∷ []) h = group_no_lf x 0 0 (All-head IsByte x [] h) none_low none_low [] (All-nil IsLf)
encoded_no_lf (x ∷ y ∷ []) h =
    group_no_lf x y 0 (All-head IsByte x (y ∷ []) h) (All-head IsByte y [] (All-tail IsByte x (y ∷ []) h)) none_low [] (All-nil IsLf)
encoded_no_lf (x ∷ y ∷ z ∷ bytes) h =
    let ys = All-tail IsByte x (y ∷ z ∷ bytes) h in
    let zs = All-tail IsByte y (z ∷ bytes) ys in
    group_no_lf x y z (All-head IsByte x (y ∷ z ∷ bytes) h) (All-head IsByte y (z ∷ bytes) ys) (All-head IsByte z bytes zs) (encoded bytes)
    (encoded_no_lf bytes (All-tail IsByte z bytes zs))

passes_take : (n : ℕ) (xs : List ℕ) → list_all is_letter xs ≡ true → list_all is_letter (take n xs) ≡ true
passes_take zero xs h = refl
passes_take (suc n) [] h = refl
passes_take (suc n) (x ∷ xs) h = let parts = and_parts (is_letter x) (list_all is_letter xs) h in both (is_letter x) (list_all is_letter (take n xs)) parts.0 (passes_take n xs parts.1)

module _ (bytes : List ℕ) (short : length bytes < 64) (are : All IsByte bytes) where
  line_is_data : is_data (encoded_line bytes) ≡ true
  unfolding is_data
  line_is_data =
      passes_take (needed (encoded_line bytes)) (encoded_line bytes) (both _ _ (letter_passes (length bytes) short) (encoded_passes bytes are))

  line_read : line_bytes (encoded_line bytes) ≡ bytes
  unfolding line_bytes
  line_read =
      ap (λ (n : ℕ). bytes_of n (encoded bytes)) (letter_is (length bytes) short)
      ∙ ap (bytes_of (length bytes)) (sym (append-nil (encoded bytes)))
      ∙ bytes_read bytes [] are

  line_no_lf : All IsLf (encoded_line bytes)
  line_no_lf = All-cons IsLf (letter (length bytes)) (encoded bytes) (letter_no_lf (length bytes) short) (encoded_no_lf bytes are)

  line_split : (rest : List ℕ) → lines_of ((encoded_line bytes ++ 10 ∷ []) ++ rest) ≡ encoded_line bytes ∷ lines_of rest
  line_split rest =
      ap lines_of (append_assoc (encoded_line bytes) (10 ∷ []) rest)
      ∙ slice_split_at is_lf (encoded_line bytes) 10 rest line_no_lf refl

-- ---- a file

abbrev pub IsPiece : List ℕ → Type 0
IsPiece piece = (length piece < 64) × All (λ b. b < 256) piece

pub lines_read : (pieces : List (List ℕ)) (rest : List ℕ) → All IsPiece pieces
    → data_bytes (encoded_lines pieces ++ rest) ≡ flat_map (λ piece. piece) pieces ++ data_bytes rest
lines_read [] rest h = refl
lines_read (piece ∷ pieces) rest h =
    let here = All-head IsPiece piece pieces h in
    let more : List ℕ = encoded_lines pieces ++ rest in
    let line : List ℕ = encoded_line piece ++ 10 ∷ [] in
    ap data_bytes (append_assoc line (encoded_lines pieces) rest)
    ∙ data_bytes-cons (line ++ more) (encoded_line piece) (lines_of more) (line_split piece here.0 here.1 more) (line_is_data piece here.0 here.1)
    ∙ ap (λ (x : List ℕ). x ++ flat_map line_bytes (data_lines (lines_of more))) (line_read piece here.0 here.1)
    ∙ ap (λ (x : List ℕ). piece ++ x) (sym (data_bytes-is more) ∙ lines_read pieces rest (All-tail IsPiece piece pieces h))
    ∙ sym (append_assoc piece (flat_map (λ piece. piece) pieces) (data_bytes rest))

abbrev left_length : List ℕ → ℕ
left_length text = lines_length (data_lines (lines_of text))

pub lines_long : (pieces : List (List ℕ)) (rest : List ℕ) → All IsPiece pieces
    → data_length (encoded_lines pieces ++ rest) ≡ length (encoded_lines pieces) + data_length rest
lines_long [] rest h = let none : data_length rest ≡ 0 + data_length rest = omega arith in none
lines_long (piece ∷ pieces) rest h =
    let here = All-head IsPiece piece pieces h in
    let more : List ℕ = encoded_lines pieces ++ rest in
    let line : List ℕ = encoded_line piece ++ 10 ∷ [] in
    let n : ℕ = length (encoded_line piece) + 1 in
    let line_len : length line ≡ n = length-append (encoded_line piece) (10 ∷ []) in
    let all_len : length (line ++ more) ≡ n + length more = length-append line more ∙ ap (λ (k : ℕ). k + length more) line_len in
    let both_len : length (line ++ encoded_lines pieces) ≡ n + length (encoded_lines pieces) =
    length-append line (encoded_lines pieces) ∙ ap (λ (k : ℕ). k + length (encoded_lines pieces)) line_len in
    let front : data_length (line ++ more) ≡ min (n + left_length more) (length (line ++ more)) =
    data_length-cons (line ++ more) (encoded_line piece) (lines_of more) (line_split piece here.0 here.1 more) (line_is_data piece here.0 here.1) in
    let moved : min (n + left_length more) (n + length more) ≡ n + min (left_length more) (length more) = omega arith in
    let is : data_length (line ++ more) ≡ n + data_length more =
    front ∙ ap (min (n + left_length more)) all_len ∙ moved ∙ ap (λ (k : ℕ). n + k) (sym (data_length-is more)) in
    ap data_length (append_assoc line (encoded_lines pieces) rest)
    ∙ is
    ∙ omega (arith, lines_long pieces rest (All-tail IsPiece piece pieces h), both_len)
