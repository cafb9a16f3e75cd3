-- The written header block of an outline reads as its headers.
use Rattle.std.proofs.Common.{◌≡◌, ℕ, suc, ◌+◌, ◌-◌, ◌≤◌, Bool, true, false, eqb, not, ◌&&◌, ◌||◌, List, [], ◌∷◌, ◌++◌, length, take, drop, Ok, codes, refl, sym, ap, ◌∙◌, arith, append_assoc, length-append, flat_map}
use Rattle.std.specs.List.{list_all}
use Rattle.std.proofs.lemmas.Bool.{false≢true, and_parts, and_left, eq-eqb, ne_eqb, not-true}
use Rattle.std.proofs.lemmas.Bool.Decides.{nat_tests}
use Rattle.std.proofs.lemmas.List.{drop_at, take_at}
use Rattle.mail_codec.specs.Ascii.{is_blank}
use Rattle.mail_codec.specs.Places.{first_place, begins, has_prefix, is_empty}
use Rattle.mail_codec.proofs.lemmas.Places.{first_place-here, first_place-past}
use Rattle.mail_codec.specs.QuotedPrintable.{cr_lf}
use Rattle.mailparse.specs.Header.{Header, ends_key, ends_header, is_line_end, key_end, has_colon, header_end, header_length, header_of}
use Rattle.mailparse.specs.Block.{blank_line, headers_end, has_header, read_headers}
use Rattle.mailparse.proofs.lemmas.Header.{header_of-value, is_line_end-false}
use Rattle.mailparse.proofs.lemmas.Block.{with_front, read_headers-more, read_headers-none}
use Rattle.mail_address.specs.Encode.{is_plain_byte, is_plain_value}
use Rattle.mail_address.proofs.lemmas.Encode.{plain_byte, plain_no_feed}
use Rattle.mail_address.proofs.lemmas.Tokens.{drop_past}
use Rattle.mail_laws.specs.Render.{header_line, header_block, is_key_byte, is_key}

-- ---- lists of bytes that pass a test

-- bytes at which a test fails whatever follows are passed
pub first_place-over : (test : List ℕ → Bool) (over : ℕ → Bool) → ((b : ℕ) (bs : List ℕ) → over b ≡ true → test (b ∷ bs) ≡ false)
    → (front rest : List ℕ) → list_all over front ≡ true → first_place test (front ++ rest) ≡ length front + first_place test rest
first_place-over test over fails [] rest all = omega arith
first_place-over test over fails (b ∷ front) rest all =
    let parts = and_parts (over b) (list_all over front) all in
    let past = first_place-past test b (front ++ rest) (fails b (front ++ rest) parts.0) in
    let more = first_place-over test over fails front rest parts.1 in
    omega arith

-- ---- the bytes of keys and values

pub key_byte : (b : ℕ) → is_key_byte b ≡ true → (33 ≤ b) × (b ≤ 126) × (eqb b 58 ≡ false)
key_byte b h = (grind (arith, nat_tests), grind (arith, nat_tests), grind (arith, nat_tests))

key_passed : (b : ℕ) (bs : List ℕ) → is_key_byte b ≡ true → begins ends_key (b ∷ bs) ≡ false
key_passed b bs h = grind (arith, nat_tests)

pub plain_passed : (b : ℕ) (bs : List ℕ) → is_plain_byte b ≡ true → ends_header (b ∷ bs) ≡ false
plain_passed b bs h = and_left (eqb b 10) _ (plain_no_feed b h)

pub value_passed : (b : ℕ) (bs : List ℕ) → is_plain_byte b ≡ true → list_all is_line_end (b ∷ bs) ≡ false
value_passed b bs h =
    let low = (plain_byte b h).0 in
    and_left (is_line_end b) _ (is_line_end-false b (λ e. absurd (omega (arith, low))) (λ e. absurd (omega (arith, low))))

-- the value starts after one space
value_begins : (value rest : List ℕ) → has_prefix (codes " ") value ≡ false → first_place (begins (λ b. not (eqb b 32))) (value ++ 13 ∷ rest) ≡ 0
value_begins [] rest h = refl
value_begins (v ∷ value) rest h =
    first_place-here (begins (λ b. not (eqb b 32))) (v ∷ (value ++ 13 ∷ rest))
    (ap not (ne_eqb v 32 (λ e. absurd (false≢true (sym h ∙ ap (λ t. t && true) (eq-eqb 32 v (sym e)))))))

-- ---- one header, as it is written, and what follows it

-- the bytes after its colon
abbrev after_colon : List ℕ → List ℕ → List ℕ
after_colon value rest = 32 ∷ (value ++ 13 ∷ 10 ∷ rest)

abbrev line : List ℕ → List ℕ → List ℕ → List ℕ
line key value rest = key ++ 58 ∷ after_colon value rest

-- the bytes between its colon and its LF
abbrev between : List ℕ → List ℕ
between value = 32 ∷ (value ++ 13 ∷ [])

after_colon_between : (value rest : List ℕ) → after_colon value rest ≡ between value ++ 10 ∷ rest
after_colon_between value rest = ap (λ (x : List ℕ). 32 ∷ x) (sym (append_assoc value (13 ∷ []) (10 ∷ rest)))

length-between : (value : List ℕ) → length (between value) ≡ length value + 2
length-between value = let e = length-append value (13 ∷ []) in omega arith

length-line : (key value rest : List ℕ) → length (line key value rest) ≡ length key + length value + 4 + length rest
length-line key value rest =
    let a = length-append key (58 ∷ after_colon value rest) in
    let b = length-append value (13 ∷ 10 ∷ rest) in
    omega arith

-- the LF ends the header if no blank follows
pub last_feed : (rest : List ℕ) → begins is_blank rest ≡ false → first_place ends_header (13 ∷ 10 ∷ rest) ≡ 1
last_feed rest no_blank = ap suc (first_place-here ends_header (10 ∷ rest) (ap not no_blank))

-- a value that a header can carry: no space begins it, it ends before the CR LF after it, and all of it is the header's value
pub record IsValue (value : List ℕ) : Type 0 where
  pub no_space : has_prefix (codes " ") value ≡ false
  pub ends : (rest : List ℕ) → begins is_blank rest ≡ false → first_place ends_header (value ++ 13 ∷ 10 ∷ rest) ≡ length value + 1
  pub whole : first_place (list_all is_line_end) (value ++ 13 ∷ []) ≡ length value

-- the values of headers are such values
abbrev pub AreValues : List Header → Type 0
AreValues [] = Unit {0}
AreValues (h ∷ headers) = IsValue h.value × AreValues headers

-- a plain one is
pub plain_is_value : (value : List ℕ) → is_plain_value value ≡ true → IsValue value
plain_is_value value plain =
    let parts = and_parts (list_all is_plain_byte value) _ plain in
    let trimmed : first_place (list_all is_line_end) (value ++ 13 ∷ []) ≡ length value + 0 =
    first_place-over (list_all is_line_end) is_plain_byte value_passed value (13 ∷ []) parts.0 in
    record {
      no_space = not-true (has_prefix (codes " ") value) (and_parts (not (has_prefix (codes " ") value)) _ parts.1).0;
      ends = λ rest no_blank. first_place-over ends_header is_plain_byte plain_passed value (13 ∷ 10 ∷ rest) parts.0
          ∙ ap (λ n. length value + n) (last_feed rest no_blank);
      whole = trimmed ∙ omega arith;
    }

module _ (key value rest : List ℕ) (keys : list_all is_key_byte key ≡ true) (valued : IsValue value) (no_blank : begins is_blank rest ≡ false) where
  key_end-written : key_end (line key value rest) ≡ length key
  unfolding key_end
  key_end-written =
      let e : first_place (begins ends_key) (line key value rest) ≡ length key + 0 = first_place-over (begins ends_key) is_key_byte key_passed key (58 ∷ after_colon value rest) keys in
      e ∙ omega arith

  has_colon-written : has_colon (line key value rest) ≡ true
  unfolding has_colon
  has_colon-written =
      ap (λ n. begins (λ b. eqb b 58) (drop n (line key value rest))) key_end-written
      ∙ ap (begins (λ b. eqb b 58)) (drop_at key (58 ∷ after_colon value rest) (length key) refl)

  drop_after_colon : drop (suc (length key)) (line key value rest) ≡ after_colon value rest
  drop_after_colon = drop_past key 58 (after_colon value rest)

  end_after_colon : first_place ends_header (after_colon value rest) ≡ length value + 2
  end_after_colon =
      first_place-past ends_header 32 (value ++ 13 ∷ 10 ∷ rest) (plain_passed 32 (value ++ 13 ∷ 10 ∷ rest) refl)
      ∙ ap suc (valued.ends rest no_blank) ∙ omega arith

  header_end-written : header_end (line key value rest) ≡ length key + length value + 3
  unfolding header_end
  header_end-written =
      let from : suc (length key) + first_place ends_header (drop (suc (length key)) (line key value rest)) ≡ length key + length value + 3 =
      ap (λ (x : List ℕ). suc (length key) + first_place ends_header x) drop_after_colon ∙ ap (λ n. suc (length key) + n) end_after_colon ∙ omega arith in
      rw (has_colon-written, key_end-written) from

  pub header_length-written : header_length (line key value rest) ≡ length key + length value + 4
  unfolding header_length
  header_length-written =
      let a = length-line key value rest in
      let b = header_end-written in
      omega arith

  is_between : between value ≡ take (header_end (line key value rest) - (length key + 1)) (drop (length key + 1) (line key value rest))
  is_between =
      let end = header_end-written in
      let n : header_end (line key value rest) - (length key + 1) ≡ length value + 2 = omega (arith, end) in
      let one : length key + 1 ≡ suc (length key) = omega arith in
      sym (ap (λ k. take k (drop (length key + 1) (line key value rest))) n
      ∙ ap (λ k. take (length value + 2) (drop k (line key value rest))) one
      ∙ ap (take (length value + 2)) (drop_after_colon ∙ after_colon_between value rest)
      ∙ take_at (between value) (10 ∷ rest) (length value + 2) (length-between value))

  is_spaceless : value ++ 13 ∷ [] ≡ drop (first_place (begins (λ b. not (eqb b 32))) (between value)) (between value)
  is_spaceless =
      let one : first_place (begins (λ b. not (eqb b 32))) (between value) ≡ 1 = ap suc (value_begins value [] valued.no_space) in
      sym (ap (λ n. drop n (between value)) one)

  is_trimmed : value ≡ take (first_place (list_all is_line_end) (value ++ 13 ∷ [])) (value ++ 13 ∷ [])
  is_trimmed = sym (ap (λ n. take n (value ++ 13 ∷ [])) valued.whole ∙ take_at value (13 ∷ []) (length value) refl)

  pub header_of-written : header_of (line key value rest) ≡ record { key = key; value = value }
  header_of-written =
      header_of-value (line key value rest) (length key) (header_end (line key value rest)) has_colon-written (sym key_end-written) refl (between value) (value ++ 13 ∷ []) value
      is_between is_spaceless is_trimmed
      ∙ ap (λ (k : List ℕ). pair k value) (take_at key (58 ∷ after_colon value rest) (length key) refl)
    where
      pair : List ℕ → List ℕ → Header
      pair k v = record { key = k; value = v }

-- ---- the block

has_header-key : (key rest : List ℕ) → is_key key ≡ true → has_header (key ++ rest) ≡ true
unfolding has_header headers_end blank_line
has_header-key [] rest h = absurd (false≢true h)
has_header-key (b ∷ key) rest h =
    let parts = and_parts (list_all is_key_byte (b ∷ key)) true h in
    let low = (key_byte b (and_parts (is_key_byte b) (list_all is_key_byte key) parts.0).0).0 in
    rw (ne_eqb 10 b (λ e. absurd (omega (arith, low))), ne_eqb 13 b (λ e. absurd (omega (arith, low))), ne_eqb 32 b (λ e. absurd (omega (arith, low)))) refl

no_blank-key : (key rest : List ℕ) → is_key key ≡ true → begins is_blank (key ++ rest) ≡ false
no_blank-key [] rest h = absurd (false≢true h)
no_blank-key (b ∷ key) rest h =
    let parts = and_parts (list_all is_key_byte (b ∷ key)) true h in
    let low = (key_byte b (and_parts (is_key_byte b) (list_all is_key_byte key) parts.0).0).0 in
    ap (λ t. t || eqb b 9) (ne_eqb b 32 (λ e. absurd (omega (arith, low)))) ∙ ne_eqb b 9 (λ e. absurd (omega (arith, low)))

-- a header as it is written, with what follows
header_line-rest : (h : Header) (rest : List ℕ) → header_line h ++ rest ≡ line h.key h.value rest
header_line-rest h rest =
    append_assoc h.key (codes ": " ++ (h.value ++ cr_lf)) rest
    ∙ ap (λ (x : List ℕ). h.key ++ 58 ∷ 32 ∷ x) (append_assoc h.value cr_lf rest)

-- the first header as it is written, and then the block of the others
header_block-more : (h : Header) (headers : List Header) (body : List ℕ) → header_block (h ∷ headers) ++ body ≡ header_line h ++ (header_block headers ++ body)
header_block-more h headers body =
    let lines = flat_map header_line headers in
    append_assoc (header_line h ++ lines) cr_lf body
    ∙ append_assoc (header_line h) lines (cr_lf ++ body)
    ∙ ap (λ (x : List ℕ). header_line h ++ x) (sym (append_assoc lines cr_lf body))

length-header_line : (h : Header) → length (header_line h) ≡ length h.key + length h.value + 4
length-header_line h =
    let a = length-append h.key (codes ": " ++ (h.value ++ cr_lf)) in
    let b = length-append h.value cr_lf in
    omega arith

length-header_block : (h : Header) (headers : List Header) → length (header_block (h ∷ headers)) ≡ length (header_line h) + length (header_block headers)
length-header_block h headers =
    ap length (append_assoc (header_line h) (flat_map header_line headers) cr_lf)
    ∙ length-append (header_line h) (header_block headers)

no_blank-block : (headers : List Header) (body : List ℕ) → list_all (λ h. is_key h.key) headers ≡ true → begins is_blank (header_block headers ++ body) ≡ false
no_blank-block [] body keys = refl
no_blank-block (h ∷ headers) body keys =
    ap (begins is_blank) (header_block-more h headers body ∙ header_line-rest h (header_block headers ++ body))
    ∙ no_blank-key h.key (58 ∷ after_colon h.value (header_block headers ++ body)) (and_parts (is_key h.key) _ keys).0

-- a header as it is written, and then a block
one_more : (h : Header) (rest : List ℕ) (n m : ℕ) (headers : List Header) (raw : List ℕ) → is_key h.key ≡ true → IsValue h.value → begins is_blank rest ≡ false
    → raw ≡ header_line h ++ rest → read_headers rest ≡ Ok (record { headers = headers; index = n }) → m ≡ length (header_line h) + n
    → read_headers raw ≡ Ok (record { headers = h ∷ headers; index = m })
one_more h rest n m headers raw is_named is_valued no_blank whole read size =
    let named = and_parts (list_all is_key_byte h.key) (not (is_empty h.key)) is_named in
    let text : raw ≡ line h.key h.value rest = whole ∙ header_line-rest h rest in
    let first : has_header raw ≡ true = ap has_header text ∙ has_header-key h.key (58 ∷ after_colon h.value rest) is_named in
    let header : header_of raw ≡ h = ap header_of text ∙ header_of-written h.key h.value rest named.0 is_valued no_blank in
    let taken : header_length raw ≡ length (header_line h) =
    ap header_length text ∙ header_length-written h.key h.value rest named.0 is_valued no_blank ∙ sym (length-header_line h) in
    let left : drop (length (header_line h)) raw ≡ rest = ap (drop (length (header_line h))) whole ∙ drop_at (header_line h) rest (length (header_line h)) refl in
    read_headers-more raw first
    ∙ ap (λ (x : Header). with_front (x ∷ []) (header_length raw) (read_headers (drop (header_length raw) raw))) header
    ∙ ap (λ k. with_front (h ∷ []) k (read_headers (drop k raw))) taken
    ∙ ap (λ (x : List ℕ). with_front (h ∷ []) (length (header_line h)) (read_headers x)) left
    ∙ ap (with_front (h ∷ []) (length (header_line h))) read
    ∙ ap (λ k. Ok (record { headers = h ∷ headers; index = k })) (sym size)

-- the block of headers reads as these headers, whatever follows it
pub read_headers-written : (headers : List Header) (body : List ℕ) → list_all (λ h. is_key h.key) headers ≡ true → AreValues headers
    → read_headers (header_block headers ++ body) ≡ Ok (record { headers = headers; index = length (header_block headers) })
unfolding has_header headers_end blank_line
read_headers-written [] body keys values = read_headers-none (13 ∷ 10 ∷ body) refl
read_headers-written (h ∷ headers) body keys values =
    let key = and_parts (is_key h.key) (list_all (λ x. is_key x.key) headers) keys in
    one_more h (header_block headers ++ body) (length (header_block headers)) (length (header_block (h ∷ headers))) headers (header_block (h ∷ headers) ++ body) key.0 values.0
    (no_blank-block headers body key.1) (header_block-more h headers body)
    (read_headers-written headers body key.1 values.1) (length-header_block h headers)
