-- Folding, whitespace of domain literals and control characters.
use Rattle.std.proofs.Common.{◌≡◌, ℕ, zero, suc, ◌+◌, ◌/◌, ◌-◌, ◌≤◌, Bool, true, false, not, cond, eqb, ◌&&◌, ◌||◌, List, [], ◌∷◌, ◌++◌, length, take, drop, refl, ap, ◌∙◌, ⊎_elim, arith, length-drop}
use Rattle.std.specs.Prelude.{flat_map, encode_utf8_all, nat_lt}
use Rattle.std.specs.List.{list_all}
use Rattle.std.specs.Str.{is_utf8}
use Rattle.std.proofs.lemmas.Bool.{and_from, and_parts, cases_Bool, cond_both, cond-true, cond-false, eq-eqb, eqb-true, le-ltb, ne_eqb, or_from}
use Rattle.std.proofs.lemmas.List.Folds.{list_all-append}
use lib.Utf8.{encode, next}
use Rattle.mail_codec.specs.Latin1.{latin1_text}
use Rattle.mailparse.specs.Value.{value_text}
use Rattle.mail_address.specs.declared.tokens.Kind.{Kind}
use Rattle.mail_address.specs.declared.tokens.Kind.TheVariants.{Blank, Comment, Literal, Quoted}
use Rattle.mail_address.specs.Addresses.{items, items_within}
use Rattle.mail_address.specs.Folding.{has_no_control, is_control, is_fold, unfolded, without_white}
use Rattle.mail_address.specs.Mailbox.{are_clean, clean_len, is_clean, is_clean_token, within_ends}
use Rattle.mail_address.specs.Text.{address_bytes, address_front, address_front_at, address_meaning, bare, escaped_byte, front_len, local_text, needs_no_quotes, quoted_text, unquoted}
use Rattle.mail_address.specs.Tokens.{far, far_within, front_token, is_white}
use Rattle.mail_address.proofs.lemmas.Bounds.{token-fits}
use Rattle.mail_address.proofs.lemmas.Tokens.{byte-other}

-- ---- a test that all bytes pass

module _ (test : ℕ → Bool) where
  pub all-take : (n : ℕ) (bytes : List ℕ) → list_all test bytes ≡ true → list_all test (take n bytes) ≡ true
  all-take zero bytes h = refl
  all-take (suc n) [] h = refl
  all-take (suc n) (b ∷ bytes) h = let both = and_parts (test b) (list_all test bytes) h in and_from _ _ both.0 (all-take n bytes both.1)

  pub all-drop : (n : ℕ) (bytes : List ℕ) → list_all test bytes ≡ true → list_all test (drop n bytes) ≡ true
  all-drop zero bytes h = h
  all-drop (suc n) [] h = refl
  all-drop (suc n) (b ∷ bytes) h = all-drop n bytes (and_parts (test b) (list_all test bytes) h).1

  all-unfolded : (bytes : List ℕ) → list_all test bytes ≡ true → list_all test (unfolded bytes) ≡ true
  all-unfolded [] h = refl
  all-unfolded (b ∷ bytes) h =
      let both = and_parts (test b) (list_all test bytes) h in
      let later = all-unfolded bytes both.1 in
      cond_both (is_fold (b ∷ bytes)) (unfolded bytes) (b ∷ unfolded bytes) (λ r. list_all test r ≡ true) (λ e. later) (λ e. and_from _ _ both.0 later)

  all-without_white : (quoted : Bool) (bytes : List ℕ) → list_all test bytes ≡ true → list_all test (without_white quoted bytes) ≡ true
  all-without_white quoted [] h = refl
  all-without_white quoted (b ∷ bytes) h =
      let both = and_parts (test b) (list_all test bytes) h in
      cond_both (not quoted && is_white b) (without_white false bytes) (b ∷ without_white (not quoted && eqb b 92) bytes) (λ r. list_all test r ≡ true)
      (λ e. all-without_white false bytes both.1) (λ e. and_from _ _ both.0 (all-without_white (not quoted && eqb b 92) bytes both.1))

  all-unquoted : (quoted : Bool) (bytes : List ℕ) → list_all test bytes ≡ true → list_all test (unquoted quoted bytes) ≡ true
  all-unquoted quoted [] h = refl
  all-unquoted quoted (b ∷ bytes) h =
      let both = and_parts (test b) (list_all test bytes) h in
      cond_both (not quoted && eqb b 92) (unquoted true bytes) (b ∷ unquoted false bytes) (λ r. list_all test r ≡ true)
      (λ e. all-unquoted true bytes both.1) (λ e. and_from _ _ both.0 (all-unquoted false bytes both.1))

  all-within_ends : (bytes : List ℕ) → list_all test bytes ≡ true → list_all test (within_ends bytes) ≡ true
  all-within_ends bytes h = all-take (length bytes - 2) (drop 1 bytes) (all-drop 1 bytes h)

  all-append : (xs ys : List ℕ) → list_all test xs ≡ true → list_all test ys ≡ true → list_all test (xs ++ ys) ≡ true
  all-append xs ys first second = list_all-append test xs ys ∙ and_from _ _ first second

  all-escaped : test 92 ≡ true → (text : List ℕ) → list_all test text ≡ true → list_all test (flat_map escaped_byte text) ≡ true
  all-escaped pass [] h = refl
  all-escaped pass (b ∷ text) h =
      let both = and_parts (test b) (list_all test text) h in
      all-append (escaped_byte b) (flat_map escaped_byte text)
      (cond_both (eqb b 34 || eqb b 92) (92 ∷ b ∷ []) (b ∷ []) (λ r. list_all test r ≡ true) (λ e. and_from _ _ pass (and_from _ _ both.0 refl)) (λ e. and_from _ _ both.0 refl))
      (all-escaped pass text both.1)

-- ---- bytes without control characters

abbrev ok : ℕ → Bool
ok b = not (is_control b)

-- they contain no folding
no-fold : (b : ℕ) (rest : List ℕ) → ok b ≡ true → is_fold (b ∷ rest) ≡ false
no-fold b rest h = rw (byte-other ok b 10 h refl, byte-other ok b 13 h refl) refl

pub unfolded-same : (bytes : List ℕ) → has_no_control bytes ≡ true → unfolded bytes ≡ bytes
unfolded-same [] h = refl
unfolded-same (b ∷ bytes) h =
    let both = and_parts (ok b) (has_no_control bytes) h in
    cond-false (is_fold (b ∷ bytes)) (unfolded bytes) (b ∷ unfolded bytes) (no-fold b bytes both.0) ∙ ap (λ (r : List ℕ). b ∷ r) (unfolded-same bytes both.1)

pub quoted-no_control : (text : List ℕ) → has_no_control text ≡ true → has_no_control (quoted_text text) ≡ true
unfolding quoted_text
quoted-no_control text h = all-append ok (flat_map escaped_byte text) (34 ∷ []) (all-escaped ok refl text h) refl

-- ---- tokens of an address

-- the meaning of a clean token contains no control character
token-bare : (kind : Kind) (text : List ℕ) → is_clean_token kind text ≡ true → has_no_control (address_meaning kind text) ≡ true
token-bare Quoted text h = all-unquoted ok false (within_ends (unfolded text)) (all-within_ends ok (unfolded text) h)
token-bare Literal text h = h
token-bare Blank text h = refl
token-bare Comment text h = refl
token-bare _ text h = h

-- a token without control characters is clean
token-clean : (kind : Kind) (text : List ℕ) → has_no_control text ≡ true → is_clean_token kind text ≡ true
token-clean Quoted text h = all-unfolded ok text h
token-clean Literal text h = all-without_white ok false text h
token-clean Blank text h = refl
token-clean Comment text h = refl
token-clean _ text h = h

abbrev front : List ℕ → List ℕ
front bytes = take (front_token bytes).len bytes

abbrev is_front_clean : List ℕ → Bool
is_front_clean bytes = is_clean_token (front_token bytes).kind (front bytes)

clean_len-yes : (bytes : List ℕ) → is_front_clean bytes ≡ true → clean_len bytes ≡ (front_token bytes).len
unfolding clean_len
clean_len-yes bytes e = cond-true (is_front_clean bytes) (front_token bytes).len 0 e

clean_len-no : (bytes : List ℕ) → is_front_clean bytes ≡ false → clean_len bytes ≡ 0
unfolding clean_len
clean_len-no bytes e = cond-false (is_front_clean bytes) (front_token bytes).len 0 e

-- a run over a clean token goes on after it
run-clean : (most b : ℕ) (rest : List ℕ) → is_front_clean (b ∷ rest) ≡ true
    → far_within clean_len (suc most) (b ∷ rest) ≡ (front_token (b ∷ rest)).len + far_within clean_len most (drop (front_token (b ∷ rest)).len (b ∷ rest))
run-clean most b rest e =
    let some = (token-fits b rest).0 in
    ap (λ n. cond (eqb n 0) 0 (n + far_within clean_len most (drop n (b ∷ rest)))) (clean_len-yes (b ∷ rest) e)
    ∙ cond-false (eqb (front_token (b ∷ rest)).len 0) 0 _ (ne_eqb (front_token (b ∷ rest)).len 0 (λ z. absurd (omega (arith, some, z))))

run-stops : (most b : ℕ) (rest : List ℕ) → is_front_clean (b ∷ rest) ≡ false → far_within clean_len (suc most) (b ∷ rest) ≡ 0
run-stops most b rest e = ap (λ n. cond (eqb n 0) 0 (n + far_within clean_len most (drop n (b ∷ rest)))) (clean_len-no (b ∷ rest) e)

bare-within : (most start : ℕ) (bytes : List ℕ) → far_within clean_len most bytes ≡ length bytes → has_no_control (items_within address_front_at front_len most start bytes) ≡ true
unfolding address_front front_len
bare-within zero start bytes h = refl
bare-within (suc most) start [] h = refl
bare-within (suc most) start (b ∷ rest) h =
    let bytes : List ℕ = b ∷ rest in
    let n : ℕ = (front_token bytes).len in
    let fits = token-fits b rest in
    ⊎_elim
    (λ e. let one = run-clean most b rest e in
    let cut = length-drop n bytes in
    all-append ok (address_front bytes) (items_within address_front_at front_len most (start + n) (drop n bytes)) (token-bare (front_token bytes).kind (front bytes) e)
    (bare-within most (start + n) (drop n bytes) (omega (arith, one, cut, h, fits))))
    (λ e. absurd (let none = run-stops most b rest e in omega (arith, none, h)))
    (cases_Bool (is_front_clean bytes))

-- clean bytes mean no control character
pub clean-bare : (bytes : List ℕ) → is_clean bytes ≡ true → has_no_control (bare bytes) ≡ true
unfolding bare items is_clean far
clean-bare bytes h = bare-within (length bytes) 0 bytes (eqb-true (far clean_len bytes) (length bytes) h)

plain-within : (most : ℕ) (bytes : List ℕ) → length bytes ≤ most → has_no_control bytes ≡ true → far_within clean_len most bytes ≡ length bytes
plain-within zero [] low h = refl
plain-within zero (b ∷ rest) low h = absurd (omega (arith, low))
plain-within (suc most) [] low h = refl
plain-within (suc most) (b ∷ rest) low h =
    let bytes : List ℕ = b ∷ rest in
    let n : ℕ = (front_token bytes).len in
    let fits = token-fits b rest in
    let cut = length-drop n bytes in
    let one = run-clean most b rest (token-clean (front_token bytes).kind (front bytes) (all-take ok n bytes h)) in
    let later = plain-within most (drop n bytes) (omega (arith, cut, low, fits)) (all-drop ok n bytes h) in
    omega (arith, one, later, cut, fits)

-- bytes without control characters are clean
pub plain_clean : (bytes : List ℕ) → has_no_control bytes ≡ true → is_clean bytes ≡ true
unfolding is_clean far
plain_clean bytes h = eq-eqb (far_within clean_len (length bytes) bytes) (length bytes) (plain-within (length bytes) bytes (omega arith) h)

-- ---- addresses

local-no_control : (bytes : List ℕ) → is_clean bytes ≡ true → has_no_control (local_text bytes) ≡ true
unfolding local_text
local-no_control bytes h =
    let means = clean-bare bytes h in
    cond_both (needs_no_quotes (bare bytes)) (bare bytes) (quoted_text (bare bytes)) (λ t. has_no_control t ≡ true) (λ e. means) (λ e. quoted-no_control (bare bytes) means)

pub address-no_control : (local domain : List ℕ) → are_clean local domain ≡ true → has_no_control (address_bytes local domain) ≡ true
unfolding address_bytes
address-no_control local domain h =
    let both = and_parts (is_clean local) (is_clean domain) h in
    all-append ok (local_text local) (64 ∷ bare domain) (local-no_control local both.0) (clean-bare domain both.1)

-- ---- text

high-ok : (b : ℕ) → 128 ≤ b → ok b ≡ true
high-ok b h = ap not (or_from (nat_lt b 32) (eqb b 127) (le-ltb b 32 (omega (arith, h))) (ne_eqb b 127 (λ e. absurd (omega (arith, h, e)))))

next-ok : (bits : ℕ) (rest : List ℕ) → has_no_control rest ≡ true → has_no_control (next bits ∷ rest) ≡ true
next-ok bits rest h = and_from _ _ (high-ok (next bits) (omega arith)) h

encoded-ok : (c : ℕ) → ok c ≡ true → has_no_control (encode c) ≡ true
unfolding encode
encoded-ok c h =
    cond_both (nat_lt c 128) _ _ (λ t. has_no_control t ≡ true) (λ e. and_from _ _ h refl)
    (λ e. cond_both (nat_lt c 2048) _ _ (λ t. has_no_control t ≡ true) (λ e. and_from _ _ (high-ok (192 + c / 64) (omega arith)) (next-ok c [] refl))
    (λ e. cond_both (nat_lt c 65536) _ _ (λ t. has_no_control t ≡ true)
    (λ e. and_from _ _ (high-ok (224 + c / 4096) (omega arith)) (next-ok (c / 64) (next c ∷ []) (next-ok c [] refl)))
    (λ e. and_from _ _ (high-ok (240 + c / 262144) (omega arith)) (next-ok (c / 4096) (next (c / 64) ∷ next c ∷ []) (next-ok (c / 64) (next c ∷ []) (next-ok c [] refl))))))

latin1-ok : (bytes : List ℕ) → has_no_control bytes ≡ true → has_no_control (latin1_text bytes) ≡ true
latin1-ok [] h = refl
latin1-ok (b ∷ bytes) h =
    let both = and_parts (ok b) (has_no_control bytes) h in
    all-append ok (encode b) (encode_utf8_all bytes) (encoded-ok b both.0) (latin1-ok bytes both.1)

-- the text of bytes contains a control character only if they do
pub text-no_control : (bytes : List ℕ) → has_no_control bytes ≡ true → has_no_control (value_text bytes) ≡ true
text-no_control bytes h = cond_both (is_utf8 bytes) bytes (latin1_text bytes) (λ t. has_no_control t ≡ true) (λ e. h) (λ e. latin1-ok bytes h)
