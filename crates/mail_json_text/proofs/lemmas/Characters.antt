-- A string of UTF-8 is written character by character.
use Rattle.std.proofs.Common.{◌≡◌, ℕ, ◌+◌, ◌/◌, ◌%◌, ◌<◌, ◌≤◌, Bool, true, false, not, ◌&&◌, ◌||◌, ◌==◌, nat_le, nat_lt, encode_utf8_all, codes, List, [], ◌∷◌, ◌++◌, flat_map, if◌then◌else◌, inl, inr, ◌⊎◌, refl, sym, ap, subst, ◌∙◌, arith}
use Rattle.std.proofs.lemmas.Bool.{agree_below, agree_below_at, and_from, and_parts, cases_Bool, cases_lt, eq-eqb, eqb-true, false_from_ne_true, le-ltb, leb-true, lt-leb, lt-ltb, ltb-true, ne_eqb, not-true, or_cases, or_left, or_right, true≢false}
use Rattle.std.proofs.lemmas.Str.{encode_ascii}
use Rattle.std.specs.Char.{digit_char, encode_utf8, is_control}
use Rattle.std.specs.Int.{is_in_range}
use Rattle.std.specs.List.{list_all}
use Rattle.json.proofs.Printed.Strings.{escape_byte_plain}
use Rattle.json.specs.Print.{escape_byte}
use Rattle.mail_codec.specs.Hidden.{is_direction, is_hidden, is_no_character, IsShown}
use Rattle.mail_codec.proofs.lemmas.Hidden.{shown_nil, shown_one, shown_then}
use Rattle.mail_json_text.specs.JsonText.{begins_three, begins_two, byte_text, character_text, escaped, escaped_after, first_text, four_digits, json_text, more_bytes, three_number, two_number}

-- ---- where hidden characters are

-- a hidden character that UTF-8 can write
abbrev is_escaped : ℕ → Bool
is_escaped c = is_hidden c && not (is_no_character c)

-- beyond ASCII they are controls, U+061C, or in a small range
abbrev Where : ℕ → Type 0
Where c = (c < 160) ⊎ ((c ≡ 1564) ⊎ ((8192 ≤ c) × (c < 8320)))

in_third : (low high c : ℕ) → 8192 ≤ low → high < 8320 → is_in_range low high c ≡ true → Where c
in_third low high c l h e =
    let p = and_parts (nat_le low c) _ e in
    let least = leb-true low c p.0 in
    let most = leb-true c high p.1 in
    inr (inr (omega (arith, least, l), omega (arith, most, h)))

control_at : (c : ℕ) → is_control c ≡ true → Where c
control_at c e = elim (or_cases (is_in_range 0 0x1F c) (is_in_range 0x7F 0x9F c) e) [
  | inl low ↦ let most = leb-true c 0x1F (and_parts (nat_le 0 c) _ low).1 in inl (omega (arith, most))
  | inr high ↦ let most = leb-true c 0x9F (and_parts (nat_le 0x7F c) _ high).1 in inl (omega (arith, most))
]

direction_at : (c : ℕ) → is_direction c ≡ true → Where c
direction_at c e = elim (or_cases (c == 0x061C || is_in_range 0x200E 0x200F c || is_in_range 0x202A 0x202E c) (is_in_range 0x2066 0x2069 c) e) [
  | inr last ↦ in_third 0x2066 0x2069 c (omega arith) (omega arith) last
  | inl p ↦ elim (or_cases (c == 0x061C || is_in_range 0x200E 0x200F c) (is_in_range 0x202A 0x202E c) p) [
    | inr third ↦ in_third 0x202A 0x202E c (omega arith) (omega arith) third
    | inl q ↦ elim (or_cases (c == 0x061C) (is_in_range 0x200E 0x200F c) q) [
      | inr second ↦ in_third 0x200E 0x200F c (omega arith) (omega arith) second
      | inl mark ↦ inr (inl (eqb-true c 0x061C mark))
    ]
  ]
]

hidden_at : (c : ℕ) → is_escaped c ≡ true → Where c
unfolding is_hidden
hidden_at c e =
    let both = and_parts (is_hidden c) (not (is_no_character c)) e in
    elim (or_cases (is_control c || is_in_range 0x2028 0x2029 c || is_direction c) (is_no_character c) both.0) [
      | inr none ↦ absurd (true≢false (sym none ∙ not-true (is_no_character c) both.1))
      | inl p ↦ elim (or_cases (is_control c || is_in_range 0x2028 0x2029 c) (is_direction c) p) [
        | inr direction ↦ direction_at c direction
        | inl q ↦ elim (or_cases (is_control c) (is_in_range 0x2028 0x2029 c) q) [
          | inl control ↦ control_at c control
          | inr separator ↦ in_third 0x2028 0x2029 c (omega arith) (omega arith) separator
        ]
      ]
    ]

third_at : (c : ℕ) → 2048 ≤ c → is_escaped c ≡ true → (8192 ≤ c) × (c < 8320)
third_at c h e = elim (hidden_at c e) [
  | inl low ↦ absurd (omega (arith, h, low))
  | inr more ↦ elim more [
    | inl mark ↦ absurd (omega (arith, h, mark))
    | inr third ↦ third
  ]
]

escaped_from : (c : ℕ) → c < 0xD800 → is_hidden c ≡ true → is_escaped c ≡ true
escaped_from c h e = and_from (is_hidden c) _ e (rw (lt-leb 0xD800 c h, le-ltb 0x10FFFF c (omega (arith, h))) refl)

-- ---- what the bytes of a character begin with

same_from : (s t : Bool) → (s ≡ true → t ≡ true) → (t ≡ true → s ≡ true) → s ≡ t
same_from true t f g = sym (f refl)
same_from false true f g = g refl
same_from false false f g = refl

two_lead : (c : ℕ) → 128 ≤ c → c < 2048 → Where c → (192 + c / 64 == 194 || 192 + c / 64 == 216) ≡ true
two_lead c h l (inl low) = rw (eq-eqb (192 + c / 64) 194 (omega (arith, h, low))) refl
two_lead c h l (inr (inl mark)) = subst (λ d. (192 + d / 64 == 194 || 192 + d / 64 == 216) ≡ true) (sym mark) refl
two_lead c h l (inr (inr third)) = absurd (let least = third.0 in omega (arith, l, least))

two_is : (c : ℕ) (rest : List ℕ) → c < 2048 → two_number ((192 + c / 64) ∷ (128 + c % 64) ∷ rest) ≡ c
two_is c rest l = omega (arith, l)

two_begins : (c : ℕ) (rest : List ℕ) → 128 ≤ c → c < 2048 → begins_two ((192 + c / 64) ∷ (128 + c % 64) ∷ rest) ≡ is_escaped c
two_begins c rest h l =
    same_from (begins_two ((192 + c / 64) ∷ (128 + c % 64) ∷ rest)) (is_escaped c)
    (λ e. let p = and_parts (192 + c / 64 == 194 || 192 + c / 64 == 216) _ e in
    escaped_from c (omega (arith, l)) (ap is_hidden (sym (two_is c rest l)) ∙ (and_parts ((128 + c % 64) / 64 == 2) _ p.1).1))
    (λ e. and_from (192 + c / 64 == 194 || 192 + c / 64 == 216) _ (two_lead c h l (hidden_at c e))
    (and_from ((128 + c % 64) / 64 == 2) _ (eq-eqb ((128 + c % 64) / 64) 2 (omega arith)) (ap is_hidden (two_is c rest l) ∙ (and_parts (is_hidden c) _ e).0)))

three_is : (c : ℕ) (rest : List ℕ) → 8192 ≤ c → c < 12288 → three_number ((224 + c / 4096) ∷ (128 + c / 64 % 64) ∷ (128 + c % 64) ∷ rest) ≡ c
three_is c rest h l = omega (arith, h, l)

three_lead : (c : ℕ) → 8192 ≤ c → c < 8320 → (128 + c / 64 % 64 == 128 || 128 + c / 64 % 64 == 129) ≡ true
three_lead c h l = elim (cases_lt c 8256) [
  | inl low ↦ or_left (128 + c / 64 % 64 == 128) _ (eq-eqb (128 + c / 64 % 64) 128 (omega (arith, h, low)))
  | inr high ↦ or_right (128 + c / 64 % 64 == 128) _ (eq-eqb (128 + c / 64 % 64) 129 (omega (arith, high, l)))
]

three_begins : (c : ℕ) (rest : List ℕ) → 2048 ≤ c → c < 65536
    → begins_three ((224 + c / 4096) ∷ (128 + c / 64 % 64) ∷ (128 + c % 64) ∷ rest) ≡ is_escaped c
three_begins c rest h l =
    same_from (begins_three ((224 + c / 4096) ∷ (128 + c / 64 % 64) ∷ (128 + c % 64) ∷ rest)) (is_escaped c)
    (λ e. let p = and_parts (224 + c / 4096 == 226) _ e in
    let is = eqb-true (224 + c / 4096) 226 p.0 in
    let q = and_parts (128 + c / 64 % 64 == 128 || 128 + c / 64 % 64 == 129) _ p.1 in
    escaped_from c (omega (arith, is)) (ap is_hidden (sym (three_is c rest (omega (arith, is)) (omega (arith, is)))) ∙ (and_parts ((128 + c % 64) / 64 == 2) _ q.1).1))
    (λ e. let third = third_at c h e in
    let least = third.0 in
    let most = third.1 in
    and_from (224 + c / 4096 == 226) _ (eq-eqb (224 + c / 4096) 226 (omega (arith, least, most)))
    (and_from (128 + c / 64 % 64 == 128 || 128 + c / 64 % 64 == 129) _ (three_lead c least most)
    (and_from ((128 + c % 64) / 64 == 2) _ (eq-eqb ((128 + c % 64) / 64) 2 (omega arith))
    (ap is_hidden (three_is c rest least (omega (arith, most))) ∙ (and_parts (is_hidden c) _ e).0))))

-- ---- characters

low_escaped : (c : ℕ) (rest : List ℕ) → c < 128 → escaped (c ∷ rest) ≡ byte_text c ++ escaped rest
unfolding escaped_after first_text more_bytes
low_escaped c rest h = rw (ne_eqb c 194 (λ e. omega arith), ne_eqb c 216 (λ e. omega arith), ne_eqb c 226 (λ e. omega arith)) refl

-- a byte at or above 128 with which no hidden character begins
high_escaped : (b : ℕ) (rest : List ℕ) → 128 ≤ b → begins_two (b ∷ rest) ≡ false → begins_three (b ∷ rest) ≡ false → escaped (b ∷ rest) ≡ b ∷ escaped rest
unfolding escaped_after first_text more_bytes
high_escaped b rest h e f =
    rw (e, f, ne_eqb b 127 (λ g. omega arith)) (ap (λ (t : List ℕ). t ++ escaped rest) (escape_byte_plain b (λ g. omega arith) (λ g. omega arith) (omega arith)))

-- a byte that begins no character of two or three bytes
other : (b : ℕ) (rest : List ℕ) → 128 ≤ b → (b < 192) ⊎ (240 ≤ b) → escaped (b ∷ rest) ≡ b ∷ escaped rest
other b rest h w =
    high_escaped b rest h (rw (ne_eqb b 194 (apart 194 w (omega arith) (omega arith)), ne_eqb b 216 (apart 216 w (omega arith) (omega arith))) refl)
    (rw (ne_eqb b 226 (apart 226 w (omega arith) (omega arith))) refl)
  where
    apart : (n : ℕ) → (b < 192) ⊎ (240 ≤ b) → 192 ≤ n → n < 240 → b ≡ n → ⊥
    apart n (inl low) p q e = omega (arith, low, p, e)
    apart n (inr high) p q e = omega (arith, high, q, e)

two_escaped : (c : ℕ) (rest : List ℕ) → 128 ≤ c → c < 2048 → (v : Bool) → is_escaped c ≡ v
    → escaped ((192 + c / 64) ∷ (128 + c % 64) ∷ rest) ≡ (if v then four_digits c else (192 + c / 64) ∷ (128 + c % 64) ∷ []) ++ escaped rest
unfolding escaped_after first_text more_bytes
two_escaped c rest h l true e = rw (two_begins c rest h l ∙ e) (ap (λ n. four_digits n ++ escaped rest) (two_is c rest l))
two_escaped c rest h l false e =
    high_escaped (192 + c / 64) ((128 + c % 64) ∷ rest) (omega arith) (two_begins c rest h l ∙ e) (rw (ne_eqb (192 + c / 64) 226 (λ f. omega arith)) refl)
    ∙ ap (λ (t : List ℕ). (192 + c / 64) ∷ t) (other (128 + c % 64) rest (omega arith) (inl (omega arith)))

three_no_two : (c : ℕ) (rest : List ℕ) → begins_two ((224 + c / 4096) ∷ rest) ≡ false
three_no_two c rest = rw (ne_eqb (224 + c / 4096) 194 (λ e. omega arith), ne_eqb (224 + c / 4096) 216 (λ e. omega arith)) refl

three_escaped : (c : ℕ) (rest : List ℕ) → 2048 ≤ c → c < 65536 → (v : Bool) → is_escaped c ≡ v
    → escaped ((224 + c / 4096) ∷ (128 + c / 64 % 64) ∷ (128 + c % 64) ∷ rest)
    ≡ (if v then four_digits c else (224 + c / 4096) ∷ (128 + c / 64 % 64) ∷ (128 + c % 64) ∷ []) ++ escaped rest
unfolding escaped_after first_text more_bytes
three_escaped c rest h l true e =
    let third = third_at c h e in
    let most = third.1 in
    rw (three_no_two c ((128 + c / 64 % 64) ∷ (128 + c % 64) ∷ rest), three_begins c rest h l ∙ e)
    (ap (λ n. four_digits n ++ escaped rest) (three_is c rest third.0 (omega (arith, most))))
three_escaped c rest h l false e =
    high_escaped (224 + c / 4096) ((128 + c / 64 % 64) ∷ (128 + c % 64) ∷ rest) (omega arith) (three_no_two c ((128 + c / 64 % 64) ∷ (128 + c % 64) ∷ rest))
    (three_begins c rest h l ∙ e)
    ∙ ap (λ (t : List ℕ). (224 + c / 4096) ∷ t) (other (128 + c / 64 % 64) ((128 + c % 64) ∷ rest) (omega arith) (inl (omega arith))
    ∙ ap (λ (t : List ℕ). (128 + c / 64 % 64) ∷ t) (other (128 + c % 64) rest (omega arith) (inl (omega arith))))

four_escaped : (c : ℕ) (rest : List ℕ) → 65536 ≤ c → escaped (encode_utf8 c ++ rest) ≡ encode_utf8 c ++ escaped rest
unfolding encode_utf8
four_escaped c rest big =
    rw (le-ltb c 128 (omega arith), le-ltb c 2048 (omega arith), le-ltb c 65536 big)
    (other _ _ (omega arith) (inr (omega arith))
    ∙ ap (λ (t : List ℕ). (240 + c / 262144) ∷ t) (other _ _ (omega arith) (inl (omega arith))
    ∙ ap (λ (t : List ℕ). (128 + c / 4096 % 64) ∷ t) (other _ _ (omega arith) (inl (omega arith))
    ∙ ap (λ (t : List ℕ). (128 + c / 64 % 64) ∷ t) (other _ _ (omega arith) (inl (omega arith))))))

character_escaped : (c : ℕ) (rest : List ℕ) → escaped (encode_utf8 c ++ rest) ≡ character_text c ++ escaped rest
unfolding character_text encode_utf8
character_escaped c rest = elim (cases_lt c 128) [
  | inl low ↦ rw (lt-ltb c 128 low) (low_escaped c rest low)
  | inr high ↦ elim (cases_lt c 2048) [
    | inl two ↦ rw (le-ltb c 128 high, lt-ltb c 2048 two) (two_escaped c rest high two (is_escaped c) refl)
    | inr more ↦ elim (cases_lt c 65536) [
      | inl three ↦ rw (le-ltb c 128 high, le-ltb c 2048 more, lt-ltb c 65536 three) (three_escaped c rest more three (is_escaped c) refl)
      | inr four ↦ four_character c rest high four
    ]
  ]
]
  where
    four_character : (c : ℕ) (rest : List ℕ) → 128 ≤ c → 65536 ≤ c → escaped (encode_utf8 c ++ rest) ≡ character_text c ++ escaped rest
    four_character c rest high four =
        let plain : is_escaped c ≡ false = false_from_ne_true (is_escaped c) (λ e. let most = (third_at c (omega (arith, four)) e).1 in omega (arith, four, most)) in
        four_escaped c rest four ∙ ap (λ (t : List ℕ). t ++ escaped rest) (rw (le-ltb c 128 high, plain) refl)

escaped_characters : (cs : List ℕ) → escaped (encode_utf8_all cs) ≡ flat_map character_text cs
unfolding escaped_after
escaped_characters [] = refl
escaped_characters (c ∷ cs) = character_escaped c (encode_utf8_all cs) ∙ ap (λ (t : List ℕ). character_text c ++ t) (escaped_characters cs)

-- a string of characters
pub json_text_characters : (cs : List ℕ) → json_text (encode_utf8_all cs) ≡ codes "\"" ++ (flat_map character_text cs ++ codes "\"")
unfolding json_text
json_text_characters cs = ap (λ t. 34 ∷ (t ++ 34 ∷ [])) (escaped_characters cs)

-- ---- no string has a hidden character

-- a byte of ASCII that is not hidden
abbrev is_visible : ℕ → Bool
is_visible b = nat_lt b 128 && not (is_hidden b)

bytes_visible : agree_below (λ c. list_all is_visible (byte_text c)) (λ c. true) 128 ≡ true
unfolding is_hidden escape_byte
bytes_visible = refl

digits_visible : agree_below (λ d. is_visible (digit_char d)) (λ d. true) 16 ≡ true
unfolding is_hidden
digits_visible = refl

digit_at : (d : ℕ) → d < 16 → is_visible (digit_char d) ≡ true
digit_at d h = agree_below_at (λ n. is_visible (digit_char n)) (λ n. true) 16 d digits_visible h

start_visible : (is_visible 34 ≡ true) × (is_visible 92 ≡ true) × (is_visible 117 ≡ true)
unfolding is_hidden
start_visible = (refl, refl, refl)

visible_shown : (bytes : List ℕ) → list_all is_visible bytes ≡ true → IsShown bytes
visible_shown [] e = shown_nil
visible_shown (b ∷ bytes) e =
    let p = and_parts (is_visible b) (list_all is_visible bytes) e in
    let q = and_parts (nat_lt b 128) (not (is_hidden b)) p.0 in
    shown_then (b ∷ []) bytes (subst IsShown (encode_ascii b (ltb-true b 128 q.0)) (shown_one b (not-true (is_hidden b) q.1))) (visible_shown bytes p.1)

digits_shown : (c : ℕ) → c < 65536 → IsShown (four_digits c)
digits_shown c h =
    visible_shown (four_digits c)
    (and_from (is_visible 92) _ start_visible.1 (and_from (is_visible 117) _ start_visible.2
    (and_from (is_visible (digit_char (c / 256 / 16))) _ (digit_at (c / 256 / 16) (omega (arith, h)))
    (and_from (is_visible (digit_char (c / 256 % 16))) _ (digit_at (c / 256 % 16) (omega arith))
    (and_from (is_visible (digit_char (c % 256 / 16))) _ (digit_at (c % 256 / 16) (omega arith))
    (and_from (is_visible (digit_char (c % 256 % 16))) true (digit_at (c % 256 % 16) (omega arith)) refl))))))

below : (c : ℕ) → Where c → c < 65536
below c (inl low) = omega (arith, low)
below c (inr (inl mark)) = omega (arith, mark)
below c (inr (inr third)) = let most = third.1 in omega (arith, most)

character_shown : (c : ℕ) → not (is_no_character c) ≡ true → IsShown (character_text c)
unfolding character_text
character_shown c some = elim (cases_lt c 128) [
  | inl low ↦ rw (lt-ltb c 128 low) (visible_shown (byte_text c) (agree_below_at (λ d. list_all is_visible (byte_text d)) (λ d. true) 128 c bytes_visible low))
  | inr high ↦ elim (cases_Bool (is_hidden c)) [
    | inl e ↦ let written = and_from (is_hidden c) (not (is_no_character c)) e some in rw (le-ltb c 128 high, written) (digits_shown c (below c (hidden_at c written)))
    | inr e ↦ rw (le-ltb c 128 high, e) (shown_one c e)
  ]
]

characters_shown : (cs : List ℕ) → list_all (λ c. not (is_no_character c)) cs ≡ true → IsShown (flat_map character_text cs)
characters_shown [] e = shown_nil
characters_shown (c ∷ cs) e =
    let p = and_parts (not (is_no_character c)) (list_all (λ d. not (is_no_character d)) cs) e in
    shown_then (character_text c) (flat_map character_text cs) (character_shown c p.0) (characters_shown cs p.1)

quote_shown : IsShown (codes "\"")
quote_shown = visible_shown (34 ∷ []) (and_from (is_visible 34) true start_visible.0 refl)

pub json_text_shown : (cs : List ℕ) → list_all (λ c. not (is_no_character c)) cs ≡ true → IsShown (json_text (encode_utf8_all cs))
json_text_shown cs e =
    subst IsShown (sym (json_text_characters cs))
    (shown_then (codes "\"") (flat_map character_text cs ++ codes "\"") quote_shown (shown_then (flat_map character_text cs) (codes "\"") (characters_shown cs e) quote_shown))
