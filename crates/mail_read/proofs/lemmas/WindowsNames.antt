-- Lemmas on names that Windows takes.
use Rattle.std.proofs.Common.{◌≡◌, ◌≢◌, ℕ, ◌+◌, ◌<◌, ◌≤◌, Bool, true, false, not, List, [], ◌∷◌, length, drop, refl, sym, ap, ◌∙◌, arith, length-append}
use Rattle.std.specs.Prelude.{codes}
use Rattle.std.specs.Char.{encode_utf8, len_utf8}
use Rattle.std.specs.List.{list_all}
use Rattle.std.specs.Str.{chars, encode_utf8_all, IsUtf8}
use Rattle.std.proofs.lemmas.Bool.{cond-false, cond_both, and_parts, and_from, not-true, false≢true}
use Rattle.std.proofs.lemmas.Str.{chars-encodes, encodes-chars, scalars-chars, length-encode, len_utf8_bounds}
use lib.Utf8.{scalar, scalars}
use Rattle.mail_codec.specs.Hidden.{is_hidden}
use Rattle.mail_read.specs.FileNames.{IsSafeName, fits, is_unsafe, size}
use Rattle.mail_read.specs.WindowsNames.{IsWindowsName, after_underscore, all_allowed, allowed, allowed_last, ends_in, is_device, is_forbidden, is_no_end, no_device}
use Rattle.mail_read.proofs.lemmas.FileNames.{fits-short, scalars-are, size-at_least}

-- ---- what each character that was made allowed has

allowed-not : (c : ℕ) → not (is_forbidden (allowed c)) ≡ true
allowed-not c = cond_both (is_forbidden c) 95 c (λ d. not (is_forbidden d) ≡ true) (λ is. refl) (λ is. ap not is)

last-not : (c : ℕ) → not (is_forbidden (allowed_last c)) ≡ true
last-not c = cond_both (is_no_end c) 95 (allowed c) (λ d. not (is_forbidden d) ≡ true) (λ is. refl) (λ is. allowed-not c)

-- the last character is no dot and no space: a forbidden one becomes `_`
last-no_end : (c : ℕ) → is_no_end (allowed_last c) ≡ false
last-no_end c =
    cond_both (is_no_end c) 95 (allowed c) (λ d. is_no_end d ≡ false) (λ is. refl)
    (λ no. cond_both (is_forbidden c) 95 c (λ d. is_no_end d ≡ false) (λ is. refl) (λ is. no))

-- a test that `_` passes stays true
module _ (test : ℕ → Bool) (one : test 95 ≡ true) where
  test-allowed : (c : ℕ) → test c ≡ true → test (allowed c) ≡ true
  test-allowed c h = cond_both (is_forbidden c) 95 c (λ d. test d ≡ true) (λ is. one) (λ is. h)

  test-last : (c : ℕ) → test c ≡ true → test (allowed_last c) ≡ true
  test-last c h = cond_both (is_no_end c) 95 (allowed c) (λ d. test d ≡ true) (λ is. one) (λ is. test-allowed c h)

  all-allowed : (cs : List ℕ) → list_all test cs ≡ true → list_all test (all_allowed cs) ≡ true
  all-allowed [] h = refl
  all-allowed (c ∷ []) h = and_from _ _ (test-last c (and_parts (test c) true h).0) refl
  all-allowed (c ∷ (d ∷ cs)) h =
      let parts = and_parts (test c) (list_all test (d ∷ cs)) h in
      and_from _ _ (test-allowed c parts.0) (all-allowed (d ∷ cs) parts.1)

  all-rest : (cs : List ℕ) → list_all test cs ≡ true → list_all test (drop 1 cs) ≡ true
  all-rest [] h = refl
  all-rest (c ∷ cs) h = (and_parts (test c) (list_all test cs) h).1

  all-no_device : (cs : List ℕ) → list_all test cs ≡ true → list_all test (no_device cs) ≡ true
  all-no_device cs h =
      cond_both (is_device cs) (95 ∷ after_underscore cs) cs (λ (ds : List ℕ). list_all test ds ≡ true)
      (λ is. and_from _ _ one (cond_both (fits 254 cs) cs (drop 1 cs) (λ (ds : List ℕ). list_all test ds ≡ true) (λ e. h) (λ e. all-rest cs h)))
      (λ is. h)

all-not_forbidden : (cs : List ℕ) → list_all (λ c. not (is_forbidden c)) (all_allowed cs) ≡ true
all-not_forbidden [] = refl
all-not_forbidden (c ∷ []) = and_from _ _ (last-not c) refl
all-not_forbidden (c ∷ (d ∷ cs)) = and_from _ _ (allowed-not c) (all-not_forbidden (d ∷ cs))

-- ---- the end

ends-allowed : (cs : List ℕ) → ends_in is_no_end (all_allowed cs) ≡ false
ends-allowed [] = refl
ends-allowed (c ∷ []) = last-no_end c
ends-allowed (c ∷ (d ∷ [])) = last-no_end d
ends-allowed (c ∷ (d ∷ (e ∷ cs))) = ends-allowed (d ∷ (e ∷ cs))

-- the end of a name of a device stays, with a `_` before it
ends-rest : (test : ℕ → Bool) (c d : ℕ) (cs : List ℕ) → ends_in test (c ∷ (d ∷ cs)) ≡ false → ends_in test (95 ∷ after_underscore (c ∷ (d ∷ cs))) ≡ false
ends-rest test c d cs h =
    cond_both (fits 254 (c ∷ (d ∷ cs))) (c ∷ (d ∷ cs)) (d ∷ cs) (λ (ds : List ℕ). ends_in test (95 ∷ ds) ≡ false) (λ e. h) (λ e. h)

ends-no_device : (cs : List ℕ) → ends_in is_no_end cs ≡ false → ends_in is_no_end (no_device cs) ≡ false
ends-no_device [] h = refl
ends-no_device (a ∷ []) h = h
ends-no_device (a ∷ (b ∷ cs)) h =
    cond_both (is_device (a ∷ (b ∷ cs))) (95 ∷ after_underscore (a ∷ (b ∷ cs))) (a ∷ (b ∷ cs)) (λ (ds : List ℕ). ends_in is_no_end ds ≡ false)
    (λ is. ends-rest is_no_end a b cs h) (λ is. h)

-- ---- devices

underscore-free : (cs : List ℕ) → is_device (95 ∷ cs) ≡ false
underscore-free [] = refl
underscore-free (b ∷ []) = refl
underscore-free (b ∷ (c ∷ cs)) = refl

free-no_device : (cs : List ℕ) → is_device (no_device cs) ≡ false
free-no_device cs = cond_both (is_device cs) (95 ∷ after_underscore cs) cs (λ (ds : List ℕ). is_device ds ≡ false) (λ is. underscore-free (after_underscore cs)) (λ is. is)

-- ---- the length

size-cons : (c : ℕ) (cs : List ℕ) → size (c ∷ cs) ≡ len_utf8 c + size cs
size-cons c cs = length-append (encode_utf8 c) (encode_utf8_all cs) ∙ ap (λ k. k + size cs) (length-encode c)

len-allowed : (c : ℕ) → len_utf8 (allowed c) ≤ len_utf8 c
len-allowed c = let low = (len_utf8_bounds c).0 in cond_both (is_forbidden c) 95 c (λ d. len_utf8 d ≤ len_utf8 c) (λ is. omega (arith, low)) (λ is. omega arith)

len-last : (c : ℕ) → len_utf8 (allowed_last c) ≤ len_utf8 c
len-last c = let low = (len_utf8_bounds c).0 in cond_both (is_no_end c) 95 (allowed c) (λ d. len_utf8 d ≤ len_utf8 c) (λ is. omega (arith, low)) (λ is. len-allowed c)

size-allowed : (cs : List ℕ) → size (all_allowed cs) ≤ size cs
size-allowed [] = omega arith
size-allowed (c ∷ []) =
    let made = size-cons (allowed_last c) [] in
    let old = size-cons c [] in
    let less = len-last c in
    omega (arith, made, old, less)
size-allowed (c ∷ (d ∷ cs)) =
    let made = size-cons (allowed c) (all_allowed (d ∷ cs)) in
    let old = size-cons c (d ∷ cs) in
    let less = len-allowed c in
    let later = size-allowed (d ∷ cs) in
    omega (arith, made, old, less, later)

size-rest : (cs : List ℕ) → size cs ≤ 255 → size (drop 1 cs) ≤ 254
size-rest [] h = omega arith
size-rest (c ∷ cs) h = let all = size-cons c cs in let low = (len_utf8_bounds c).0 in omega (arith, h, all, low)

size-no_device : (cs : List ℕ) → size cs ≤ 255 → size (no_device cs) ≤ 255
size-no_device cs h =
    let front = size-cons 95 (after_underscore cs) in
    let short = cond_both (fits 254 cs) cs (drop 1 cs) (λ (ds : List ℕ). size ds ≤ 254) (λ e. fits-short 254 cs e) (λ e. size-rest cs h) in
    cond_both (is_device cs) (95 ∷ after_underscore cs) cs (λ (ds : List ℕ). size ds ≤ 255) (λ is. omega (arith, front, short)) (λ is. h)

-- ---- some characters stay some

some-allowed : (cs : List ℕ) → 0 < length cs → 0 < length (all_allowed cs)
some-allowed [] h = absurd (omega (arith, h))
some-allowed (c ∷ []) h = omega arith
some-allowed (c ∷ (d ∷ cs)) h = omega arith

some-no_device : (cs : List ℕ) → 0 < length cs → 0 < length (no_device cs)
some-no_device cs h = cond_both (is_device cs) (95 ∷ after_underscore cs) cs (λ (ds : List ℕ). 0 < length ds) (λ is. omega arith) (λ is. h)

-- ---- characters that are allowed stay

allowed-same : (c : ℕ) → not (is_forbidden c) ≡ true → allowed c ≡ c
allowed-same c h = cond-false (is_forbidden c) 95 c (not-true (is_forbidden c) h)

last-same : (c : ℕ) → not (is_forbidden c) ≡ true → is_no_end c ≡ false → allowed_last c ≡ c
last-same c h end = cond-false (is_no_end c) 95 (allowed c) end ∙ allowed-same c h

all-same : (cs : List ℕ) → list_all (λ c. not (is_forbidden c)) cs ≡ true → ends_in is_no_end cs ≡ false → all_allowed cs ≡ cs
all-same [] h end = refl
all-same (c ∷ []) h end = ap (λ (d : ℕ). d ∷ []) (last-same c (and_parts (not (is_forbidden c)) true h).0 end)
all-same (c ∷ (d ∷ cs)) h end =
    let parts = and_parts (not (is_forbidden c)) (list_all (λ e. not (is_forbidden e)) (d ∷ cs)) h in
    ap (λ (e : ℕ). e ∷ all_allowed (d ∷ cs)) (allowed-same c parts.0) ∙ ap (λ (ds : List ℕ). c ∷ ds) (all-same (d ∷ cs) parts.1 end)

-- ---- the whole name

-- characters that are neither a dot nor two
not_text : (cs name : List ℕ) → scalars cs ≡ true → ends_in is_no_end cs ≡ false → ends_in is_no_end (chars name) ≡ true → encode_utf8_all cs ≢ name
not_text cs name h end is e = false≢true (sym end ∙ ap (ends_in is_no_end) (sym (chars-encodes cs h) ∙ ap chars e) ∙ is)

dot-ends : ends_in is_no_end (chars (codes ".")) ≡ true
unfolding chars
dot-ends = refl

dots-end : ends_in is_no_end (chars (codes "..")) ≡ true
unfolding chars
dots-end = refl

-- characters of which a name is made are allowed
pub from_characters : (cs : List ℕ) → scalars cs ≡ true → list_all (λ c. not (is_unsafe c)) cs ≡ true → list_all (λ c. not (is_forbidden c)) cs ≡ true
    → ends_in is_no_end cs ≡ false → is_device cs ≡ false → size cs ≤ 255 → 0 < length cs → IsWindowsName (encode_utf8_all cs)
from_characters cs h safe ok end free short some =
    let same = chars-encodes cs h in
    let least = size-at_least cs in
    record {
      safe = record {
        some = λ e. let none = ap length e in omega (arith, none, least, some);
        not_here = not_text cs (codes ".") h end dot-ends;
        not_above = not_text cs (codes "..") h end dots-end;
        short = short;
        characters = ap (list_all (λ c. not (is_unsafe c))) same ∙ safe;
      };
      characters = ap (list_all (λ c. not (is_forbidden c))) same ∙ ok;
      end = ap (ends_in is_no_end) same ∙ end;
      free = ap is_device same ∙ free;
    }

some-list : (cs : List ℕ) → cs ≢ [] → 0 < length cs
some-list [] h = absurd (h refl)
some-list (c ∷ cs) h = omega arith

-- the characters of a name are some
some-characters : (name : List ℕ) → IsUtf8 name → name ≢ [] → 0 < length (chars name)
some-characters name utf8 some = some-list (chars name) (λ e. some (sym (encodes-chars name utf8) ∙ ap encode_utf8_all e))

-- the characters of a safe name, made allowed
pub allowed_from : (name : List ℕ) → IsUtf8 name → IsSafeName name → IsWindowsName (encode_utf8_all (no_device (all_allowed (chars name))))
unfolding is_hidden
allowed_from name utf8 h =
    let cs = chars name in
    let short = h.short in
    let back = ap length (encodes-chars name utf8) in
    let whole = all-allowed scalar refl cs (sym (scalars-are cs) ∙ scalars-chars name utf8) in
    from_characters (no_device (all_allowed cs)) (scalars-are (no_device (all_allowed cs)) ∙ all-no_device scalar refl (all_allowed cs) whole)
    (all-no_device (λ c. not (is_unsafe c)) refl (all_allowed cs) (all-allowed (λ c. not (is_unsafe c)) refl cs h.characters))
    (all-no_device (λ c. not (is_forbidden c)) refl (all_allowed cs) (all-not_forbidden cs))
    (ends-no_device (all_allowed cs) (ends-allowed cs)) (free-no_device (all_allowed cs))
    (size-no_device (all_allowed cs) (let less = size-allowed cs in omega (arith, less, back, short)))
    (some-no_device (all_allowed cs) (some-allowed cs (some-characters name utf8 h.some)))

-- the characters of a name that Windows takes stay
pub allowed_same : (name : List ℕ) → IsUtf8 name → IsWindowsName name → encode_utf8_all (no_device (all_allowed (chars name))) ≡ name
allowed_same name utf8 h =
    ap (λ (cs : List ℕ). encode_utf8_all (no_device cs)) (all-same (chars name) h.characters h.end)
    ∙ ap encode_utf8_all (cond-false (is_device (chars name)) (95 ∷ after_underscore (chars name)) (chars name) h.free)
    ∙ encodes-chars name utf8
