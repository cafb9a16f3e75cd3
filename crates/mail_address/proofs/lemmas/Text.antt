-- Lemmas on the text of names and addresses.
use Rattle.std.proofs.Common.{◌≡◌, ◌≢◌, Bool, true, false, ℕ, ◌-◌, ◌<◌, ◌≤◌, eqb, List, [], ◌∷◌, ◌++◌, length, drop, refl, ap, ◌∙◌, arith, length-drop}
use Rattle.std.specs.Str.{IsUtf8, is_utf8}
use Rattle.std.proofs.lemmas.Bool.{cond_both, eq-eqb, eqb-false, false_from_ne_true, ne_eqb}
use Rattle.std.proofs.lemmas.Str.{IsUtf8-from_is_utf8, is_utf8-from_IsUtf8}
use Rattle.mail_codec.specs.Latin1.{latin1_text}
use Rattle.mailparse.specs.Value.{value_text}
use Rattle.mail_address.specs.declared.tokens.Span.TheVariants.{White}
use Rattle.mail_address.specs.Tokens.{is_all_white, run, step}
use Rattle.mail_address.specs.PhraseWords.{encoded_len}
use Rattle.mail_address.specs.Text.{front_len, front_word, front_word_len, word_or_space, word_or_white_len}
use Rattle.mail_address.proofs.lemmas.Bounds.{token-fits}
use Rattle.mail_address.proofs.lemmas.Tokens.{far-more, far-stop}
use Rattle.mail_address.proofs.lemmas.Addresses.{MadeTo, MadeTo-more}

-- ---- a token has at least one byte

pub front_len-some : (bytes : List ℕ) → 0 < length bytes → 0 < front_len bytes
unfolding front_len
front_len-some [] low = absurd (omega arith)
front_len-some (b ∷ rest) low = (token-fits b rest).0

front_word-some : (bytes : List ℕ) → 0 < length bytes → 0 < front_word_len bytes
front_word-some bytes low =
    cond_both (eqb (encoded_len bytes) 0) (front_len bytes) (encoded_len bytes) (λ n. 0 < n) (λ e. front_len-some bytes low)
    (λ e. let some = eqb-false (encoded_len bytes) 0 e in omega (arith, some))

pub word_or_white-some : (bytes : List ℕ) → 0 < length bytes → 0 < word_or_white_len bytes
unfolding word_or_white_len
word_or_white-some bytes low =
    cond_both (eqb (step White bytes) 0) (front_word_len bytes) (run White bytes) (λ n. 0 < n) (λ e. front_word-some bytes low)
    (λ e. let some = eqb-false (step White bytes) 0 e in let more = far-more (step White) bytes low some in omega (arith, more, some))

-- ---- the front of a phrase, by the run of whitespace and comments before it

-- the run is empty if and only if the first step is
run-none : (bytes : List ℕ) → 0 < length bytes → run White bytes ≡ 0 → eqb (step White bytes) 0 ≡ true
run-none bytes low none =
    go (eqb (step White bytes) 0) refl
  where
    go : (t : Bool) → eqb (step White bytes) 0 ≡ t → eqb (step White bytes) 0 ≡ true
    go true e = e
    go false e = let some = eqb-false (step White bytes) 0 e in let more = far-more (step White) bytes low some in absurd (omega (arith, more, some, none))

run-some : (bytes : List ℕ) → run White bytes ≢ 0 → eqb (step White bytes) 0 ≡ false
run-some bytes some = ne_eqb (step White bytes) 0 (λ e. some (far-stop (step White) bytes e))

pub word-len : (bytes : List ℕ) → 0 < length bytes → run White bytes ≡ 0 → word_or_white_len bytes ≡ front_word_len bytes
unfolding word_or_white_len
word-len bytes low none = rw (run-none bytes low none) refl

pub word-is : (bytes : List ℕ) → 0 < length bytes → run White bytes ≡ 0 → word_or_space bytes ≡ front_word bytes
unfolding word_or_space is_all_white
word-is bytes low none =
    rw (ne_eqb (run White bytes) (length bytes) (λ e. omega (arith, e, none)), run-none bytes low none) refl

pub white-len : (bytes : List ℕ) → run White bytes ≢ 0 → word_or_white_len bytes ≡ run White bytes
unfolding word_or_white_len
white-len bytes some = rw (run-some bytes some) refl

pub white-last : (bytes : List ℕ) → run White bytes ≡ length bytes → word_or_space bytes ≡ []
unfolding word_or_space is_all_white
white-last bytes all = rw (eq-eqb (run White bytes) (length bytes) all) refl

pub white-inner : (bytes : List ℕ) → run White bytes ≢ 0 → run White bytes < length bytes → word_or_space bytes ≡ 32 ∷ []
unfolding word_or_space is_all_white
white-inner bytes some within =
    rw (ne_eqb (run White bytes) (length bytes) (λ e. omega (arith, e, within)), run-some bytes some) refl

-- ---- a loop over tokens, whose position is known from the bytes left

abbrev pub MadeOf : (ℕ → List ℕ → List ℕ) → (List ℕ → ℕ) → List ℕ → List ℕ → List ℕ → Type 0
MadeOf at len bytes made rest = MadeTo at len 0 bytes made (length bytes - length rest) rest

pub MadeOf-more : {at : ℕ → List ℕ → List ℕ} {len : List ℕ → ℕ} {bytes made new rest after : List ℕ} {n : ℕ} → ((b : List ℕ) → 0 < length b → 0 < len b)
    → MadeTo at len 0 bytes made (length bytes - length rest) rest → 0 < length rest → new ≡ made ++ at (length bytes - length rest) rest → n ≡ len rest → n ≤ length rest → after ≡ drop n rest
    → MadeTo at len 0 bytes new (length bytes - length after) after
MadeOf-more {bytes = bytes} {rest = rest} {after = after} {n = n} some m low push is fits cut =
    let place = m.place in
    let len_after : length after ≡ length rest - n = ap length cut ∙ length-drop n rest in
    MadeTo-more some m low push is fits cut (omega arith)

-- ---- the text of bytes

pub text-utf8 : (bytes : List ℕ) → IsUtf8 bytes → value_text bytes ≡ bytes
text-utf8 bytes some = rw (is_utf8-from_IsUtf8 bytes some) refl

pub text-latin1 : (bytes : List ℕ) → (IsUtf8 bytes → ⊥) → value_text bytes ≡ latin1_text bytes
text-latin1 bytes none = rw (false_from_ne_true (is_utf8 bytes) (λ e. none (IsUtf8-from_is_utf8 bytes e))) refl
