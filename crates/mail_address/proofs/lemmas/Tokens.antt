-- Lemmas on tokens and runs of them.
use Rattle.std.proofs.Common.{◌≡◌, ℕ, zero, suc, ◌+◌, ◌-◌, ◌<◌, ◌≤◌, ◌≢◌, Bool, true, false, cond, ◌&&◌, eqb, List, [], ◌∷◌, ◌++◌, length, drop, refl, sym, ap, ◌∙◌, arith, length-drop}
use Rattle.std.proofs.lemmas.Bool.{agree_below, agree_below_at, and_parts, false≢true, ne_eqb}
use Rattle.std.specs.Char.{is_ascii_lowercase}
use Rattle.mail_address.specs.Tokens.{far, far_within, is_atom_byte, is_white}

-- ---- bytes of atoms

lowercase_atoms : agree_below (λ b. is_ascii_lowercase b && is_atom_byte b) is_ascii_lowercase 256 ≡ true
unfolding is_atom_byte
lowercase_atoms = refl

-- a letter in lower case
pub lowercase_atom : (b : ℕ) → b < 256 → is_ascii_lowercase b ≡ true → true ≡ is_atom_byte b
lowercase_atom b low is =
    let both = agree_below_at (λ k. is_ascii_lowercase k && is_atom_byte k) is_ascii_lowercase 256 b lowercase_atoms low in
    sym (and_parts (is_ascii_lowercase b) (is_atom_byte b) (both ∙ is)).1

-- ---- a step that is repeated until it takes no byte

-- if it takes none, the run ends
pub far-stop : (step : List ℕ → ℕ) (bytes : List ℕ) → step bytes ≡ 0 → far step bytes ≡ 0
unfolding far
far-stop step [] h = refl
far-stop step (b ∷ bytes) h = rw h refl

-- once there are as many rounds as bytes, more change nothing
far-enough : (step : List ℕ → ℕ) (m n : ℕ) (bytes : List ℕ) → length bytes ≤ m → length bytes ≤ n → far_within step m bytes ≡ far_within step n bytes
far-enough step zero zero bytes a b = refl
far-enough step zero (suc n) [] a b = refl
far-enough step zero (suc n) (x ∷ bytes) a b = absurd (omega arith)
far-enough step (suc m) zero [] a b = refl
far-enough step (suc m) zero (x ∷ bytes) a b = absurd (omega arith)
far-enough step (suc m) (suc n) [] a b = refl
far-enough step (suc m) (suc n) (x ∷ bytes) a b = go (step (x ∷ bytes)) (far-enough step m n)
  where
    go : (k : ℕ) → ((rest : List ℕ) → length rest ≤ m → length rest ≤ n → far_within step m rest ≡ far_within step n rest)
        → cond (eqb k 0) 0 (k + far_within step m (drop k (x ∷ bytes))) ≡ cond (eqb k 0) 0 (k + far_within step n (drop k (x ∷ bytes)))
    go zero later = refl
    go (suc k) later = let len = length-drop k bytes in ap (λ i. cond (eqb (suc k) 0) 0 (suc k + i)) (later (drop k bytes) (omega arith) (omega arith))

-- one step, and then the rest of the run
pub far-more : (step : List ℕ → ℕ) (bytes : List ℕ) → 0 < length bytes → step bytes ≢ 0 → far step bytes ≡ step bytes + far step (drop (step bytes) bytes)
unfolding far
far-more step [] low some = absurd (omega arith)
far-more step (b ∷ bytes) low some =
    let len = length-drop (step (b ∷ bytes)) (b ∷ bytes) in
    ap (λ t. cond t 0 (step (b ∷ bytes) + far_within step (length bytes) (drop (step (b ∷ bytes)) (b ∷ bytes)))) (ne_eqb (step (b ∷ bytes)) 0 some)
    ∙ ap (λ x. step (b ∷ bytes) + x) (far-enough step (length bytes) (length (drop (step (b ∷ bytes)) (b ∷ bytes))) (drop (step (b ∷ bytes)) (b ∷ bytes)) (omega arith) (omega arith))

pub far-nothing : (step : List ℕ → ℕ) → far step [] ≡ 0
unfolding far
far-nothing step = refl

-- the length of a run over the bytes, when this rest is left
pub record RunsTo (step : List ℕ → ℕ) (bytes rest : List ℕ) : Type 0 where
  pub within : length rest ≤ length bytes
  pub same : far step bytes + length rest ≡ length bytes + far step rest

pub RunsTo-more : (step : List ℕ → ℕ) (bytes rest after : List ℕ) (len : ℕ) → RunsTo step bytes rest → len ≡ step rest → len ≢ 0 → len ≤ length rest
    → after ≡ drop len rest → RunsTo step bytes after
RunsTo-more step bytes rest after len run is some fits cut =
    let more = far-more step rest (omega arith) (λ e. some (is ∙ e)) in
    let same : drop (step rest) rest ≡ after = ap (λ n. drop n rest) (sym is) ∙ sym cut in
    let far_same : far step (drop (step rest) rest) ≡ far step after = ap (far step) same in
    let len_after : length after ≡ length rest - len = ap length cut ∙ length-drop len rest in
    let within = run.within in
    let before = run.same in
    record { within = omega arith; same = omega arith }

pub RunsTo-end : (step : List ℕ → ℕ) (bytes rest : List ℕ) (len : ℕ) → RunsTo step bytes rest → len ≡ step rest → len ≡ 0 → length bytes - length rest ≡ far step bytes
RunsTo-end step bytes rest len run is none =
    let stop = far-stop step rest (sym is ∙ none) in
    let within = run.within in
    let same = run.same in
    omega arith

-- ---- bytes of atoms

-- the bytes after a list and one more byte
pub drop_past : (front : List ℕ) (b : ℕ) (rest : List ℕ) → drop (suc (length front)) (front ++ b ∷ rest) ≡ rest
drop_past [] b rest = refl
drop_past (x ∷ front) b rest = drop_past front b rest

pub byte-other : (test : ℕ → Bool) (b other : ℕ) → test b ≡ true → test other ≡ false → eqb b other ≡ false
byte-other test b other h none = ne_eqb b other (λ e. false≢true (sym none ∙ ap test (sym e) ∙ h))

pub no_atom_bytes : (is_atom_byte 60 ≡ false) × (is_atom_byte 32 ≡ false) × (is_atom_byte 9 ≡ false) × (is_atom_byte 13 ≡ false) × (is_atom_byte 10 ≡ false)
    × (is_atom_byte 34 ≡ false) × (is_atom_byte 40 ≡ false) × (is_atom_byte 91 ≡ false) × (is_atom_byte 92 ≡ false) × (is_atom_byte 62 ≡ false)
unfolding is_atom_byte
no_atom_bytes = (refl, refl, refl, refl, refl, refl, refl, refl, refl, refl)

pub atom_byte-visible : (b : ℕ) → is_atom_byte b ≡ true → is_white b ≡ false
atom_byte-visible b h =
    let n = no_atom_bytes in
    rw (byte-other is_atom_byte b 32 h n.1, byte-other is_atom_byte b 9 h n.2, byte-other is_atom_byte b 13 h n.3, byte-other is_atom_byte b 10 h n.4) refl
