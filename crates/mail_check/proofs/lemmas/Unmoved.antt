-- Lemmas on bytes of a value that change nothing of what was read of it.
use Rattle.std.proofs.Common.{◌≡◌, ◌∙◌, ◌++◌, ◌+◌, ◌<◌, ℕ, suc, Bool, true, false, cond, List, [], ◌∷◌, length, drop, get_or, refl, sym, ap, arith, drop-cons}
use Rattle.std.specs.Prelude.{◌==◌, ◌&&◌, ◌||◌, encode_utf8}
use Rattle.std.specs.Char.{to_ascii_lowercase}
use Rattle.std.proofs.lemmas.Bool.{agree_below_at, or_parts}
use Rattle.mail_codec.specs.Ascii.{backslash, quote, space}
use Rattle.mail_check.specs.Bytes.{is_control}
use Rattle.mail_check.specs.Parameters.{after_byte, after_bytes, ends_name, has_step, is_attribute, is_name_state, is_restricted, is_special, is_step, name_with, names_after}
use Rattle.mail_check.specs.private.Unmoved.{is_unmoved}
use Rattle.mail_check.specs.declared.parameters.Step.{Step}
use Rattle.mail_check.specs.declared.parameters.Step.TheVariants.{Special, Starred}
use Rattle.mail_check.specs.declared.parameters.ValueState.{ValueState}
use Rattle.mail_check.specs.declared.parameters.ValueState.TheVariants.{Token, Semicolon, Text, Quoted, Space, Escaped, Closed, Wrong}
use Rattle.mail_check.proofs.lemmas.Attributes.{attribute_low, miss, text_keeps, token_keeps}

-- ---- what such a byte is not

abbrev is_odd : ℕ → Bool
is_odd b = b == quote || (b == backslash || (is_control b || (b == space || is_special b)))

is_wider : (b : ℕ) → is_restricted b ≡ true → is_attribute b ≡ true
is_wider b h = rw h refl

no_odd : (b : ℕ) → is_restricted b ≡ true → is_odd b ≡ false
no_odd b h =
    sym (ap (λ (t : Bool). t && is_odd b) h)
    ∙ agree_below_at (λ x. is_restricted x && is_odd x) (λ x. false) 128 b refl (attribute_low b (is_wider b h))

-- ---- the states after it

-- a state that neither is in a name nor ends one
abbrev Outside : ValueState → Type 0
Outside state = (ends_name state ≡ false) × (is_name_state state ≡ false)

after_token : (state : ValueState) → Outside state → (s t : Bool) → Outside (cond s state (cond t Semicolon Wrong))
after_token state h true t = h
after_token state h false true = (refl, refl)
after_token state h false false = (refl, refl)

after_quoted : (s t u v : Bool) → Outside (cond s Closed (cond t Escaped (cond u Wrong (cond v Space Quoted))))
after_quoted true t u v = (refl, refl)
after_quoted false true u v = (refl, refl)
after_quoted false false true v = (refl, refl)
after_quoted false false false true = (refl, refl)
after_quoted false false false false = (refl, refl)

-- such a byte after a state
record IsUnmoved (state : ValueState) (b : ℕ) : Type 0 where
  keeps : after_byte state b ≡ state
  calm : (step : Step) → is_step step state b ≡ false
  outside : (c : ℕ) → Outside (after_byte state c)

calm_token : (b : ℕ) (step : Step) → is_step step Token b ≡ false
calm_token b Special = refl
calm_token b Starred = refl

calm_text : (b : ℕ) (step : Step) → is_step step Text b ≡ false
calm_text b Special = refl
calm_text b Starred = refl

calm_quoted : (b : ℕ) → is_special b ≡ false → (step : Step) → is_step step Quoted b ≡ false
calm_quoted b h Special = h
calm_quoted b h Starred = refl

quoted : (b : ℕ) → is_restricted b ≡ true → IsUnmoved Quoted b
quoted b h =
    let first = or_parts (b == quote) _ (no_odd b h) in
    let second = or_parts (b == backslash) _ first.1 in
    let third = or_parts (is_control b) _ second.1 in
    let last = or_parts (b == space) (is_special b) third.1 in
    record {
      keeps = miss (b == quote) Closed _ first.0 ∙ miss (b == backslash) Escaped _ second.0 ∙ miss (is_control b) Wrong _ third.0
          ∙ miss (b == space) Space Quoted last.0;
      calm = calm_quoted b last.1;
      outside = λ c. after_quoted _ _ _ _;
    }

unmoved : (state : ValueState) (b : ℕ) → is_unmoved state b ≡ true → IsUnmoved state b
unfolding is_unmoved
unmoved Token b h = record { keeps = token_keeps b h; calm = calm_token b; outside = λ c. after_token Token (refl, refl) _ _ }
unmoved Text b h = record { keeps = text_keeps b (is_wider b h); calm = calm_text b; outside = λ c. after_token Text (refl, refl) _ _ }
unmoved Quoted b h = quoted b h
unmoved _ b h = absurd (cc)

-- ---- what is read is the same without it

cut : (bytes : List ℕ) (i : ℕ) → i < length bytes → drop i bytes ≡ get_or bytes i 0 ∷ drop (i + 1) bytes
cut bytes i low =
    drop-cons bytes i 0 low ∙ ap (λ (n : ℕ). get_or bytes i 0 ∷ drop n bytes) {x = suc i} {y = i + 1} (omega arith)

pub state_left : (state : ValueState) (bytes : List ℕ) (i : ℕ) → i < length bytes → is_unmoved state (get_or bytes i 0) ≡ true
    → after_bytes state (drop (i + 1) bytes) ≡ after_bytes state (drop i bytes)
state_left state bytes i low h =
    sym (ap (after_bytes state) (cut bytes i low)
    ∙ ap (λ (s : ValueState). after_bytes s (drop (i + 1) bytes)) (unmoved state (get_or bytes i 0) h).keeps)

pub steps_left : (step : Step) (state : ValueState) (bytes : List ℕ) (i : ℕ) → i < length bytes → is_unmoved state (get_or bytes i 0) ≡ true
    → has_step step state (drop (i + 1) bytes) ≡ has_step step state (drop i bytes)
steps_left step state bytes i low h =
    let b = get_or bytes i 0 in
    let rest = drop (i + 1) bytes in
    let is = unmoved state b h in
    sym (ap (has_step step state) (cut bytes i low)
    ∙ ap (λ (t : Bool). t || has_step step (after_byte state b) rest) (is.calm step)
    ∙ ap (λ (s : ValueState). has_step step s rest) is.keeps)

-- what was read of a name is forgotten
forgotten_at : (next : ValueState) (name : List ℕ) (b : ℕ) (rest : List ℕ) → Outside next
    → cond (ends_name next) (name ∷ names_after next [] rest) (names_after next (name_with next name b) rest) ≡ names_after next [] rest
forgotten_at next name b rest h =
    ap (λ (t : Bool). cond t (name ∷ names_after next [] rest) (names_after next (name_with next name b) rest)) h.0
    ∙ ap (λ (t : Bool). names_after next (cond t (name ++ encode_utf8 (to_ascii_lowercase b)) []) rest) h.1

forgotten : (state : ValueState) (name bytes : List ℕ) → ((b : ℕ) → Outside (after_byte state b))
    → names_after state name bytes ≡ names_after state [] bytes
forgotten state name [] outside = refl
forgotten state name (b ∷ rest) outside =
    forgotten_at (after_byte state b) name b rest (outside b) ∙ sym (forgotten_at (after_byte state b) [] b rest (outside b))

pub names_left : (state : ValueState) (name bytes : List ℕ) (i : ℕ) → i < length bytes → is_unmoved state (get_or bytes i 0) ≡ true
    → names_after state name (drop (i + 1) bytes) ≡ names_after state name (drop i bytes)
names_left state name bytes i low h =
    let b = get_or bytes i 0 in
    let rest = drop (i + 1) bytes in
    let is = unmoved state b h in
    sym (ap (names_after state name) (cut bytes i low) ∙ forgotten_at (after_byte state b) name b rest (is.outside b)
    ∙ ap (λ (s : ValueState). names_after s [] rest) is.keeps ∙ sym (forgotten state name rest is.outside))
