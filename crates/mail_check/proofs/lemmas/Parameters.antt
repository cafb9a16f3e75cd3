-- Lemmas on types.
use Rattle.std.proofs.Common.{◌≡◌, ◌∙◌, ◌+◌, ◌<◌, ℕ, suc, Bool, true, false, not, cond, List, [], ◌∷◌, ◌++◌, length, map, drop, get_or, Some, None, refl, sym, ap, arith, drop-cons}
use Rattle.std.specs.Global.{Global}
use Rattle.std.specs.Prelude.{String, string_bytes}
use Rattle.std.specs.Prelude.{◌==◌, ◌||◌, ◌&&◌, Option, is_none, is_some, option_map}
use Rattle.std.specs.Option.{unwrap_or}
use Rattle.std.specs.Str.{bytes_eq}
use Rattle.std.proofs.lemmas.Bool.{and_right, true≢false}
use Rattle.std.proofs.lemmas.List.{append-nil}
use Rattle.mail_codec.specs.Ascii.{slash}
use Rattle.mail_codec.specs.Places.{begins, byte_place}
use Rattle.mail_codec.proofs.lemmas.PlacesSearches.{place_some}
use Rattle.mail_check.specs.Findings.{Spot, listed_if, parameter_findings, strict_findings}
use Rattle.mail_check.specs.Lines.{HeaderLine}
use Rattle.mail_check.specs.Parameters.{after_bytes, has_repeat, has_step, is_disposition, is_strict, is_type, may_end, names_after, none_seen, parameter_names, strict, strict_value}
use Rattle.mail_check.specs.private.StrictValues.{Reading, reading_of}
use Rattle.mail_check.specs.declared.names.Name.TheVariants.{TypeSyntax}
use Rattle.mail_check.specs.declared.parameters.Step.{Step}
use Rattle.mail_check.specs.declared.parameters.Step.TheVariants.{Special, Starred}
use Rattle.mail_check.specs.declared.parameters.ValueState.{ValueState}
use Rattle.mail_check.specs.declared.parameters.ValueState.TheVariants.{Start}

-- a slash that was found is within the value
pub slash_within : (value : List ℕ) (at : ℕ) → Some at ≡ byte_place value slash → at < length value
slash_within value at h = let p = place_some (begins (λ b. b == slash)) value at h in omega (arith, p.0, p.1)

-- the names that are left
pub name_next : (names : List (String Global)) (i : ℕ) (name : String Global) → i < length names → name ≡ get_or names i name
    → map string_bytes (drop i names) ≡ string_bytes name ∷ map string_bytes (drop (i + 1) names)
name_next names i name h e = ap (map string_bytes) (drop-cons names i name h) ∙ ap (λ y. string_bytes y ∷ map string_bytes (drop (suc i) names)) (sym e)
    ∙ ap (λ (n : ℕ). string_bytes name ∷ map string_bytes (drop n names)) {x = suc i} {y = i + 1} (omega arith)

-- a name that was not seen is seen from then on
pub repeat_next : (old new : List ℕ → Bool) (key name : List ℕ) (names : List (List ℕ)) (added : Bool) → key ≡ name → added ≡ not (old key) → added ≡ true
    → ((q : List ℕ) → new q ≡ cond (bytes_eq key q) true (old q)) → has_repeat new names ≡ has_repeat old (name ∷ names)
repeat_next old new key name names added same is holds step =
    let unseen : old name ≡ false = ap old (sym same) ∙ by_cases (old key) added is holds in
    let next : new ≡ (λ (q : List ℕ). cond (bytes_eq name q) true (old q)) = λ i q. (step q ∙ ap (λ (k : List ℕ). cond (bytes_eq k q) true (old q)) same) i in
    rw unseen (ap (λ (s : List ℕ → Bool). has_repeat s names) next)
  where
    by_cases : (o a : Bool) → a ≡ not o → a ≡ true → o ≡ false
    by_cases false a h g = refl
    by_cases true a h g = sym g ∙ h

-- fewer than two names have no repeat
pub few_repeat : (names : List (String Global)) → length names < 2 → has_repeat none_seen (map string_bytes names) ≡ false
few_repeat [] h = refl
few_repeat (a ∷ []) h = refl
few_repeat (a ∷ (b ∷ names)) h = absurd (omega (arith, h))

-- what a pass found of a value after which nothing is left
or_false : (t : Bool) → (t || false) ≡ t
or_false true = refl
or_false false = refl

state_at : (state : ValueState) (rest bytes : List ℕ) → rest ≡ [] → after_bytes state rest ≡ after_bytes Start bytes → may_end state ≡ is_strict bytes
unfolding is_strict
state_at state rest bytes none e = ap may_end (sym (ap (after_bytes state) none) ∙ e)

step_at : (step : Step) (seen : Bool) (state : ValueState) (rest bytes : List ℕ) → rest ≡ []
    → (seen || has_step step state rest) ≡ has_step step Start bytes → seen ≡ has_step step Start bytes
step_at step seen state rest bytes none e =
    sym (or_false seen) ∙ (sym (ap (λ (left : List ℕ). seen || has_step step state left) none) ∙ e)

names_at : (names : List (List ℕ)) (state : ValueState) (name rest bytes : List ℕ) → rest ≡ []
    → names ++ names_after state name rest ≡ names_after Start [] bytes → names ≡ parameter_names bytes
unfolding parameter_names
names_at names state name rest bytes none e =
    sym (append-nil names) ∙ (sym (ap (λ (left : List ℕ). names ++ names_after state name left) none) ∙ e)

pub unread : (state : ValueState) (rest bytes : List ℕ) → rest ≡ [] → after_bytes state rest ≡ after_bytes Start bytes → may_end state ≡ false
    → None ≡ option_map reading_of (strict (Some bytes))
unread state rest bytes none e ends = rw (sym (state_at state rest bytes none e) ∙ ends) refl

pub read_whole : (state : ValueState) (name rest bytes : List ℕ) (names : List (List ℕ)) (special extended : Bool) → rest ≡ []
    → after_bytes state rest ≡ after_bytes Start bytes → (special || has_step Special state rest) ≡ has_step Special Start bytes
    → (extended || has_step Starred state rest) ≡ has_step Starred Start bytes → names ++ names_after state name rest ≡ names_after Start [] bytes
    → may_end state ≡ true
    → Some (record { bytes = bytes; names = names; is_special = special; is_extended = extended }) ≡ option_map reading_of (strict (Some bytes))
read_whole state name rest bytes names special extended none e s x n ends =
    let found : Reading = record { bytes = bytes; names = names; is_special = special; is_extended = extended } in
    let read : found ≡ reading_of bytes = λ i. record {
      bytes = bytes;
      names = names_at names state name rest bytes none n i;
      is_special = step_at Special special state rest bytes none s i;
      is_extended = step_at Starred extended state rest bytes none x i;
    } in
    rw (sym (state_at state rest bytes none e) ∙ ends) (ap (λ (v : Reading). Some v) read)

-- the bytes of a value that was read, whose findings are its own
bytes_read : (value : Reading) (bytes : Option (List ℕ)) → Some value ≡ option_map reading_of bytes → Some value.bytes ≡ bytes
bytes_read value None e = absurd (true≢false (ap (λ (o : Option Reading). is_some o) e))
bytes_read value (Some bytes) e = ap (λ (o : Option Reading). Some (unwrap_or o value).bytes) e

pub strict_is_listed : (spot : Spot) (line : HeaderLine) (value : Reading) → Some value ≡ option_map reading_of (strict_value line)
    → strict_findings spot line (Some value.bytes) ≡ parameter_findings spot line
strict_is_listed spot line value e =
    ap (λ (t : Bool). listed_if spot TypeSyntax t ++ strict_findings spot line (Some value.bytes))
    (sym (and_right (is_type line || is_disposition line) false refl))
    ∙ ap (λ (o : Option (List ℕ)). listed_if spot TypeSyntax ((is_type line || is_disposition line) && is_none o) ++ strict_findings spot line o)
    (bytes_read value (strict_value line) e)
