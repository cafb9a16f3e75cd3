-- Lemmas on separators: words, names, and the search for a time after a space.
use Rattle.std.proofs.Common.{◌≡◌, ℕ, suc, ◌+◌, ◌-◌, ◌<◌, ◌≤◌, Bool, true, false, cond, List, [], ◌∷◌, ◌&&◌, ◌||◌, Bor, length, length-drop, map, take, drop, Some, None, refl, sym, ap, ◌∙◌, arith}
use Rattle.std.specs.Prelude.{◌==◌}
use Rattle.std.specs.Char.{is_ascii_alphabetic, is_ascii_whitespace}
use Rattle.std.specs.List.{list_all, list_any, prefix_len}
use Rattle.std.specs.Str.{bytes_eq}
use Rattle.std.proofs.lemmas.List.{take_rest}
use Rattle.mail_codec.specs.Places.{begins, byte_place, first_place, trimmed_at_start}
use Rattle.mail_codec.proofs.lemmas.PlacesSearches.{place_none, place_some}
use Rattle.mail_data.specs.Separator.{after_word, has_time, is_name, is_offset, is_time_at, is_zone, word_length}

-- ---- words

pub after_word-trimmed : (text after : List ℕ) (n : ℕ) (rest : List ℕ) → n ≡ word_length text → take (length text - n) (drop n text) ≡ after
    → rest ≡ drop (prefix_len is_ascii_whitespace after) after → rest ≡ after_word text
unfolding after_word
after_word-trimmed text after n rest is same trimmed =
    let beyond : after ≡ drop (word_length text) text = sym same ∙ take_rest text n ∙ ap (λ (k : ℕ). drop k text) is in
    trimmed ∙ ap (trimmed_at_start is_ascii_whitespace) beyond

pub is_name-referred : (names : List (Bor (List ℕ))) (text : List ℕ) → is_name (map (λ name. name.now) names) text ≡ list_any (λ name. bytes_eq text name.now) names
is_name-referred [] text = refl
is_name-referred (name ∷ names) text = ap (λ (t : Bool). bytes_eq text name.now || t) (is_name-referred names text)

pub is_zone-letters : (text : List ℕ) (r offset : Bool) → offset ≡ is_offset text → offset ≡ false → r ≡ list_all is_ascii_alphabetic text → r ≡ is_zone text
unfolding is_zone
is_zone-letters text r offset is fails letters = letters ∙ ap (λ (t : Bool). t || list_all is_ascii_alphabetic text) (sym (sym is ∙ fails))

-- ---- the search for a time

-- it continues after the first space
beyond : (line : List ℕ) → first_place (begins (λ b. b == 32)) line < length line
    → has_time line ≡ (is_time_at (drop (suc (first_place (begins (λ b. b == 32)) line)) line) || has_time (drop (suc (first_place (begins (λ b. b == 32)) line)) line))
beyond [] low = absurd (omega arith)
beyond (b ∷ line) low =
    let q = first_place (begins (λ b. b == 32)) line in
    (elim (b == 32) as (λ t. cond t 0 (suc q) < length (b ∷ line)
    → ((t && is_time_at line) || has_time line) ≡ (is_time_at (drop (suc (cond t 0 (suc q))) (b ∷ line)) || has_time (drop (suc (cond t 0 (suc q))) (b ∷ line)))) [
      | true ↦ λ l. refl
      | false ↦ λ l. beyond line (omega arith)
    ]) low

nowhere : (line : List ℕ) → first_place (begins (λ b. b == 32)) line ≡ length line → has_time line ≡ false
nowhere [] all = refl
nowhere (b ∷ line) all =
    let q = first_place (begins (λ b. b == 32)) line in
    (elim (b == 32) as (λ t. cond t 0 (suc q) ≡ length (b ∷ line) → ((t && is_time_at line) || has_time line) ≡ false) [
      | true ↦ λ l. absurd (omega arith)
      | false ↦ λ l. nowhere line (omega arith)
    ]) all

-- it continues after a space that no time follows
has_time-next : (line rest : List ℕ) (p : ℕ) → Some p ≡ byte_place line 32 → take (length line - (p + 1)) (drop (p + 1) line) ≡ rest
    → has_time line ≡ (is_time_at rest || has_time rest)
has_time-next line rest p found same =
    let at = place_some (begins (λ b. b == 32)) line p found in
    let e = at.0 in
    let place : suc (first_place (begins (λ b. b == 32)) line) ≡ p + 1 = omega arith in
    let after : drop (suc (first_place (begins (λ b. b == 32)) line)) line ≡ rest = ap (λ (k : ℕ). drop k line) place ∙ sym (take_rest line (p + 1)) ∙ same in
    beyond line at.1 ∙ ap (λ (r : List ℕ). is_time_at r || has_time r) after

pub has_time-passed : (line rest : List ℕ) (p : ℕ) (r : Bool) → Some p ≡ byte_place line 32 → take (length line - (p + 1)) (drop (p + 1) line) ≡ rest
    → r ≡ is_time_at rest → r ≡ false → has_time rest ≡ has_time line
has_time-passed line rest p r found same is fails = sym (has_time-next line rest p found same ∙ ap (λ (t : Bool). t || has_time rest) (sym is ∙ fails))

pub has_time-found : (line rest : List ℕ) (p : ℕ) (r : Bool) → Some p ≡ byte_place line 32 → take (length line - (p + 1)) (drop (p + 1) line) ≡ rest
    → r ≡ is_time_at rest → r ≡ true → true ≡ has_time line
has_time-found line rest p r found same is holds = sym (has_time-next line rest p found same ∙ ap (λ (t : Bool). t || has_time rest) (sym is ∙ holds))

pub has_time-none : (line : List ℕ) → None ≡ byte_place line 32 → false ≡ has_time line
has_time-none line none = sym (nowhere line (place_none (begins (λ b. b == 32)) line none))

pub beyond-within : (line : List ℕ) (p n : ℕ) → length line ≤ n → length (take (length line - (p + 1)) (drop (p + 1) line)) ≤ n
beyond-within line p n within = let same = ap length (take_rest line (p + 1)) in let l = length-drop (p + 1) line in omega arith
