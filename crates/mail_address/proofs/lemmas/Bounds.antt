-- Lemmas on how long tokens and runs of them are.
use Rattle.std.proofs.Common.{◌≡◌, ◌≢◌, ℕ, zero, suc, ◌+◌, ◌<◌, ◌≤◌, Bool, false, eqb, not, ◌&&◌, List, [], ◌∷◌, length, drop, sym, ap, ◌∙◌, ⊎_elim, arith, length-drop}
use Rattle.std.specs.Prelude.{min, nat_lt}
use Rattle.std.specs.List.{prefix_len}
use Rattle.std.proofs.lemmas.Bool.{cases_Bool, cond_both, eqb-false, eqb-true, ltb-true}
use Rattle.std.proofs.lemmas.List.{drop-drop}
use Rattle.std.proofs.lemmas.List.Sums.{prefix_len-le-length}
use Rattle.mail_codec.specs.Places.{begins}
use Rattle.mail_address.specs.declared.tokens.Kind.{Kind}
use Rattle.mail_address.specs.declared.tokens.Kind.TheVariants.{Angle, Atom, Blank, Comment, Literal, Opening, Other, Quoted}
use Rattle.mail_address.specs.declared.tokens.Span.{Span}
use Rattle.mail_address.specs.declared.tokens.Token.{Token}
use Rattle.mail_address.specs.Tokens.{angle_place, angle_token, closes_comment, comment_place, comment_token, depth_after, far, far_within, front_token, is_atom_byte, is_in, is_white, literal_token, plain_token, quoted_token, run, single_kind, step, unquoted_place}
use Rattle.mail_address.proofs.lemmas.Addresses.{begins-within}
use Rattle.mail_address.proofs.lemmas.Tokens.{far-more, far-stop}

-- ---- places

comment_place-within : (quoted : Bool) (depth : ℕ) (bytes : List ℕ) → comment_place quoted depth bytes ≤ length bytes
comment_place-within quoted depth [] = omega arith
comment_place-within quoted depth (b ∷ rest) =
    let later = comment_place-within (not quoted && eqb b 92) (depth_after quoted depth b) rest in
    cond_both (closes_comment quoted depth b) 0 (suc (comment_place (not quoted && eqb b 92) (depth_after quoted depth b) rest)) (λ n. n ≤ suc (length rest)) (λ e. omega arith) (λ e. omega (arith, later))

-- ---- tokens

-- how long a token may be at the front of bytes
abbrev Fits : ℕ → Token → Type 0
Fits most token = (0 < token.len) × (token.len ≤ most)

-- a token of that kind and length
abbrev tok : Kind → ℕ → Token
tok k n = record { kind = k; len = n }

comment-fits : (rest : List ℕ) → Fits (suc (length rest)) (comment_token rest)
unfolding comment_token
comment-fits rest =
    let n : ℕ = comment_place false 0 rest in
    let within = comment_place-within false 0 rest in
    cond_both (nat_lt n (length rest)) (tok Comment (n + 2)) (tok Other (n + 1)) (Fits (suc (length rest)))
    (λ e. let low = ltb-true n (length rest) e in (omega arith, omega arith)) (λ e. (omega arith, omega arith))

quoted-fits : (rest : List ℕ) → Fits (suc (length rest)) (quoted_token rest)
unfolding quoted_token
quoted-fits rest =
    let n : ℕ = unquoted_place 34 34 false rest in
    cond_both (nat_lt n (length rest)) (tok Quoted (n + 2)) (tok Other 1) (Fits (suc (length rest)))
    (λ e. let low = ltb-true n (length rest) e in (omega arith, omega arith)) (λ e. (omega arith, omega arith))

literal-fits : (rest : List ℕ) → Fits (suc (length rest)) (literal_token rest)
unfolding literal_token
literal-fits rest =
    let n : ℕ = unquoted_place 91 93 false rest in
    cond_both (begins (λ b. eqb b 93) (drop n rest)) (tok Literal (n + 2)) (tok Other 1) (Fits (suc (length rest)))
    (λ e. let low = begins-within (λ b. eqb b 93) n rest e in (omega arith, omega arith)) (λ e. (omega arith, omega arith))

angle-fits : (rest : List ℕ) → Fits (suc (length rest)) (angle_token rest)
unfolding angle_token
angle-fits rest =
    let n : ℕ = angle_place rest in
    cond_both (begins (λ b. eqb b 62) (drop n rest)) (tok Angle (n + 2)) (tok Opening 1) (Fits (suc (length rest)))
    (λ e. let low = begins-within (λ b. eqb b 62) n rest e in (omega arith, omega arith)) (λ e. (omega arith, omega arith))

plain-fits : (b : ℕ) (rest : List ℕ) → Fits (suc (length rest)) (plain_token (b ∷ rest))
plain-fits b rest =
    cond_both (is_white b) (tok Blank (1 + prefix_len is_white rest)) _ (Fits (suc (length rest))) (λ e. let low = prefix_len-le-length is_white rest in (omega arith, omega arith))
    (λ e. cond_both (is_atom_byte b) (tok Atom (1 + prefix_len is_atom_byte rest)) _ (Fits (suc (length rest))) (λ e. let low = prefix_len-le-length is_atom_byte rest in (omega arith, omega arith))
    (λ e. cond_both (eqb b 40) _ _ (Fits (suc (length rest))) (λ e. comment-fits rest) (λ e. cond_both (eqb b 34) _ _ (Fits (suc (length rest))) (λ e. quoted-fits rest)
    (λ e. cond_both (eqb b 91) _ _ (Fits (suc (length rest))) (λ e. literal-fits rest)
    (λ e. cond_both (eqb b 92) (tok Other (min 2 (1 + length rest))) (tok (single_kind b) 1) (Fits (suc (length rest))) (λ e. (omega arith, omega arith)) (λ e. (omega arith, omega arith)))))))

pub token-fits : (b : ℕ) (rest : List ℕ) → Fits (suc (length rest)) (front_token (b ∷ rest))
unfolding front_token
token-fits b rest = cond_both (eqb b 60) (angle_token rest) (plain_token (b ∷ rest)) (Fits (suc (length rest))) (λ e. angle-fits rest) (λ e. plain-fits b rest)

-- ---- runs

pub step-within : (span : Span) (bytes : List ℕ) → step span bytes ≤ length bytes
unfolding step front_token
step-within span [] = cond_both (is_in span Other) 0 0 (λ n. n ≤ 0) (λ e. omega arith) (λ e. omega arith)
step-within span (b ∷ rest) =
    let fits = token-fits b rest in
    cond_both (is_in span (front_token (b ∷ rest)).kind) (front_token (b ∷ rest)).len 0 (λ n. n ≤ suc (length rest)) (λ e. fits.1) (λ e. omega arith)

far_within-within : (pass : List ℕ → ℕ) → ((bytes : List ℕ) → pass bytes ≤ length bytes) → (most : ℕ) (bytes : List ℕ) → far_within pass most bytes ≤ length bytes
far_within-within pass within zero bytes = omega arith
far_within-within pass within (suc most) [] = omega arith
far_within-within pass within (suc most) (b ∷ bytes) =
    let all : List ℕ = b ∷ bytes in
    let fits = within all in
    let cut = length-drop (pass all) all in
    let more = far_within-within pass within most (drop (pass all) all) in
    cond_both (eqb (pass all) 0) 0 (pass all + far_within pass most (drop (pass all) all)) (λ n. n ≤ length all) (λ e. omega arith) (λ e. omega (arith, fits, cut, more))

pub far-within : (pass : List ℕ → ℕ) → ((bytes : List ℕ) → pass bytes ≤ length bytes) → (bytes : List ℕ) → far pass bytes ≤ length bytes
unfolding far
far-within pass within bytes = far_within-within pass within (length bytes) bytes

-- at the end of a run the step takes no byte
pub far-over : (pass : List ℕ → ℕ) → ((bytes : List ℕ) → pass bytes ≤ length bytes) → (most : ℕ) (bytes : List ℕ) → length bytes ≤ most
    → far pass bytes < length bytes → pass (drop (far pass bytes) bytes) ≡ 0
far-over pass within zero bytes short low = absurd (omega arith)
far-over pass within (suc most) [] short low = absurd (omega arith)
far-over pass within (suc most) (b ∷ bytes) short low =
    ⊎_elim (λ e. let none : pass (b ∷ bytes) ≡ 0 = eqb-true (pass (b ∷ bytes)) 0 e in ap (λ n. pass (drop n (b ∷ bytes))) (far-stop pass (b ∷ bytes) none) ∙ none)
    (λ e. let some : pass (b ∷ bytes) ≢ 0 = eqb-false (pass (b ∷ bytes)) 0 e in
    let more = far-more pass (b ∷ bytes) (omega arith) some in
    let cut = length-drop (pass (b ∷ bytes)) (b ∷ bytes) in
    let fits = within (b ∷ bytes) in
    let positive : 0 < pass (b ∷ bytes) = omega (arith, some) in
    ap (λ n. pass (drop n (b ∷ bytes))) more
    ∙ ap pass (sym (drop-drop (far pass (drop (pass (b ∷ bytes)) (b ∷ bytes))) (pass (b ∷ bytes)) (b ∷ bytes)))
    ∙ far-over pass within most (drop (pass (b ∷ bytes)) (b ∷ bytes)) (omega arith) (omega arith))
    (cases_Bool (eqb (pass (b ∷ bytes)) 0))

pub run-within : (span : Span) (bytes : List ℕ) → run span bytes ≤ length bytes
run-within span bytes = far-within (step span) (step-within span) bytes
