-- Whitespace and comments at the front need only the first byte.
use Rattle.std.proofs.Common.{◌≡◌, ℕ, ◌+◌, false, cond, eqb, List, [], ◌∷◌, length, drop, refl, sym, ap, ◌∙◌}
use Rattle.std.specs.Prelude.{min, nat_lt}
use Rattle.std.specs.List.{prefix_len}
use Rattle.std.proofs.lemmas.Bool.{cond_both, cond-false, eqb-true, false≢true}
use Rattle.mail_codec.specs.Places.{begins}
use Rattle.mail_address.specs.declared.tokens.Kind.{Kind}
use Rattle.mail_address.specs.declared.tokens.Kind.TheVariants.{Angle, At, Atom, Closing, Colon, Comma, Dot, Literal, Opening, Other, Quoted, Semicolon}
use Rattle.mail_address.specs.declared.tokens.Span.TheVariants.{White}
use Rattle.mail_address.specs.declared.tokens.Token.{Token}
use Rattle.mail_address.specs.private.Plain.{white_step}
use Rattle.mail_address.specs.Tokens.{angle_place, angle_token, comment_token, front_token, is_atom_byte, is_in, is_white, literal_token, plain_token, quoted_token, single_kind, step, unquoted_place}
use Rattle.mail_address.proofs.lemmas.Passed.{white_byte-front}

-- a token that is neither
abbrev IsOther : Token → Type 0
IsOther token = is_in White token.kind ≡ false

abbrev tok : Kind → ℕ → Token
tok k n = record { kind = k; len = n }

quoted-other : (rest : List ℕ) → IsOther (quoted_token rest)
unfolding quoted_token
quoted-other rest = cond_both (nat_lt (unquoted_place 34 34 false rest) (length rest)) (tok Quoted (unquoted_place 34 34 false rest + 2)) (tok Other 1) IsOther (λ e. refl) (λ e. refl)

literal-other : (rest : List ℕ) → IsOther (literal_token rest)
unfolding literal_token
literal-other rest =
    let n : ℕ = unquoted_place 91 93 false rest in
    cond_both (begins (λ b. eqb b 93) (drop n rest)) (tok Literal (n + 2)) (tok Other 1) IsOther (λ e. refl) (λ e. refl)

angle-other : (rest : List ℕ) → IsOther (angle_token rest)
unfolding angle_token
angle-other rest =
    let n : ℕ = angle_place rest in
    cond_both (begins (λ b. eqb b 62) (drop n rest)) (tok Angle (n + 2)) (tok Opening 1) IsOther (λ e. refl) (λ e. refl)

single-other : (b : ℕ) → is_in White (single_kind b) ≡ false
unfolding single_kind
single-other b =
    cond_both (eqb b 46) Dot _ (λ k. is_in White k ≡ false) (λ e. refl) (λ e.
    cond_both (eqb b 64) At _ (λ k. is_in White k ≡ false) (λ e. refl) (λ e.
    cond_both (eqb b 44) Comma _ (λ k. is_in White k ≡ false) (λ e. refl) (λ e.
    cond_both (eqb b 59) Semicolon _ (λ k. is_in White k ≡ false) (λ e. refl) (λ e.
    cond_both (eqb b 58) Colon _ (λ k. is_in White k ≡ false) (λ e. refl) (λ e.
    cond_both (eqb b 60) Opening _ (λ k. is_in White k ≡ false) (λ e. refl) (λ e.
    cond_both (eqb b 62) Closing Other (λ k. is_in White k ≡ false) (λ e. refl) (λ e. refl)))))))

plain-other : (b : ℕ) (rest : List ℕ) → is_white b ≡ false → eqb b 40 ≡ false → IsOther (plain_token (b ∷ rest))
plain-other b rest white opening =
    cond_both (is_white b) _ _ IsOther (λ e. absurd (false≢true (sym white ∙ e)))
    (λ e. cond_both (is_atom_byte b) (tok Atom (1 + prefix_len is_atom_byte rest)) _ IsOther (λ e. refl)
    (λ e. cond_both (eqb b 40) _ _ IsOther (λ e. absurd (false≢true (sym opening ∙ e)))
    (λ e. cond_both (eqb b 34) _ _ IsOther (λ e. quoted-other rest)
    (λ e. cond_both (eqb b 91) _ _ IsOther (λ e. literal-other rest)
    (λ e. cond_both (eqb b 92) (tok Other (min 2 (1 + length rest))) (tok (single_kind b) 1) IsOther (λ e. refl) (λ e. single-other b))))))

other-front : (b : ℕ) (rest : List ℕ) → is_white b ≡ false → eqb b 40 ≡ false → IsOther (front_token (b ∷ rest))
unfolding front_token
other-front b rest white opening =
    cond_both (eqb b 60) (angle_token rest) (plain_token (b ∷ rest)) IsOther (λ e. angle-other rest) (λ e. plain-other b rest white opening)

comment-front : (rest : List ℕ) → front_token (40 ∷ rest) ≡ comment_token rest
unfolding front_token is_atom_byte
comment-front rest = refl

no_step : white_step [] ≡ step White []
unfolding step front_token
no_step = refl

-- the step over whitespace or a comment is that step
pub white_step_is : (bytes : List ℕ) → white_step bytes ≡ step White bytes
unfolding step
white_step_is [] = no_step
white_step_is (b ∷ rest) =
    cond_both (is_white b) (1 + prefix_len is_white rest) _ (λ n. n ≡ step White (b ∷ rest)) (λ e. sym (ap (λ t. cond (is_in White t.kind) t.len 0) (white_byte-front b rest e)))
    (λ w. cond_both (eqb b 40) (cond (is_in White (comment_token rest).kind) (comment_token rest).len 0) 0 (λ n. n ≡ step White (b ∷ rest))
    (λ e. sym (ap (λ c. step White (c ∷ rest)) (eqb-true b 40 e) ∙ ap (λ t. cond (is_in White t.kind) t.len 0) (comment-front rest)))
    (λ e. sym (cond-false _ _ _ (other-front b rest w e))))
