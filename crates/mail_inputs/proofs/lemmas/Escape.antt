-- What is shown of a text in a message has no hidden character.
use Rattle.std.proofs.Common.{◌≡◌, ℕ, zero, suc, ◌<◌, ◌/◌, ◌%◌, ◌==◌, Bool, true, false, List, [], ◌∷◌, arith, refl, subst, if◌then◌else◌}
use Rattle.std.proofs.lemmas.Bool.{agree_below, agree_below_at, cond_both}
use Rattle.std.proofs.lemmas.Str.{encode_ascii}
use Rattle.std.specs.Char.{encode_utf8}
use Rattle.std.specs.Fmt.{digit_glyph, digits, digits_onto}
use Rattle.std.specs.Prelude.{codes, chars, nat_lt}
use Rattle.mail_inputs.specs.Escape.{escape, shown, shown_character}
use Rattle.mail_codec.specs.Hidden.{is_hidden, IsShown}
use Rattle.mail_codec.proofs.lemmas.Hidden.{characters_shown, shown_nil, shown_one, shown_then}

-- of each hexadecimal digit
glyphs_plain : agree_below (λ d. is_hidden (digit_glyph false d)) (λ d. false) 16 ≡ true
unfolding is_hidden
glyphs_plain = refl

glyphs_ascii : agree_below (λ d. nat_lt (digit_glyph false d) 128) (λ d. true) 16 ≡ true
glyphs_ascii = refl

ascii_shown : (b : ℕ) → b < 128 → is_hidden b ≡ false → IsShown (b ∷ [])
ascii_shown b below e = subst IsShown (encode_ascii b below) (shown_one b e)

glyph_shown : (d : ℕ) → d < 16 → IsShown (digit_glyph false d ∷ [])
glyph_shown d below =
    ascii_shown (digit_glyph false d) (grind (arith, agree_below_at (λ d. nat_lt (digit_glyph false d) 128) (λ d. true) 16 d glyphs_ascii below))
    (agree_below_at (λ d. is_hidden (digit_glyph false d)) (λ d. false) 16 d glyphs_plain below)

digits_shown : (k n : ℕ) (acc : List ℕ) → IsShown acc → IsShown (digits_onto k 16 false n acc)
digits_shown zero n acc h = h
digits_shown (suc k) n acc h =
    let next : IsShown (digit_glyph false (n % 16) ∷ acc) = shown_then (digit_glyph false (n % 16) ∷ []) acc (glyph_shown (n % 16) (omega arith)) h in
    cond_both {A = List ℕ} (n / 16 == 0) (digit_glyph false (n % 16) ∷ acc) (digits_onto k 16 false (n / 16) (digit_glyph false (n % 16) ∷ acc)) IsShown
    (λ e. next) (λ e. digits_shown k (n / 16) (digit_glyph false (n % 16) ∷ acc) next)

front_shown : IsShown (codes "\\u{")
unfolding is_hidden encode_utf8
front_shown = (codes "\\u{", refl, refl)

end_shown : IsShown (codes "}")
unfolding is_hidden encode_utf8
end_shown = (codes "}", refl, refl)

escape_shown : (c : ℕ) → IsShown (escape c)
unfolding digits
escape_shown c = shown_then _ _ front_shown (shown_then _ _ (digits_shown 64 c [] shown_nil) end_shown)

pub character_shown : (c : ℕ) → IsShown (shown_character c)
unfolding shown_character
character_shown c = go (is_hidden c) refl
  where
    go : (b : Bool) → is_hidden c ≡ b → IsShown (if b then escape c else encode_utf8 c)
    go true e = escape_shown c
    go false e = shown_one c e

pub text_shown : (text : List ℕ) → IsShown (shown text)
text_shown text = characters_shown shown_character character_shown (chars text)
