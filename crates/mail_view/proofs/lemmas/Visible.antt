-- What is shown of a text is UTF-8 without hidden characters, and lines are safe.
use Rattle.std.proofs.Common.{◌≡◌, ℕ, Bool, true, false, List, [], ◌∷◌, ◌++◌, refl, ap, inl, inr, if◌then◌else◌, ◌==◌}
use Rattle.std.specs.Prelude.{codes}
use Rattle.std.specs.Char.{encode_utf8}
use Rattle.std.specs.Str.{chars}
use Rattle.mail_codec.specs.Hidden.{is_hidden, IsShown}
use Rattle.mail_codec.proofs.lemmas.Hidden.{characters_shown, shown_nil, shown_one, shown_then}
use Rattle.mail_view.specs.Visible.{shown_character, visible}
use Rattle.mail_view.specs.Line.{Line, empty, line, AreSafeLines, BeginsFixed, line_content, line_text, lines_text, prefix_text}
use Rattle.mail_view.specs.declared.line.Prefix.{Prefix}
use Rattle.mail_view.specs.declared.line.Prefix.TheVariants.{Title, Refused, From, ReplyTo, To, Cc, Date, Subject, Heading, Text, Part, Found, Before, Bytes, After}

spaces_shown : IsShown (codes "    ")
unfolding is_hidden encode_utf8
spaces_shown = (codes "    ", refl, refl)

replaced_shown : is_hidden 0xFFFD ≡ false
unfolding is_hidden
replaced_shown = refl

choice_shown : (c : ℕ) (b : Bool) → is_hidden c ≡ b → is_hidden (if b then 0xFFFD else c) ≡ false
choice_shown c true e = replaced_shown
choice_shown c false e = e

pub character_shown : (c : ℕ) → IsShown (shown_character c)
unfolding shown_character
character_shown c = go (c == 9) refl
  where
    go : (b : Bool) → (c == 9) ≡ b → IsShown (if b then codes "    " else encode_utf8 (if is_hidden c then 0xFFFD else c))
    go true e = spaces_shown
    go false e = shown_one _ (choice_shown c (is_hidden c) refl)

pub visible_shown : (text : List ℕ) → IsShown (visible text)
visible_shown text = characters_shown shown_character character_shown (chars text)

prefix_shown : (prefix : Prefix) → IsShown (prefix_text prefix)
unfolding is_hidden encode_utf8
prefix_shown Title = (prefix_text Title, refl, refl)
prefix_shown Refused = (prefix_text Refused, refl, refl)
prefix_shown From = (prefix_text From, refl, refl)
prefix_shown ReplyTo = (prefix_text ReplyTo, refl, refl)
prefix_shown To = (prefix_text To, refl, refl)
prefix_shown Cc = (prefix_text Cc, refl, refl)
prefix_shown Date = (prefix_text Date, refl, refl)
prefix_shown Subject = (prefix_text Subject, refl, refl)
prefix_shown Heading = (prefix_text Heading, refl, refl)
prefix_shown Text = (prefix_text Text, refl, refl)
prefix_shown Part = (prefix_text Part, refl, refl)
prefix_shown Found = (prefix_text Found, refl, refl)
prefix_shown Before = (prefix_text Before, refl, refl)
prefix_shown Bytes = (prefix_text Bytes, refl, refl)
prefix_shown After = (prefix_text After, refl, refl)

content_safe : (l : Line) → IsShown (line_content l) × BeginsFixed (line_content l)
content_safe empty = (shown_nil, inl refl)
content_safe (line prefix text) = (shown_then _ _ (prefix_shown prefix) (visible_shown text), inr (prefix, visible text, refl))

pub lines_safe : (lines : List Line) → AreSafeLines (lines_text lines)
unfolding line_text
lines_safe [] = ([], tt, refl)
lines_safe (l ∷ lines) =
    let rest = lines_safe lines in
    (line_content l ∷ rest.0, (content_safe l, rest.1), ap (λ t. (line_content l ++ codes "\n") ++ t) rest.2)
