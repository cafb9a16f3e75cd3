-- Lemmas on types, read leniently.
use Rattle.std.proofs.Common.{◌≡◌, ◌<◌, ◌-◌, ℕ, Bool, true, false, eqb, not, ◌&&◌, List, [], ◌∷◌, ◌++◌, length, get_or, refl, sym, ap, ◌∙◌, arith}
use Rattle.std.specs.Prelude.{nat_eq}
use Rattle.std.specs.List.{after_first, before_first, position_or_len}
use Rattle.std.specs.Char.{is_ascii_graphic}
use Rattle.std.specs.Str.{IsUtf8, bytes_eq, trim}
use Rattle.std.proofs.lemmas.Bool.{and_parts, cond-false, cond-true, eqb-true, false≢true, le-ltb, lt-ltb, or_from}
use Rattle.std.proofs.lemmas.List.Sums.{passes_at_first, split_at_first}
use Rattle.std.proofs.lemmas.Slice.Eq.{bytes_eq-Decides}
use Rattle.mail_codec.specs.Places.{is_empty}
use Rattle.mailparse.proofs.lemmas.EncodedWord.{any_from_place}
use Rattle.mailparse.proofs.lemmas.Trims.{trim-visible}
use Rattle.mailparse.specs.ContentType.{ContentType}
use Rattle.mailparse.specs.Pairs.{Texts}
use Rattle.mail_read.specs.lenient.Manner.{has_broken_boundary, lenient_name, made_lenient, name_of_one, name_of_two, with_whole_boundary, without_boundary}

not_true : (t : Bool) → not t ≡ true → t ≡ false
not_true false is = refl
not_true true is = sym is

-- a name without a slash
pub lenient_name-none : (name : List ℕ) → position_or_len (λ b. nat_eq b 47) name ≡ length name → name_of_one name ≡ lenient_name name
unfolding lenient_name
lenient_name-none name h = sym (cond-false _ _ _ (any_from_place (λ b. nat_eq b 47) name ∙ le-ltb _ _ (omega arith)))

-- a text is not empty and has no whitespace around it
abbrev pub is_trimmed : List ℕ → Bool
is_trimmed text = not (is_empty text) && bytes_eq (trim text) text

-- it begins and ends with a visible character
pub trimmed-visible : (text : List ℕ) → IsUtf8 text → eqb (length text) 0 ≡ false → is_ascii_graphic (get_or text 0 0) ≡ true
    → is_ascii_graphic (get_or text (length text - 1) 0) ≡ true → is_trimmed text ≡ true
trimmed-visible [] utf8 some first last = absurd (false≢true (sym some))
trimmed-visible (b ∷ text) utf8 some first last =
    (bytes_eq-Decides (trim (b ∷ text)) (b ∷ text)).1 (trim-visible (b ∷ text) utf8 (omega arith) first last)

two_trimmed : (type subtype : List ℕ) → is_trimmed type ≡ true → is_trimmed subtype ≡ true → name_of_two (trim type) (trim subtype) ≡ type ++ 47 ∷ subtype
two_trimmed type subtype first second =
    let one = and_parts (not (is_empty type)) _ first in
    let two = and_parts (not (is_empty subtype)) _ second in
    ap (λ (t : List ℕ). name_of_two t (trim subtype)) ((bytes_eq-Decides (trim type) type).0 one.1)
    ∙ ap (λ (t : List ℕ). name_of_two type t) ((bytes_eq-Decides (trim subtype) subtype).0 two.1)
    ∙ cond-false _ _ _ (or_from _ _ (not_true _ one.0) (not_true _ two.0))

-- a type and a subtype without whitespace around them
pub lenient_name-two : (name type subtype : List ℕ) → position_or_len (λ b. nat_eq b 47) name < length name → type ≡ before_first (λ b. nat_eq b 47) name
    → subtype ≡ after_first (λ b. nat_eq b 47) name → (is_trimmed type && is_trimmed subtype) ≡ true → lenient_name name ≡ name
unfolding lenient_name
lenient_name-two name type subtype h before after is =
    let is_slash = λ (b : ℕ). nat_eq b 47 in
    let parts = and_parts (is_trimmed type) (is_trimmed subtype) is in
    let at : get_or name (position_or_len is_slash name) 0 ≡ 47 = eqb-true _ 47 (passes_at_first is_slash name 0 h) in
    cond-true _ _ _ (any_from_place is_slash name ∙ lt-ltb _ _ h)
    ∙ ap (λ (t : List ℕ). name_of_two (trim t) (trim (after_first is_slash name))) (sym before)
    ∙ ap (λ (t : List ℕ). name_of_two (trim type) (trim t)) (sym after)
    ∙ two_trimmed type subtype parts.0 parts.1
    ∙ ap (λ (t : List ℕ). t ++ 47 ∷ subtype) before ∙ ap (λ (t : List ℕ). before_first is_slash name ++ 47 ∷ t) after
    ∙ sym (split_at_first is_slash name 0 h ∙ ap (λ (b : ℕ). before_first is_slash name ++ b ∷ after_first is_slash name) at)

-- a type is determined by its name, its charset and its parameters
pub type_made : (found : ContentType) (name : List ℕ) (params : Texts) → name ≡ lenient_name found.mimetype
    → ((q : List ℕ) → params q ≡ with_whole_boundary found.params q)
    → ◌≡◌ {A = ContentType} (record { mimetype = name; charset = found.charset; params = params }) (made_lenient found)
unfolding made_lenient
type_made found name params named same = λ i. record { mimetype = named i; charset = found.charset; params = λ q. same q i }

-- parameters with a boundary that contains a line end, and others
pub whole-broken : (params : Texts) (q : List ℕ) → has_broken_boundary params ≡ true → without_boundary params q ≡ with_whole_boundary params q
unfolding with_whole_boundary
whole-broken params q h = sym (ap (λ (texts : Texts). texts q) (cond-true (has_broken_boundary params) (without_boundary params) params h))

pub whole-kept : (params : Texts) (q : List ℕ) → has_broken_boundary params ≡ false → params q ≡ with_whole_boundary params q
unfolding with_whole_boundary
whole-kept params q h = sym (ap (λ (texts : Texts). texts q) (cond-false (has_broken_boundary params) (without_boundary params) params h))
