-- Lemmas on parts with their contents.
use Rattle.std.proofs.Common.{◌≡◌, ℕ, zero, suc, ◌<◌, Bool, true, false, List, [], ◌∷◌, ◌++◌, length, drop, get_or, Option, Some, None, refl, sym, ap, subst, ◌∙◌}
use Rattle.std.proofs.lemmas.Bool.{cond-true, cond-false}
use Rattle.std.specs.List.{AllByRecursion}
use Rattle.mailparse.specs.Mail.{Node, root}
use Rattle.mail_read.specs.InnerMails.{Forwarded, forwarded, holds_mail, mail_bytes}
use Rattle.mail_read.specs.PartPlaces.{Place}
use Rattle.mail_read.specs.lenient.Content.{Content, message_content}
use Rattle.mail_read.proofs.lemmas.InnerMails.{drop_next}
use Rattle.mail_parts.specs.Part.{content_if}
use Rattle.mail_parts.specs.DecodedViews.{mail_if}

-- ---- what is so of all items of a list

pub all_drop : {A : Type 0} (P : A → Type 0) (n : ℕ) (xs : List A) → AllByRecursion P xs → AllByRecursion P (drop n xs)
all_drop P zero xs h = h
all_drop P (suc n) [] h = h
all_drop P (suc n) (x ∷ xs) h = all_drop P n xs h.1

-- is so of the item at an index
pub all_at : {A : Type 0} (P : A → Type 0) (xs : List A) (i : ℕ) (x : A) → i < length xs → x ≡ get_or xs i x → AllByRecursion P xs → P x
all_at P xs i x h e all = (subst (AllByRecursion P) (drop_next xs i x h e) (all_drop P i xs all)).0

-- and of one item more
pub all_push : {A : Type 0} (P : A → Type 0) (xs : List A) (x : A) → AllByRecursion P xs → P x → AllByRecursion P (xs ++ x ∷ [])
all_push P [] x all h = (h, tt)
all_push P (y ∷ xs) x all h = (all.0, all_push P xs x all.1 h)

-- ---- the mail in a part

pub some-same : {A : Type 0} (x y : A) → ◌≡◌ {A = Option A} (Some x) (Some y) → x ≡ y
some-same x y e = cc

-- the content of a part that is decoded
pub content_is : (decodes : Bool) (node : Node) (content : Content) → ◌≡◌ {A = Option Content} (Some content) (content_if decodes node)
    → (content ≡ message_content node) × (decodes ≡ true)
content_is true node content e = (some-same _ _ e, refl)
content_is false node content e = absurd (cc)

-- of one that is not
pub mail_is : (decodes : Bool) (place : Place) (content : Content) → holds_mail place ≡ true → ◌≡◌ {A = Option Content} (Some content) (mail_if decodes place)
    → content.bytes ≡ mail_bytes place
mail_is true place content holds e = absurd (cc)
mail_is false place content holds e = ap (λ (c : Content). c.bytes) (some-same _ _ (e ∙ cond-true (holds_mail place) _ _ holds))

-- one of the two is there
pub mail_there : (decodes : Bool) (place : Place) → holds_mail place ≡ true → ◌≡◌ {A = Option Content} None (content_if decodes (root place.part))
    → ◌≡◌ {A = Option Content} None (mail_if decodes place) → ⊥
mail_there true place holds e f = cc
mail_there false place holds e f = let g : ◌≡◌ {A = Option Content} None (Some (message_content (root place.part))) = f ∙ cond-true (holds_mail place) _ _ holds in cc

-- the content of a mail that is wanted, and one that is not
pub mail_wanted : (place : Place) (content : Content) → holds_mail place ≡ true → content ≡ message_content (root place.part) → ◌≡◌ {A = Option Content} (Some content) (mail_if false place)
mail_wanted place content holds e = ap (λ (c : Content). Some c) e ∙ sym (cond-true (holds_mail place) _ _ holds)

-- a part that contains none
pub not_held : (start : Option ℕ) (place : Place) → holds_mail place ≡ false → ◌≡◌ {A = Option Forwarded} None (forwarded start place)
not_held start place h = sym (cond-false (holds_mail place) _ _ h)

-- the content of the mail in a part, if it is wanted
pub mail_wanted_if : (decodes : Bool) (place : Place) (content : Content) → holds_mail place ≡ true → decodes ≡ false → content ≡ message_content (root place.part)
    → ◌≡◌ {A = Option Content} (Some content) (mail_if decodes place)
mail_wanted_if true place content holds d e = absurd (cc)
mail_wanted_if false place content holds d e = mail_wanted place content holds e

pub mail_unwanted : (decodes : Bool) (place : Place) → holds_mail place ≡ false → ◌≡◌ {A = Option Content} None (mail_if decodes place)
mail_unwanted true place holds = refl
mail_unwanted false place holds = sym (cond-false (holds_mail place) _ _ holds)
