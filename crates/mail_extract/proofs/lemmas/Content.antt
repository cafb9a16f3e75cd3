-- Lemmas on the bytes of a file that are saved.
use Rattle.std.proofs.Common.{◌≡◌, ℕ, Bool, true, false, List, length, Option, Some, None, ap, sym, ◌∙◌}
use Rattle.std.proofs.lemmas.Bool.{cases_Bool, cond-true, cond-false}
use Rattle.std.proofs.Common.{inl, inr}
use Rattle.std.specs.Prelude.{◌==◌}
use Rattle.mailparse.specs.Mail.{root}
use Rattle.mailparse.specs.Refusal.{Refusal}
use Rattle.mail_read.specs.InnerMails.{holds_mail}
use Rattle.mail_read.specs.PartPlaces.{Place}
use Rattle.mail_read.specs.lenient.Content.{Content, message_content}
use Rattle.mail_parts.specs.DecodedViews.{mail_if}
use Rattle.mail_extract.specs.Content.{content}

some-same : {A : Type 0} (x y : A) → ◌≡◌ {A = Option A} (Some x) (Some y) → x ≡ y
some-same x y e = cc

-- the content of a mail that was decoded
mail-held : (place : Place) (mail : Content) → ◌≡◌ {A = Option Content} (Some mail) (mail_if false place) → mail ≡ message_content (root place.part)
mail-held place mail e = elim (cases_Bool (holds_mail place)) [
  | inl holds ↦ some-same _ _ (e ∙ cond-true (holds_mail place) _ _ holds)
  | inr none ↦ let g : ◌≡◌ {A = Option Content} (Some mail) None = e ∙ cond-false (holds_mail place) _ _ none in absurd (cc)
]

-- the same content with other bytes and another fault of the same values
pub content_as : (bytes : List ℕ) (fault : Option Refusal) (mail : Content) → bytes ≡ mail.bytes → fault ≡ mail.fault
    → ◌≡◌ {A = Content} (record { bytes = bytes; fault = fault; ignored = mail.ignored }) mail
content_as bytes fault mail e f =
    ap (λ (b : List ℕ). record { bytes = b; fault = fault; ignored = mail.ignored }) e
    ∙ ap (λ (o : Option Refusal). record { bytes = mail.bytes; fault = o; ignored = mail.ignored }) f

-- a mail that was decoded is what is saved, unless its body is empty
pub held_saved : (place : Place) (read mail : Content) (raw : List ℕ) → ◌≡◌ {A = Option Content} (Some mail) (mail_if false place) → read ≡ mail
    → raw ≡ (root place.part).body → (length raw == 0) ≡ false → read ≡ content (root place.part)
held_saved place read mail raw e same is none =
    same ∙ mail-held place mail e ∙ sym (cond-false (length (root place.part).body == 0) _ _ (ap (λ (b : List ℕ). length b == 0) (sym is) ∙ none))
