-- Two dispositions are equal exactly if their kinds are.
use Rattle.std.proofs.Common.{◌≡◌, false, refl, ap}
use Rattle.std.proofs.lemmas.Bool.{false≢true}
use Rattle.std.proofs.lemmas.Slice.Eq.{bytes_eq-Decides}
use Rattle.std.specs.Prelude.{Decides, string_bytes}
use Rattle.mailparse.specs.Disposition.{Kind, extension}
use Rattle.mailparse.specs.Views.{kind}
use Rattle.mailparse.specs.contracts.disposition.DispositionTypePartialEq.TheImpl.{ghosts}
use Rattle.mailparse.specs.declared.disposition.DispositionType.{DispositionType}
use Rattle.mailparse.specs.declared.disposition.DispositionType.TheVariants as code

-- two that differ
other : {a b : Kind} → (a ≡ b → ⊥) → Decides false (a ≡ b)
other apart = (λ h. absurd (false≢true h), λ h. absurd (apart h))

pub equal_by_kind : (a b : DispositionType) → Decides (ghosts.eq a b) (kind a ≡ kind b)
equal_by_kind code.Inline code.Inline = (λ _. refl, λ _. refl)
equal_by_kind code.Inline code.Attachment = other (λ h. cc)
equal_by_kind code.Inline code.FormData = other (λ h. cc)
equal_by_kind code.Inline (code.Extension n) = other (λ h. cc)
equal_by_kind code.Attachment code.Inline = other (λ h. cc)
equal_by_kind code.Attachment code.Attachment = (λ _. refl, λ _. refl)
equal_by_kind code.Attachment code.FormData = other (λ h. cc)
equal_by_kind code.Attachment (code.Extension n) = other (λ h. cc)
equal_by_kind code.FormData code.Inline = other (λ h. cc)
equal_by_kind code.FormData code.Attachment = other (λ h. cc)
equal_by_kind code.FormData code.FormData = (λ _. refl, λ _. refl)
equal_by_kind code.FormData (code.Extension n) = other (λ h. cc)
equal_by_kind (code.Extension m) code.Inline = other (λ h. cc)
equal_by_kind (code.Extension m) code.Attachment = other (λ h. cc)
equal_by_kind (code.Extension m) code.FormData = other (λ h. cc)
equal_by_kind (code.Extension m) (code.Extension n) =
    let same = bytes_eq-Decides (string_bytes m) (string_bytes n) in
    (λ h. ap extension (same.0 h), λ h. same.1 (cc))
