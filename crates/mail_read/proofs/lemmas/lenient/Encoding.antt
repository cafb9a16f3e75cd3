-- Lemmas on the names of transfer encodings.
use Rattle.std.proofs.Common.{◌≡◌, ℕ, true, false, List, Option, Some, None, refl, sym, ap, subst, ◌∙◌, inl, inr}
use Rattle.std.specs.Prelude.{codes, option_map}
use Rattle.std.specs.Str.{bytes_eq, str_to_ascii_lowercase}
use Rattle.std.proofs.lemmas.Bool.{cond-false, cases_Bool}
use Rattle.std.proofs.lemmas.Slice.Eq.{bytes_eq-Decides}
use Rattle.mailparse.specs.Body.{in_7bit, kind_named}
use Rattle.mailparse.specs.BodyViews.{Content, content_of}
use Rattle.mailparse.specs.ContentType.{ContentType}
use Rattle.mailparse.specs.Map.{first_value}
use Rattle.mailparse.specs.Mail.{Node, body_kind}
use Rattle.mail_read.specs.lenient.Encoding.{LenientKind, lenient_body_kind, lenient_kind, lenient_kind_named, name_at, standard}
use Rattle.mail_read.specs.lenient.EncodingViews.{IsLenientBody}
use Rattle.mail_read.specs.declared.lenient.encoding.LenientBody.{LenientBody}

-- a text that is one of the names is that name
stays : (l w : List ℕ) → bytes_eq l w ≡ true → name_at w ≡ w → lenient_kind_named (Some w) ≡ standard (kind_named (Some w))
    → lenient_kind_named (Some (name_at l)) ≡ standard (kind_named (Some l))
stays l w is h named =
    let e = (bytes_eq-Decides l w).0 is in
    ap (λ (x : List ℕ). lenient_kind_named (Some x)) (ap name_at e ∙ h) ∙ named ∙ ap (λ (x : List ℕ). standard (kind_named (Some x))) (sym e)

-- any other text is not looked at
other : (l : List ℕ) → bytes_eq l (codes "base64") ≡ false → bytes_eq l (codes "quoted-printable") ≡ false → bytes_eq l (codes "8bit") ≡ false
    → bytes_eq l (codes "binary") ≡ false → kind_named (Some l) ≡ in_7bit
unfolding kind_named
other l a b c d = cond-false _ _ _ a ∙ cond-false _ _ _ b ∙ cond-false _ _ _ c ∙ cond-false _ _ _ d

word-same : (l : List ℕ) → (kind_named (Some l) ≡ in_7bit → ⊥) → lenient_kind_named (Some (name_at l)) ≡ standard (kind_named (Some l))
unfolding name_at lenient_kind_named
word-same l h = elim (cases_Bool (bytes_eq l (codes "base64"))) [
  | inl is ↦ stays l (codes "base64") is refl refl
  | inr a ↦ elim (cases_Bool (bytes_eq l (codes "quoted-printable"))) [
    | inl is ↦ stays l (codes "quoted-printable") is refl refl
    | inr b ↦ elim (cases_Bool (bytes_eq l (codes "8bit"))) [
      | inl is ↦ stays l (codes "8bit") is refl refl
      | inr c ↦ elim (cases_Bool (bytes_eq l (codes "binary"))) [
        | inl is ↦ stays l (codes "binary") is refl refl
        | inr d ↦ absurd (h (other l a b c d))
      ]
    ]
  ]
]

value-same : (value : Option (List ℕ)) → (kind_named (option_map str_to_ascii_lowercase value) ≡ in_7bit → ⊥)
    → lenient_kind value ≡ standard (kind_named (option_map str_to_ascii_lowercase value))
unfolding kind_named lenient_kind
value-same None h = absurd (h refl)
value-same (Some text) h = word-same (str_to_ascii_lowercase text) h

-- an encoding that the strict reading finds is found
pub lenient-same : (node : Node) → (body_kind node ≡ in_7bit → ⊥) → lenient_body_kind node ≡ standard (body_kind node)
lenient-same node h = value-same (first_value (codes "Content-Transfer-Encoding") node.headers) h

-- ---- a body that was made

abbrev made : List ℕ → ContentType → Content
made raw ctype = record { raw = raw; ctype = ctype }

-- it is that of a message, in another kind that is the same
pub is_body : (raw : List ℕ) (ctype : ContentType) (node : Node) (kind other : LenientKind) (body : LenientBody) → raw ≡ node.body → ctype ≡ node.ctype → kind ≡ other
    → IsLenientBody kind (made raw ctype) body → IsLenientBody other (content_of node) body
is_body raw ctype node kind other body e f g h =
    subst (λ (k : LenientKind). IsLenientBody k (content_of node) body) g
    (subst (λ (t : ContentType). IsLenientBody kind (made node.body t) body) f (subst (λ (r : List ℕ). IsLenientBody kind (made r ctype) body) e h))
