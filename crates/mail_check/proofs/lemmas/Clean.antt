-- Lemmas on mails without findings.
use Rattle.std.proofs.Common.{◌≡◌, ℕ, Bool, List, [], ◌∷◌, ◌++◌, length, sym, refl, Option, Some, None, inl, inr, arith}
use Rattle.std.specs.Prelude.{◌↔◌, ◌⊎◌}
use Rattle.std.proofs.lemmas.Bool.{cases_lt, lt-ltb}
use Rattle.mail_codec.specs.Charset.{Charsets}
use Rattle.mail_codec.specs.Places.{least}
use Rattle.mail_codec.proofs.lemmas.Places.{least-before}
use Rattle.mailparse.specs.Mail.{Tree, tree, root}
use Rattle.mailparse.specs.Placement.{placements}
use Rattle.mail_check.specs.Bytes.{first_offset, is_bare_line_feed, is_lone_return, is_nul, is_return_feed, later, mixed_line_end}
use Rattle.mail_check.specs.Clean.{HasPlainBytes, Nowhere}
use Rattle.mail_check.specs.Findings.{Finding, Spot, byte_findings, findings, listed}
use Rattle.mail_check.specs.declared.names.Name.{Name}
use Rattle.mail_check.specs.declared.names.Name.TheVariants as name
use Rattle.mail_check.proofs.lemmas.Bytes.{offset-none}

-- ---- lists that are empty

left_empty : (xs ys : List Finding) → xs ++ ys ≡ [] → xs ≡ []
left_empty [] ys h = refl
left_empty (x ∷ xs) ys h = absurd (cc)

right_empty : (xs ys : List Finding) → xs ++ ys ≡ [] → ys ≡ []
right_empty [] ys h = h
right_empty (x ∷ xs) ys h = absurd (cc)

not_listed : (spot : Spot) (n : Name) (offset : Option ℕ) → listed spot n offset ≡ [] → offset ≡ None
not_listed spot n None h = refl
not_listed spot n (Some p) h = absurd (cc)

-- ---- searches that find nothing

pub nowhere_found : (test : ℕ → Bool) (bytes : List ℕ) → first_offset test bytes ≡ None → Nowhere test bytes
unfolding first_offset
nowhere_found test bytes none p low = elim (cases_lt (least test (length bytes)) (length bytes)) [
  | inl l ↦ let e = lt-ltb (least test (length bytes)) (length bytes) l in let s = rw e at none in absurd (cc)
  | inr g ↦ least-before test (length bytes) p (omega arith)
]

pub found_nowhere : (test : ℕ → Bool) (bytes : List ℕ) → Nowhere test bytes → first_offset test bytes ≡ None
found_nowhere test bytes nowhere = sym (offset-none test bytes nowhere)

-- two offsets of which there are not both
pub not_both : (p q : Option ℕ) → later p q ≡ None → (p ≡ None) ⊎ (q ≡ None)
not_both None q h = inl refl
not_both (Some p) None h = inr refl
not_both (Some p) (Some q) h = absurd (cc)

pub not_later : (p q : Option ℕ) → (p ≡ None) ⊎ (q ≡ None) → later p q ≡ None
not_later None q h = refl
not_later (Some p) None h = refl
not_later (Some p) (Some q) (inl e) = absurd (cc)
not_later (Some p) (Some q) (inr e) = absurd (cc)

-- ---- the bytes of a mail

clean_bytes : (spot : Spot) (bytes : List ℕ) → byte_findings spot bytes ≡ [] → HasPlainBytes bytes
clean_bytes spot bytes h =
    let nuls = listed spot name.Nul (first_offset (is_nul bytes) bytes) in
    let returns = listed spot name.LoneCr (first_offset (is_lone_return bytes) bytes) in
    let mixed = listed spot name.MixedLineEnds (mixed_line_end bytes) in
    let rest = right_empty nuls (returns ++ mixed) h in
    record {
      no_nul = nowhere_found (is_nul bytes) bytes (not_listed spot name.Nul _ (left_empty nuls (returns ++ mixed) h));
      no_lone_return = nowhere_found (is_lone_return bytes) bytes (not_listed spot name.LoneCr _ (left_empty returns mixed rest));
      alike = elim (not_both (first_offset (is_return_feed bytes) bytes) (first_offset (is_bare_line_feed bytes) bytes)
          (not_listed spot name.MixedLineEnds (mixed_line_end bytes) (right_empty returns mixed rest))) [
            | inl e ↦ inl (nowhere_found (is_return_feed bytes) bytes e)
            | inr e ↦ inr (nowhere_found (is_bare_line_feed bytes) bytes e)
          ];
    }

plain_bytes : (spot : Spot) (bytes : List ℕ) → HasPlainBytes bytes → byte_findings spot bytes ≡ []
plain_bytes spot bytes h =
    let nul = found_nowhere (is_nul bytes) bytes h.no_nul in
    let return = found_nowhere (is_lone_return bytes) bytes h.no_lone_return in
    let both : (first_offset (is_return_feed bytes) bytes ≡ None) ⊎ (first_offset (is_bare_line_feed bytes) bytes ≡ None) = elim h.alike [
      | inl e ↦ inl (found_nowhere (is_return_feed bytes) bytes e)
      | inr e ↦ inr (found_nowhere (is_bare_line_feed bytes) bytes e)
    ] in
    let mixed : mixed_line_end bytes ≡ None = not_later (first_offset (is_return_feed bytes) bytes) (first_offset (is_bare_line_feed bytes) bytes) both in
    rw (nul, return, mixed) refl

pub plain_bytes_are_clean : (spot : Spot) (bytes : List ℕ) → (byte_findings spot bytes ≡ []) ↔ HasPlainBytes bytes
plain_bytes_are_clean spot bytes = (clean_bytes spot bytes, plain_bytes spot bytes)

-- those of a mail begin with those of its bytes
pub clean_is_plain : (known : Charsets) (t : Tree) → findings known t (placements 0 t) ≡ [] → HasPlainBytes (root t).bytes
unfolding findings
clean_is_plain known (tree node parts) h = clean_bytes _ node.bytes (left_empty _ _ (left_empty _ _ (left_empty _ _ h)))
