use Rattle.std.proofs.Common.{List, ℕ, [], ◌∷◌, ◌++◌, refl, sym, ap, ◌∙◌, append_assoc}
use Rattle.mail_address.proofs.lemmas.Plain.{plain_address}
use Rattle.mail_address.proofs.text.address_bytes.Goals as goal

pub returns-then-is_dot_atom-2 : goal.returns-then-is_dot_atom-2
returns-then-is_dot_atom-2 c =
    let local = c.args.local_part.now in
    let domain = c.args.domain.now in
    c.in_ok-extend_from_slice-2.ensures.items
    ∙ ap (λ (o : List ℕ). o ++ domain) (c.in_ok-push.ensures.items ∙ ap (λ (o : List ℕ). o ++ 64 ∷ []) (c.in_ok-extend_from_slice.ensures.items ∙ ap (λ (o : List ℕ). o ++ local) c.in_ok-out.ensures.items))
    ∙ append_assoc local (64 ∷ []) domain
    ∙ sym (plain_address local domain (c.if-is_dot_atom.ensures refl) (c.if-is_dot_atom-2.ensures refl))
