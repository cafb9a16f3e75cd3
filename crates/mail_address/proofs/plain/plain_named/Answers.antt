use Rattle.std.proofs.Common.{ℕ, ◌+◌, ◌-◌, List, length, take, drop, sym, ap, ◌∙◌}
use Rattle.std.specs.List.{prefix_len}
use Rattle.mail_address.specs.Tokens.{is_white}
use Rattle.mail_address.proofs.lemmas.Plain.{named-front, slice_rest}
use Rattle.mail_address.proofs.plain.plain_named.Goals as goal

pub returns : goal.returns
returns c =
    let bytes : List ℕ = c.args.bytes.now in
    let local : ℕ = c.dot_atom_len-local.result in
    let domain : ℕ = c.dot_atom_len-domain.result in
    let inner : List ℕ = take (length bytes - (c.args.name + 1)) (drop (c.args.name + 1) bytes) in
    let host : List ℕ = take (length inner - (local + 1)) (drop (local + 1) inner) in
    named-front bytes c.args.name local domain inner host c.requires.name (slice_rest bytes c.args.name) (slice_rest inner local)
    c.dot_atom_len-local.ensures.value c.if-local-eq0.false c.dot_atom_len-domain.ensures.value c.if-domain-eq0.false
    (sym c.begins_at.ensures.value ∙ c.if-not-begins_at.false)
    (sym c.begins_at-else-local-eq0.ensures.value ∙ c.if-not-begins_at-2.false)
    (sym c.begins_at-else-domain-eq0.ensures.value ∙ c.if-not-begins_at-3.false)
    (sym c.are_clean.ensures ∙ c.if-not-are_clean.false)
    c.white_len-after.result (c.white_len-after.ensures.value ∙ ap (prefix_len is_white) (slice_rest host domain))
