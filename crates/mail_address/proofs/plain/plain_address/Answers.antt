use Rattle.std.proofs.Common.{ℕ, ◌+◌, ◌-◌, List, length, take, drop, sym, ap, ◌∙◌}
use Rattle.std.specs.List.{prefix_len}
use Rattle.std.proofs.lemmas.List.{take_rest}
use Rattle.mail_address.specs.Tokens.{is_white}
use Rattle.mail_address.proofs.lemmas.Plain.{address-front, slice_rest}
use Rattle.mail_address.proofs.plain.plain_address.Goals as goal

pub returns : goal.returns
returns c =
    let bytes : List ℕ = c.args.bytes.now in
    let white : ℕ = c.white_len-white.result in
    let local : ℕ = c.dot_atom_len-local.result in
    let domain : ℕ = c.dot_atom_len-domain.result in
    let start : List ℕ = take (length bytes - white) (drop white bytes) in
    let host : List ℕ = take (length start - (local + 1)) (drop (local + 1) start) in
    address-front bytes white local domain c.white_len.result start host c.white_len-white.ensures.value (take_rest bytes white) (slice_rest start local)
    c.dot_atom_len-local.ensures.value c.if-local-eq0.false c.dot_atom_len-domain.ensures.value c.if-domain-eq0.false
    (sym c.begins_at.ensures.value ∙ c.if-not-begins_at.false)
    (c.white_len.ensures.value ∙ ap (prefix_len is_white) (take_rest host domain))
    (sym c.are_clean.ensures ∙ c.if-not-are_clean.false) c.dot_atom_len-domain.ensures.bounds
