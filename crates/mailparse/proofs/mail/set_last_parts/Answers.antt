use Rattle.std.proofs.Common.{◌≡◌, ◌+◌, ◌-◌, [], ◌∷◌, List, length, slice_index_or, slice_set, ap, ◌∙◌, subst, arith, length-append}
use Rattle.std.specs.Vec.{vec_len}
use Rattle.std.proofs.lemmas.List.{get_or_at, set_at}
use Rattle.mailparse.specs.declared.mail.message.ParsedMail.{ParsedMail}
use Rattle.mailparse.specs.private.Parts.{HasParts}
use Rattle.mailparse.proofs.mail.set_last_parts.Goals as goal

pub returns-in-Some : goal.returns-in-Some
returns-in-Some c = λ front mail e.
    let size : length c.args.found.now.items ≡ length front + 1 = ap length e ∙ length-append front (mail ∷ []) in
    let last : length front ≡ vec_len c.args.found.now - 1 = omega (arith, size, c.args.found.now.ok.0) in
    let was : c.in-Some.mail.now ≡ mail =
    c.in-Some.ensures.value ∙ ap (λ (ms : List ParsedMail). slice_index_or ms (vec_len c.args.found.now - 1) c.in-Some.mail.now) e
    ∙ get_or_at front mail [] c.in-Some.mail.now (vec_len c.args.found.now - 1) last in (
      c.set_parts.new.mail,
      ap (λ (ms : List ParsedMail). slice_set ms (vec_len c.args.found.now - 1) c.set_parts.new.mail) e ∙ set_at front mail [] c.set_parts.new.mail (vec_len c.args.found.now - 1) last,
      subst (λ (m : ParsedMail). HasParts m c.args.parts.items c.set_parts.new.mail) was c.set_parts.ensures,
    )
