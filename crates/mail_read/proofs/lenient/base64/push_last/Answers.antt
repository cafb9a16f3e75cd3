use Rattle.std.proofs.Common.{◌∷◌, ◌++◌, [], List, ℕ, get_or, sym, ap, ◌∙◌, arith}
use Rattle.mail_codec.specs.Base64.{base64, items_or_fault}
use Rattle.mail_codec.specs.Places.{without_ascii_whitespace}
use Rattle.mail_read.proofs.lemmas.lenient.Base64.{last-fault, last-none, last-some}
use Rattle.mail_read.proofs.lenient.base64.push_last.Goals as goal

pub returns-then-rest-lt2 : goal.returns-then-rest-lt2
returns-then-rest-lt2 c = last-fault c.args.bytes.now.items c.args.rest.now c.args.group c.requires.fault (λ e. omega arith) (λ e. omega arith)

pub returns-then-rest-gt3 : goal.returns-then-rest-gt3
returns-then-rest-gt3 c = last-fault c.args.bytes.now.items c.args.rest.now c.args.group c.requires.fault (λ e. omega arith) (λ e. omega arith)

pub returns-in_default : goal.returns-in_default
returns-in_default c =
    let l = c.args.rest.now in
    last-none c.args.bytes.now.items l c.args.group c.in_default.field-0 c.requires.clean (omega arith) (omega arith)
    (sym (ap items_or_fault c.in_default.is) ∙ c.in_ok-last.ensures
    ∙ ap (λ t. base64 (without_ascii_whitespace (get_or l 0 0 ∷ get_or l 1 0 ∷ t ∷ 61 ∷ []))) c.third_letter-third.ensures)

pub returns : goal.returns
returns c =
    let l = c.args.rest.now in
    let old = c.args.bytes.now.items in
    last-some old c.extend_from_slice.new.self.items l c.in-Ok.last.items c.args.group c.requires.clean (omega arith) (omega arith)
    (sym (ap items_or_fault c.in-Ok.is) ∙ c.in_ok-last.ensures
    ∙ ap (λ t. base64 (without_ascii_whitespace (get_or l 0 0 ∷ get_or l 1 0 ∷ t ∷ 61 ∷ []))) c.third_letter-third.ensures)
    (c.in_ok-extend_from_slice.ensures.items ∙ ap (λ (x : List ℕ). old ++ x) c.as_slice.ensures.value)
