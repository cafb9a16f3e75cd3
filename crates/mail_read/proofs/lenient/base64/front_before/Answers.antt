use Rattle.std.proofs.Common.{◌*◌, List, ℕ, sym, ap, ◌∙◌}
use Rattle.mail_codec.specs.Base64.{base64, groups_from, items_or_fault}
use Rattle.mail_codec.specs.Places.{without_ascii_whitespace}
use Rattle.mail_read.specs.lenient.Base64.{before, front_from}
use Rattle.mail_read.proofs.lemmas.lenient.Base64.{branch-read, branch-left, clean-drop, cut-fault, front-cut, front-no_err}
use Rattle.mail_read.proofs.lenient.base64.front_before.Goals as goal

pub returns-in_default : goal.returns-in_default
returns-in_default c =
    absurd (front-no_err c.args.letters.now c.args.group c.in_default.field-0 c.requires.fault c.requires.clean
    (sym (ap items_or_fault c.in_default.is) ∙ c.in_ok-bytes.ensures ∙ ap (λ (w : List ℕ). base64 (without_ascii_whitespace w)) c.split_at.ensures.front))

pub push_last-requires-clause-clean : goal.push_last-requires-clause-clean
push_last-requires-clause-clean c =
    ap without_ascii_whitespace c.split_at.ensures.back ∙ clean-drop (4 * c.args.group) c.args.letters.now c.requires.clean ∙ sym c.split_at.ensures.back

pub push_last-requires-clause-fault : goal.push_last-requires-clause-fault
push_last-requires-clause-fault c = ap (groups_from c.args.group) c.split_at.ensures.back ∙ cut-fault c.args.letters.now c.args.group c.requires.fault

pub returns-then-branch : goal.returns-then-branch
returns-then-branch c =
    let l = c.args.letters.now in
    let n = c.args.group in
    front-cut l c.in-Ok.bytes.items n _ c.requires.fault c.requires.clean
    (sym (ap items_or_fault c.in-Ok.is) ∙ c.in_ok-bytes.ensures ∙ ap (λ (w : List ℕ). base64 (without_ascii_whitespace w)) c.split_at.ensures.front)
    (branch-read c.push_last.new.bytes.items n c.in_ok-push_last.field-0 _ c.if-branch.true c.in_ok-push_last.ensures
    ∙ ap (λ (r : List ℕ). before c.in-Ok.bytes.items (front_from n r)) c.split_at.ensures.back)

pub returns : goal.returns
returns c =
    let l = c.args.letters.now in
    let n = c.args.group in
    front-cut l c.in-Ok.bytes.items n _ c.requires.fault c.requires.clean
    (sym (ap items_or_fault c.in-Ok.is) ∙ c.in_ok-bytes.ensures ∙ ap (λ (w : List ℕ). base64 (without_ascii_whitespace w)) c.split_at.ensures.front)
    (branch-left c.push_last.new.bytes.items n c.in_ok-push_last.field-0 _ c.if-branch.false c.in_ok-push_last.ensures
    ∙ ap (λ (r : List ℕ). before c.in-Ok.bytes.items (front_from n r)) c.split_at.ensures.back)
