use Rattle.std.proofs.Common.{sym, ap, ◌∙◌, subst}
use Rattle.std.proofs.lemmas.Result.{IfOk-weaker}
use Rattle.mail_read.specs.FileNames.{IsSafeName, is_reserved}
use Rattle.mail_read.proofs.lemmas.FileNames.{safe_name-free, safe_name-reserved, safe_name-safe, safe_name-same}
use Rattle.mail_read.proofs.files.names.safe_file_name.Goals as goal

pub returns-then-is_reserved-clause-safe : goal.returns-then-is_reserved-clause-safe
returns-then-is_reserved-clause-safe c =
    let name = c.args.name.now in
    let reserved = ap is_reserved (sym c.as_str.ensures.value) ∙ sym c.is_reserved.ensures ∙ c.if-is_reserved.true in
    let is = safe_name-reserved name _ c.in_ok-safe.ensures reserved in
    IfOk-weaker c.from_str.result _ _ (λ safe copied. subst IsSafeName (sym (copied ∙ is)) (safe_name-safe name c.utf8.name)) c.from_str.ensures.ok

pub returns-then-is_reserved-clause-same : goal.returns-then-is_reserved-clause-same
returns-then-is_reserved-clause-same c = λ h.
    let name = c.args.name.now in
    let reserved = ap is_reserved (sym c.as_str.ensures.value) ∙ sym c.is_reserved.ensures ∙ c.if-is_reserved.true in
    let is = safe_name-reserved name _ c.in_ok-safe.ensures reserved in
    IfOk-weaker c.from_str.result _ _ (λ safe copied. copied ∙ is ∙ safe_name-same name c.utf8.name h) c.from_str.ensures.ok

pub returns-clause-safe : goal.returns-clause-safe
returns-clause-safe c =
    let name = c.args.name.now in
    let free = ap is_reserved (sym c.as_str.ensures.value) ∙ sym c.is_reserved.ensures ∙ c.if-is_reserved.false in
    subst IsSafeName (sym (safe_name-free name _ c.in_ok-safe.ensures free)) (safe_name-safe name c.utf8.name)

pub returns-clause-same : goal.returns-clause-same
returns-clause-same c = λ h.
    let name = c.args.name.now in
    let free = ap is_reserved (sym c.as_str.ensures.value) ∙ sym c.is_reserved.ensures ∙ c.if-is_reserved.false in
    safe_name-free name _ c.in_ok-safe.ensures free ∙ safe_name-same name c.utf8.name h
