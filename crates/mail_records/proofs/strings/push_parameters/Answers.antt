use Rattle.std.proofs.Common.{[], ◌∷◌, ◌++◌, map, sym, ap, subst, ◌∙◌, append_assoc}
use Rattle.std.proofs.lemmas.List.{append-nil}
use Rattle.std.specs.String.{string_bytes}
use Rattle.mailparse.specs.Pairs.{text_at}
use Rattle.mail_parts.specs.Part.{Lists}
use Rattle.mail_parts.proofs.lemmas.Part.{lists-entries, pair_of}
use Rattle.mail_records.proofs.lemmas.Strings.{next_parameter, no_parameters}
use Rattle.mail_records.proofs.strings.push_parameters.Goals as goal

pub loop-name-init : goal.loop-name-init
loop-name-init c = ([], ap (map pair_of) c.into_iter-name-iterator.ensures.into_iter_gives.0, no_parameters c.args.strings.now)

pub loop-name-preserved : goal.loop-name-preserved
loop-name-preserved c =
    let rest = map pair_of c.next.new.self in
    let name = c.as_str.result.now in
    let value = c.as_str-in-loop-name.result.now in
    let left =
    ap (map pair_of) c.in-Some.ensures.steps ∙ ap (λ n. (n, string_bytes c.in-Some.value.now) ∷ rest) (sym c.as_str.ensures.value)
    ∙ ap (λ v. (name, v) ∷ rest) (sym c.as_str-in-loop-name.ensures.value) in
    let done = c.loop-name.invariant.0 in (
      done ++ (name, value) ∷ [],
      append_assoc done ((name, value) ∷ []) rest ∙ ap (λ ps. done ++ ps) (sym left) ∙ c.loop-name.invariant.1,
      next_parameter c.args.strings.now c.loop-name.strings c.push_string.new.strings c.push_string-in-loop-name.new.strings done name value c.loop-name.invariant.2 c.in_ok-push_string.ensures c.in_ok-push_string-2.ensures,
    )

pub returns : goal.returns
returns c =
    let m = c.args.parameters.now in
    let done = c.loop-name.invariant.0 in
    let all = sym (append-nil done) ∙ ap (λ es. done ++ map pair_of es) (sym c.in-None.ensures.steps.0) ∙ c.loop-name.invariant.1 in
    (done, subst (λ ps. Lists (text_at m) ps) (sym all) (lists-entries m c.into_iter-name-iterator.ensures.into_iter_gives.5), c.loop-name.invariant.2)
