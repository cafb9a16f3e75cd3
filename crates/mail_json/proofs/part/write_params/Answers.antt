use Rattle.std.proofs.Common.{◌∷◌, map, sym, ap, ◌∙◌}
use Rattle.std.specs.String.{string_bytes}
use Rattle.mailparse.specs.Views.{content_type}
use Rattle.mail_parts.specs.Part.{Lists}
use Rattle.mail_json_text.specs.Printed.{member_text, object_of, text_of}
use Rattle.mail_json.specs.Values.{parameter_member}
use Rattle.mail_json_text.proofs.lemmas.JsonText.{wrote_all, wrote_more}
use Rattle.mail_json_text.proofs.lemmas.Objects.{object_listed, object_written}
use Rattle.mail_parts.proofs.lemmas.Part.{lists-entries, pair_of}
use Rattle.mail_json_text.proofs.lemmas.Written.{writes_one}
use Rattle.mail_json.proofs.part.write_params.Goals as goal

pub loop-name-preserved : goal.loop-name-preserved
loop-name-preserved g c =
    let rest = map pair_of c.next.new.self in
    let left =
    ap (map pair_of) c.in-Some.ensures.steps ∙ ap (λ n. (n, string_bytes c.in-Some.value.now) ∷ rest) (sym c.as_str.ensures.value)
    ∙ ap (λ v. (c.as_str.result.now, v) ∷ rest) (sym c.as_str-in-loop-name.ensures.value) in
    wrote_more member_text _ _ _ _ _ _ _ _ _ (ap (map parameter_member) left) c.loop-name.invariant c.in_ok-write_comma.ensures c.in_ok-write_parameter.ensures

pub returns : goal.returns
returns g c =
    let pairs = map pair_of c.args.ctype.now.params.entries in
    let none = ap (λ es. map parameter_member (map pair_of es)) c.in-None.ensures.steps.0 in
    let all = wrote_all member_text _ _ _ _ (map parameter_member pairs) none c.loop-name.invariant in
    writes_one (λ ps. text_of (object_of (map parameter_member ps))) (Lists (content_type c.args.ctype.now).params) _ _ c.write_word-2.result pairs
    (lists-entries c.args.ctype.now.params c.into_iter-name-iterator.ensures.into_iter_gives.5)
    (object_written _ _ _ c.write_word-2.result _ (object_listed _ _ _ (map parameter_member pairs) c.in_ok-write_word.ensures all) c.write_word-2.ensures)
