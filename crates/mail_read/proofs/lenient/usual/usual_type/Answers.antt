use Rattle.std.proofs.Common.{◌≡◌, ℕ, true, List, Option, BTreeMap, String, drop, take, refl, sym, ap, subst, ◌∙◌}
use Rattle.std.proofs.Math.Nat.{sub-zero}
use Rattle.std.specs.Global.{Global}
use Rattle.std.specs.Prelude.{IfSome}
use Rattle.std.specs.Str.{str_to_ascii_lowercase}
use Rattle.mailparse.specs.ContentType.{charset_named, type_with}
use Rattle.mailparse.specs.Pairs.{text_at}
use Rattle.mail_read.specs.lenient.Repairs.{lacks_nothing}
use Rattle.mail_read.specs.declared.lenient.repairs.Position.TheVariants.{BeforeWord}
use Rattle.mail_read.specs.private.Usual.{Holds, IsValue, ends_value}
use Rattle.mail_read.proofs.lemmas.lenient.UsualTypes.{usual-built}
use Rattle.mail_read.proofs.lenient.usual.usual_type.Goals as goal

pub returns : goal.returns
returns c = λ known.
    let text = c.args.text.now in
    let end = c.words_end-end.result in
    let params = text_at c.in-Some.params in
    let same = c.as_bytes.ensures.value in
    let holds : Holds text end params =
    subst (λ (found : Option (BTreeMap (String Global) (String Global))). IfSome found (λ made. Holds text end (text_at made))) c.in-Some.is c.in_ok-params.ensures in
    let value : IsValue text end = subst (λ (bytes : List ℕ). IsValue bytes end) same c.words_end-end.ensures.value in
    let whole : lacks_nothing BeforeWord text ≡ true =
    ap (lacks_nothing BeforeWord) (sym same) ∙ c.words_end-end.ensures.usual (ap (λ (bytes : List ℕ). ends_value (drop end bytes)) same ∙ holds.ends) in
    c.in_ok-type_named.ensures
    ∙ ap (λ (name : List ℕ). type_with (str_to_ascii_lowercase name) params) (c.range.ensures.value ∙ ap (λ n. take n text) (sub-zero end))
    ∙ usual-built known text end (str_to_ascii_lowercase (take end text)) (charset_named params) params c.if-not-is_ascii.ensures.cases whole value holds refl refl
