use Rattle.std.proofs.Common.{[], ◌∷◌, sym, subst}
use Rattle.mailparse.specs.ContentType.{ContentType}
use Rattle.mailparse.specs.Views.{content_type}
use Rattle.mail_records.proofs.lemmas.Ranges.{ok_same}
use Rattle.mail_records.specs.Rows.{rows_view}
use Rattle.mail_records.specs.Strings.{AreTypeStrings}
use Rattle.mail_records.proofs.lemmas.Strings.{type_are}
use Rattle.mail_records.proofs.strings.strings_in.Goals as goal

pub returns : goal.returns
returns g c =
    let ctype = content_type c.in_ok-ctype.ctype in
    let parameters = c.in_ok-push_parameters.ensures in
    let mimetype = c.as_str.result.now in
    let charset = c.as_str-2.result.now in
    let strings = c.push_parameters.new.strings in
    let typed = c.in_ok-push_string.ensures [] (c.new.ensures.items, c.new-2.ensures.items) in
    let labelled = c.in_ok-push_string-2.ensures (mimetype ∷ []) typed in
    let all = parameters.2 (mimetype ∷ charset ∷ []) labelled in
    subst (λ (t : ContentType). AreTypeStrings t (rows_view strings)) (sym (ok_same _ _ c.in_ok-ctype.ensures))
    (type_are ctype parameters.0 mimetype charset strings parameters.1 c.as_str.ensures.value c.as_str-2.ensures.value all)
