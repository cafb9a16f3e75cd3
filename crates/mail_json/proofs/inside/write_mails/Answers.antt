use Rattle.std.proofs.Common.{map, ap, arith}
use Rattle.std.proofs.lemmas.List.{drop_all}
use Rattle.mail_json.specs.InsideViews.{inside_view}
use Rattle.mail_json.specs.Values.{inside_value}
use Rattle.mail_json_text.specs.Printed.{text_of}
use Rattle.mail_json_text.proofs.lemmas.JsonText.{drop_next, wrote_all, wrote_more}
use Rattle.mail_json_text.proofs.lemmas.Objects.{list_written}
use Rattle.mail_json.proofs.inside.write_mails.Goals as goal

pub loop-mail-preserved : goal.loop-mail-preserved
loop-mail-preserved g c =
    let left = ap (λ ms. map (inside_value c.args.origin) (map inside_view ms)) (drop_next c.args.mails.now c.loop-mail.mail-index c.mail-item.result (omega arith) c.mail-item.is) in
    wrote_more text_of _ _ _ _ _ _ _ _ _ left c.loop-mail.invariant c.in_ok-write_comma.ensures c.in_ok-write_inner.ensures

pub returns : goal.returns
returns g c =
    let none = ap (λ ms. map (inside_value c.args.origin) (map inside_view ms)) (drop_all c.loop-mail.mail-index c.args.mails.now (omega arith)) in
    list_written _ _ _ _ _ _ c.in_ok-write_word.ensures (wrote_all text_of _ _ _ _ _ none c.loop-mail.invariant) c.write_word-2.ensures
