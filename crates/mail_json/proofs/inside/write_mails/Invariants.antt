-- What was written after the bracket is completed by the mails that are left.
use Rattle.std.proofs.Common.{drop, map}
use Rattle.mail_json.specs.InsideViews.{inside_view}
use Rattle.mail_json.specs.Values.{inside_value}
use Rattle.mail_json_text.specs.Printed.{comma, text_of}
use Rattle.mail_json_text.proofs.lemmas.JsonText.{Wrote}
use Rattle.mail_json.proofs.inside.write_mails.Given as goal

abbrev pub invariant-loop-mail : goal.invariant-loop-mail
invariant-loop-mail g l =
    Wrote text_of (g.W.Write.contents l.initial.out) (g.W.Write.contents l.out) (comma l.position)
    (map (inside_value l.origin) (map inside_view (drop l.mail-index l.mails))) (map (inside_value l.origin) (map inside_view l.mails))
