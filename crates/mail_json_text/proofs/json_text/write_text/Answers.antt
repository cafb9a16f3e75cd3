use Rattle.std.proofs.Common.{ap}
use Rattle.std.proofs.KnownBytes.{Appends-trans}
use Rattle.mail_json_text.specs.JsonText.{escaped, json_text}
use Rattle.mail_json_text.specs.Printed.{text_of}
use Rattle.mail_json_text.proofs.lemmas.Written.{appends_as, writes_then}
use Rattle.mail_json_text.proofs.json_text.write_text.Goals as goal

pub returns : goal.returns
unfolding json_text text_of
returns g c =
    let text = appends_as _ _ _ _ (ap escaped c.as_bytes.ensures.value) c.in_ok-write_escaped.ensures in
    writes_then _ _ _ _ _ _ (Appends-trans _ _ _ _ _ c.in_ok-write_word.ensures text) c.write_word-2.ensures
