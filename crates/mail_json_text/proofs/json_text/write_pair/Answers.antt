use Rattle.std.proofs.Common.{ap}
use Rattle.std.proofs.KnownBytes.{Appends-trans}
use Rattle.mail_json_text.specs.JsonText.{escaped}
use Rattle.mail_json_text.proofs.lemmas.Objects.{pair-text}
use Rattle.mail_json_text.proofs.lemmas.Written.{appends_as, writes_as, writes_then}
use Rattle.mail_json_text.proofs.json_text.write_pair.Goals as goal

pub returns : goal.returns
returns g c =
    let name = appends_as _ _ _ _ (ap escaped c.as_bytes.ensures.value) c.in_ok-write_escaped.ensures in
    let value = appends_as _ _ _ _ (ap escaped c.as_bytes-2.ensures.value) c.in_ok-write_escaped-2.ensures in
    let front = Appends-trans _ _ _ _ _ (Appends-trans _ _ _ _ _ (Appends-trans _ _ _ _ _ c.in_ok-write_word.ensures name) c.in_ok-write_word-2.ensures) value in
    writes_as _ _ c.write_word-3.result _ _ (pair-text c.args.name.now c.args.value.now) (writes_then _ _ _ c.write_word-3.result _ _ front c.write_word-3.ensures)
