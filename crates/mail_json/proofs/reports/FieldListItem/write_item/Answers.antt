use Rattle.std.proofs.Common.{List, ℕ, ap₂}
use Rattle.mail_json_text.specs.Printed.{text_of}
use Rattle.mail_json_text.specs.Printed.{pair_value}
use Rattle.mail_json_text.proofs.lemmas.Written.{writes_as}
use Rattle.mail_json.proofs.reports.FieldListItem.write_item.Goals as goal

pub returns : goal.returns
returns g c =
    writes_as _ _ c.write_pair.result _ _ (ap₂ (λ (a b : List ℕ). text_of (pair_value (a, b))) c.as_str.ensures.value c.as_str-2.ensures.value) c.write_pair.ensures
