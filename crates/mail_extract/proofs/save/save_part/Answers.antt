use Rattle.std.proofs.Common.{string_bytes, refl, sym, ◌∙◌}
use Rattle.mail_parts.specs.DecodedViews.{decoded_place}
use Rattle.mail_extract.specs.Save.{wanted_as}
use Rattle.mail_extract.proofs.save.save_part.Goals as goal

pub returns-clause-saved : goal.returns-clause-saved
returns-clause-saved g c = λ level files e.
    c.in_ok-save_file.ensures.saved (wanted_as level (decoded_place c.args.part.now) (string_bytes c.args.name)) files (sym (c.in_ok-path.ensures.ok ∙ c.as_str.ensures.value)) refl
    (sym c.in_ok-content.ensures.read) e
