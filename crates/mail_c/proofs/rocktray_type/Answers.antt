use Rattle.mail_charsets.specs.All.{all_known}
use Rattle.mail_records.specs.Ranges.{type_of}
use Rattle.mail_records.specs.Strings.{AreTypeStrings}
use Rattle.mail_records.proofs.lemmas.Strings.{ends_strings}
use Rattle.mail_c.proofs.rocktray_type.Goals as goal

pub returns : goal.returns
returns c =
    (c.charsets.result, ends_strings (AreTypeStrings (type_of (all_known c.charsets.result) c.args.raw_value.now)) _ _ _ c.type_strings-found.result c.type_strings-found.ensures c.write_rows.ensures)
