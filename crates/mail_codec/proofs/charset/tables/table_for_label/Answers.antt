use Rattle.std.proofs.Common.{◌≡◌, None, Some, refl}
use Rattle.std.proofs.lemmas.Str.Ascii.{trim_ascii_is}
use Rattle.mail_codec.specs.Charset.{charset_of_label}
use Rattle.mail_codec.proofs.lemmas.Tables.{table_kept, table_none, table_some}
use Rattle.mail_codec.proofs.charset.tables.table_for_label.Goals as goal

pub returns-in_default-clause-number : goal.returns-in_default-clause-number
returns-in_default-clause-number c =
    let trimmed = trim_ascii_is c.args.label.now c.trim_ascii.result.now _ refl c.trim_ascii.ensures.value in
    table_none c.args.tables.now c.args.label.now c.trim_ascii.result.now trimmed c.in_default.ensures.number

pub returns-in-Some-for_label-clause-number : goal.returns-in-Some-for_label-clause-number
returns-in-Some-for_label-clause-number c =
    let kept : charset_of_label c.args.label.now ≡ Some c.in-Some-for_label.field-0 = cc in
    table_kept c.args.tables.now c.args.label.now _ kept

pub returns-in-None-clause-number : goal.returns-in-None-clause-number
returns-in-None-clause-number c =
    let trimmed = trim_ascii_is c.args.label.now c.trim_ascii.result.now _ refl c.trim_ascii.ensures.value in
    let unknown : charset_of_label c.args.label.now ≡ None = cc in
    table_some c.args.tables.now c.args.label.now c.trim_ascii.result.now c.in-Some.number trimmed c.in-Some.ensures.number unknown
