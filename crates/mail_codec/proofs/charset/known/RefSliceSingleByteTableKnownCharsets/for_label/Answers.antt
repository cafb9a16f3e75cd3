use Rattle.std.proofs.Common.{◌≡◌, None, Some, sym}
use Rattle.mail_codec.specs.Charset.{charset_of_label}
use Rattle.mail_codec.specs.Tables.{table_of_label}
use Rattle.mail_codec.proofs.lemmas.Tables.{charsets-kept, charsets-none, charsets-table}
use Rattle.mail_codec.proofs.charset.known.RefSliceSingleByteTableKnownCharsets.for_label.Goals as goal

pub returns-in-Some : goal.returns-in-Some
returns-in-Some c =
    let kept : charset_of_label c.args.label.now ≡ Some c.in-Some.charset = cc in
    sym (charsets-kept c.args.self.now.now c.args.label.now c.in-Some.charset kept)

pub returns-in-Some-table_for_label : goal.returns-in-Some-table_for_label
returns-in-Some-table_for_label c =
    let found : Some c.in-Some-table_for_label.number ≡ table_of_label c.args.self.now.now c.args.label.now = c.in-Some-table_for_label.ensures.number in
    sym (charsets-table c.args.self.now.now c.args.label.now c.in-Some-table_for_label.number _ found).1

pub returns-in-None : goal.returns-in-None
returns-in-None c =
    let unknown : charset_of_label c.args.label.now ≡ None = cc in
    sym (charsets-none c.args.self.now.now c.args.label.now unknown c.in-None.ensures.number)
