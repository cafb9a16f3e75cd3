use Rattle.std.proofs.Common.{refl}
use Rattle.std.specs.Prelude.{codes}
use Rattle.mail_records.proofs.lemmas.Encodings.{number-7bit, number-8bit, number-base64, number-binary, number-quoted, number-raw}
use Rattle.mail_records.proofs.records.number_named.Goals as goal

pub returns-then-is_name : goal.returns-then-is_name
returns-then-is_name c =
    number-raw c.args.name.now (codes "7bit") 0 number-7bit refl (c.is_name.ensures c.if-is_name.true)

pub returns-then-is_name-2 : goal.returns-then-is_name-2
returns-then-is_name-2 c =
    number-raw c.args.name.now (codes "quoted-printable") 3 number-quoted refl (c.is_name-2.ensures c.if-is_name-2.true)

pub returns-then-is_name-3 : goal.returns-then-is_name-3
returns-then-is_name-3 c =
    number-raw c.args.name.now (codes "base64") 4 number-base64 refl (c.is_name-3.ensures c.if-is_name-3.true)

pub returns-then-is_name-4 : goal.returns-then-is_name-4
returns-then-is_name-4 c =
    number-raw c.args.name.now (codes "8bit") 1 number-8bit refl (c.is_name-4.ensures c.if-is_name-4.true)

pub returns-then-is_name-5 : goal.returns-then-is_name-5
returns-then-is_name-5 c =
    number-raw c.args.name.now (codes "binary") 2 number-binary refl (c.is_name-5.ensures c.if-is_name-5.true)
