use Rattle.std.proofs.Common.{◌∙◌}
use Rattle.std.proofs.lemmas.Result.{IfOk-weaker}
use Rattle.mail_codec.specs.Tables.{table_text}
use Rattle.mail_codec.proofs.charset.tables.SingleByteTable.decode_without_bom_handling.Goals as goal

pub returns : goal.returns
unfolding table_text
returns c = IfOk-weaker c.into_owned.result _ _ (λ t copied. copied ∙ c.in_ok-decode.ensures.read) c.into_owned.ensures.ok
