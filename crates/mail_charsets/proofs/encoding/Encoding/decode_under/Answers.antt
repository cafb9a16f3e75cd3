use Rattle.std.proofs.Common.{inl, inr}
use Rattle.mail_charsets.specs.Encoding.{text_in}
use Rattle.mail_charsets.proofs.encoding.Encoding.decode_under.Goals as goal

pub returns-in-Gbk : goal.returns-in-Gbk
unfolding text_in
returns-in-Gbk c = elim c.in-Gbk.is [
  | inl gbk ↦ rw gbk c.decode_gb18030.ensures
  | inr gb18030 ↦ rw gb18030 c.decode_gb18030.ensures
]

pub returns-in-Big5 : goal.returns-in-Big5
unfolding text_in
returns-in-Big5 c = rw c.in-Big5.is c.decode_big5.ensures

pub returns-in-EucJp : goal.returns-in-EucJp
unfolding text_in
returns-in-EucJp c = rw c.in-EucJp.is c.decode_euc_jp.ensures

pub returns-in-Iso2022Jp : goal.returns-in-Iso2022Jp
unfolding text_in
returns-in-Iso2022Jp c = rw c.in-Iso2022Jp.is c.decode_iso_2022_jp.ensures

pub returns-in-ShiftJis : goal.returns-in-ShiftJis
unfolding text_in
returns-in-ShiftJis c = rw c.in-ShiftJis.is c.decode_shift_jis.ensures

pub returns-in-EucKr : goal.returns-in-EucKr
unfolding text_in
returns-in-EucKr c = rw c.in-EucKr.is c.decode_euc_kr.ensures

pub returns-in-Replacement : goal.returns-in-Replacement
unfolding text_in
returns-in-Replacement c = rw c.in-Replacement.is c.decode_replacement.ensures

pub returns-in-XUserDefined : goal.returns-in-XUserDefined
unfolding text_in
returns-in-XUserDefined c = rw c.in-XUserDefined.is c.decode_x_user_defined.ensures
