use Rattle.mail_charsets.specs.Front.{no_long}
use Rattle.mail_charsets.specs.EucKr.{euc_kr_pair, euc_kr_single}
use Rattle.mail_charsets.specs.ShiftJis.{shift_jis_pair, shift_jis_single}
use Rattle.mail_charsets.specs.Gb18030.{gb18030_long, gb18030_pair, gb18030_single}
use Rattle.mail_charsets.specs.Big5.{big5_pair, big5_single}
use Rattle.mail_charsets.specs.EucJp.{euc_jp_long, euc_jp_pair, euc_jp_single}
use Rattle.mail_charsets.proofs.lemmas.Few.{front_few, none_few, four_few, three_few}
use Rattle.mail_charsets.proofs.laws.at_most_four_bytes_are_taken.Goals as goal

pub returns-clause-euc_kr : goal.returns-clause-euc_kr
returns-clause-euc_kr c = λ index bytes some. front_few no_long euc_kr_single (euc_kr_pair index) bytes some (none_few bytes)

pub returns-clause-shift_jis : goal.returns-clause-shift_jis
returns-clause-shift_jis c = λ index bytes some. front_few no_long shift_jis_single (shift_jis_pair index) bytes some (none_few bytes)

pub returns-clause-gb18030 : goal.returns-clause-gb18030
returns-clause-gb18030 c = λ index ranges bytes some. front_few (gb18030_long ranges) gb18030_single (gb18030_pair index) bytes some (four_few ranges bytes)

pub returns-clause-big5 : goal.returns-clause-big5
returns-clause-big5 c = λ index plane bytes some. front_few no_long big5_single (big5_pair index plane) bytes some (none_few bytes)

pub returns-clause-euc_jp : goal.returns-clause-euc_jp
returns-clause-euc_jp c = λ index second bytes some. front_few (euc_jp_long second) euc_jp_single (euc_jp_pair index) bytes some (three_few second bytes)
