use Rattle.std.proofs.Common.{length}
use Rattle.std.proofs.lemmas.Bool.{ltb-true}
use Rattle.mail_data.specs.LineEnds.{line_length}
use Rattle.mail_data.proofs.lemmas.MailboxFound.{separator-stays}
use Rattle.mail_data.proofs.mailbox.laws.settled_line_stays.Goals as goal

pub returns : goal.returns
returns c = λ read more is. separator-stays read more (ltb-true (line_length read) (length read) is)
