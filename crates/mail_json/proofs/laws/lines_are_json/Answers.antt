use Rattle.mail_json.proofs.lemmas.LinesAreJson.{findings_are_json, line_is_json, mailbox_is_lines, part_is_lines, unread_is_json}
use Rattle.mail_json.proofs.laws.lines_are_json.Goals as goal

pub returns-clause-line : goal.returns-clause-line
returns-clause-line c = line_is_json

pub returns-clause-all : goal.returns-clause-all
returns-clause-all c = mailbox_is_lines

pub returns-clause-part : goal.returns-clause-part
returns-clause-part c = part_is_lines

pub returns-clause-unread : goal.returns-clause-unread
returns-clause-unread c = unread_is_json

pub returns-clause-findings : goal.returns-clause-findings
returns-clause-findings c = findings_are_json
