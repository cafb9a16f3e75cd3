-- The line of the findings of a mail; the program's own form.
use Rattle.std.specs.Prelude.{List, ◌++◌}
use Rattle.json.specs.Json.{Json}
use Rattle.mail_check.specs.Findings.{Finding}
use Rattle.mail_json.specs.Origin.{Origin}
use Rattle.mail_json_text.specs.Printed.{object_of}
use Rattle.mail_json.specs.Values.{findings_member, origin_members}

-- the object of a mail with this origin and these findings
abbrev pub findings_value : Origin → List Finding → Json
findings_value origin findings = object_of (origin_members origin ++ findings_member findings)
