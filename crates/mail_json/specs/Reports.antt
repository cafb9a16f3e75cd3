-- Delivery reports as JSON; the program's own form.
use Rattle.std.specs.Prelude.{◌++◌, codes}
use Rattle.json.specs.Json.{Json}
use Rattle.mail_data.specs.Bounce.{Delivery}
use Rattle.mail_json_text.specs.Printed.{object_of, one, string_or_null}

-- the report on a recipient
abbrev pub delivery_value : Delivery → Json
delivery_value d =
    object_of (one (codes "final_recipient") (string_or_null d.final_recipient) ++ one (codes "original_recipient") (string_or_null d.original_recipient)
    ++ one (codes "action") (string_or_null d.action) ++ one (codes "status") (string_or_null d.status)
    ++ one (codes "diagnostic_code") (string_or_null d.diagnostic_code))
