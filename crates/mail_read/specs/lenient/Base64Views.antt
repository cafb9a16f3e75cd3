-- What a contract sees of the front of a Base64 body.
use Rattle.mail_read.specs.lenient.Base64.{Front, Recovered}
use Rattle.mail_read.specs.declared.lenient.base64.Base64Front.{Base64Front}

-- the bytes that were read, and the index of the first invalid group
abbrev pub front_of : Base64Front → Front
front_of front = record { bytes = front.bytes.items; fault = front.fault }

-- the same, and the number of bytes that were ignored
abbrev pub recovered_of : Base64Front → Recovered
recovered_of front =
    record { bytes = front.bytes.items; fault = front.fault; ignored = front.ignored }
