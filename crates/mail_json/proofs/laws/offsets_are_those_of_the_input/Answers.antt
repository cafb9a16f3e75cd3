use Rattle.std.proofs.Common.{ap, ◌∙◌, arith, length, take, drop, length-append, ◌++◌, ◌-◌, ◌≡◌}
use Rattle.mail_data.specs.MailboxOffsets.{mail_offset}
use Rattle.mail_json.specs.JsonLines.{origin_at}
use Rattle.mail_json.proofs.laws.offsets_are_those_of_the_input.Goals as goal

pub returns : goal.returns
returns c = λ file number bytes mail short there.
    let entry = mail.entry in
    let origin = origin_at file number mail.start entry in
    let within = there.within in
    let whole = length-append entry.separator (entry.mail ++ entry.ending) in
    let rest = length-append entry.mail entry.ending in
    let start : origin.start ≡ mail_offset mail = omega (arith, within, whole, rest, short) in
    let len : origin.end - origin.start ≡ length entry.mail = omega (arith, within, whole, rest, short, start) in
    ap (λ n. take n (drop origin.start bytes)) len ∙ ap (λ n. take (length entry.mail) (drop n bytes)) start ∙ there.mail
