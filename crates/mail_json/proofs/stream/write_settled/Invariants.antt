-- With any further bytes, what was written is completed by the lines of the mails that are left.
use Rattle.std.proofs.Common.{length, option_map}
use Rattle.mail_walk.specs.Kind.{format_of}
use Rattle.mail_json.specs.Options.{options_of}
use Rattle.mail_json.specs.Stream.{WritesSettled}
use Rattle.mail_json.specs.Written.{is_clean}
use Rattle.mail_json.proofs.stream.write_settled.Given as goal

abbrev pub invariant-mails : goal.invariant-mails
invariant-mails g l =
    WritesSettled (options_of (g.K.KnownCharsets.known l.source.known.now) l.fn.source.options) (format_of l.source.kind) (option_map (λ name. name.now) l.fn.source.file) (g.W.Write.contents l.fn.out) (g.W.Write.contents l.out) l.fn.first.selection l.fn.first.at
    l.bytes l.next.selection l.next.at l.rest (is_clean l.written)

abbrev pub decreases-mails : goal.decreases-mails
decreases-mails g l = length l.rest
