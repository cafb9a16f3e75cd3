-- What was written is completed by the lines of the mails that are left.
use Rattle.std.proofs.Common.{ℕ, List, option_map}
use Rattle.std.specs.Io.KnownBytes.{Appends}
use Rattle.mail_walk.specs.Kind.{format_of}
use Rattle.mail_json.specs.Options.{options_of}
use Rattle.mail_data.specs.MailboxViews.{entries_left}
use Rattle.mail_json.specs.Stream.{Continues}
use Rattle.mail_json.specs.Written.{is_clean}
use Rattle.mail_json.proofs.json_lines.write_mails.Given as goal

abbrev pub invariant-loop-entry : goal.invariant-loop-entry
invariant-loop-entry g l =
    (done : List ℕ) × Appends (g.W.Write.contents l.fn.out) (g.W.Write.contents l.out) done
    × Continues (options_of (g.K.KnownCharsets.known l.source.known.now) l.fn.source.options) (format_of l.source.kind) (option_map (λ name. name.now) l.fn.source.file) l.fn.first.selection l.fn.first.at (entries_left l.fn.mails)
    l.next.selection l.next.at (entries_left l.entry-iterator) (is_clean l.written) done
