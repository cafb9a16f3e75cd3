-- What was saved is completed by the mails that are left.
use Rattle.std.proofs.Common.{option_map}
use Rattle.mail_data.specs.MailboxViews.{entries_left}
use Rattle.mail_walk.specs.Kind.{format_of}
use Rattle.mail_extract.specs.ChoiceViews.{options_view}
use Rattle.mail_extract.specs.Input.{AreMails, Saved}
use Rattle.mail_extract.specs.private.Blocks.{Before}
use Rattle.mail_extract.proofs.input.extract_mails.Given as goal

abbrev pub invariant-loop-entry : goal.invariant-loop-entry
invariant-loop-entry g l =
    let Mails = AreMails (option_map (λ name. name.now) l.fn.source.file) g.D.Directory.can_fail (options_view l.fn.source.options) (g.K.KnownCharsets.known l.source.known.now) (format_of l.fn.source.kind) in
    Saved (g.D.Directory.held l.fn.target.directory) (g.D.Directory.held l.target.directory) (g.W.Write.contents l.fn.out) (g.W.Write.contents l.out) l.fn.target.number l.target.number l.outcome
    (Before (λ later. Mails l.first (entries_left l.fn.mails)) (λ later. Mails l.number (entries_left l.entry-iterator)))
