use Rattle.std.proofs.Common.{◌++◌, List, ℕ, ap, subst, sym, ◌∙◌, ◌≡◌}
use Rattle.std.specs.Io.KnownBytes.{Consumes}
use Rattle.mail_walk.specs.Kind.{is_mailbox}
use Rattle.mail_json.proofs.lemmas.Range.{mailbox_shown}
use Rattle.mail_json.proofs.range.shows_mailbox.Goals as goal

pub returns : goal.returns
returns g c =
    let read = c.read_until.new.bytes.items in
    let taken = c.in_ok-read_until.ensures in
    let whole : read ≡ taken.0 = taken.2 ∙ ap (λ (bs : List ℕ). bs ++ taken.0) c.new-read.ensures.items in
    mailbox_shown c.args.kind _ _ read c.in_ok-read_until.field-0 c.is_mailbox.result
    (subst (λ (bs : List ℕ). Consumes (g.R.Read.remaining c.args.reader.now) (g.R.Read.remaining c.read_until.new.reader) bs) (sym whole) taken.1) taken.3 taken.4
    (c.is_mailbox.ensures ∙ ap (is_mailbox c.args.kind) c.as_slice.ensures.value)
