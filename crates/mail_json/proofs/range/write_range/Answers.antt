use Rattle.std.proofs.Common.{◌≡◌, ◌-◌, ◌++◌, List, ℕ, false, length, take, drop, ap, option_map, subst, sym, ◌∙◌, arith}
use Rattle.std.proofs.KnownBytes.{Appends-nil}
use Rattle.std.specs.Io.KnownBytes.{Consumes}
use Rattle.std.proofs.lemmas.List.{length-take-le, take_rest}
use Rattle.mail_walk.specs.Kind.{format_of}
use Rattle.mail_json.specs.Options.{options_of}
use Rattle.mail_data.specs.MailboxViews.{entries_left}
use Rattle.mail_data.specs.Mailbox.{front_length, has_front}
use Rattle.mail_data.specs.MailboxFormats.{entries_in}
use Rattle.mail_data.specs.declared.mailbox.formats.Format.{Format}
use Rattle.mail_data.proofs.lemmas.MailboxParts.{front_length-≤}
use Rattle.mail_walk.specs.Offsets.{saturating_add}
use Rattle.mail_json.specs.Range.{reading_start}
use Rattle.mail_json.proofs.lemmas.Range.{range_rest, range_whole, range_without}
use Rattle.mail_json.proofs.range.write_range.Goals as goal

pub returns-then-has_ended : goal.returns-then-has_ended
returns-then-has_ended g c =
    let range = c.args.range in
    let bytes = c.as_slice.result.now in
    let taken = c.in_ok-has_ended.ensures in
    let mails = c.read_mailbox-mails in
    let front = c.front-front.result.now in
    let whole : bytes ≡ taken.0 = c.as_slice.ensures.value ∙ taken.2 ∙ ap (λ (bs : List ℕ). bs ++ taken.0) c.new-read.ensures.items in
    let size : length front ≡ front_length bytes = ap length (c.front-front.ensures ∙ mails.ensures.front) ∙ length-take-le (front_length bytes) bytes (front_length-≤ bytes) in
    let place : c.saturating_add.result ≡ saturating_add (reading_start range.start) (front_length bytes) =
    c.saturating_add.ensures ∙ ap (λ (n : ℕ). saturating_add n (length front)) c.reading_start-at.ensures ∙ ap (saturating_add (reading_start range.start)) size in
    range_whole (options_of (g.K.KnownCharsets.known c.args.source.known.now) c.args.source.options) (format_of c.args.source.kind) (option_map (λ name. name.now) c.args.source.file) c.within.result range.start range.end (reading_start range.start)
    c.saturating_add.result _ _ _ _ c.write_mails.result taken.0 bytes (entries_left mails.result) c.within.ensures.value c.within.ensures.fits place (mails.ensures.read ∙ ap (λ (f : Format). entries_in f bytes) c.format.ensures) (sym whole) taken.1
    (taken.3 c.if-has_ended.true) c.write_mails.ensures

pub returns-then-not-has_front : goal.returns-then-not-has_front
returns-then-not-has_front g c =
    let range = c.args.range in
    let read = c.read_until.new.bytes.items in
    let taken = c.in_ok-has_ended.ensures in
    let whole : read ≡ taken.0 = taken.2 ∙ ap (λ (bs : List ℕ). bs ++ taken.0) c.new-read.ensures.items in
    let none : has_front read ≡ false = ap has_front (sym c.as_slice-2.ensures.value) ∙ sym c.has_front.ensures ∙ c.if-not-has_front.true in
    let start = c.reading_start-at.ensures in
    let end = c.saturating_sub.ensures in
    range_without (options_of (g.K.KnownCharsets.known c.args.source.known.now) c.args.source.options) (format_of c.args.source.kind) (option_map (λ name. name.now) c.args.source.file) range.start range.end (reading_start range.start)
    c.saturating_sub.result _ _ _ _ read none (taken.4 c.if-has_ended.false) (omega arith)
    (subst (λ (bs : List ℕ). Consumes (g.R.Read.remaining c.args.reader.now) (g.R.Read.remaining c.read_until.new.reader) bs) (sym whole) taken.1)
    (Appends-nil _)

pub returns : goal.returns
returns g c =
    let range = c.args.range in
    let read = c.read_until.new.bytes.items in
    let bytes = c.as_slice.result.now in
    let taken = c.in_ok-has_ended.ensures in
    let mails = c.read_mailbox-mails in
    let front = c.front-front.result.now in
    let whole : read ≡ taken.0 = taken.2 ∙ ap (λ (bs : List ℕ). bs ++ taken.0) c.new-read.ensures.items in
    let size : length front ≡ front_length read =
    ap length (c.front-front.ensures ∙ mails.ensures.front) ∙ length-take-le (front_length bytes) bytes (front_length-≤ bytes) ∙ ap front_length c.as_slice.ensures.value in
    let place : c.saturating_add.result ≡ saturating_add (reading_start range.start) (front_length read) =
    c.saturating_add.ensures ∙ ap (λ (n : ℕ). saturating_add n (length front)) c.reading_start-at.ensures ∙ ap (saturating_add (reading_start range.start)) size in
    let slice = c.deref.result.now in
    range_rest (options_of (g.K.KnownCharsets.known c.args.source.known.now) c.args.source.options) (format_of c.args.source.kind) (option_map (λ name. name.now) c.args.source.file) c.within.result range.start range.end (reading_start range.start)
    c.saturating_add.result _ _ _ _ _ c.write_rest.result read (take (length slice - length front) (drop (length front) slice)) c.within.ensures.value c.within.ensures.fits
    (ap has_front (sym c.as_slice-2.ensures.value) ∙ sym c.has_front.ensures ∙ c.if-not-has_front.false) place
    (take_rest slice (length front) ∙ ap (drop (length front)) c.deref.ensures.value ∙ ap (λ (n : ℕ). drop n read) size)
    (subst (λ (bs : List ℕ). Consumes (g.R.Read.remaining c.args.reader.now) (g.R.Read.remaining c.read_until.new.reader) bs) (sym whole) taken.1)
    c.write_rest.ensures
