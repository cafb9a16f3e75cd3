use Rattle.std.proofs.Common.{◌≡◌, ◌++◌, List, ℕ, true, false, ap, option_map, subst, sym, ◌∙◌}
use Rattle.std.proofs.KnownBytes.{Consumes-trans}
use Rattle.std.specs.Io.KnownBytes.{Consumes}
use Rattle.mail_json.specs.Options.{options_of}
use Rattle.mail_data.specs.Mailbox.{has_front}
use Rattle.mail_json.specs.Selection.{AreInputChosen, AreMailboxChosen}
use Rattle.mail_json.specs.JsonLines.{IsWholeLine}
use Rattle.mail_walk.specs.Kind.{format_of, is_mailbox}
use Rattle.mail_json.specs.Stream.{Ends}
use Rattle.mail_walk.specs.Wanted.{first_wanted, is_there}
use Rattle.mail_walk.specs.declared.wanted.Wanted.{Wanted}
use Rattle.mail_walk.proofs.lemmas.Wanted.{all_read, form_front}
use Rattle.mail_json.proofs.lemmas.Stream.{ends_here, input_after, input_lines, input_whole}
use Rattle.mail_json.proofs.stream.write_chosen.Goals as goal

pub write_following-requires : goal.write_following-requires
write_following-requires g c =
    let kind = c.args.source.kind in
    let read = c.read_until.new.bytes.items in
    let there : is_there (first_wanted kind) read ≡ true =
    ap (λ (w : Wanted). is_there w read) (sym c.first_wanted.ensures) ∙ c.in_ok-has_ended.ensures.4 c.if-has_ended.false in
    let selection : is_mailbox kind read ≡ true = ap (is_mailbox kind) (sym c.as_slice-2.ensures.value) ∙ sym c.is_mailbox.ensures ∙ c.if-is_mailbox.true in
    ap has_front c.as_slice-then-is_mailbox.ensures.value ∙ form_front kind read there selection

pub returns-then-has_ended : goal.returns-then-has_ended
returns-then-has_ended g c =
    let options = options_of (g.K.KnownCharsets.known c.args.source.known.now) c.args.source.options in
    let file = option_map (λ name. name.now) c.args.source.file in
    let taken = c.in_ok-has_ended.ensures in
    let bytes = c.as_slice.result.now in
    let whole : bytes ≡ taken.0 = c.as_slice.ensures.value ∙ taken.2 ∙ ap (λ (bs : List ℕ). bs ++ taken.0) c.new-read.ensures.items in
    input_whole (Ends c.args.selection) _ _ _ _ c.write_whole.result taken.0 (AreInputChosen options c.args.source.kind file c.args.selection bytes) (AreInputChosen options c.args.source.kind file c.args.selection)
    taken.1 (ends_here c.args.selection _ (taken.3 c.if-has_ended.true))
    (λ is_clean text h. subst (λ (bs : List ℕ). AreInputChosen options c.args.source.kind file c.args.selection bs is_clean text) whole h)
    c.write_whole.ensures

pub returns-then-is_mailbox : goal.returns-then-is_mailbox
returns-then-is_mailbox g c =
    let options = options_of (g.K.KnownCharsets.known c.args.source.known.now) c.args.source.options in
    let file = option_map (λ name. name.now) c.args.source.file in
    let kind = c.args.source.kind in
    let wanted = c.args.selection in
    let read = c.read_until.new.bytes.items in
    let bytes = c.as_slice-then-is_mailbox.result.now in
    let taken = c.in_ok-has_ended.ensures in
    let there : is_there (first_wanted kind) read ≡ true =
    ap (λ (w : Wanted). is_there w read) (sym c.first_wanted.ensures) ∙ taken.4 c.if-has_ended.false in
    let is_form : is_mailbox kind read ≡ true = ap (is_mailbox kind) (sym c.as_slice-2.ensures.value) ∙ sym c.is_mailbox.ensures ∙ c.if-is_mailbox.true in
    let whole : read ≡ taken.0 = taken.2 ∙ ap (λ (bs : List ℕ). bs ++ taken.0) c.new-read.ensures.items in
    input_after (Ends wanted) _ _ _ _ _ c.write_following.result read (λ more. AreMailboxChosen options (format_of kind) file wanted (bytes ++ more)) (AreInputChosen options kind file wanted)
    (subst (λ (bs : List ℕ). Consumes (g.R.Read.remaining c.args.reader.now) (g.R.Read.remaining c.read_until.new.reader) bs) (sym whole) taken.1)
    (λ more is_clean text h. input_lines options (format_of kind) file kind wanted read more (bytes ++ more) true is_clean text
    (ap (λ (bs : List ℕ). bs ++ more) c.as_slice-then-is_mailbox.ensures.value) there is_form h)
    c.write_following.ensures

pub returns : goal.returns
returns g c =
    let options = options_of (g.K.KnownCharsets.known c.args.source.known.now) c.args.source.options in
    let file = option_map (λ name. name.now) c.args.source.file in
    let kind = c.args.source.kind in
    let wanted = c.args.selection in
    let read = c.read_until.new.bytes.items in
    let bytes = c.as_slice-3.result.now in
    let taken = c.in_ok-has_ended.ensures in
    let last = c.in_ok-read_until.ensures in
    let there : is_there (first_wanted kind) read ≡ true =
    ap (λ (w : Wanted). is_there w read) (sym c.first_wanted.ensures) ∙ taken.4 c.if-has_ended.false in
    let is_form : is_mailbox kind read ≡ false = ap (is_mailbox kind) (sym c.as_slice-2.ensures.value) ∙ sym c.is_mailbox.ensures ∙ c.if-is_mailbox.false in
    let whole : read ≡ taken.0 = taken.2 ∙ ap (λ (bs : List ℕ). bs ++ taken.0) c.new-read.ensures.items in
    let first = subst (λ (bs : List ℕ). Consumes (g.R.Read.remaining c.args.reader.now) (g.R.Read.remaining c.read_until.new.reader) bs) (sym whole) taken.1 in
    input_whole (Ends wanted) _ _ _ _ c.write_single.result (read ++ last.0) (IsWholeLine options file bytes) (AreInputChosen options kind file wanted)
    (Consumes-trans _ _ _ read last.0 first last.1) (ends_here wanted _ (all_read _ c.in_ok-read_until.field-0 last.3 last.4))
    (λ is_clean text h. input_lines options (format_of kind) file kind wanted read last.0 bytes false is_clean text (c.as_slice-3.ensures.value ∙ last.2) there is_form h)
    c.write_single.ensures
