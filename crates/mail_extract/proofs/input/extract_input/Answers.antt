use Rattle.std.proofs.Common.{◌≡◌, ◌++◌, List, ℕ, None, true, false, ap, option_map, subst, sym, ◌∙◌}
use Rattle.std.proofs.KnownBytes.{Consumes-trans}
use Rattle.std.specs.Io.KnownBytes.{Consumes}
use Rattle.mail_data.specs.Mailbox.{has_front}
use Rattle.mail_walk.proofs.lemmas.Wanted.{all_read, form_front}
use Rattle.mail_walk.specs.Kind.{format_of, is_mailbox}
use Rattle.mail_walk.specs.Wanted.{first_wanted, is_there}
use Rattle.mail_walk.specs.declared.wanted.Wanted.{Wanted}
use Rattle.mail_extract.specs.ChoiceViews.{options_view}
use Rattle.mail_extract.specs.Input.{IsInput, IsMail, IsMailbox}
use Rattle.mail_extract.proofs.lemmas.Input.{ends_after, ends_whole, input_is}
use Rattle.mail_extract.proofs.input.extract_input.Goals as goal

pub extract_following-requires : goal.extract_following-requires
extract_following-requires g c =
    let kind = c.args.source.kind in
    let read = c.read_until.new.bytes.items in
    let there : is_there (first_wanted kind) read ≡ true =
    ap (λ (w : Wanted). is_there w read) (sym c.first_wanted.ensures) ∙ c.in_ok-has_ended.ensures.4 c.if-has_ended.false in
    let selection : is_mailbox kind read ≡ true = ap (is_mailbox kind) (sym c.as_slice-2.ensures.value) ∙ sym c.is_mailbox.ensures ∙ c.if-is_mailbox.true in
    ap has_front c.as_slice-then-is_mailbox.ensures.value ∙ form_front kind read there selection

pub returns-then-has_ended : goal.returns-then-has_ended
returns-then-has_ended g c =
    let taken = c.in_ok-has_ended.ensures in
    let bytes = c.as_slice.result.now in
    let whole : bytes ≡ taken.0 = c.as_slice.ensures.value ∙ taken.2 ∙ ap (λ (bs : List ℕ). bs ++ taken.0) c.new-read.ensures.items in
    let Are = IsInput (option_map (λ name. name.now) c.args.source.file) g.D.Directory.can_fail (options_view c.args.source.options) (g.K.KnownCharsets.known c.args.source.known.now) c.args.source.kind in
    ends_whole _ _ _ _ _ _ _ _ c.extract_whole.result taken.0 (Are bytes) Are taken.1 (taken.3 c.if-has_ended.true)
    (λ files from lines next now h. subst (λ (bs : List ℕ). Are bs files from lines next now) whole h) c.extract_whole.ensures

pub returns-then-is_mailbox : goal.returns-then-is_mailbox
returns-then-is_mailbox g c =
    let file = option_map (λ name. name.now) c.args.source.file in
    let options = options_view c.args.source.options in
    let known = g.K.KnownCharsets.known c.args.source.known.now in
    let kind = c.args.source.kind in
    let read = c.read_until.new.bytes.items in
    let bytes = c.as_slice-then-is_mailbox.result.now in
    let taken = c.in_ok-has_ended.ensures in
    let there : is_there (first_wanted kind) read ≡ true =
    ap (λ (w : Wanted). is_there w read) (sym c.first_wanted.ensures) ∙ taken.4 c.if-has_ended.false in
    let is_kind : is_mailbox kind read ≡ true = ap (is_mailbox kind) (sym c.as_slice-2.ensures.value) ∙ sym c.is_mailbox.ensures ∙ c.if-is_mailbox.true in
    let whole : read ≡ taken.0 = taken.2 ∙ ap (λ (bs : List ℕ). bs ++ taken.0) c.new-read.ensures.items in
    ends_after _ _ _ _ _ _ _ _ _ bytes read c.extract_following.result (IsMailbox file g.D.Directory.can_fail options known (format_of kind))
    (IsInput file g.D.Directory.can_fail options known kind)
    (subst (λ (bs : List ℕ). Consumes (g.R.Read.remaining c.args.reader.now) (g.R.Read.remaining c.read_until.new.reader) bs) (sym whole) taken.1)
    (λ more files from lines next now h. input_is file g.D.Directory.can_fail options known kind read more (bytes ++ more) true files now from next lines
    (ap (λ (bs : List ℕ). bs ++ more) c.as_slice-then-is_mailbox.ensures.value) there is_kind h)
    c.extract_following.ensures

pub returns : goal.returns
returns g c =
    let file = option_map (λ name. name.now) c.args.source.file in
    let options = options_view c.args.source.options in
    let known = g.K.KnownCharsets.known c.args.source.known.now in
    let kind = c.args.source.kind in
    let read = c.read_until.new.bytes.items in
    let bytes = c.as_slice-3.result.now in
    let taken = c.in_ok-has_ended.ensures in
    let last = c.in_ok-read_until.ensures in
    let there : is_there (first_wanted kind) read ≡ true =
    ap (λ (w : Wanted). is_there w read) (sym c.first_wanted.ensures) ∙ taken.4 c.if-has_ended.false in
    let is_kind : is_mailbox kind read ≡ false = ap (is_mailbox kind) (sym c.as_slice-2.ensures.value) ∙ sym c.is_mailbox.ensures ∙ c.if-is_mailbox.false in
    let whole : read ≡ taken.0 = taken.2 ∙ ap (λ (bs : List ℕ). bs ++ taken.0) c.new-read.ensures.items in
    let first = subst (λ (bs : List ℕ). Consumes (g.R.Read.remaining c.args.reader.now) (g.R.Read.remaining c.read_until.new.reader) bs) (sym whole) taken.1 in
    ends_whole _ _ _ _ _ _ _ _ c.extract_one.result (read ++ last.0) (IsMail file g.D.Directory.can_fail options known None bytes) (IsInput file g.D.Directory.can_fail options known kind)
    (Consumes-trans _ _ _ read last.0 first last.1) (all_read _ c.in_ok-read_until.field-0 last.3 last.4)
    (λ files from lines next now h. input_is file g.D.Directory.can_fail options known kind read last.0 bytes false files now from next lines (c.as_slice-3.ensures.value ∙ last.2) there is_kind h)
    c.extract_one.ensures
