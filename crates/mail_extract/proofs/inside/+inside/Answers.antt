use Rattle.std.proofs.Common.{◌≡◌, ◌≢◌, ◌+◌, ◌-◌, ℕ, List, [], false, option_map, drop, map, string_bytes, sym, ap, subst, ◌∙◌, arith}
use Rattle.std.proofs.lemmas.List.{drop_all}
use Rattle.std.specs.Prelude.{flat_map}
use Rattle.mailparse.specs.Map.{text_found}
use Rattle.mailparse.specs.Outcome.{IsRefusalOrMemory}
use Rattle.mailparse.specs.Placement.{Placement}
use Rattle.mailparse.specs.Views.{placements_of, tree_of}
use Rattle.mail_read.specs.InnerMails.{places_under}
use Rattle.mail_read.specs.PlaceViews.{place_view}
use Rattle.mail_read.proofs.lemmas.InnerMails.{drop_next, forwarded-is}
use Rattle.mail_parts.proofs.lemmas.Reading.{not_forwarded}
use Rattle.mail_parts.specs.DecodedViews.{IsDecoded, decoded_place}
use Rattle.mail_parts.proofs.lemmas.Decoded.{all_at, not_held}
use Rattle.mail_parts.proofs.lemmas.Inside.{among_none, among_some}
use Rattle.mail_parts.specs.Reading.{mail_reading, mails_in_place}
use Rattle.mail_extract.specs.ChoiceViews.{options_view}
use Rattle.mail_extract.specs.Input.{AreInside}
use Rattle.mail_extract.proofs.lemmas.Input.{refused_read}
use Rattle.mail_extract.proofs.lemmas.Inside.{inside_end, inside_line, inside_next, inside_none, inside_same, inside_saved}
use Rattle.mail_extract.proofs.lemmas.Saves.{before_end, before_more, before_start, ends_saved}
use Rattle.std.specs.List.{AllByRecursion}
use Rattle.mail_extract.proofs.inside.«+inside».Goals as goal

pub extract_inside-returns-then-within-eq0-clause-saved : goal.extract_inside-returns-then-within-eq0-clause-saved
extract_inside-returns-then-within-eq0-clause-saved g t c = λ all.
    let known = g.K.KnownCharsets.known c.args.source.known.now in
    let most_none : c.args.within.most ≡ 0 = grind (arith) in
    inside_none (option_map (λ name. name.now) c.args.source.file) g.D.Directory.can_fail (options_view c.args.source.options) known c.args.within.number _ _ _ _
    (among_none known c.args.source.options.limit c.args.within.most c.args.within.start (map decoded_place c.args.parts.now) most_none)

pub extract_inside-loop-part-init : goal.extract_inside-loop-part-init
extract_inside-loop-part-init g t c = λ all.
    let known = g.K.KnownCharsets.known c.args.source.known.now in
    let step = mails_in_place known c.args.source.options.limit (c.args.within.most - 1) c.args.within.start in
    let Inside = AreInside (option_map (λ name. name.now) c.args.source.file) g.D.Directory.can_fail (options_view c.args.source.options) known c.args.within.number in
    let mails = flat_map step (map decoded_place c.args.parts.now) in
    before_start _ _ _ (λ later. Inside mails) (λ later. Inside mails) (λ later files from lines next now h. h)

pub extract_inside-loop-part-preserved : goal.extract_inside-loop-part-preserved
extract_inside-loop-part-preserved g t c = λ all.
    let known = g.K.KnownCharsets.known c.args.source.known.now in
    let file = option_map (λ name. name.now) c.args.source.file in
    let options = options_view c.args.source.options in
    let number = c.args.within.number in
    let step = mails_in_place known c.args.source.options.limit (c.args.within.most - 1) c.args.within.start in
    let places = c.args.parts.now in
    let i = c.loop-part.part-index in
    let place = decoded_place c.part-item.result in
    let rest = map decoded_place (drop (i + 1) places) in
    let left = ap (map decoded_place) (drop_next places i c.part-item.result (omega arith) c.part-item.is) in
    let Inside = AreInside file g.D.Directory.can_fail options known number in
    before_more _ _ _ _ _ _ _ _ _ _ _ _ (λ later. Inside (flat_map step (map decoded_place places))) (λ later. Inside (flat_map step (map decoded_place (drop i places)))) (λ later. Inside (flat_map step rest))
    (Inside (step place)) c.and-outcome.ensures (λ later. inside_next file g.D.Directory.can_fail options known number step place (map decoded_place (drop i places)) rest left)
    (c.in_ok-extract_forwarded.ensures.saved (all_at (IsDecoded false) places i c.part-item.result (omega arith) c.part-item.is all)) (c.loop-part.invariant all)

pub extract_inside-returns-clause-saved : goal.extract_inside-returns-clause-saved
extract_inside-returns-clause-saved g t c = λ all.
    let known = g.K.KnownCharsets.known c.args.source.known.now in
    let file = option_map (λ name. name.now) c.args.source.file in
    let options = options_view c.args.source.options in
    let number = c.args.within.number in
    let step = mails_in_place known c.args.source.options.limit (c.args.within.most - 1) c.args.within.start in
    let places = c.args.parts.now in
    let i = c.loop-part.part-index in
    let most_some : c.args.within.most ≢ 0 = grind (arith) in
    let none = ap (map decoded_place) (drop_all i places (omega arith)) in
    let some = among_some known c.args.source.options.limit c.args.within.most c.args.within.start (map decoded_place places) most_some in
    let Inside = AreInside file g.D.Directory.can_fail options known number in
    inside_same file g.D.Directory.can_fail options known number _ _ _ _ _ _ _ _ _ some
    (before_end _ _ _ _ _ _ _ (λ later. Inside (flat_map step (map decoded_place places))) (λ later. Inside (flat_map step (map decoded_place (drop i places)))) []
    (inside_end file g.D.Directory.can_fail options known number step (map decoded_place (drop i places)) none) (c.loop-part.invariant all))

pub extract_forwarded-returns-then-not-holds_mail-clause-saved : goal.extract_forwarded-returns-then-not-holds_mail-clause-saved
extract_forwarded-returns-then-not-holds_mail-clause-saved g t c = λ is.
    let known = g.K.KnownCharsets.known c.args.source.known.now in
    let within = c.args.within in
    let place = decoded_place c.args.part.now in
    let none = not_held within.start place (sym c.holds_mail.ensures ∙ c.if-not-holds_mail.true) in
    inside_none (option_map (λ name. name.now) c.args.source.file) g.D.Directory.can_fail (options_view c.args.source.options) known within.number _ _ _ _ (not_forwarded known c.args.source.options.limit within.most within.start place none)

pub extract_forwarded-returns-in_ok-extract_inside-in-Ok-clause-saved : goal.extract_forwarded-returns-in_ok-extract_inside-in-Ok-clause-saved
extract_forwarded-returns-in_ok-extract_inside-in-Ok-clause-saved g t c = λ is.
    let known = g.K.KnownCharsets.known c.args.source.known.now in
    let within = c.args.within in
    let place = decoded_place c.args.part.now in
    let start = c.mail_start-start.result in
    let bytes = c.mail_in.result.now in
    let holds = sym c.holds_mail.ensures ∙ c.if-not-holds_mail.false in
    let some = forwarded-is within.start start place bytes holds (c.mail_in.ensures false is holds) (c.mail_start-start.ensures is.body) in
    let mail = c.in-Ok.mail in
    let read = c.in-Ok.ensures.read in
    let places =
    c.in_ok-found-in-Ok.ensures ∙ ap (λ (p : List ℕ). places_under p (tree_of mail) (placements_of mail)) c.as_str-path.ensures.value
    ∙ ap (λ (ps : List Placement). places_under place.path (tree_of mail) ps) c.in-Ok.ensures.places in
    let made = c.in_ok-parts-in-Ok.ensures.places ∙ ap (map place_view) c.as_slice.ensures.value ∙ places in
    let first = ap (map decoded_place) c.as_slice-in-Ok.ensures.value in
    let again = ap (map decoded_place) c.as_slice-in-Ok-2.ensures.value ∙ sym first in
    let all = subst (AllByRecursion (IsDecoded false)) (sym c.as_slice-in-Ok-2.ensures.value) c.in_ok-parts-in-Ok.ensures.decoded in
    inside_saved (option_map (λ name. name.now) c.args.source.file) g.D.Directory.can_fail (options_view c.args.source.options) known within.number within.most within.start start place bytes some
    _ _ _ _ _ _ _ _ _ c.in_ok-own-in-Ok.own c.in_ok-extract_inside-in-Ok.field-0 c.and.result (tree_of mail) _ _ read (first ∙ made) again c.and.ensures c.in_ok-own-in-Ok.ensures (c.in_ok-extract_inside-in-Ok.ensures.saved all)

pub extract_forwarded-returns-in-Some-clause-saved : goal.extract_forwarded-returns-in-Some-clause-saved
extract_forwarded-returns-in-Some-clause-saved g t c = λ is.
    let known = g.K.KnownCharsets.known c.args.source.known.now in
    let within = c.args.within in
    let place = decoded_place c.args.part.now in
    let start = c.mail_start-start.result in
    let bytes = c.mail_in.result.now in
    let holds = sym c.holds_mail.ensures ∙ c.if-not-holds_mail.false in
    let some = forwarded-is within.start start place bytes holds (c.mail_in.ensures false is holds) (c.mail_start-start.ensures is.body) in
    let error = c.in-Err.error in
    let text = ap text_found (sym c.in-Some.is) ∙ c.in_ok-text-in-Err.ensures.read in
    let refused = c.in-Err.ensures.read in
    let read = refused_read error (mail_reading known c.args.source.options.limit bytes) (string_bytes c.in-Some.text) text refused in
    ends_saved _ _ _ _ _ _ c.report_refused.result _
    (inside_line (option_map (λ name. name.now) c.args.source.file) g.D.Directory.can_fail (options_view c.args.source.options) known within.number within.most within.start start place bytes some
    _ _ _ _ c.report_refused.result read.0 c.as_str.result.now c.as_str-path.result.now read.1 (c.as_str.ensures.value ∙ read.2) c.as_str-path.ensures.value c.report_refused.ensures)
