use Rattle.std.proofs.Common.{◌≢◌, ◌+◌, ◌-◌, ◌++◌, List, [], drop, map, refl, sym, ap, subst, ◌∙◌, arith}
use Rattle.std.proofs.KnownBytes.{Appends-nil, Appends-trans}
use Rattle.std.proofs.lemmas.List.{append-nil, drop_all}
use Rattle.std.specs.Prelude.{flat_map}
use Rattle.mail_read.specs.Reading.{mail_placements}
use Rattle.mailparse.specs.Placement.{Placement}
use Rattle.mailparse.specs.Views.{placements_of, tree_of}
use Rattle.mailparse.specs.declared.mail.message.ParsedMail.{ParsedMail}
use Rattle.mail_read.proofs.lemmas.InnerMails.{forwarded-is}
use Rattle.mail_read.specs.InnerMails.{InnerMail, mail_bytes, places_under}
use Rattle.mail_read.specs.PartPlaces.{Place}
use Rattle.mail_read.specs.PlaceViews.{place_view}
use Rattle.std.specs.List.{AllByRecursion}
use Rattle.mail_parts.specs.Inside.{without_bytes}
use Rattle.mail_json.specs.InsideViews.{inside_view}
use Rattle.mail_json.specs.Options.{options_of}
use Rattle.mail_parts.specs.DecodedViews.{IsDecoded, decoded_place}
use Rattle.mail_json_text.specs.Printed.{after_commas, text_of}
use Rattle.mail_parts.specs.Reading.{mails_in_place}
use Rattle.mail_json.specs.Values.{AreInsideValues}
use Rattle.mail_parts.proofs.lemmas.Decoded.{all_at, not_held}
use Rattle.mail_parts.proofs.lemmas.Inside.{among_some}
use Rattle.mail_json.proofs.lemmas.Inside.{insides_end, insides_more, listed_along, listed_more, none_inside, none_listed, read_listed, read_written, refused_inside, refused_listed, under_listed, under_written, written_along}
use Rattle.mail_json_text.proofs.lemmas.JsonText.{drop_next}
use Rattle.mail_json_text.proofs.lemmas.Written.{appends_as}
use Rattle.mail_json.proofs.inside.«+inside».Goals as goal

pub write_inside-loop-part-init : goal.write_inside-loop-part-init
write_inside-loop-part-init g t c = (λ all. (([], Appends-nil _, λ rest h. (rest, h, refl)), refl), λ h. h)

pub write_inside-loop-part-preserved : goal.write_inside-loop-part-preserved
write_inside-loop-part-preserved g t c = (
  λ all.
      let options = options_of (g.K.KnownCharsets.known c.args.shared.now.known.now) c.args.shared.now.options in
      let origin = c.args.shared.now.origin in
      let step = mails_in_place options.known options.limit (c.args.within.now.most - 1) c.args.within.now.start in
      let places = c.args.parts.now in
      let here = c.loop-part.invariant.0 all in
      let is = all_at (IsDecoded c.args.shared.now.options.decodes_bodies) places c.loop-part.part-index c.part-item.result (omega arith) c.part-item.is all in
      let place = decoded_place c.part-item.result in
      let rest = map decoded_place (drop (c.loop-part.part-index + 1) places) in
      let left = ap (map decoded_place) (drop_next places c.loop-part.part-index c.part-item.result (omega arith) c.part-item.is) in
      let made = c.in_ok-write_forwarded.ensures in
      let values = made.written is in (
        (
          here.0.0 ++ after_commas text_of values.0,
          Appends-trans _ _ _ here.0.0 (after_commas text_of values.0) here.0.1 values.2,
          insides_more step options origin (AreInsideValues options origin (flat_map step (map decoded_place places))) (after_commas text_of) place _ rest here.0.0 values.0 left here.0.2 values.1,
        ),
        listed_more step place _ rest _ _ _ left here.1 (made.listed is),
      ),
  λ h. c.in_ok-write_forwarded.ensures.failed (c.loop-part.invariant.1 h),
)

pub write_inside-returns-clause-written : goal.write_inside-returns-clause-written
write_inside-returns-clause-written g t c = λ all.
    let options = options_of (g.K.KnownCharsets.known c.args.shared.now.known.now) c.args.shared.now.options in
    let origin = c.args.shared.now.origin in
    let step = mails_in_place options.known options.limit (c.args.within.now.most - 1) c.args.within.now.start in
    let places = c.args.parts.now in
    let here = c.loop-part.invariant.0 all in
    let most_some : c.args.within.now.most ≢ 0 = grind (arith) in
    let none = ap (map decoded_place) (drop_all c.loop-part.part-index places (omega arith)) in
    let values = insides_end step options origin (AreInsideValues options origin (flat_map step (map decoded_place places))) (after_commas text_of) _ here.0.0 none here.0.2 in
    let some = among_some options.known options.limit c.args.within.now.most c.args.within.now.start (map decoded_place places) most_some in (
      values.0,
      subst (λ (xs : List InnerMail). AreInsideValues options origin xs values.0) (sym some) values.1,
      appends_as _ _ here.0.0 (after_commas text_of values.0) values.2 here.0.1,
    )

pub write_inside-returns-clause-listed : goal.write_inside-returns-clause-listed
write_inside-returns-clause-listed g t c = λ all.
    let options = options_of (g.K.KnownCharsets.known c.args.shared.now.known.now) c.args.shared.now.options in
    let step = mails_in_place options.known options.limit (c.args.within.now.most - 1) c.args.within.now.start in
    let places = c.args.parts.now in
    let here = c.loop-part.invariant.0 all in
    let most_some : c.args.within.now.most ≢ 0 = grind (arith) in
    let none = ap (map decoded_place) (drop_all c.loop-part.part-index places (omega arith)) in
    let some = among_some options.known options.limit c.args.within.now.most c.args.within.now.start (map decoded_place places) most_some in
    sym (append-nil (map inside_view c.loop-part.found.mails.items))
    ∙ ap (λ (xs : List Place). map inside_view c.loop-part.found.mails.items ++ map without_bytes (flat_map step xs)) (sym none)
    ∙ here.1 ∙ ap (λ (xs : List InnerMail). map inside_view c.args.found.now.mails.items ++ map without_bytes xs) (sym some)

pub write_forwarded-returns-then-not-holds_mail-clause-written : goal.write_forwarded-returns-then-not-holds_mail-clause-written
write_forwarded-returns-then-not-holds_mail-clause-written g t c = λ is.
    let options = options_of (g.K.KnownCharsets.known c.args.shared.now.known.now) c.args.shared.now.options in
    let within = c.args.within.now in
    let origin = c.args.shared.now.origin in
    let place = decoded_place c.args.part.now in
    let none = not_held within.start place (sym c.holds_mail.ensures ∙ c.if-not-holds_mail.true) in
    ([], none_inside options origin within.most within.start place none, Appends-nil _)

pub write_forwarded-returns-then-not-holds_mail-clause-listed : goal.write_forwarded-returns-then-not-holds_mail-clause-listed
write_forwarded-returns-then-not-holds_mail-clause-listed g t c = λ is.
    let options = options_of (g.K.KnownCharsets.known c.args.shared.now.known.now) c.args.shared.now.options in
    let within = c.args.within.now in
    let origin = c.args.shared.now.origin in
    let place = decoded_place c.args.part.now in
    let none = not_held within.start place (sym c.holds_mail.ensures ∙ c.if-not-holds_mail.true) in
    none_listed options origin within.most within.start place (map inside_view c.args.found.now.mails.items) none

pub write_forwarded-returns-in-Read-clause-written : goal.write_forwarded-returns-in-Read-clause-written
write_forwarded-returns-in-Read-clause-written g t c = λ is.
    let options = options_of (g.K.KnownCharsets.known c.args.shared.now.known.now) c.args.shared.now.options in
    let within = c.args.within.now in
    let origin = c.args.shared.now.origin in
    let place = decoded_place c.args.part.now in
    let start = c.mail_start-start.result in
    let bytes = mail_bytes place in
    let holds = sym c.holds_mail.ensures ∙ c.if-not-holds_mail.false in
    let some = forwarded-is within.start start place bytes holds refl (c.mail_start-start.ensures is.body) in
    let read = c.in-Read.ensures is holds in
    let mail = tree_of c.in-Read.mail.value in
    let path = c.as_str-path.ensures.value in
    let placed =
    ap placements_of c.deref.ensures ∙ read.1 ∙ ap (λ (m : ParsedMail). mail_placements (tree_of m)) (sym c.deref.ensures) in
    let own = written_along options origin within.most start c.as_str-path.result.now _ mail _ _ c.write_read-written.result
    (ap tree_of c.deref.ensures) (c.write_read-written.ensures.written placed) in
    read_written options origin within.most within.start place start bytes mail c.as_str-path.result.now _ _ c.write_read-written.result some read.0 path own

pub write_forwarded-returns-in-Read-clause-listed : goal.write_forwarded-returns-in-Read-clause-listed
write_forwarded-returns-in-Read-clause-listed g t c = λ is.
    let options = options_of (g.K.KnownCharsets.known c.args.shared.now.known.now) c.args.shared.now.options in
    let within = c.args.within.now in
    let origin = c.args.shared.now.origin in
    let place = decoded_place c.args.part.now in
    let start = c.mail_start-start.result in
    let bytes = mail_bytes place in
    let holds = sym c.holds_mail.ensures ∙ c.if-not-holds_mail.false in
    let some = forwarded-is within.start start place bytes holds refl (c.mail_start-start.ensures is.body) in
    let read = c.in-Read.ensures is holds in
    let mail = tree_of c.in-Read.mail.value in
    let path = c.as_str-path.ensures.value in
    let placed =
    ap placements_of c.deref.ensures ∙ read.1 ∙ ap (λ (m : ParsedMail). mail_placements (tree_of m)) (sym c.deref.ensures) in
    let own = listed_along options.known options.limit within.most start c.as_str-path.result.now _ mail _ _
    c.write_read-written.result (ap tree_of c.deref.ensures) (c.write_read-written.ensures.listed placed) in
    read_listed options origin within.most within.start place start bytes mail c.as_str-path.result.now _ _ _ c.write_read-written.result some read.0 path read.2 own

pub write_read-returns-clause-written : goal.write_read-returns-clause-written
write_read-returns-clause-written g t c = λ placed.
    let options = options_of (g.K.KnownCharsets.known c.args.shared.now.known.now) c.args.shared.now.options in
    let within = c.args.within.now in
    let origin = c.args.shared.now.origin in
    let mail = tree_of c.args.mail.now in
    let places = c.in-Ok.ensures ∙ ap (λ (ps : List Placement). places_under c.args.path.now mail ps) placed in
    let first = ap (map place_view) c.as_slice.ensures.value ∙ places in
    let made = c.in_ok-parts.ensures in
    let again = ap (map decoded_place) c.as_slice-2.ensures.value ∙ made.places ∙ first in
    let all = subst (AllByRecursion (IsDecoded options.decodes_bodies)) (sym c.as_slice-2.ensures.value) made.decoded in
    let own = made.written in
    under_written options origin within.most within.start c.args.path.now mail _ _ _ _ _ c.write_inside.result own.0 first again own.1 own.2 (c.write_inside.ensures.written all)

pub write_read-returns-clause-listed : goal.write_read-returns-clause-listed
write_read-returns-clause-listed g t c = λ placed.
    let options = options_of (g.K.KnownCharsets.known c.args.shared.now.known.now) c.args.shared.now.options in
    let within = c.args.within.now in
    let origin = c.args.shared.now.origin in
    let mail = tree_of c.args.mail.now in
    let places = c.in-Ok.ensures ∙ ap (λ (ps : List Placement). places_under c.args.path.now mail ps) placed in
    let first = ap (map place_view) c.as_slice.ensures.value ∙ places in
    let made = c.in_ok-parts.ensures in
    let again = ap (map decoded_place) c.as_slice-2.ensures.value ∙ made.places ∙ first in
    let all = subst (AllByRecursion (IsDecoded options.decodes_bodies)) (sym c.as_slice-2.ensures.value) made.decoded in
    under_listed options.known options.limit within.most within.start _ _ _ _ c.write_inside.result again (c.write_inside.ensures.listed all)

pub write_forwarded-returns-in-Refused-clause-written : goal.write_forwarded-returns-in-Refused-clause-written
write_forwarded-returns-in-Refused-clause-written g t c = λ is.
    let options = options_of (g.K.KnownCharsets.known c.args.shared.now.known.now) c.args.shared.now.options in
    let within = c.args.within.now in
    let origin = c.args.shared.now.origin in
    let place = decoded_place c.args.part.now in
    let start = c.mail_start-start.result in
    let bytes = mail_bytes place in
    let holds = sym c.holds_mail.ensures ∙ c.if-not-holds_mail.false in
    let some = forwarded-is within.start start place bytes holds refl (c.mail_start-start.ensures is.body) in
    let refused = c.in-Refused.ensures is holds in
    ([], refused_inside options origin within.most within.start place start bytes refused.0 some refused.1, Appends-nil _)

pub write_forwarded-returns-in-Refused-clause-listed : goal.write_forwarded-returns-in-Refused-clause-listed
write_forwarded-returns-in-Refused-clause-listed g t c = λ is.
    let options = options_of (g.K.KnownCharsets.known c.args.shared.now.known.now) c.args.shared.now.options in
    let within = c.args.within.now in
    let origin = c.args.shared.now.origin in
    let place = decoded_place c.args.part.now in
    let start = c.mail_start-start.result in
    let bytes = mail_bytes place in
    let holds = sym c.holds_mail.ensures ∙ c.if-not-holds_mail.false in
    let some = forwarded-is within.start start place bytes holds refl (c.mail_start-start.ensures is.body) in
    let refused = c.in-Refused.ensures is holds in
    refused_listed options origin within.most within.start place start bytes refused.0 _ _ some refused.1 refused.2
