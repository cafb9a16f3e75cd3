use Rattle.std.proofs.Common.{◌≢◌, ◌++◌, ◌-◌, ◌+◌, List, [], ◌∷◌, ℕ, None, drop, map, sym, ap, subst, ◌∙◌, arith}
use Rattle.std.specs.Prelude.{flat_map}
use Rattle.mailparse.specs.BodyViews.{content_of}
use Rattle.mailparse.specs.Mail.{read_mail_as, root}
use Rattle.mailparse.specs.Placement.{placements_as}
use Rattle.mailparse.specs.Outcome.{IsRefusalOrMemory, refusal_of}
use Rattle.mailparse.specs.Views.{placements_of, tree_of}
use Rattle.mail_read.specs.InnerMails.{InnerMail, inner_mails_by, mails_in_place_by}
use Rattle.mail_read.specs.InnerMailViews.{inner_view}
use Rattle.mail_read.specs.PlaceViews.{place_view}
use Rattle.mail_read.specs.lenient.Encoding.{lenient_body_kind}
use Rattle.mail_read.proofs.lemmas.InnerMails.{drop_next, inner_mails-some, inner_with, next-none, next-read, next-refused}
use Rattle.mail_read.proofs.inner_mails.«+push_inner».Goals.{then-holds_mail+in_ok-body+in_ok-bytes, in-Ok+in_ok-push_mail-in-Ok+in_ok-push_inner-in-Ok, in-Err+in_ok-push_refused-in-Err, else-holds_mail}
use Rattle.mail_read.proofs.inner_mails.«+push_inner».Goals as goal

pub loop-place-init : goal.loop-place-init
loop-place-init g t c =
    let manner = g.M.ReadingManner.manner c.args.manner.now in
    let reads = read_mail_as manner 100 in
    let placed = placements_as manner.whole_lines 0 in
    let mail = c.args.mail.now in
    let most_some : c.args.most ≢ 0 = grind (arith) in
    let places = ap (map place_view) c.deref-place-items.ensures.value ∙ c.in_ok-places.ensures in
    ap (λ (mails : List InnerMail). map inner_view c.args.mails.now.items ++ mails)
    (ap (flat_map (mails_in_place_by reads placed (c.args.most - 1) c.args.start)) places
    ∙ sym (inner_mails-some reads placed c.args.most c.args.path.now c.args.start (tree_of mail) (placements_of mail) most_some))

pub loop-place-preserved : goal.loop-place-preserved
loop-place-preserved g t c =
    let manner = g.M.ReadingManner.manner c.args.manner.now in
    let reads = read_mail_as manner 100 in
    let placed = placements_as manner.whole_lines 0 in
    let most = c.args.most - 1 in
    let start = c.args.start in
    let items = c.deref-place-items.result.now in
    let place = place_view c.place-item.result in
    let rest = map place_view (drop (c.loop-place.place-index + 1) items) in
    let left = ap (map place_view) (drop_next items c.loop-place.place-index c.place-item.result (omega arith) c.place-item.is) in
    let done = map inner_view c.loop-place.mails.items in
    let here = c.loop-place.invariant in
    elim c.if-holds_mail.branch [
      | then-holds_mail+in_ok-body+in_ok-bytes w ↦
          let node = root place.part in
          let bytes = w.in_ok-bytes.bytes.items in
          let at = w.mail_start-at.result in
          let holds = sym c.holds_mail.ensures ∙ w.if-holds_mail.true in
          let same = w.in_ok-bytes.ensures.read (lenient_body_kind node) (content_of node) w.in_ok-body.ensures.read in
          let there = w.mail_start-at.ensures w.in_ok-body.ensures.read in
          elim w.match-parse_mail_as.branch [
            | in-Ok+in_ok-push_mail-in-Ok+in_ok-push_inner-in-Ok v ↦
                let inside = v.in-Ok.inside in
                let read = ap reads (sym w.as_slice.ensures.value) ∙ v.in-Ok.ensures.read in
                let one =
                v.in_ok-push_mail-in-Ok.ensures ∙ ap (λ (b : List ℕ). done ++ inner_with place.path b at None ∷ []) v.as_slice-in-Ok.ensures.value in
                let mid = map inner_view v.push_mail.new.mails.items in
                let two =
                ap (λ mails. map inner_view mails.items) (w.mails-is ∙ v.mails-is) ∙ v.in_ok-push_inner-in-Ok.ensures.written
                ∙ ap (λ (p : List ℕ). mid ++ inner_mails_by reads placed most p at (tree_of inside) (placements_of inside)) v.as_str.ensures.value in
                next-read reads placed most start at place _ rest bytes (tree_of inside) (placements_of inside) done mid _ _ left holds same there read
                v.in-Ok.ensures.places one two here
            | in-Err+in_ok-push_refused-in-Err v ↦
                let error = v.in-Err.error in
                let refused =
                subst (λ (b : List ℕ). IsRefusalOrMemory error (reads b)) w.as_slice.ensures.value v.in-Err.ensures.read in
                let made =
                ap (λ mails. map inner_view mails.items) (w.mails-is ∙ v.mails-is) ∙ v.in_ok-push_refused-in-Err.ensures.written
                ∙ ap (λ (b : List ℕ). done ++ inner_with place.path b at (refusal_of error) ∷ []) v.as_slice-in-Err.ensures.value in
                next-refused reads placed most start at place _ rest bytes error done _ _ left holds same there refused
                v.in_ok-push_refused-in-Err.ensures.passed_on made here
          ]
      | else-holds_mail w ↦
          ap (λ mails. map inner_view mails.items ++ flat_map (mails_in_place_by reads placed most start) rest) w.mails-is
          ∙ next-none reads placed most start place _ rest done _ left (sym c.holds_mail.ensures ∙ w.if-holds_mail.false) here
    ]
