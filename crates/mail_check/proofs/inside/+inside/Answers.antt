use Rattle.std.proofs.Common.{◌≡◌, ◌≢◌, ◌∙◌, List, ℕ, Ok, ap, arith, map, subst, sym}
use Rattle.std.specs.Borrow.{Bor}
use Rattle.std.specs.Prelude.{option_map}
use Rattle.mailparse.specs.Placement.{placements}
use Rattle.mailparse.specs.Views.{placements_of, tree_of}
use Rattle.mailparse.specs.declared.mail.message.ParsedMail.{ParsedMail}
use Rattle.mail_read.specs.PlaceViews.{place_view}
use Rattle.mail_check.specs.FindingViews.{finding_view}
use Rattle.mail_check.proofs.lemmas.Inside.{inside_read, when_ok}
use Rattle.mail_check.proofs.inside.«+inside».Goals as goal

pub push_forwarded-returns-in-Ok-clause-written : goal.push_forwarded-returns-in-Ok-clause-written
push_forwarded-returns-in-Ok-clause-written g t c =
    let known = g.K.KnownCharsets.known c.args.known.now in
    let most_some : c.args.most ≢ 0 = grind (arith) in
    let done = map finding_view c.args.found.now.items in
    let mail = c.deref.result.now in
    let placed = subst (λ (m : ParsedMail). placements_of m ≡ placements 0 (tree_of m)) (sym c.deref.ensures) c.in-Ok.ensures.places in
    let forwarded = ap (option_map (λ (bytes : Bor (List ℕ)). bytes.now)) (sym c.in-Some.is) ∙ c.in_ok-raw.ensures.read in
    let read = c.in-Ok.ensures.read ∙ ap (λ (m : ParsedMail). Ok (tree_of m)) (sym c.deref.ensures) in
    when_ok c.push_tree.result (c.push_tree.ensures.written placed)
    (inside_read known c.args.most (place_view c.args.place.now) c.in-Some.raw.now (tree_of mail) done _ most_some forwarded read)
