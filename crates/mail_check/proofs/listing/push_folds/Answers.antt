use Rattle.std.proofs.Common.{◌∙◌, map, sym}
use Rattle.std.proofs.lemmas.List.{append-nil}
use Rattle.mail_check.specs.FindingViews.{finding_view, spot_view}
use Rattle.mail_check.specs.LineViews.{line_view}
use Rattle.mail_check.proofs.lemmas.Folds.{no_blank_fold, no_comment_fold}
use Rattle.mail_check.proofs.listing.push_folds.Goals as goal

pub returns-then-not-is_folded : goal.returns-then-not-is_folded
returns-then-not-is_folded c =
    let old = map finding_view c.args.found.now.items in
    let line = line_view c.args.line.now in
    let spot = spot_view c.args.spot.now in
    let single = sym c.is_folded.ensures ∙ c.if-not-is_folded.true in
    rw (no_blank_fold line single, no_comment_fold line single) (sym (append-nil old))
