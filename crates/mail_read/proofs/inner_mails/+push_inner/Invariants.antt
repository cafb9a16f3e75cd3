-- The mails so far, and then those of the remaining parts, are the old mails and then those inside the mail.
use Rattle.std.proofs.Common.{◌≡◌, ◌++◌, ◌-◌, drop, map}
use Rattle.std.specs.Prelude.{flat_map}
use Rattle.mailparse.specs.Views.{placements_of, tree_of}
use Rattle.mail_read.specs.InnerMails.{inner_mails_as, mails_in_place_as}
use Rattle.mail_read.specs.InnerMailViews.{inner_view}
use Rattle.mail_read.specs.PlaceViews.{place_view}
use Rattle.mail_read.proofs.inner_mails.«+push_inner».Given as goal

abbrev pub decreases-push_inner : goal.decreases-push_inner
decreases-push_inner g l = l.most

abbrev pub invariant-loop-place : goal.invariant-loop-place
invariant-loop-place g l =
    map inner_view l.mails.items
    ++ flat_map (mails_in_place_as (g.M.ReadingManner.manner l.manner) (l.most - 1) l.start) (map place_view (drop l.place-index l.place-items))
    ≡ map inner_view l.fn.mails.items ++ inner_mails_as (g.M.ReadingManner.manner l.manner) l.most l.path l.start (tree_of l.mail) (placements_of l.mail)
