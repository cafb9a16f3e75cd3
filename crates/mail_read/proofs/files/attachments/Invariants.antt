-- The files so far, and then those among the places that are left, are all.
use Rattle.std.proofs.Common.{◌≡◌, ◌++◌, map}
use Rattle.mailparse.specs.Views.{tree_of}
use Rattle.mail_read.specs.Attachments.{attachments, files_among}
use Rattle.mail_read.specs.FileViews.{attachment_view}
use Rattle.mail_read.specs.PlaceViews.{numbered_view}
use Rattle.mail_read.proofs.files.attachments.Given as goal

abbrev pub invariant-loop-place : goal.invariant-loop-place
invariant-loop-place g l =
    map attachment_view l.files.items ++ files_among (g.K.KnownCharsets.known l.known) (map numbered_view l.place-iterator.rest.items)
    ≡ attachments (g.K.KnownCharsets.known l.known) (tree_of l.mail)
