use Rattle.std.proofs.Common.{rules, ◌≡◌, ◌∷◌, string_bytes}
use Rattle.mail_read.specs.FileNames.{IsSafeName}
use Rattle.mail_read.specs.FileViews.{attachment_view}
use Rattle.mail_jobs.specs.Attachments.{stored}
use Rattle.mail_jobs.specs.AttachmentViews.{stored_view}
use Rattle.mail_jobs.proofs.lemmas.Attachments.{each_more, one_more}
use Rattle.mail_jobs.proofs.attachments.stored_files.Goals as goal

-- src/attachments.rt:36:5
pub loop-file-preserved : goal.loop-file-preserved
loop-file-preserved g c =
    let left : c.loop-file.file-iterator.rest.items ≡ c.in-Some.file ∷ c.next.new.self.rest.items = search rules in
    let is : stored (g.K.KnownCharsets.known c.args.known.now) (attachment_view c.in-Some.file) ≡ stored_view c.in_ok-stored.field-0 = search rules in
    record {
      all = one_more stored_view _ _ c.in_ok-stored.field-0 _ _ _ c.in_ok-push.ensures.items is
          (rw left at c.loop-file.invariant.all);
      each = each_more (λ file. IsSafeName (string_bytes file.name)) _ _ c.in_ok-stored.field-0 c.in_ok-push.ensures.items c.loop-file.invariant.each
          c.in_ok-stored.ensures.safe;
    }
