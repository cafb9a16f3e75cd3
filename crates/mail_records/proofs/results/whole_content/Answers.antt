use Rattle.std.proofs.Common.{◌≡◌, List, ℕ, Result, Ok, Err, sym, ap, subst, ◌∙◌}
use Rattle.std.specs.Cow.{cow_slice_items}
use Rattle.mailparse.specs.BodyViews.{content_of}
use Rattle.mailparse.specs.Mail.{root}
use Rattle.mailparse.specs.Outcome.{Answers, AnswersOrMemory, IsRefusal}
use Rattle.mailparse.specs.Views.{tree_of}
use Rattle.mailparse.specs.declared.error.MailParseError.{MailParseError}
use Rattle.mailparse.proofs.lemmas.Outcome.{IsRefusalOrMemory-from}
use Rattle.mail_read.specs.lenient.Content.{Content, message_content, whole}
use Rattle.mail_read.specs.lenient.ContentViews.{content_view}
use Rattle.mail_read.specs.lenient.Encoding.{lenient_body_kind}
use Rattle.mail_records.proofs.results.whole_content.Goals as goal

-- the bytes of a content that is whole are those of one that is the same
whole-same : {X : Type 0} (view : X → List ℕ) (result : Result X MailParseError) (content other : Content) → content ≡ other
    → Answers view result (whole content) → AnswersOrMemory view result (whole other)
whole-same view (Ok x) content other is h = ap whole (sym is) ∙ h
whole-same view (Err e) content other is h = IsRefusalOrMemory-from e (whole other) (subst (λ (c : Content). IsRefusal e (whole c)) is h)

pub returns : goal.returns
returns c =
    let node = root (tree_of c.args.part.now) in
    whole-same cow_slice_items c.whole.result (content_view c.in_ok-content.content) (message_content node)
    (c.in_ok-content.ensures.read (lenient_body_kind node) (content_of node) c.in_ok-body.ensures.read) c.whole.ensures
