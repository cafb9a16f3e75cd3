use Rattle.std.proofs.Common.{◌∙◌, sym}
use Rattle.std.proofs.lemmas.List.{take_rest}
use Rattle.mail_codec.proofs.lemmas.Places.{PassedTo-first, PassedTo-more}
use Rattle.mail_html.specs.Tags.{closes_comment}
use Rattle.mail_html.proofs.lemmas.Tags.{closes_by_hyphen, candidate, no_candidate}
use Rattle.mail_html.proofs.tags.close_place.Goals as goal

pub returns-then-closes_comment-clause-value : goal.returns-then-closes_comment-clause-value
returns-then-closes_comment-clause-value c =
    let at = candidate closes_comment 45 closes_by_hyphen c.args.bytes.now _ _ c.hyphens.at c.hyphens.invariant (take_rest c.args.bytes.now c.hyphens.at) _ c.in-Some.ensures in
    sym (PassedTo-first closes_comment c.args.bytes.now _ _ at.0 (rw take_rest at (sym c.closes_comment.ensures ∙ c.if-closes_comment.true)))

pub hyphens-preserved : goal.hyphens-preserved
hyphens-preserved c =
    let at = candidate closes_comment 45 closes_by_hyphen c.args.bytes.now _ _ c.hyphens.at c.hyphens.invariant (take_rest c.args.bytes.now c.hyphens.at) _ c.in-Some.ensures in
    PassedTo-more closes_comment c.args.bytes.now _ _ at.0 at.1 (rw take_rest at (sym c.closes_comment.ensures ∙ c.if-closes_comment.false))

pub returns-clause-value : goal.returns-clause-value
returns-clause-value c = no_candidate closes_comment 45 closes_by_hyphen c.args.bytes.now _ _ c.hyphens.at c.hyphens.invariant (take_rest c.args.bytes.now c.hyphens.at) c.in_default.ensures
