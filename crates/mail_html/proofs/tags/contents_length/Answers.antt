use Rattle.std.proofs.Common.{◌∙◌, sym}
use Rattle.std.proofs.lemmas.List.{take_rest}
use Rattle.mail_codec.proofs.lemmas.Places.{PassedTo-first, PassedTo-more}
use Rattle.mail_html.specs.Tags.{is_end_tag}
use Rattle.mail_html.proofs.lemmas.Tags.{ends_by_less, candidate, no_candidate}
use Rattle.mail_html.proofs.tags.contents_length.Goals as goal

pub returns-then-is_end_tag-clause-value : goal.returns-then-is_end_tag-clause-value
returns-then-is_end_tag-clause-value c =
    let at = candidate (is_end_tag c.args.name.now) 60 (ends_by_less c.args.name.now) c.args.bytes.now _ _ c.tags.at c.tags.invariant (take_rest c.args.bytes.now c.tags.at) _ c.in-Some.ensures in
    sym (PassedTo-first (is_end_tag c.args.name.now) c.args.bytes.now _ _ at.0 (rw take_rest at (sym c.is_end_tag.ensures ∙ c.if-is_end_tag.true)))

pub tags-preserved : goal.tags-preserved
tags-preserved c =
    let at = candidate (is_end_tag c.args.name.now) 60 (ends_by_less c.args.name.now) c.args.bytes.now _ _ c.tags.at c.tags.invariant (take_rest c.args.bytes.now c.tags.at) _ c.in-Some.ensures in
    PassedTo-more (is_end_tag c.args.name.now) c.args.bytes.now _ _ at.0 at.1 (rw take_rest at (sym c.is_end_tag.ensures ∙ c.if-is_end_tag.false))

pub returns-clause-value : goal.returns-clause-value
returns-clause-value c = no_candidate (is_end_tag c.args.name.now) 60 (ends_by_less c.args.name.now) c.args.bytes.now _ _ c.tags.at c.tags.invariant (take_rest c.args.bytes.now c.tags.at) c.in_default.ensures
