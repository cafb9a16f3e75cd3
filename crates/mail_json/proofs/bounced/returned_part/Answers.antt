use Rattle.std.proofs.Common.{List, [], ◌∷◌, ◌++◌, ◌+◌, drop, map, ap, sym, subst, ◌∙◌, arith}
use Rattle.std.proofs.lemmas.List.{drop_all}
use Rattle.std.specs.List.{AllByRecursion}
use Rattle.mailparse.proofs.lemmas.Mail.{trees_within-out}
use Rattle.mailparse.specs.Mail.{Tree, forest, trees_in, trees_within}
use Rattle.mailparse.specs.Views.{tree_of}
use Rattle.mailparse.specs.declared.mail.message.ParsedMail.{ParsedMail}
use Rattle.mail_data.specs.Bounce.{first_part, has_original}
use Rattle.mail_parts.specs.DecodedViews.{IsDecoded}
use Rattle.mail_json.proofs.lemmas.Bounced.{first_decoded, first_found, no_report, report_found, returned_first, returned_later, trees_after}
use Rattle.mail_parts.proofs.lemmas.Decoded.{all_drop}
use Rattle.mail_json_text.proofs.lemmas.JsonText.{drop_next}
use Rattle.mail_json.proofs.bounced.returned_part.Goals as goal

pub returns-then-not-has_type-clause-tree : goal.returns-then-not-has_type-clause-tree
returns-then-not-has_type-clause-tree c = no_report c.args.mail.now (sym c.has_type.ensures ∙ c.if-not-has_type.true)

pub loop-part-init : goal.loop-part-init
loop-part-init c =
    let mail = c.args.mail.now in
    let whole = trees_within-out mail ∙ ap (λ (ms : List ParsedMail). tree_of mail ∷ trees_in (forest (map tree_of ms))) (sym c.deref-part-items.ensures.value) in
    record {
      left = trees_after (tree_of mail ∷ []) _ _ c.args.parts.now c.after_first-rest.result.now whole c.after_first-rest.ensures c.requires.whole;
      found = report_found mail _ c.deref-part-items.ensures.value (sym c.has_type.ensures ∙ c.if-not-has_type.false);
      decoded = λ decodes all. subst (AllByRecursion (IsDecoded decodes)) (sym c.after_first-rest.ensures) (all_drop (IsDecoded decodes) 1 c.args.parts.now all);
    }

pub loop-part-preserved : goal.loop-part-preserved
loop-part-preserved c =
    let items = c.deref-part-items.result.now in
    let part = c.part-item.result in
    let next = drop_next items c.loop-part.part-index part (omega arith) c.part-item.is in
    record {
      left = trees_after (trees_within (tree_of part)) (trees_in (forest (map tree_of (drop (c.loop-part.part-index + 1) items)))) _ c.loop-part.rest.now c.after_part-rest.result.now
          (ap (λ (ms : List ParsedMail). trees_in (forest (map tree_of ms))) next) c.after_part-rest.ensures c.loop-part.invariant.left;
      found = returned_later (tree_of part) _ _ _ (ap (map tree_of) next) (sym c.is_returned.ensures ∙ c.if-is_returned.false) c.loop-part.invariant.found;
      decoded = λ decodes all. subst (AllByRecursion (IsDecoded decodes)) (sym c.after_part-rest.ensures) (all_drop (IsDecoded decodes) _ c.loop-part.rest.now (c.loop-part.invariant.decoded decodes all));
    }

pub returns-then-is_returned-clause-tree : goal.returns-then-is_returned-clause-tree
returns-then-is_returned-clause-tree c =
    let items = c.deref-part-items.result.now in
    let part = c.part-item.result in
    let next = drop_next items c.loop-part.part-index part (omega arith) c.part-item.is in
    let later = trees_in (forest (map tree_of (drop (c.loop-part.part-index + 1) items))) in
    let left =
    c.loop-part.invariant.left ∙ ap (λ (ms : List ParsedMail). trees_in (forest (map tree_of ms))) next ∙ ap (λ (ts : List Tree). ts ++ later) (trees_within-out part) in
    let found = returned_first (tree_of part) _ _ _ (ap (map tree_of) next) (sym c.is_returned.ensures ∙ c.if-is_returned.true) c.loop-part.invariant.found in
    first_found c.loop-part.rest.now c.first.result (tree_of part) _ _ c.first.ensures.value left found

pub returns-then-is_returned-clause-decoded : goal.returns-then-is_returned-clause-decoded
returns-then-is_returned-clause-decoded c = λ decodes all.
    first_decoded (IsDecoded decodes) c.loop-part.rest.now c.first.result c.first.ensures.value (c.loop-part.invariant.decoded decodes all)

pub returns-clause-tree : goal.returns-clause-tree
returns-clause-tree c =
    ap (λ (ms : List ParsedMail). first_part has_original (forest (map tree_of ms))) (sym (drop_all c.loop-part.part-index c.deref-part-items.result.now (omega arith)))
    ∙ c.loop-part.invariant.found
