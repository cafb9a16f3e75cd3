use Rattle.std.proofs.Common.{rules, map, ap, ◌∙◌}
use Rattle.std.specs.String.{string_bytes}
use Rattle.mail_read.specs.lenient.IdViews.{needs_at}
use Rattle.mail_read.proofs.lemmas.lenient.Ids.{ids-none, ids-start}
use Rattle.mail_read.proofs.lenient.ids.find_ids.Goals as goal

pub returns-in_default : goal.returns-in_default
returns-in_default c =
    ids-none (needs_at c.args.rule) c.args.text.now c.as_str-plain.result.now _ _ (c.as_str-plain.ensures.value ∙ c.in_ok-kept.ensures)
    c.in_default.ensures.opened c.in_ok-push_bare_id.ensures (ap (map string_bytes) c.new-ids.ensures.items)

pub pieces-init : goal.pieces-init
pieces-init c = record {
  utf8 = search rules;
  all = ids-start (needs_at c.args.rule) c.args.text.now c.as_str-plain.result.now c.in-Some.field-0-0.now c.in-Some.first.now (map string_bytes c.new-ids.result.items)
      (c.as_str-plain.ensures.value ∙ c.in_ok-kept.ensures) c.in-Some.ensures.pieces c.in-Some.ensures.opened (ap (map string_bytes) c.new-ids.ensures.items);
}
