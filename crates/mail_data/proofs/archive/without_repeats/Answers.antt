use Rattle.std.proofs.Common.{map, not, sym, ap, ◌∙◌, true}
use Rattle.std.proofs.lemmas.List.{map_push}
use Rattle.std.proofs.lemmas.Map.Text.{btree_set_updates_text}
use Rattle.std.specs.BTreeSet.{contains_text}
use Rattle.std.specs.String.{string_bytes}
use Rattle.mail_data.specs.Archive.{without_repeats}
use Rattle.mail_data.proofs.lemmas.Archive.{kept-new, kept-old, seen-next, is_among_ids}
use Rattle.mail_data.proofs.archive.without_repeats.Goals as goal

pub loop-id-preserved-in_ok-push : goal.loop-id-preserved-in_ok-push
loop-id-preserved-in_ok-push c =
    let ids = map string_bytes c.loop-id.yielded in
    let id = string_bytes c.in-Some.id in
    let key = string_bytes c.in_ok-clone.field-0 in
    let pushed = sym (map_push string_bytes c.loop-id.yielded c.in-Some.id) in
    record {
      kept = kept-new ids (map string_bytes c.loop-id.kept.items) (map string_bytes c.push.new.self.items) id c.in_ok-insert.field-0 c.loop-id.invariant.kept
          (c.in_ok-insert.ensures.added ∙ ap not (c.loop-id.invariant.seen key) ∙ ap (λ k. not (is_among_ids k ids)) c.in_ok-clone.ensures.cases) c.if-branch.true
          (ap (map string_bytes) c.in_ok-push.ensures.items ∙ map_push string_bytes c.loop-id.kept.items c.in-Some.id)
          ∙ ap without_repeats pushed;
      seen = λ q.
          seen-next ids id key q (contains_text c.loop-id.seen q) (contains_text c.insert.new.self q) c.in_ok-clone.ensures.cases
          (btree_set_updates_text key c.loop-id.seen c.insert.new.self true c.in_ok-insert.ensures.updates q) (c.loop-id.invariant.seen q)
          ∙ ap (is_among_ids q) pushed;
    }

pub loop-id-preserved : goal.loop-id-preserved
loop-id-preserved c =
    let ids = map string_bytes c.loop-id.yielded in
    let id = string_bytes c.in-Some.id in
    let key = string_bytes c.in_ok-clone.field-0 in
    let pushed = sym (map_push string_bytes c.loop-id.yielded c.in-Some.id) in
    record {
      kept = kept-old ids (map string_bytes c.loop-id.kept.items) id c.in_ok-insert.field-0 c.loop-id.invariant.kept
          (c.in_ok-insert.ensures.added ∙ ap not (c.loop-id.invariant.seen key) ∙ ap (λ k. not (is_among_ids k ids)) c.in_ok-clone.ensures.cases) c.if-branch.false
          ∙ ap without_repeats pushed;
      seen = λ q.
          seen-next ids id key q (contains_text c.loop-id.seen q) (contains_text c.insert.new.self q) c.in_ok-clone.ensures.cases
          (btree_set_updates_text key c.loop-id.seen c.insert.new.self true c.in_ok-insert.ensures.updates q) (c.loop-id.invariant.seen q)
          ∙ ap (is_among_ids q) pushed;
    }
