use Rattle.std.proofs.Common.{ℕ, List, length, ap, ◌∙◌, arith, length-drop}
use Rattle.std.proofs.lemmas.List.{append-nil, take_rest}
use Rattle.std.proofs.Common.{sym}
use Rattle.mailparse.specs.Header.{header_length, value_end, value_start}
use Rattle.mailparse.proofs.lemmas.Block.{header_place-first}
use Rattle.mail_records.specs.Records.{bare_key_end}
use Rattle.mail_records.proofs.lemmas.Records.{next_header, next_place}
use Rattle.mail_records.proofs.records.push_headers.Goals as goal

pub loop-number-init : goal.loop-number-init
loop-number-init c = record { at = sym (header_place-first c.args.raw.now); within = omega arith; made = sym (append-nil _) }

pub loop-number-preserved : goal.loop-number-preserved
loop-number-preserved c =
    let raw = c.args.raw.now in
    let at = c.loop-number.at in
    let before = c.loop-number.invariant in
    let is = c.header_places-places.ensures in
    let rest = take_rest raw at in
    let key = c.bare_key_end-key_end.ensures.value ∙ ap bare_key_end rest in
    let start = is.start ∙ ap value_start rest in
    let last = is.end ∙ ap value_end rest in
    let len = is.len ∙ ap header_length rest in
    let fits = is.order.3 in
    record {
      at = next_place raw c.loop-number.number at _ before.at len;
      within = omega (arith, fits, ap (λ (t : List ℕ). length t) rest, length-drop at raw, before.within);
      made = next_header c.args.start raw c.loop-number.number at _ _ _ _ _ _ _ before.at key start last len before.made c.in_ok-push.ensures.items;
    }
