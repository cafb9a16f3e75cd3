use Rattle.std.proofs.Common.{ℕ, List, length, ap, ◌∙◌, sym, arith, length-drop}
use Rattle.std.proofs.lemmas.List.{append-nil, take_rest}
use Rattle.mailparse.specs.Header.{header_length, value_end, value_start}
use Rattle.mailparse.proofs.lemmas.Block.{header_place-first}
use Rattle.mail_records.proofs.lemmas.FirstHeaders.{first-header}
use Rattle.mail_records.specs.Records.{bare_key_end}
use Rattle.mail_records.proofs.lemmas.Records.{next_header, next_place}
use Rattle.mail_records.proofs.records.push_read_headers.Goals as goal

pub loop-header-init : goal.loop-header-init
loop-header-init c = record { at = sym (header_place-first c.args.raw.now); within = omega arith; made = sym (append-nil _) }

pub places_of-cut-requires : goal.places_of-cut-requires
places_of-cut-requires c =
    let raw = c.args.raw.now in
    first-header raw _ c.loop-header.at (take_rest raw c.loop-header.at) c.args.headers.now c.loop-header.header-index c.header-item.result c.requires c.loop-header.invariant.at (omega arith) c.header-item.is

pub loop-header-preserved : goal.loop-header-preserved
loop-header-preserved c =
    let raw = c.args.raw.now in
    let at = c.loop-header.at in
    let before = c.loop-header.invariant in
    let is = c.places_of-cut.ensures in
    let rest = take_rest raw at in
    let key = is.key ∙ ap bare_key_end rest in
    let start = is.start ∙ ap value_start rest in
    let last = is.end ∙ ap value_end rest in
    let len = is.len ∙ ap header_length rest in
    let fits = is.order.3 in
    record {
      at = next_place raw c.loop-header.header-index at _ before.at len;
      within = omega (arith, fits, ap (λ (t : List ℕ). length t) rest, length-drop at raw, before.within);
      made = next_header c.args.start raw c.loop-header.header-index at _ _ _ _ _ _ _ before.at key start last len before.made c.in_ok-push.ensures.items;
    }
