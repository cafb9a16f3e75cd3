use Rattle.std.proofs.Common.{◌≡◌, ◌+◌, [], ◌∷◌, Ok, length, ap, ◌∙◌, arith, length-append}
use Rattle.std.proofs.lemmas.List.{take_rest}
use Rattle.mailparse.proofs.lemmas.Block.{ended_further, found_further, count_further, place_further, read_headers-bounded}
use Rattle.mailparse.proofs.headers.block.parse_headers.Goals as goal

pub returns-in-Some-clause-bounds : goal.returns-in-Some-clause-bounds
returns-in-Some-clause-bounds c =
    let ends = rw take_rest at c.in_ok-length.ensures in
    let is = ended_further c.args.raw.now c.loop-headers.headers.items c.loop-headers.place c.loop-headers.invariant.all c.in-Some.length (ends ∙ ap (λ o. Ok o) c.in-Some.is) in
    let bounded = read_headers-bounded c.args.raw.now _ is in
    let many = bounded.headers in
    (omega (arith, c.loop-headers.headers.ok.0), bounded.index)

pub returns-in_err-push_header-clause-no_alloc : goal.returns-in_err-push_header-clause-no_alloc
returns-in_err-push_header-clause-no_alloc c = λ none.
    let found = rw take_rest at c.in_ok-header.ensures.read in
    let ends = rw take_rest at c.in_ok-length.ensures in
    let more = count_further c.args.raw.now c.loop-headers.place (c.in_ok-header.header, c.in_ok-header.length) (ends ∙ ap (λ o. Ok o) c.in_default.is) found in
    let count = c.loop-headers.invariant.count in
    absurd (omega arith)

pub loop-headers-preserved : goal.loop-headers-preserved
loop-headers-preserved c =
    let raw = c.args.raw.now in
    let place = c.loop-headers.place in
    let found = rw take_rest at c.in_ok-header.ensures.read in
    let ends = rw take_rest at c.in_ok-length.ensures in
    let none = ends ∙ ap (λ o. Ok o) c.in_default.is in
    let moves = place_further raw place (c.in_ok-header.header, c.in_ok-header.length) c.loop-headers.invariant.within none found in
    let size : length c.push_header.new.headers.items ≡ length c.loop-headers.headers.items + 1 = ap length c.in_ok-push_header.ensures ∙ length-append c.loop-headers.headers.items (c.in_ok-header.header ∷ []) in
    let fewer = count_further raw place (c.in_ok-header.header, c.in_ok-header.length) none found in
    let count = c.loop-headers.invariant.count in
    record {
      within = moves.1;
      all = rw c.in_ok-push_header.ensures (found_further raw c.loop-headers.headers.items place c.loop-headers.invariant.all (c.in_ok-header.header, c.in_ok-header.length) none found);
      count = omega arith;
    }
