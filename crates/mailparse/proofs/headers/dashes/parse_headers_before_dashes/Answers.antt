use Rattle.std.proofs.Common.{◌≡◌, true, ◌<◌, length, ap, subst, sym, ◌∙◌, arith}
use Rattle.std.specs.List.{list_all}
use Rattle.std.specs.Vec.{vec_len}
use Rattle.std.proofs.lemmas.Bool.{eqb-false}
use Rattle.std.proofs.lemmas.Result.{IfOk-weaker}
use Rattle.mailparse.specs.Block.{read_headers}
use Rattle.mailparse.specs.Outcome.{IsRefusal}
use Rattle.mailparse.specs.Views.{header_list}
use Rattle.mailparse.specs.private.Dashes.{is_dashless}
use Rattle.mailparse.proofs.lemmas.DashLines.{dashless, no_header}
use Rattle.mailparse.proofs.lemmas.HeaderPart.{header_part-≤}
use Rattle.mailparse.proofs.headers.dashes.parse_headers_before_dashes.Goals as goal

-- no line ended the headers before their blank line
pub returns-then-are_dashless-clause-read : goal.returns-then-are_dashless-clause-read
returns-then-are_dashless-clause-read c =
    let keys : list_all is_dashless c.in-Ok.headers.items ≡ true = ap (list_all is_dashless) (sym c.as_slice.ensures.value) ∙ sym c.are_dashless.ensures ∙ c.if-are_dashless.true in
    let filled = eqb-false (vec_len c.in-Ok.headers) 0 (sym c.is_empty.ensures ∙ c.if-not-is_empty.true) in
    let some : 0 < length c.in-Ok.headers.items = omega (arith, filled, c.in-Ok.headers.ok.0) in
    ap read_headers (dashless c.args.raw.now (header_list (c.in-Ok.headers, c.in-Ok.body)) c.in-Ok.ensures.read some keys) ∙ c.in-Ok.ensures.read

pub returns-then-are_dashless-clause-no_alloc : goal.returns-then-are_dashless-clause-no_alloc
returns-then-are_dashless-clause-no_alloc c none = returns-then-are_dashless-clause-read c

-- without a header no memory is taken
pub returns-in-Memory-clause-no_alloc : goal.returns-in-Memory-clause-no_alloc
returns-in-Memory-clause-no_alloc c none =
    subst (λ e. IsRefusal e (read_headers c.args.raw.now)) c.in-Memory.is (c.in-Err.ensures.no_alloc (no_header c.args.raw.now none))

-- they are within the bytes before such a line
pub returns-clause-bounds : goal.returns-clause-bounds
returns-clause-bounds c =
    let size = header_part-≤ true c.args.raw.now in
    let same = ap length c.before_dash_line.ensures in
    IfOk-weaker c.parse_headers-2.result _ _ (λ found bounds. (bounds.0, omega (arith, bounds.1, size, same))) c.parse_headers-2.ensures.bounds
