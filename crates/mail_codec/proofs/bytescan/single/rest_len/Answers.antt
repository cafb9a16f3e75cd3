use Rattle.std.proofs.Common.{◌≡◌, ℕ, List, ◌==◌, ◌+◌, drop, ap, arith}
use Rattle.std.proofs.lemmas.List.{drop-drop, length-take-le, take_rest}
use Rattle.mail_codec.specs.Places.{begins, first_place}
use Rattle.mail_codec.proofs.lemmas.PlacesSearches.{found_front, free_front}
use Rattle.mail_codec.proofs.bytescan.single.rest_len.Goals as goal

pub returns-then-place-ne-NEAR-clause-least : goal.returns-then-place-ne-NEAR-clause-least
returns-then-place-ne-NEAR-clause-least c =
    let e = c.few_len-place.ensures in
    let long = length-take-le 512 c.args.bytes.now (omega arith) in
    let same = found_front (λ b. b == c.args.wanted) 512 c.args.bytes.now (omega (arith, e.least, e.bounds, long, c.if-place-ne-NEAR.true)) (omega arith) in
    omega (arith, e.least, same)

pub returns-then-place-ne-NEAR-clause-bounds : goal.returns-then-place-ne-NEAR-clause-bounds
returns-then-place-ne-NEAR-clause-bounds c =
    omega (arith, c.few_len-place.ensures.bounds, length-take-le 512 c.args.bytes.now (omega arith))

pub slice_bounds-few_len-end : goal.slice_bounds-few_len-end
slice_bounds-few_len-end c = omega (arith, length-take-le 512 c.args.bytes.now (omega arith))

pub returns-clause-least : goal.returns-clause-least
returns-clause-least c =
    let test = begins (λ b. b == c.args.wanted) in
    let bytes = c.args.bytes.now in
    let near = free_front (λ b. b == c.args.wanted) 512 bytes (omega arith) (omega (arith, c.few_len-place.ensures.least, c.if-place-ne-NEAR.false)) in
    let free = c.free_len-next.ensures.passed in
    let there : first_place test (drop c.free_len-next.result (drop 512 bytes)) ≡ first_place test (drop (512 + c.free_len-next.result) bytes) = ap (first_place test) (drop-drop c.free_len-next.result 512 bytes) in
    let slice = ap (first_place test) (take_rest bytes 512) in
    let after = ap (λ (xs : List ℕ). first_place test (drop c.free_len-next.result xs)) (take_rest bytes 512) in
    let last = ap (first_place test) (take_rest bytes (512 + c.free_len-next.result)) in
    omega (arith, near, free, slice, after, there, last, c.few_len-rest.ensures.least)
