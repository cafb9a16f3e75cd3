use Rattle.std.proofs.Common.{ℕ, Bool, ◌==◌, ◌||◌, take, ap, sym, ◌∙◌, arith}
use Rattle.std.proofs.lemmas.List.{length-take-le, take_rest}
use Rattle.mail_codec.specs.Places.{begins, first_place}
use Rattle.mail_codec.proofs.lemmas.PlacesSearches.{found_front, free_front}
use Rattle.mail_codec.proofs.lemmas.Vectors.{no_match}
use Rattle.mail_codec.proofs.bytescan.alternatives.either_len.Goals as goal

abbrev is_either : ℕ → ℕ → ℕ → Bool
is_either first second b = b == first || b == second

pub returns-then-mask-ne0-clause-least : goal.returns-then-mask-ne0-clause-least
returns-then-mask-ne0-clause-least c =
    let test = is_either c.args.first c.args.second in
    let bytes = c.args.bytes.now in
    let long = length-take-le 32 bytes (omega arith) in
    let first = c.first_match.ensures.least test (take 32 bytes) (omega (arith, long)) c.either_lanes-mask.ensures in
    omega (arith, first.0, found_front test 32 bytes (omega (arith, first.0, first.1, long)) (omega arith))

pub returns-then-mask-ne0-clause-bounds : goal.returns-then-mask-ne0-clause-bounds
returns-then-mask-ne0-clause-bounds c =
    let long = length-take-le 32 c.args.bytes.now (omega arith) in
    let first = c.first_match.ensures.least (is_either c.args.first c.args.second) (take 32 c.args.bytes.now) (omega (arith, long)) c.either_lanes-mask.ensures in
    omega (arith, first.1, long)

pub returns-clause-least : goal.returns-clause-least
returns-clause-least c =
    let test = is_either c.args.first c.args.second in
    let bytes = c.args.bytes.now in
    let none = no_match test (take 32 bytes) c.either_lanes-mask.result c.either_lanes-mask.ensures c.if-mask-ne0.false in
    let passed = free_front test 32 bytes (omega arith) (sym none ∙ length-take-le 32 bytes (omega arith)) in
    let rest = ap (first_place (begins test)) (take_rest bytes 32) in
    omega (arith, passed, rest, c.few_len-2.ensures.least)
