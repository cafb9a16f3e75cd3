use Rattle.std.proofs.Common.{ℕ, Bool, ◌==◌, take, ap, sym, ◌∙◌, arith}
use Rattle.std.proofs.lemmas.List.{length-take-le, take_rest}
use Rattle.mail_codec.specs.Places.{begins, first_place}
use Rattle.mail_codec.proofs.lemmas.PlacesSearches.{found_front, free_front}
use Rattle.mail_codec.proofs.lemmas.Vectors.{no_match}
use Rattle.mail_codec.proofs.bytescan.single.byte_len.Goals as goal

pub returns-then-mask-ne0-clause-least : goal.returns-then-mask-ne0-clause-least
returns-then-mask-ne0-clause-least c =
    let test : ℕ → Bool = λ b. b == c.args.wanted in
    let bytes = c.args.bytes.now in
    let long = length-take-le 64 bytes (omega arith) in
    let first = c.first_match.ensures.least test (take 64 bytes) (omega (arith, long)) c.equal_lanes-mask.ensures in
    omega (arith, first.0, found_front test 64 bytes (omega (arith, first.0, first.1, long)) (omega arith))

pub returns-clause-least : goal.returns-clause-least
returns-clause-least c =
    let test : ℕ → Bool = λ b. b == c.args.wanted in
    let bytes = c.args.bytes.now in
    let none = no_match test (take 64 bytes) c.equal_lanes-mask.result c.equal_lanes-mask.ensures c.if-mask-ne0.false in
    let passed = free_front test 64 bytes (omega arith) (sym none ∙ length-take-le 64 bytes (omega arith)) in
    let rest = ap (first_place (begins test)) (take_rest bytes 64) in
    omega (arith, passed, rest, c.rest_len.ensures.least)
