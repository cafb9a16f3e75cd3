use Rattle.std.proofs.Common.{ℕ, Bool, ◌==◌, ◌-◌, take, drop, length, sym, ◌∙◌, arith}
use Rattle.std.proofs.lemmas.List.{length-drop, length-take-le}
use Rattle.mail_codec.proofs.lemmas.PlacesSearches.{found_front, free_front, last_chunk}
use Rattle.mail_codec.proofs.lemmas.Vectors.{no_match}
use Rattle.mail_codec.proofs.bytescan.single.overlapping_len.Goals as goal

pub returns-then-front-ne0-clause-least : goal.returns-then-front-ne0-clause-least
returns-then-front-ne0-clause-least g c =
    let test : ℕ → Bool = λ b. b == c.args.wanted in
    let bytes = c.args.bytes.now in
    let n = g.row.N in
    let long = length-take-le n bytes c.requires.fits in
    let first = c.first_match.ensures.least test (take n bytes) (omega (arith, long, c.requires.size)) c.equal_lanes-front.ensures in
    omega (arith, first.0, found_front test n bytes (omega (arith, first.0, first.1, long)) c.requires.fits)

pub returns-then-back-eq0-clause-least : goal.returns-then-back-eq0-clause-least
returns-then-back-eq0-clause-least g c =
    let test : ℕ → Bool = λ b. b == c.args.wanted in
    let bytes = c.args.bytes.now in
    let n = g.row.N in
    let last = length bytes - n in
    let back = take n (drop last bytes) in
    let none = no_match test (take n bytes) c.equal_lanes-front.result c.equal_lanes-front.ensures c.if-front-ne0.false in
    let passed = free_front test n bytes c.requires.fits (sym none ∙ length-take-le n bytes c.requires.fits) in
    let long = length-take-le n (drop last bytes) (omega (arith, c.requires.fits, length-drop last bytes)) in
    let all = no_match test back c.equal_lanes-back.result c.equal_lanes-back.ensures c.if-back-eq0.true in
    let place = last_chunk test bytes n n last n (record { within = c.requires.fits; later = passed }) (omega (arith, c.requires.fits)) (omega (arith, c.requires.covers)) (sym long ∙ all) in
    omega (arith, place, c.requires.fits)

pub returns-clause-least : goal.returns-clause-least
returns-clause-least g c =
    let test : ℕ → Bool = λ b. b == c.args.wanted in
    let bytes = c.args.bytes.now in
    let n = g.row.N in
    let last = length bytes - n in
    let back = take n (drop last bytes) in
    let none = no_match test (take n bytes) c.equal_lanes-front.result c.equal_lanes-front.ensures c.if-front-ne0.false in
    let passed = free_front test n bytes c.requires.fits (sym none ∙ length-take-le n bytes c.requires.fits) in
    let long = length-take-le n (drop last bytes) (omega (arith, c.requires.fits, length-drop last bytes)) in
    let found = c.first_match-2.ensures.least test back (omega (arith, long, c.requires.size)) c.equal_lanes-back.ensures in
    let place = last_chunk test bytes n n last c.first_match-2.result (record { within = c.requires.fits; later = passed }) (omega (arith, c.requires.fits)) (omega (arith, c.requires.covers)) found.0 in
    omega (arith, place)
