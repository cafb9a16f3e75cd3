use Rattle.std.proofs.Common.{◌+◌, ◌-◌, ◌||◌, ◌==◌, take, drop, get_or, length, ap, sym, ◌∙◌, arith, length-drop}
use Rattle.std.proofs.lemmas.Bool.{eq-eqb}
use Rattle.std.proofs.lemmas.List.{drop_more, take_rest}
use Rattle.mail_codec.specs.Places.{begins}
use Rattle.mail_codec.proofs.lemmas.PlacesSearches.{place_some}
use Rattle.mail_read.proofs.lemmas.lenient.Usual.{usual-quoted, usual-word}
use Rattle.mail_read.proofs.lemmas.lenient.UsualTypes.{reads-quoted, reads-run}
use Rattle.mail_read.proofs.lenient.usual.text_at.Goals as goal

pub returns-then-not-is_at : goal.returns-then-not-is_at
returns-then-not-is_at c =
    let bytes = c.args.bytes.now in
    let end = c.run_end-end.ensures in
    record {
      order = (omega arith, omega (arith, end.end), omega arith, end.bounds);
      ends = usual-word bytes c.args.from c.run_end-end.result end.end;
      means = λ _. reads-run bytes c.args.from c.run_end-end.result end.end;
    }

pub returns : goal.returns
returns c =
    let bytes = c.args.bytes.now in
    let from = c.args.from in
    let count = c.in_ok-length.length in
    let found = sym c.in_ok-length.was ∙ c.find_either.ensures in
    let rest = take (length bytes - (from + 1)) (drop (from + 1) bytes) in
    let same = take_rest bytes (from + 1) in
    let low = place_some (begins (λ b. b == 34 || b == 92)) rest count found in
    let size = length-drop (from + 1) bytes in
    let inside = ap (λ xs. length xs) same in
    let is = sym c.is_at.ensures ∙ c.if-not-is_at.false in
    let quote = ap (begins (λ b. b == 34)) (drop_more bytes (from + 1 + count) 0 (omega (arith, low.0, low.1, size, inside))) ∙ eq-eqb (get_or bytes (from + 1 + count) 0) 34 c.if-bytes-stop-ne34.false in
    record {
      order = (omega arith, omega arith, omega arith, omega (arith, low.0, low.1, size, inside));
      ends = usual-quoted bytes rest from count is same found quote;
      means = reads-quoted bytes rest from count is same found quote;
    }
