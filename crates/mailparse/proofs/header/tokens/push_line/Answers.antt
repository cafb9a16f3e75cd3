use Rattle.std.proofs.Common.{◌≡◌, ◌≢◌, ◌+◌, true, false, length, sym, ap, subst, ◌∙◌, arith}
use Rattle.std.proofs.lemmas.List.{take_rest}
use Rattle.std.proofs.lemmas.Result.{on_ok_weaker}
use Rattle.std.proofs.lemmas.Str.{IsCharBoundary-start}
use Rattle.std.specs.Option.{option_map}
use Rattle.std.specs.String.{string_bytes}
use Rattle.mailparse.specs.Tokens.{boundary_before, closing}
use Rattle.mailparse.proofs.lemmas.Cuts.{KeepsClosing_none, KeepsClosing_found, KeepsClosing_later}
use Rattle.mailparse.proofs.lemmas.Tokens.{closing_within}
use Rattle.mailparse.proofs.lemmas.Unfolded.{Completes, Completes_first, boundary_of_front, step_no_boundary, step_no_closing, step_decoded, step_stays, step_last}
use Rattle.mailparse.proofs.header.tokens.push_line.Goals as goal
use Rattle.mailparse.proofs.header.tokens.push_line.Goals.{in-Some-2+in_ok-push-in-Some-2, in-None+in_ok-push-in-None}

pub loop-open-init : goal.loop-open-init
loop-open-init g c = record {
  in_line = omega arith;
  boundary = IsCharBoundary-start c.args.line.now c.utf8.line;
  completes = Completes_first (g.K.KnownCharsets.known c.args.known.now) c.args.line.now c.args.unfolded.now;
  keeps = KeepsClosing_none c.args.line.now;
}

pub loop-open-preserved-then-not-ends_with_boundary : goal.loop-open-preserved-then-not-ends_with_boundary
loop-open-preserved-then-not-ends_with_boundary g c =
    let line = c.args.line.now in
    let s = c.loop-open.start in
    let v = c.in-Some.open in
    let at = c.in-Some.ensures in
    let out : boundary_before line v ≡ false =
    boundary_of_front line c.range.result.now v false c.range.ensures.value
    (sym c.if-not-ends_with_boundary.true ∙ c.ends_with_boundary.ensures) in
    record {
      in_line = at.cut.fits;
      boundary = at.cut.after;
      completes = step_no_boundary (g.K.KnownCharsets.known c.args.known.now) line s v c.args.unfolded.now c.loop-open.unfolded c.push.new.self c.range-then-not-ends_with_boundary.result.now at.least at.some out
          c.range-then-not-ends_with_boundary.ensures.value c.in_ok-push.ensures c.loop-open.invariant.completes;
      keeps = KeepsClosing_later line (s + 2) (v + 2 + 2) c.loop-open.close (omega (arith, at.ahead)) c.loop-open.invariant.keeps;
    }

pub loop-open-preserved-then-close-line : goal.loop-open-preserved-then-close-line
loop-open-preserved-then-close-line g c =
    let line = c.args.line.now in
    let s = c.loop-open.start in
    let v = c.in-Some.open in
    let at = c.in-Some.ensures in
    let beside : boundary_before line v ≡ true =
    boundary_of_front line c.range.result.now v true c.range.ensures.value
    (sym c.if-not-ends_with_boundary.false ∙ c.ends_with_boundary.ensures) in
    let close : closing line (v + 2) ≡ length line = sym c.find_closing_or_keep-close.ensures.least ∙ omega arith in
    record {
      in_line = at.cut.fits;
      boundary = at.cut.after;
      completes = step_no_closing (g.K.KnownCharsets.known c.args.known.now) line s v c.args.unfolded.now c.loop-open.unfolded c.push-in-Some.new.self c.push-then-close-line.new.self _ c.range-in-Some.result.now c.range-then-close-line.result.now at.least at.some beside close
          c.outside_token.ensures c.range-in-Some.ensures.value c.range-then-close-line.ensures.value c.in_ok-push-2.ensures c.in_ok-push-3.ensures
          c.loop-open.invariant.completes;
      keeps = KeepsClosing_later line (v + 2) (v + 2 + 2) c.find_closing_or_keep-close.result (omega arith)
          (KeepsClosing_found line (v + 2) c.find_closing_or_keep-close.result (sym c.find_closing_or_keep-close.ensures.least));
    }

pub loop-open-preserved : goal.loop-open-preserved
loop-open-preserved g c =
    let line = c.args.line.now in
    let s = c.loop-open.start in
    let v = c.in-Some.open in
    let e = c.find_closing_or_keep-close.result in
    let at = c.in-Some.ensures in
    let before = c.args.unfolded.now in
    let value = c.loop-open.unfolded in
    let middle = c.push-in-Some.new.self in
    let beside : boundary_before line v ≡ true =
    boundary_of_front line c.range.result.now v true c.range.ensures.value
    (sym c.if-not-ends_with_boundary.false ∙ c.ends_with_boundary.ensures) in
    let close : closing line (v + 2) ≡ e = sym c.find_closing_or_keep-close.ensures.least in
    let more : e ≢ length line = omega arith in
    let cut = c.find_closing_or_keep-close.ensures.cut more in
    record {
      in_line = cut.fits;
      boundary = cut.after;
      completes = elim c.match-branch-5.branch [
        | in-Some-2+in_ok-push-in-Some-2 w ↦
            subst (λ n. Completes (g.K.KnownCharsets.known c.args.known.now) line (e + 2) before n) (sym w.unfolded-is)
            (step_decoded (g.K.KnownCharsets.known c.args.known.now) line s v e before value middle w.push-in-Some-2.new.self _ c.range-in-Some.result.now c.range-in-Some-2.result.now
            (string_bytes w.in-Some-2.decoded) at.least at.some beside close more c.outside_token.ensures c.range-in-Some.ensures.value
            c.range-in-Some-2.ensures.value (sym c.in_ok-decoded.ensures ∙ ap (option_map string_bytes) w.in-Some-2.is)
            c.in_ok-push-2.ensures w.in_ok-push-in-Some-2.ensures c.loop-open.invariant.completes)
        | in-None+in_ok-push-in-None w ↦
            subst (λ n. Completes (g.K.KnownCharsets.known c.args.known.now) line (e + 2) before n) (sym w.unfolded-is)
            (step_stays (g.K.KnownCharsets.known c.args.known.now) line s v e before value middle w.push-in-None.new.self _ c.range-in-Some.result.now c.range-in-Some-2.result.now
            w.range-in-None.result.now at.least at.some beside close more c.outside_token.ensures c.range-in-Some.ensures.value
            c.range-in-Some-2.ensures.value (sym c.in_ok-decoded.ensures ∙ ap (option_map string_bytes) w.in-None.is) w.range-in-None.ensures.value
            c.in_ok-push-2.ensures w.in_ok-push-in-None.ensures c.loop-open.invariant.completes)
      ];
      keeps = KeepsClosing_later line (v + 2) (e + 2 + 2) e (omega (arith, (closing_within line (v + 2) e at.cut.fits close more).0))
          (KeepsClosing_found line (v + 2) e close);
    }

pub returns : goal.returns
returns g c =
    on_ok_weaker c.push-2.result
    (λ shows. step_last (g.K.KnownCharsets.known c.args.known.now) c.args.line.now c.loop-open.start c.args.unfolded.now c.loop-open.unfolded c.push-2.new.self _ c.range_from.result.now
    c.in_default.ensures c.outside_token-2.ensures (c.range_from.ensures.value ∙ sym (take_rest c.args.line.now c.loop-open.start)) shows
    c.loop-open.invariant.completes)
    c.push-2.ensures
