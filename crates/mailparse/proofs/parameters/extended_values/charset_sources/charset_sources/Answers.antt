use Rattle.std.proofs.Common.{◌≡◌, ◌+◌, suc, sym, ap, ◌∙◌, arith}
use Rattle.mailparse.specs.private.CharsetSources.{source_place, name_at, is_candidate_for}
use Rattle.mailparse.specs.private.ExtendedValues.{names_of}
use Rattle.std.specs.Prelude.{if◌then◌else◌}
use Rattle.mailparse.proofs.parameters.extended_values.charset_sources.charset_sources.Goals as goal

pub loop-place-preserved : goal.loop-place-preserved
loop-place-preserved g c =
    let names = names_of c.args.extended.now in
    let next : c.loop-place.place + 1 ≡ suc c.loop-place.place = omega arith in
    record {
      bound = omega (arith, c.loop-place-test.true);
      long = c.offer.ensures.len ∙ c.loop-place.invariant.long;
      source_place = λ order k below.
          c.offer.ensures.offered order k below
          ∙ ap (λ old. if is_candidate_for (name_at names c.loop-place.place) (name_at names k) then c.loop-place.place else old) (c.loop-place.invariant.source_place order k below)
          ∙ ap (λ n. source_place names n k) (sym next);
    }
