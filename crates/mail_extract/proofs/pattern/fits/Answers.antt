use Rattle.std.proofs.Common.{◌≡◌, suc, ◌+◌, ◌-◌, List, ℕ, ◌∷◌, length, drop, sym, subst, arith}
use Rattle.std.proofs.Math.Seq.{drop-cons}
use Rattle.std.proofs.Math.ListN.{get_or}
use Rattle.mail_extract.specs.Choice.{fits}
use Rattle.mail_extract.specs.private.Fits.{IsRow}
use Rattle.mail_extract.proofs.pattern.fits.Goals as goal

pub left-preserved : goal.left-preserved
left-preserved c =
    let pattern = c.args.pattern.now in
    let i = c.left.left - 1 in
    let here = c.left.invariant in
    let next : suc i ≡ c.left.left = omega arith in
    let cut : drop i pattern ≡ get_or pattern i 0 ∷ drop (suc i) pattern = drop-cons pattern i 0 (omega (arith, here.bounds)) in
    record {
      bounds = omega (arith, here.bounds);
      row = subst (λ (p : List ℕ). IsRow (fits p) c.args.text.now (length c.args.text.now + 1) c.in_ok-row-2.row.items) (sym cut)
          (c.in_ok-row-2.ensures (drop (suc i) pattern)
          (subst (λ (r : List _). IsRow (fits (drop (suc i) pattern)) c.args.text.now (length c.args.text.now + 1) r) (sym c.as_slice.ensures.value)
          (subst (λ (k : ℕ). IsRow (fits (drop k pattern)) c.args.text.now (length c.args.text.now + 1) c.left.row.items) (sym next) here.row)));
    }
