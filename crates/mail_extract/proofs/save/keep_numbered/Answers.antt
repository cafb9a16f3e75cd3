use Rattle.std.proofs.Common.{List, ℕ, ◌≤◌, inr, refl, subst, sym, arith}
use Rattle.mail_extract.specs.Names.{IsNumbered}
use Rattle.mail_extract.proofs.lemmas.Save.{created_taken, taken_more}
use Rattle.mail_extract.proofs.save.keep_numbered.Goals as goal

pub loop-next-preserved : goal.loop-next-preserved
loop-next-preserved g c = record {
  above = omega (arith, c.loop-next.invariant.above);
  after = omega arith;
  taken = λ files e.
      let before = c.loop-next.invariant.taken files e in
      let there = created_taken files _ _ g.D.Directory.can_fail _ _ c.in-Taken.is (c.in_ok-create.ensures files before.0) in
      let is = subst (λ (t : List ℕ). IsNumbered c.args.naming c.args.name.now c.loop-next.next t) (sym c.as_str.ensures.value) c.in_ok-name.ensures.read in
      (there.1, taken_more g.D.Directory.can_fail c.args.naming c.args.name.now files c.args.number.now c.loop-next.next _ is there.0 before.1);
}

pub returns-clause-kept : goal.returns-clause-kept
returns-clause-kept g c = λ files e.
    let before = c.loop-next.invariant.taken files e in
    let end : 18446744073709551615 ≤ c.loop-next.next = omega arith in
    (files, before.0, (refl, inr (omega (arith, end, c.loop-next.invariant.after), λ n above below. before.1 n above (omega (arith, end, below)))))
