use Rattle.std.proofs.Common.{◌≡◌, ℕ, Bool, List, [], ◌∷◌, length, drop, ◌-◌, ◌+◌, ap, sym, subst, arith, ◌∙◌}
use Rattle.std.proofs.lemmas.List.{length-append}
use Rattle.mail_extract.specs.Choice.{fits}
use Rattle.mail_extract.specs.private.Fits.{IsRow}
use Rattle.mail_extract.proofs.lemmas.Fits.{row_more}
use Rattle.mail_extract.proofs.pattern.next_row.Goals as goal

pub loop-count-preserved : goal.loop-count-preserved
loop-count-preserved c =
    let here = c.loop-count.invariant in
    let shorter = c.as_slice.ensures.value in
    let all = length-append c.loop-count.row.items (c.is_next.result ∷ []) in
    record {
      len = ap length c.in_ok-push.ensures.items ∙ omega (arith, all, here.len);
      row = λ rest before.
          let size : length c.as_slice.result.now ≡ c.loop-count.count = ap length shorter ∙ here.len in
          let is =
          c.is_next.ensures rest before
          (subst (λ (r : List Bool). IsRow (fits (c.args.first ∷ rest)) c.args.text.now (length r) r) (sym shorter)
          (subst (λ (k : ℕ). IsRow (fits (c.args.first ∷ rest)) c.args.text.now k c.loop-count.row.items) (sym here.len) (here.row rest before))) in
          row_more (fits (c.args.first ∷ rest)) c.args.text.now c.loop-count.count c.loop-count.row.items _ c.is_next.result c.in_ok-push.ensures.items
          (is ∙ ap (λ (k : ℕ). fits (c.args.first ∷ rest) (drop (length c.args.text.now - k) c.args.text.now)) size) (here.row rest before);
    }

pub returns : goal.returns
returns c = λ rest before.
    let end : c.loop-count.count ≡ length c.args.text.now + 1 = omega (arith, c.requires, c.loop-count-test.false) in
    subst (λ (k : ℕ). IsRow (fits (c.args.first ∷ rest)) c.args.text.now k c.loop-count.row.items) end (c.loop-count.invariant.row rest before)
