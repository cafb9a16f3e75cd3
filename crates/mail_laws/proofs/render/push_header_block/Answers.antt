use Rattle.std.proofs.Common.{ℕ, ◌++◌, List, ap, ◌∙◌, arith, take_all}
use Rattle.std.specs.Global.{Vec}
use Rattle.std.specs.Prelude.{flat_map}
use Rattle.mail_laws.specs.Render.{header_line, written_header}
use Rattle.mail_laws.specs.RenderViews.{header_seen}
use Rattle.mail_laws.proofs.lemmas.RenderViews.{on_ok, block_written}
use Rattle.mail_laws.proofs.render.push_header_block.Goals as goal

pub returns : goal.returns
returns c =
    let old = c.args.bytes.now.items in
    let all = take_all c.loop-header.header-index c.deref-header-items.result.now (omega (arith, c.loop-header-test.false)) ∙ c.deref-header-items.ensures.value in
    let before = c.loop-header.invariant ∙ ap (λ (ps : List (Vec ℕ × Vec ℕ)). old ++ flat_map (λ p. header_line (written_header (header_seen p))) ps) all in
    record { written = on_ok c.extend_from_slice.result _ _ _ c.extend_from_slice.ensures.items (block_written old _ _ c.args.headers.now.items before) }
