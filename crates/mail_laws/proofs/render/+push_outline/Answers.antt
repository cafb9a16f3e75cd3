use Rattle.std.proofs.Common.{ℕ, ◌++◌, List, ap, sym, ◌∙◌, arith, take_all}
use Rattle.std.specs.Prelude.{codes, flat_map}
use Rattle.mail_codec.specs.QuotedPrintable.{cr_lf}
use Rattle.mail_laws.specs.Render.{dash_boundary, header_block, rendered, written_headers}
use Rattle.mail_laws.specs.RenderViews.{headers_seen, outline_tree}
use Rattle.mail_laws.specs.declared.render.Outline.{Outline}
use Rattle.mail_address.proofs.lemmas.EncodeCut.{on_ok_then}
use Rattle.mail_laws.proofs.lemmas.RenderViews.{part_text, parts_written, tree_branch}
use Rattle.mail_laws.proofs.render.+push_outline.Goals as goal

pub returns-after-loop-part : goal.returns-after-loop-part
returns-after-loop-part t c =
    let old = c.args.bytes.now.items in
    let outline = c.args.outline.now in
    let boundary = c.in-Branch.boundary.items in
    let parts = c.in-Branch.parts.items in
    let all = take_all c.loop-part.part-index c.deref-part-items.result.now (omega (arith, c.loop-part-test.false)) ∙ c.deref-part-items.ensures.value in
    let before = c.loop-part.invariant ∙ ap (λ (os : List Outline). old ++ (header_block (written_headers (headers_seen outline.headers)) ++ flat_map (λ o. part_text boundary (outline_tree o)) os)) all in
    record {
      written = on_ok_then c.push_delimiter-in-Branch.result c.push_delimiter-in-Branch.ensures.written (λ n.
          parts_written old _ _ (header_block (written_headers (headers_seen outline.headers))) boundary parts before
          (n ∙ ap (λ (b : List ℕ). c.loop-part.bytes.items ++ (dash_boundary b ++ (codes "--" ++ cr_lf))) c.as_slice-in-Branch.ensures.value)
          ∙ ap (λ t. old ++ rendered t) (sym (tree_branch outline c.in-Branch.boundary c.in-Branch.parts c.in-Branch.is)));
    }
