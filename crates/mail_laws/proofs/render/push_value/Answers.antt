use Rattle.std.proofs.Common.{◌++◌, ap, ◌∙◌}
use Rattle.mail_laws.proofs.lemmas.RenderValues.{bytes_written, text_written}
use Rattle.mail_laws.proofs.lemmas.RenderViews.{on_ok}
use Rattle.mail_laws.proofs.render.push_value.Goals as goal

pub returns-in_default : goal.returns-in_default
returns-in_default c = record {
  written = on_ok c.extend_from_slice.result _ _ _ c.extend_from_slice.ensures.items
      (λ n. n ∙ ap (λ v. c.args.bytes.now.items ++ v) (bytes_written c.args.value.now c.in_default.ensures.cases.0));
}

pub returns : goal.returns
returns c = record {
  written = on_ok c.extend_from_slice-2.result _ _ _ c.extend_from_slice-2.ensures.items
      (λ n. n ∙ ap (λ v. c.args.bytes.now.items ++ v)
      (c.as_bytes.ensures.value ∙ c.in_ok-written.ensures ∙ text_written c.args.value.now c.in-Ok.text.now c.in-Ok.ensures.cases.0 c.in-Ok.ensures.cases.1));
}
