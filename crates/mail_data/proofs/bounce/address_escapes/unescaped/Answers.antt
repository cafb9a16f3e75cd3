use Rattle.std.proofs.Common.{rules, sym, ◌∙◌}
use Rattle.std.proofs.lemmas.List.{append-nil}
use Rattle.std.proofs.lemmas.Result.{IfOk-weaker}
use Rattle.std.specs.String.{string_bytes}
use Rattle.mail_data.proofs.lemmas.AddressEscapes.{read-none, read-start}
use Rattle.mail_data.proofs.bounce.address_escapes.unescaped.Goals as goal

pub returns-in_default : goal.returns-in_default
returns-in_default c =
    let text = c.args.text.now in
    IfOk-weaker c.from_str.result _ _ (λ read copied. copied ∙ sym (append-nil text) ∙ read-none text c.in_default.ensures.pieces) c.from_str.ensures.ok

pub pieces-init : goal.pieces-init
pieces-init c = record {
  utf8 = search rules;
  all = read-start c.args.text.now c.in-Some.front.now c.in-Some.first.now (string_bytes c.in_ok-read.read) c.in-Some.ensures.pieces c.in_ok-read.ensures.ok;
}
