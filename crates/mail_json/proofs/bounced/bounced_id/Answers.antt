use Rattle.std.proofs.Common.{Option, Bor, option_map, sym, subst, ap, ◌∙◌}
use Rattle.std.specs.Prelude.{IfSome}
use Rattle.mailparse.specs.Views.{tree_of}
use Rattle.mail_parts.specs.DecodedViews.{IsDecoded, decoded_tree}
use Rattle.mail_parts.specs.declared.decoded.Decoded.{Decoded}
use Rattle.mail_json.proofs.lemmas.Bounced.{id_found}
use Rattle.mail_json.proofs.bounced.bounced_id.Goals as goal

pub returns-clause-read : goal.returns-clause-read
returns-clause-read c = λ decodes all.
    let decoded = subst (λ (o : Option (Bor Decoded)). IfSome o (λ part. IsDecoded decodes part.now)) c.in-Some.is (c.returned_part.ensures.decoded decodes all) in
    let found = ap (option_map (λ (part : Bor Decoded). decoded_tree part.now)) (sym c.in-Some.is) ∙ c.returned_part.ensures.tree in
    id_found c.returned_id.result (tree_of c.args.mail.now) _ found (c.returned_id.ensures.read decodes decoded)
