use Rattle.std.proofs.Common.{length, map, sym, ap, rules, ◌∙◌}
use Rattle.std.proofs.lemmas.Bool.{false≢true}
use Rattle.std.proofs.lemmas.List.{length-map}
use Rattle.std.specs.Char.{to_ascii_lowercase}
use lib.Pointwise.{bytes_decides}
use Rattle.mailparse.proofs.lemmas.Map.{same_tested}
use Rattle.mail_records.proofs.lookup.is_named.Goals as goal

pub returns-then-key-wanted : goal.returns-then-key-wanted
returns-then-key-wanted c =
    let wanted = c.as_bytes-wanted.result.now in
    same_tested c.args.key.now c.args.name.now wanted _ (λ i. search rules) c.utf8.name c.requires c.as_bytes-wanted.ensures.value (
      (λ is. absurd (false≢true is)),
      (λ same. absurd (c.if-key-wanted.true (sym (length-map c.args.key.now to_ascii_lowercase) ∙ ap length same ∙ length-map wanted to_ascii_lowercase))),
    )

pub returns-then-eq : goal.returns-then-eq
returns-then-eq c =
    let equal = (bytes_decides c.args.key.now c.as_bytes-wanted.result.now).0 (sym c.eq.ensures ∙ c.if-eq.true) in
    same_tested c.args.key.now c.args.name.now c.as_bytes-wanted.result.now c.eq.result (λ i. search rules) c.utf8.name c.requires
    c.as_bytes-wanted.ensures.value ((λ _. ap (map to_ascii_lowercase) equal), (λ _. c.if-eq.true))

pub returns-else-eq : goal.returns-else-eq
returns-else-eq c =
    same_tested c.args.key.now c.args.name.now c.as_bytes-wanted.result.now c.eq_ignore_ascii_case.result (λ i. search rules) c.utf8.name c.requires
    c.as_bytes-wanted.ensures.value c.eq_ignore_ascii_case.ensures.test
