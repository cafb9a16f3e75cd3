use Rattle.std.proofs.Common.{◌≡◌, ◌<◌, ℕ, List, Some, length, string_bytes, ap, subst, ◌∙◌, arith}
use Rattle.std.specs.Map.{update}
use Rattle.std.specs.Prelude.{slice_range}
use Rattle.std.specs.Str.{bytes_eq, str_to_ascii_lowercase}
use Rattle.mailparse.specs.Pairs.{text_at}
use Rattle.mailparse.proofs.lemmas.Pairs.{stored}
use Rattle.mail_read.specs.private.Usual.{IsParameter}
use Rattle.mail_read.proofs.lemmas.lenient.UsualTypes.{put-pair, put-starless}
use Rattle.mail_read.proofs.lenient.usual.usual_parameters.Goals as goal

pub parameters-preserved : goal.parameters-preserved
parameters-preserved c =
    let text = c.args.text.now in
    let next = c.in-Some.next in
    let at = c.parameters.at in
    let before = c.parameters.invariant in
    let same = c.as_bytes-bytes.ensures.value in
    let is : IsParameter text at next = subst (λ (bytes : List ℕ). IsParameter bytes at next) same c.in-Some.ensures in
    let low : at < length text = omega (arith, c.parameters-test.true, ap (λ (bytes : List ℕ). length bytes) same) in
    let key = slice_range text next.name next.equals in
    let value = slice_range text next.text.start next.text.stop in
    let named : string_bytes c.in_ok-key.key ≡ str_to_ascii_lowercase key = c.in_ok-key.ensures ∙ ap str_to_ascii_lowercase c.range.ensures.value in
    let given : string_bytes c.in_ok-value.value ≡ value = c.in_ok-value.ensures.ok ∙ c.range-in-parameters.ensures.value in
    let put : text_at c.insert.new.self ≡ update bytes_eq (text_at c.parameters.found) (str_to_ascii_lowercase key) (Some value) =
    stored c.parameters.found c.insert.new.self c.in_ok-key.key c.in_ok-value.value c.in_ok-insert.ensures.updates
    ∙ (λ i. update bytes_eq (text_at c.parameters.found) (named i) (Some (given i))) in
    record {
      within = is.order.5;
      ends = λ ends. before.ends (is.ends ends);
      stored = λ ends. put-pair text at next.text.end key value (text_at c.parameters.found) (text_at c.insert.new.self) _ low
          (is.means c.requires.ascii ends) put (before.stored (is.ends ends));
      starless = put-starless (text_at c.parameters.found) (text_at c.insert.new.self) key value is.named put before.starless;
    }
