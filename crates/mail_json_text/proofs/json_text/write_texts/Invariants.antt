-- What was written after the bracket is completed by the texts that are left.
use Rattle.std.proofs.Common.{drop, map}
use Rattle.std.specs.String.{string_bytes}
use Rattle.json.specs.Json.{string}
use Rattle.mail_json_text.specs.Printed.{comma, text_of}
use Rattle.mail_json_text.proofs.lemmas.JsonText.{Wrote}
use Rattle.mail_json_text.proofs.json_text.write_texts.Given as goal

abbrev pub invariant-loop-text : goal.invariant-loop-text
invariant-loop-text g l =
    Wrote text_of (g.W.Write.contents l.initial.out) (g.W.Write.contents l.out) (comma l.position) (map (λ t. string t) (map (λ t. string_bytes t) (drop l.text-index l.texts))) (map (λ t. string t) (map (λ t. string_bytes t) l.texts))
