-- What was written is completed by the objects of the parts that are left.
use Rattle.std.proofs.Common.{List, ℕ, map, drop, option_map}
use Rattle.std.specs.Io.KnownBytes.{Appends}
use Rattle.mail_json.specs.Options.{options_of}
use Rattle.mail_json_text.specs.Printed.{comma, listed, text_of}
use Rattle.mail_json.specs.Values.{AreValues, IsPartValue}
use Rattle.mail_parts.specs.DecodedViews.{decoded_place}
use Rattle.mail_json.proofs.lemmas.Part.{Completes}
use Rattle.mail_json.proofs.part.write_found.Given as goal

abbrev pub invariant-loop-part : goal.invariant-loop-part
invariant-loop-part g l =
    (done : List ℕ) × Appends (g.W.Write.contents l.initial.out) (g.W.Write.contents l.out) done
    × Completes (AreValues (IsPartValue (options_of (g.K.KnownCharsets.known l.form.known.now) l.fn.form.options) (option_map (λ path. path.now) l.fn.form.inside) l.fn.form.start) (map decoded_place (drop l.part-index l.parts)))
    (listed text_of (comma l.position))
    (AreValues (IsPartValue (options_of (g.K.KnownCharsets.known l.form.known.now) l.fn.form.options) (option_map (λ path. path.now) l.fn.form.inside) l.fn.form.start) (map decoded_place l.parts)) (listed text_of (comma l.fn.first)) done
