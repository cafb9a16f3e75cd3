-- The recipients so far, and then those of the parts that are left, are those of all parts.
use Rattle.std.proofs.Common.{◌≡◌, ◌++◌, drop, map}
use Rattle.std.specs.Prelude.{flat_map}
use Rattle.mailparse.specs.Mail.{root}
use Rattle.mail_data.specs.Bounce.{deliveries}
use Rattle.mail_data.specs.BounceViews.{delivery}
use Rattle.mail_parts.specs.DecodedViews.{decoded_tree}
use Rattle.mail_parts.specs.declared.decoded.Decoded.{Decoded}
use Rattle.mail_json.proofs.reports.recipients_in.Given as goal

abbrev pub invariant-loop-part : goal.invariant-loop-part
invariant-loop-part g l =
    map delivery l.found.items ++ flat_map (λ (part : Decoded). deliveries (g.K.KnownCharsets.known l.known) (root (decoded_tree part))) (drop l.part-index l.parts)
    ≡ flat_map (λ (part : Decoded). deliveries (g.K.KnownCharsets.known l.known) (root (decoded_tree part))) l.parts
