-- The label is one of those that are left exactly if it is one of all.
use Rattle.std.proofs.Common.{◌≡◌, drop, map}
use Rattle.mail_check.specs.Charsets.{is_label_of}
use Rattle.mail_check.proofs.charsets.is_label_of.Given as goal

abbrev pub invariant-loop-known : goal.invariant-loop-known
invariant-loop-known l = is_label_of l.label (map (λ known. known.now) (drop l.known-index l.labels)) ≡ is_label_of l.label (map (λ known. known.now) l.labels)
