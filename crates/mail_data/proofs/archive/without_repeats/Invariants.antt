-- The ids so far were kept without repeats, and each of them was seen.
use Rattle.std.proofs.Common.{◌≡◌, ℕ, List, map}
use Rattle.std.specs.BTreeSet.{contains_text}
use Rattle.std.specs.String.{string_bytes}
use Rattle.mail_data.specs.Archive.{without_repeats}
use Rattle.mail_data.proofs.lemmas.Archive.{is_among_ids}
use Rattle.mail_data.proofs.archive.without_repeats.Given as goal

abbrev pub invariant-loop-id : goal.invariant-loop-id
invariant-loop-id l = record {
  kept : map string_bytes l.kept.items ≡ without_repeats (map string_bytes l.yielded);
  seen : (q : List ℕ) → contains_text l.seen q ≡ is_among_ids q (map string_bytes l.yielded);
}
