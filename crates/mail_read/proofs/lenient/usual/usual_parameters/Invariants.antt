-- The parameters that are left make of the map what all of them make.
use Rattle.std.proofs.Common.{◌≡◌, ◌≤◌, ◌-◌, ℕ, List, None, true, drop, length}
use Rattle.std.specs.List.{list_any}
use Rattle.mailparse.specs.Pairs.{last_of, pairs_in, text_at}
use Rattle.mailparse.specs.Sections.{is_star}
use Rattle.mailparse.proofs.lemmas.Pairs.{stores}
use Rattle.mail_read.specs.private.Usual.{ends_value, segments_left}
use Rattle.mail_read.proofs.lenient.usual.usual_parameters.Given as goal

abbrev pub invariant-parameters : goal.invariant-parameters
invariant-parameters l = record {
  within : l.at ≤ length l.text;
  ends : ends_value (drop l.at l.text) ≡ true → ends_value (drop l.from l.text) ≡ true;
  stored : ends_value (drop l.at l.text) ≡ true → stores (text_at l.found) (pairs_in (segments_left (drop l.at l.text))) ≡ last_of (pairs_in (segments_left (drop l.from l.text)));
  starless : (q : List ℕ) → list_any is_star q ≡ true → text_at l.found q ≡ None;
}

abbrev pub decreases-parameters : goal.decreases-parameters
decreases-parameters l = length l.text - l.at
