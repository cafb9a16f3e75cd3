-- A lemma on the bytes after a block.
use Rattle.std.proofs.Common.{◌≡◌, ℕ, ◌<◌, List, [], length, drop, sym, arith}
use Rattle.std.proofs.lemmas.List.{drop_all}

-- nothing is after the end
pub past_end : (bytes : List ℕ) (n : ℕ) → length bytes < n → [] ≡ drop n bytes
past_end bytes n h = sym (drop_all n bytes (omega (arith, h)))
