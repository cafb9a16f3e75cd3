-- A character written into a buffer, byte by byte.
use Rattle.std.proofs.Common.{◌≡◌, ℕ, ◌+◌, ◌/◌, ◌%◌, ◌<◌, ◌≤◌, List, [], ◌∷◌, ◌++◌, take, set, length, refl, append_assoc, arith, length-set}
use Rattle.std.specs.Char.{encode_utf8}
use Rattle.std.proofs.lemmas.Bool.{le-ltb, lt-ltb}
use Rattle.std.proofs.lemmas.List.{take_more_set}

pub encode_two : (c : ℕ) → 128 ≤ c → c < 2048 → encode_utf8 c ≡ (192 + c / 64) ∷ (128 + c % 64) ∷ []
unfolding encode_utf8
encode_two c from to = rw (le-ltb c 128 from, lt-ltb c 2048 to) refl

pub encode_three : (c : ℕ) → 2048 ≤ c → c < 65536 → encode_utf8 c ≡ (224 + c / 4096) ∷ (128 + c / 64 % 64) ∷ (128 + c % 64) ∷ []
unfolding encode_utf8
encode_three c from to = let more : 128 ≤ c = omega arith in rw (le-ltb c 128 more, le-ltb c 2048 from, lt-ltb c 65536 to) refl

pub encode_four : (c : ℕ) → 65536 ≤ c → encode_utf8 c ≡ (240 + c / 262144) ∷ (128 + c / 4096 % 64) ∷ (128 + c / 64 % 64) ∷ (128 + c % 64) ∷ []
unfolding encode_utf8
encode_four c from = let more : 128 ≤ c = omega arith in let most : 2048 ≤ c = omega arith in rw (le-ltb c 128 more, le-ltb c 2048 most, le-ltb c 65536 from) refl

-- the front of a buffer after some bytes are written in a row
pub stored_two : (xs : List ℕ) (n a b : ℕ) → n + 4 ≤ length xs → take (n + 2) (set (set xs n a) (n + 1) b) ≡ take n xs ++ a ∷ b ∷ []
stored_two xs n a b h =
    let e : n + 2 ≡ (n + 1) + 1 = omega arith in
    rw (e, take_more_set (set xs n a) (n + 1) b (rw length-set (omega arith)), take_more_set xs n a (omega arith), append_assoc) refl

pub stored_three : (xs : List ℕ) (n a b c : ℕ) → n + 4 ≤ length xs → take (n + 3) (set (set (set xs n a) (n + 1) b) (n + 2) c) ≡ take n xs ++ a ∷ b ∷ c ∷ []
stored_three xs n a b c h =
    let e : n + 3 ≡ (n + 2) + 1 = omega arith in
    rw (e, take_more_set (set (set xs n a) (n + 1) b) (n + 2) c (simp length-set (omega arith)), stored_two xs n a b h, append_assoc) refl

pub stored_four : (xs : List ℕ) (n a b c d : ℕ) → n + 4 ≤ length xs → take (n + 4) (set (set (set (set xs n a) (n + 1) b) (n + 2) c) (n + 3) d) ≡ take n xs ++ a ∷ b ∷ c ∷ d ∷ []
stored_four xs n a b c d h =
    let e : n + 4 ≡ (n + 3) + 1 = omega arith in
    rw (e, take_more_set (set (set (set xs n a) (n + 1) b) (n + 2) c) (n + 3) d (simp length-set (omega arith)), stored_three xs n a b c h, append_assoc) refl
