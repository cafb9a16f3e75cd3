-- Bytes written into a part of a slice.
use Rattle.std.proofs.Common.{◌≡◌, ℕ, ◌+◌, ◌-◌, ◌≤◌, List, ◌++◌, length, take, drop, refl, sym, ap, ◌∙◌, arith}
use Rattle.std.proofs.Math.Seq.{take-append-add, take-add}
use Rattle.std.proofs.lemmas.List.{take-take, take_rest, length-take-le, length-drop}
use Rattle.std.proofs.lemmas.Slice.{take-put_mid}
use borrow.Rule.Slice.PartMut.{put_mid}
use lib.Lanes.{put_chunk}
use Rattle.mail_codec.proofs.lemmas.Vectors.{stored_before, stored_at}

-- the bytes before the part stay, followed by the start of the part
pub written_after : (at k n : ℕ) (xs part : List ℕ) → at ≤ length xs → n ≤ length part
    → take (at + n) (put_mid at k xs part) ≡ take at xs ++ take n part
written_after at k n xs part low few =
    sym (take-take (at + n) (at + length part) (put_mid at k xs part) (omega arith))
    ∙ ap (take (at + n)) (take-put_mid at k xs part (at + length part) refl low)
    ∙ ap (λ (m : ℕ). take (m + n) (take at xs ++ part)) (sym (length-take-le at xs low))
    ∙ take-append-add (take at xs) part n

-- where bytes have been copied up to a place, more of them are
pub copied_after : (at k n : ℕ) (xs part bytes : List ℕ) → take at xs ≡ take at bytes → at ≤ length xs → n ≤ length part
    → take n part ≡ take n (drop at bytes) → take (at + n) (put_mid at k xs part) ≡ take (at + n) bytes
copied_after at k n xs part bytes front low few more =
    written_after at k n xs part low few
    ∙ ap (λ (ys : List ℕ). ys ++ take n part) front
    ∙ ap (λ (ys : List ℕ). take at bytes ++ ys) more
    ∙ sym (take-add at n bytes)

-- a word copied from a place to the same place
pub word_copied : (at k n : ℕ) (xs word bytes : List ℕ) → take at xs ≡ take at bytes → at ≤ length xs → word ≡ take 8 (drop at bytes) → at + 8 ≤ length bytes → n ≤ 8
    → take (at + n) (put_mid at k xs word) ≡ take (at + n) bytes
word_copied at k n xs word bytes front low is fits few =
    copied_after at k n xs word bytes front low (omega (arith, few, ap length is, length-take-le 8 (drop at bytes) (omega (arith, length-drop at bytes))))
    (ap (take n) is ∙ take-take n 8 (drop at bytes) few)

-- the same of the part that goes to the end
module _ (at n : ℕ) (xs part : List ℕ) (fits : at + n ≤ length xs) (same : length part ≡ length (take (length xs - at) (drop at xs))) where
  enough : n ≤ length part
  enough = omega (arith, same, ap length (take_rest xs at), length-drop at xs)

  pub written_rest : (bytes : List ℕ) → take n part ≡ bytes → take (at + n) (put_mid at (length xs - at) xs part) ≡ take at xs ++ bytes
  written_rest bytes e = written_after at (length xs - at) n xs part (omega arith) enough ∙ ap (λ (ys : List ℕ). take at xs ++ ys) e

  pub copied_rest : (bytes : List ℕ) → take at xs ≡ take at bytes → take n part ≡ take n (drop at bytes)
      → take (at + n) (put_mid at (length xs - at) xs part) ≡ take (at + n) bytes
  copied_rest bytes front more = copied_after at (length xs - at) n xs part bytes front (omega arith) enough more

-- the bytes before a vector that was stored stay, followed by the start of the vector
pub stored_after : (at m : ℕ) (xs v : List ℕ) → at + length v ≤ length xs → m ≤ length v → take (at + m) (put_chunk at xs v) ≡ take at xs ++ take m v
stored_after at m xs v capacity few =
    take-add at m (put_chunk at xs v)
    ∙ ap (λ ys. ys ++ take m (drop at (put_chunk at xs v))) (stored_before at xs v)
    ∙ ap (λ ys. take at xs ++ ys) (stored_at at m xs v capacity few)

-- a vector copied from a place to the same place
pub stored_lanes : (w at m : ℕ) (xs bytes : List ℕ) → take at xs ≡ take at bytes → at + w ≤ length xs → at + w ≤ length bytes → m ≤ w
    → take (at + m) (put_chunk at xs (take w (drop at bytes))) ≡ take (at + m) bytes
stored_lanes w at m xs bytes front capacity within few =
    let v = take w (drop at bytes) in
    let long : length v ≡ w = length-take-le w (drop at bytes) (omega (arith, length-drop at bytes)) in
    stored_after at m xs v (omega (arith, long)) (omega (arith, long))
    ∙ (λ i. front i ++ take-take m w (drop at bytes) few i)
    ∙ sym (take-add at m bytes)
