-- Bytes copied without those that end a run.
use Rattle.std.proofs.Common.{◌≡◌, ℕ, zero, suc, ◌+◌, ◌≤◌, ◌<◌, Bool, true, false, not, slice_set, get_or, List, [], ◌∷◌, ◌++◌, length, take, drop, refl, sym, ap, ◌∙◌, arith, inl, inr, filter}
use Rattle.std.proofs.lemmas.List.{append_assoc, drop-drop, drop_more, take-set, take_more_set, length-drop, length-take-le, take-take}
use Rattle.std.proofs.lemmas.Bool.{cases_Bool}
use lib.Lanes.{put_chunk}
use Rattle.mail_codec.specs.Places.{first_place, begins}
use Rattle.mail_codec.specs.private.Runs.{ends_run, without_ends}
use Rattle.mail_codec.specs.declared.bytescan.runs.RunEnd.{RunEnd}
use Rattle.mail_codec.proofs.lemmas.PlacesSearches.{found_front}
use Rattle.mail_codec.proofs.lemmas.Written.{stored_after}

-- the bytes kept are those before the first end of a run, and then those kept of the rest
runs_first : (ends : ℕ → Bool) (xs : List ℕ)
    → filter (λ b. not (ends b)) xs
    ≡ take (first_place (begins ends) xs) xs ++ filter (λ b. not (ends b)) (drop (first_place (begins ends) xs + 1) xs)
runs_first ends [] = refl
runs_first ends (x ∷ xs) = elim (cases_Bool (ends x)) [
  | inl ended ↦ rw ended refl
  | inr free ↦
      let n : ℕ = first_place (begins ends) xs in
      let more : suc n + 1 ≡ suc (n + 1) = omega arith in
      rw (free, more) (ap (λ (r : List ℕ). x ∷ r) (runs_first ends xs))
]

-- bytes at the front are kept if none of them ends a run
kept_front : (ends : ℕ → Bool) (n : ℕ) (xs : List ℕ) → n ≤ length xs → first_place (begins ends) (take n xs) ≡ n
    → filter (λ b. not (ends b)) xs ≡ take n xs ++ filter (λ b. not (ends b)) (drop n xs)
kept_front ends zero xs h e = refl
kept_front ends (suc n) [] h e = absurd (omega arith)
kept_front ends (suc n) (x ∷ xs) h e = elim (cases_Bool (ends x)) [
  | inl t ↦ let here : 0 ≡ suc n = rw t at e in absurd (omega arith)
  | inr t ↦ let past : suc (first_place (begins ends) (take n xs)) ≡ suc n = rw t at e in rw t (ap (λ (r : List ℕ). x ∷ r) (kept_front ends n xs (omega arith) (omega arith)))
]

-- one byte that ends no run, and one that does
kept_one : (end : RunEnd) (b : ℕ) (xs : List ℕ) → ends_run end b ≡ false → without_ends end (b ∷ xs) ≡ b ∷ without_ends end xs
kept_one end b xs e = rw e refl

ended_one : (end : RunEnd) (b : ℕ) (xs : List ℕ) → ends_run end b ≡ true → without_ends end (b ∷ xs) ≡ without_ends end xs
ended_one end b xs e = rw e refl

-- ---- the bytes that have been written, up to a place

-- the bytes written, and then those kept of the rest, are all
pub record Kept (end : RunEnd) (bytes output : List ℕ) (len at : ℕ) : Type 0 where
  pub within : at ≤ length bytes
  pub few : len ≤ at
  pub so_far : take len output ++ without_ends end (drop at bytes) ≡ without_ends end bytes

-- more bytes, of which the last may end a run
module _ (end : RunEnd) (bytes output : List ℕ) (len at : ℕ) (h : Kept end bytes output len at) where
  written_more : (next : List ℕ) (n m : ℕ) → n ≤ m → at + m ≤ length bytes → (ys : List ℕ) → take (len + n) next ≡ take len output ++ ys
      → without_ends end (drop at bytes) ≡ ys ++ without_ends end (drop m (drop at bytes)) → Kept end bytes next (len + n) (at + m)
  written_more next n m le fits ys front is =
      let low = h.few in
      let there : drop m (drop at bytes) ≡ drop (at + m) bytes = drop-drop m at bytes ∙ ap (λ (k : ℕ). drop k bytes) (omega arith) in
      record {
        within = fits;
        few = omega arith;
        so_far =
            ap (λ (r : List ℕ). r ++ without_ends end (drop (at + m) bytes)) front
            ∙ append_assoc (take len output) ys (without_ends end (drop (at + m) bytes))
            ∙ ap (λ (r : List ℕ). take len output ++ (ys ++ without_ends end r)) (sym there)
            ∙ ap (λ (r : List ℕ). take len output ++ r) (sym is)
            ∙ h.so_far;
      }

  -- a vector that was stored
  abbrev vector : List ℕ
  vector = take 16 (drop at bytes)

  vector_long : at + 16 ≤ length bytes → length vector ≡ 16
  vector_long fits = length-take-le 16 (drop at bytes) (omega (arith, length-drop at bytes))

  -- no run ends in it
  pub vector_kept : at + 16 ≤ length bytes → len + 16 ≤ length output → first_place (begins (ends_run end)) vector ≡ 16
      → Kept end bytes (put_chunk len output vector) (len + 16) (at + 16)
  vector_kept fits capacity free =
      written_more (put_chunk len output vector) 16 16 (omega arith) fits vector
      (stored_after len 16 output vector (omega (arith, vector_long fits)) (omega (arith, vector_long fits)) ∙ ap (λ (r : List ℕ). take len output ++ r) (take-take 16 16 (drop at bytes) (omega arith)))
      (kept_front (ends_run end) 16 (drop at bytes) (omega (arith, length-drop at bytes)) free)

  -- a run ends in it
  pub vector_ended : (place : ℕ) → at + 16 ≤ length bytes → len + 16 ≤ length output → place ≡ first_place (begins (ends_run end)) vector → place < 16
      → Kept end bytes (put_chunk len output vector) (len + place) (at + (place + 1))
  vector_ended place fits capacity is few =
      let same : first_place (begins (ends_run end)) (drop at bytes) ≡ place =
      found_front (ends_run end) 16 (drop at bytes) (omega (arith, is)) (omega (arith, length-drop at bytes)) ∙ sym is in
      written_more (put_chunk len output vector) place (place + 1) (omega arith) (omega arith) (take place (drop at bytes))
      (stored_after len place output vector (omega (arith, vector_long fits)) (omega (arith, vector_long fits)) ∙ ap (λ (r : List ℕ). take len output ++ r) (take-take place 16 (drop at bytes) (omega arith)))
      (rw same at (runs_first (ends_run end) (drop at bytes)))

  -- a byte that was stored
  pub byte_kept : at < length bytes → len < length output → ends_run end (get_or bytes at 0) ≡ false
      → Kept end bytes (slice_set output len (get_or bytes at 0)) (len + 1) (at + 1)
  byte_kept lt capacity free =
      let b : ℕ = get_or bytes at 0 in
      let next : List ℕ = drop (at + 1) bytes in
      let low = h.few in
      record {
        within = omega arith;
        few = omega arith;
        so_far =
            ap (λ (r : List ℕ). r ++ without_ends end next) (take_more_set output len b capacity)
            ∙ append_assoc (take len output) (b ∷ []) (without_ends end next)
            ∙ ap (λ (r : List ℕ). take len output ++ r) (sym (ap (without_ends end) (drop_more bytes at 0 lt) ∙ kept_one end b next free))
            ∙ h.so_far;
      }

  -- and one that is written over, since a run ends with it
  pub byte_ended : (b : ℕ) → at < length bytes → ends_run end (get_or bytes at 0) ≡ true → Kept end bytes (slice_set output len b) len (at + 1)
  byte_ended b lt ended =
      let next : List ℕ = drop (at + 1) bytes in
      let low = h.few in
      record {
        within = omega arith;
        few = omega arith;
        so_far =
            ap (λ (r : List ℕ). r ++ without_ends end next) (take-set output len b)
            ∙ ap (λ (r : List ℕ). take len output ++ r) (sym (ap (without_ends end) (drop_more bytes at 0 lt) ∙ ended_one end (get_or bytes at 0) next ended))
            ∙ h.so_far;
      }
