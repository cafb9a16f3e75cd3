-- Steps of the text of a string between its quotation marks.
use Rattle.std.proofs.Common.{◌≡◌, ℕ, zero, suc, ◌+◌, ◌<◌, Bool, true, false, cond, ◌==◌, nat_lt, List, [], ◌∷◌, ◌++◌, length, take, drop, Option, Result, Ok, Err, refl, sym, ap, ap₂, subst, ◌∙◌, append_assoc, arith}
use Rattle.std.proofs.KnownBytes.{Appends-trans}
use Rattle.std.proofs.lemmas.Bool.{ltb-false, or_parts}
use Rattle.std.proofs.lemmas.List.{append-nil, drop-drop, drop_all, length-drop, take_all}
use Rattle.std.specs.Io.KnownBytes.{Appends}
use Rattle.json.proofs.Printed.Strings.{escape_byte_plain}
use Rattle.mail_codec.specs.Escapes.{may_need_escape}
use Rattle.mail_codec.specs.Places.{begins, first_place}
use Rattle.mail_program.specs.declared.fault.Fault.{Fault}
use Rattle.mail_program.specs.Streams.{Writes}
use Rattle.mail_json_text.specs.JsonText.{first_text, more_bytes, escaped, escaped_after}

-- ---- steps of the text

-- the text after the first k bytes is that of the bytes left
pub escaped_drop : (k : ℕ) (bytes : List ℕ) → escaped_after k bytes ≡ escaped (drop k bytes)
unfolding escaped_after
escaped_drop zero bytes = refl
escaped_drop (suc k) [] = refl
escaped_drop (suc k) (b ∷ bytes) = escaped_drop k bytes

-- the text of the first byte, or of the hidden character that begins with it, and then that of the rest
pub escaped_first : (bytes : List ℕ) → 0 < length bytes → escaped bytes ≡ first_text bytes ++ escaped (drop (suc (more_bytes bytes)) bytes)
unfolding escaped_after
escaped_first [] h = absurd (omega arith)
escaped_first (b ∷ bytes) h = ap (λ t. first_text (b ∷ bytes) ++ t) (escaped_drop (more_bytes (b ∷ bytes)) bytes)

-- a byte that needs no escape is itself
pub plain_text : (b : ℕ) (bytes : List ℕ) → may_need_escape b ≡ false → (first_text (b ∷ bytes) ≡ b ∷ []) × (more_bytes (b ∷ bytes) ≡ 0)
unfolding first_text more_bytes
plain_text b bytes e =
    let p = or_parts (nat_lt b 32) _ e in
    let q = or_parts (b == 34) _ p.1 in
    let r = or_parts (b == 92) _ q.1 in
    let s = or_parts (b == 127) _ r.1 in
    let t = or_parts (b == 194) _ s.1 in
    let u = or_parts (b == 216) (b == 226) t.1 in
    rw (t.0, u.0, u.1, s.0) (escape_byte_plain b (λ f. absurd (cc (f, q.0))) (λ f. absurd (cc (f, r.0))) (ltb-false b 32 p.0), refl)

-- bytes before the first that may need one are unchanged
pub escaped_run : (bytes : List ℕ) (n : ℕ) → n ≡ first_place (begins may_need_escape) bytes → escaped bytes ≡ take n bytes ++ escaped (drop n bytes)
unfolding escaped_after
escaped_run [] n e = rw e refl
escaped_run (b ∷ bytes) n e = go (may_need_escape b) refl n e (escaped_run bytes (first_place (begins may_need_escape) bytes) refl)
  where
    go : (v : Bool) → may_need_escape b ≡ v → (n : ℕ) → n ≡ cond v 0 (suc (first_place (begins may_need_escape) bytes))
        → escaped bytes ≡ take (first_place (begins may_need_escape) bytes) bytes ++ escaped (drop (first_place (begins may_need_escape) bytes) bytes)
        → escaped (b ∷ bytes) ≡ take n (b ∷ bytes) ++ escaped (drop n (b ∷ bytes))
    go true t n e rest = rw e refl
    go false t n e rest =
        let plain = plain_text b bytes t in
        rw e (ap₂ (λ (a c : List ℕ). a ++ c) plain.0 (ap (λ k. escaped_after k bytes) plain.1 ∙ rest))

-- ---- steps of the writer

-- what was written is completed by the text of the bytes that are left
abbrev pub WroteEscaped : Option (List ℕ) → Option (List ℕ) → List ℕ → ℕ → Type 0
WroteEscaped old new bytes at = (done : List ℕ) × Appends old new done × (done ++ escaped (drop at bytes) ≡ escaped bytes)

-- a run, and the text of what follows it
pub wrote_first : (old a b c : Option (List ℕ)) (bytes : List ℕ) (at p more : ℕ) (run first : List ℕ) → at + p < length bytes
    → p ≡ first_place (begins may_need_escape) (drop at bytes) → run ≡ take p (drop at bytes) → first ≡ first_text (drop (at + p) bytes)
    → more ≡ more_bytes (drop (at + p) bytes) → WroteEscaped old a bytes at → Appends a b run → Appends b c first
    → WroteEscaped old c bytes (at + p + 1 + more)
wrote_first old a b c bytes at p more run first below is er ef em here r f =
    let ys = drop (at + p) bytes in
    let written = Appends-trans old b c (here.0 ++ run) first (Appends-trans old a b here.0 run here.1 r) f in
    let after : drop (at + p + 1 + more) bytes ≡ drop (suc (more_bytes ys)) ys =
    ap (λ (k : ℕ). drop k bytes) {x = at + p + 1 + more} {y = (at + p) + suc (more_bytes ys)} (omega (arith, em)) ∙ sym (drop-drop (suc (more_bytes ys)) (at + p) bytes) in
    let whole : escaped (drop at bytes) ≡ run ++ (first ++ escaped (drop (at + p + 1 + more) bytes)) =
    escaped_run (drop at bytes) p is
    ∙ ap₂ (λ (s t : List ℕ). s ++ t) (sym er)
    (ap escaped (drop-drop p at bytes) ∙ escaped_first ys (omega (arith, below, length-drop (at + p) bytes)) ∙ ap₂ (λ (s t : List ℕ). s ++ escaped t) (sym ef) (sym after)) in (
      (here.0 ++ run) ++ first,
      written,
      append_assoc (here.0 ++ run) first (escaped (drop (at + p + 1 + more) bytes)) ∙ append_assoc here.0 run (first ++ escaped (drop (at + p + 1 + more) bytes))
          ∙ ap (λ (t : List ℕ). here.0 ++ t) (sym whole) ∙ here.2,
    )

-- the last run
pub wrote_last : (old a c : Option (List ℕ)) (bytes : List ℕ) (at : ℕ) (run : List ℕ) → length (drop at bytes) ≡ first_place (begins may_need_escape) (drop at bytes)
    → run ≡ drop at bytes → WroteEscaped old a bytes at → Appends a c run → Appends old c (escaped bytes)
unfolding escaped_after
wrote_last old a c bytes at run is er here r =
    let rest = drop at bytes in
    let whole : escaped rest ≡ run =
    escaped_run rest (length rest) is ∙ ap₂ (λ (s t : List ℕ). s ++ escaped t) (take_all (length rest) rest (omega arith)) (drop_all (length rest) rest (omega arith)) ∙ append-nil rest ∙ sym er in
    subst (Appends old c) (ap (λ (t : List ℕ). here.0 ++ t) (sym whole) ∙ here.2) (Appends-trans old a c here.0 run here.1 r)

pub writes_last : {T : Type 0} (old a c : Option (List ℕ)) (r : Result T Fault) (bytes : List ℕ) (at : ℕ) (run : List ℕ)
    → length (drop at bytes) ≡ first_place (begins may_need_escape) (drop at bytes) → run ≡ drop at bytes → WroteEscaped old a bytes at → Writes a c r run
    → Writes old c r (escaped bytes)
writes_last old a c (Ok done) bytes at run is er here r = wrote_last old a c bytes at run is er here r
writes_last old a c (Err fault) bytes at run is er here r = r
