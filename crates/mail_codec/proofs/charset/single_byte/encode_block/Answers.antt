use Rattle.std.proofs.Common.{◌≡◌, ◌≤◌, ◌+◌, ◌-◌, ◌++◌, ℕ, List, length, take, drop, IsAscii, IsUtf8, subst, sym, ◌∙◌, ap, encode_utf8, arith}
use Rattle.std.proofs.lemmas.List.{take_rest, take_all, length-drop}
use Rattle.std.proofs.lemmas.Str.{IsUtf8-append, IsUtf8-encode, IsUtf8-from_ascii}
use borrow.Rule.Slice.PartMut.{put_mid}
use Rattle.mail_codec.proofs.lemmas.CharsetSingleByte.{spelled, spelled_more, spelled_run}
use Rattle.mail_codec.proofs.lemmas.Written.{written_rest}
use Rattle.mail_codec.proofs.charset.single_byte.encode_block.Goals as goal

-- a run of ASCII bytes was copied
record Copied (high bytes output : List ℕ) (at from run : ℕ) : Type 0 where
  few : from + run ≤ length bytes
  text : take (at + run) output ≡ spelled high (take (from + run) bytes)
  utf8 : IsUtf8 (take (at + run) output)

copied : (high bytes buffer part : List ℕ) (at from run : ℕ) → from ≤ length bytes → run ≤ length (take (length bytes - from) (drop from bytes))
    → IsAscii (take run (take (length bytes - from) (drop from bytes))) → take run part ≡ take run (take (length bytes - from) (drop from bytes))
    → at + (length bytes - from) ≤ length buffer → length part ≡ length (take (length buffer - at) (drop at buffer)) → take at buffer ≡ spelled high (take from bytes) → IsUtf8 (take at buffer)
    → Copied high bytes (put_mid at (length buffer - at) buffer part) at from run
copied high bytes buffer part at from run below fits ascii is capacity same text utf8 =
    let rest = take_rest bytes from in
    let few : from + run ≤ length bytes = omega (arith, below, fits, ap length rest, length-drop from bytes) in
    let low : IsAscii (take run (drop from bytes)) = subst (λ xs. IsAscii (take run xs)) rest ascii in
    let written = written_rest at run buffer part (omega (arith, few, capacity)) same (take run (drop from bytes)) (is ∙ ap (take run) rest) in
    record {
      few = few;
      text = written ∙ ap (λ xs. xs ++ take run (drop from bytes)) text ∙ spelled_run high bytes from run low;
      utf8 = subst IsUtf8 (sym written) (IsUtf8-append _ _ utf8 (IsUtf8-from_ascii _ low));
    }

pub returns-then-from-bytes-clause-written : goal.returns-then-from-bytes-clause-written
returns-then-from-bytes-clause-written c =
    let run = copied c.args.high.now c.args.bytes.now c.characters.buffer c.put_ascii-run.new.output c.characters.at c.characters.from c.put_ascii-run.result c.characters.invariant.below c.put_ascii-run.ensures.bounds c.put_ascii-run.ensures.ascii c.put_ascii-run.ensures.written
    (omega (arith, c.requires.capacity, c.characters.invariant.within, c.characters.invariant.below)) c.put_ascii-run.auto.output c.characters.invariant.text c.characters.invariant.utf8 in
    run.text ∙ ap (spelled c.args.high.now) (take_all _ c.args.bytes.now (omega (arith, c.if-from-bytes.true)))

pub returns-then-from-bytes-clause-utf8 : goal.returns-then-from-bytes-clause-utf8
returns-then-from-bytes-clause-utf8 c =
    let run = copied c.args.high.now c.args.bytes.now c.characters.buffer c.put_ascii-run.new.output c.characters.at c.characters.from c.put_ascii-run.result c.characters.invariant.below c.put_ascii-run.ensures.bounds c.put_ascii-run.ensures.ascii c.put_ascii-run.ensures.written
    (omega (arith, c.requires.capacity, c.characters.invariant.within, c.characters.invariant.below)) c.put_ascii-run.auto.output c.characters.invariant.text c.characters.invariant.utf8 in
    run.utf8

pub returns-then-from-bytes-clause-bounds : goal.returns-then-from-bytes-clause-bounds
returns-then-from-bytes-clause-bounds c =
    let run = copied c.args.high.now c.args.bytes.now c.characters.buffer c.put_ascii-run.new.output c.characters.at c.characters.from c.put_ascii-run.result c.characters.invariant.below c.put_ascii-run.ensures.bounds c.put_ascii-run.ensures.ascii c.put_ascii-run.ensures.written
    (omega (arith, c.requires.capacity, c.characters.invariant.within, c.characters.invariant.below)) c.put_ascii-run.auto.output c.characters.invariant.text c.characters.invariant.utf8 in
    omega (arith, run.few, c.requires.capacity, c.characters.invariant.within, c.characters.invariant.below)

pub characters-preserved : goal.characters-preserved
characters-preserved c =
    let run = copied c.args.high.now c.args.bytes.now c.characters.buffer c.put_ascii-run.new.output c.characters.at c.characters.from c.put_ascii-run.result c.characters.invariant.below c.put_ascii-run.ensures.bounds c.put_ascii-run.ensures.ascii c.put_ascii-run.ensures.written
    (omega (arith, c.requires.capacity, c.characters.invariant.within, c.characters.invariant.below)) c.put_ascii-run.auto.output c.characters.invariant.text c.characters.invariant.utf8 in
    record {
      below = omega (arith, run.few, c.if-from-bytes.false);
      within = omega (arith, run.few, c.characters.invariant.within, c.put_char-at.ensures.bounds);
      text = c.put_char-at.ensures.written ∙ spelled_more c.args.high.now c.args.bytes.now _ _ _ (omega (arith, run.few, c.if-from-bytes.false)) run.text (ap encode_utf8 c.character.ensures);
      utf8 = rw c.put_char-at.ensures.written (IsUtf8-append _ _ run.utf8 (IsUtf8-encode c.character.result c.put_char-at.ensures.scalar));
    }

pub returns-clause-written : goal.returns-clause-written
returns-clause-written c =
    c.characters.invariant.text ∙ ap (spelled c.args.high.now) (take_all c.characters.from c.args.bytes.now (omega arith))
