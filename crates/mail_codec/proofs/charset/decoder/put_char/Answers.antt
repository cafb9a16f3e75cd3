use Rattle.std.proofs.Common.{refl}
use Rattle.mail_codec.proofs.lemmas.CharsetUtf8.{encode_two, encode_three, encode_four, stored_two, stored_three, stored_four}
use Rattle.mail_codec.proofs.charset.decoder.put_char.Goals as goal

pub returns-then-code-lt2048-clause-written : goal.returns-then-code-lt2048-clause-written
returns-then-code-lt2048-clause-written c =
    rw (encode_two c.args.character c.if-code-lt128.false c.if-code-lt2048.true) (stored_two c.args.buffer.now c.args.at _ _ c.requires.capacity)

pub returns-then-code-lt2048-clause-len : goal.returns-then-code-lt2048-clause-len
returns-then-code-lt2048-clause-len c = rw (encode_two c.args.character c.if-code-lt128.false c.if-code-lt2048.true) refl

pub returns-then-code-lt65536-clause-written : goal.returns-then-code-lt65536-clause-written
returns-then-code-lt65536-clause-written c =
    rw (encode_three c.args.character c.if-code-lt2048.false c.if-code-lt65536.true) (stored_three c.args.buffer.now c.args.at _ _ _ c.requires.capacity)

pub returns-then-code-lt65536-clause-len : goal.returns-then-code-lt65536-clause-len
returns-then-code-lt65536-clause-len c = rw (encode_three c.args.character c.if-code-lt2048.false c.if-code-lt65536.true) refl

pub returns-clause-written : goal.returns-clause-written
returns-clause-written c = rw (encode_four c.args.character c.if-code-lt65536.false) (stored_four c.args.buffer.now c.args.at _ _ _ _ c.requires.capacity)

pub returns-clause-len : goal.returns-clause-len
returns-clause-len c = rw (encode_four c.args.character c.if-code-lt65536.false) refl
