use Rattle.std.proofs.lemmas.Str.{IsUtf8-append, IsUtf8-encode}
use Rattle.mail_charsets.proofs.front.put_characters.Goals as goal

pub returns-in-One-clause-utf8 : goal.returns-in-One-clause-utf8
returns-in-One-clause-utf8 c = λ utf8. rw c.put_char.ensures.written (IsUtf8-append _ _ utf8 (IsUtf8-encode _ c.put_char.ensures.scalar))

pub returns-in-Two-clause-utf8 : goal.returns-in-Two-clause-utf8
returns-in-Two-clause-utf8 c =
    λ utf8. rw (c.put_char-in-Two.ensures.written, c.put_char-middle.ensures.written)
    (IsUtf8-append _ _ (IsUtf8-append _ _ utf8 (IsUtf8-encode _ c.put_char-middle.ensures.scalar)) (IsUtf8-encode _ c.put_char-in-Two.ensures.scalar))
