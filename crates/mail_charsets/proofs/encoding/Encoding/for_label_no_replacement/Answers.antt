use Rattle.std.proofs.Common.{◌≡◌, true, false, sym, refl, ◌∙◌}
use Rattle.std.proofs.lemmas.Str.Ascii.{trim_ascii_is}
use Rattle.mail_codec.specs.Charset.{is_among_labels}
use Rattle.mail_charsets.specs.Encoding.{encoding_of_label, readable_encoding, replacement_labels}
use Rattle.mail_charsets.proofs.encoding.Encoding.for_label_no_replacement.Goals as goal

pub returns-then-is_among : goal.returns-then-is_among
unfolding readable_encoding
returns-then-is_among c =
    let trimmed = trim_ascii_is c.args.label.now c.trim_ascii-trimmed.result.now _ refl c.trim_ascii-trimmed.ensures.value in
    let found : is_among_labels replacement_labels c.trim_ascii-trimmed.result.now ≡ true = sym c.is_among.ensures ∙ c.if-is_among.true in
    rw (← trimmed, found) refl

pub returns : goal.returns
unfolding readable_encoding encoding_of_label
returns c =
    let trimmed = trim_ascii_is c.args.label.now c.trim_ascii-trimmed.result.now _ refl c.trim_ascii-trimmed.ensures.value in
    let none : is_among_labels replacement_labels c.trim_ascii-trimmed.result.now ≡ false = sym c.is_among.ensures ∙ c.if-is_among.false in
    rw (c.encoding_of.ensures, ← trimmed, none) refl
