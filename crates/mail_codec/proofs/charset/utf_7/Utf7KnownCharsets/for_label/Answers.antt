use Rattle.std.proofs.Common.{◌≡◌, true, false, sym, refl, ◌∙◌}
use Rattle.std.proofs.lemmas.Str.Ascii.{trim_ascii_is}
use Rattle.mail_codec.specs.Charset.{is_among_labels}
use Rattle.mail_codec.specs.Utf7.{utf_7_labels}
use Rattle.mail_codec.proofs.charset.utf_7.Utf7KnownCharsets.for_label.Goals as goal

pub returns-then-is_among : goal.returns-then-is_among
returns-then-is_among c =
    let trimmed = trim_ascii_is c.args.label.now c.trim_ascii.result.now _ refl c.trim_ascii.ensures.value in
    let known : is_among_labels utf_7_labels c.trim_ascii.result.now ≡ true = sym c.is_among.ensures ∙ c.if-is_among.true in
    rw (← trimmed, known) refl

pub returns-else-is_among : goal.returns-else-is_among
returns-else-is_among c =
    let trimmed = trim_ascii_is c.args.label.now c.trim_ascii.result.now _ refl c.trim_ascii.ensures.value in
    let unknown : is_among_labels utf_7_labels c.trim_ascii.result.now ≡ false = sym c.is_among.ensures ∙ c.if-is_among.false in
    rw (← trimmed, unknown) refl
