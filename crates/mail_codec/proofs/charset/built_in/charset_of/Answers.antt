use Rattle.std.proofs.Common.{◌≡◌, true, false, sym, refl, ◌∙◌}
use Rattle.mail_codec.specs.Charset.{is_among_labels, utf_8_labels, windows_1252_labels, utf_16be_labels, utf_16le_labels}
use Rattle.mail_codec.proofs.charset.built_in.charset_of.Goals as goal

pub returns-then-is_among : goal.returns-then-is_among
returns-then-is_among c =
    let first : is_among_labels utf_8_labels c.args.label.now ≡ true = sym c.is_among.ensures ∙ c.if-is_among.true in
    rw first refl

pub returns-then-is_among-2 : goal.returns-then-is_among-2
returns-then-is_among-2 c =
    let first : is_among_labels utf_8_labels c.args.label.now ≡ false = sym c.is_among.ensures ∙ c.if-is_among.false in
    let second : is_among_labels windows_1252_labels c.args.label.now ≡ true = sym c.is_among-else-is_among.ensures ∙ c.if-is_among-2.true in
    rw (first, second) refl

pub returns-then-is_among-3 : goal.returns-then-is_among-3
returns-then-is_among-3 c =
    let first : is_among_labels utf_8_labels c.args.label.now ≡ false = sym c.is_among.ensures ∙ c.if-is_among.false in
    let second : is_among_labels windows_1252_labels c.args.label.now ≡ false = sym c.is_among-else-is_among.ensures ∙ c.if-is_among-2.false in
    let third : is_among_labels utf_16be_labels c.args.label.now ≡ true = sym c.is_among-else-is_among-2.ensures ∙ c.if-is_among-3.true in
    rw (first, second, third) refl

pub returns-then-is_among-4 : goal.returns-then-is_among-4
returns-then-is_among-4 c =
    let first : is_among_labels utf_8_labels c.args.label.now ≡ false = sym c.is_among.ensures ∙ c.if-is_among.false in
    let second : is_among_labels windows_1252_labels c.args.label.now ≡ false = sym c.is_among-else-is_among.ensures ∙ c.if-is_among-2.false in
    let third : is_among_labels utf_16be_labels c.args.label.now ≡ false = sym c.is_among-else-is_among-2.ensures ∙ c.if-is_among-3.false in
    let fourth : is_among_labels utf_16le_labels c.args.label.now ≡ true = sym c.is_among-else-is_among-3.ensures ∙ c.if-is_among-4.true in
    rw (first, second, third, fourth) refl

pub returns-else-is_among-4 : goal.returns-else-is_among-4
returns-else-is_among-4 c =
    let first : is_among_labels utf_8_labels c.args.label.now ≡ false = sym c.is_among.ensures ∙ c.if-is_among.false in
    let second : is_among_labels windows_1252_labels c.args.label.now ≡ false = sym c.is_among-else-is_among.ensures ∙ c.if-is_among-2.false in
    let third : is_among_labels utf_16be_labels c.args.label.now ≡ false = sym c.is_among-else-is_among-2.ensures ∙ c.if-is_among-3.false in
    let fourth : is_among_labels utf_16le_labels c.args.label.now ≡ false = sym c.is_among-else-is_among-3.ensures ∙ c.if-is_among-4.false in
    rw (first, second, third, fourth) refl
