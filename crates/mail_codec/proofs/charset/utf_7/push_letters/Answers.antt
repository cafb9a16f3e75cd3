use Rattle.std.proofs.Common.{◌∙◌, [], ◌∷◌, ◌++◌, map, ap, sym, append-nil, append_assoc, encode_utf8_all, string_bytes}
use Rattle.std.specs.Prelude.{encode_utf8}
use Rattle.std.specs.List.{range_with_len}
use Rattle.std.specs.Char.Utf16.{utf16_lossy_chars}
use Rattle.mail_codec.specs.Charset.{replacement}
use Rattle.mail_codec.specs.Utf7.{unit_at, units_count}
use Rattle.mail_codec.proofs.lemmas.Utf7.{letters_cut, letters_whole}
use Rattle.mail_codec.proofs.charset.utf_7.push_letters.Goals as goal

pub returns-then-ends_whole : goal.returns-then-ends_whole
returns-then-ends_whole c =
    let made = c.as_str.ensures.value ∙ c.in_ok-characters.ensures ∙ ap (λ xs. encode_utf8_all (utf16_lossy_chars xs)) (c.as_slice.ensures.value ∙ c.in_ok-units.ensures) in
    c.in_ok-push_str.ensures.bytes ∙ ap (λ xs. string_bytes c.args.text.now ++ xs) (made ∙ letters_whole c.args.letters.now (sym c.if-ends_whole.ensures))

pub returns : goal.returns
returns c =
    let chars = encode_utf8_all (utf16_lossy_chars (map (unit_at c.args.letters.now) (range_with_len 0 (units_count c.args.letters.now)))) in
    let cut = encode_utf8_all (replacement ∷ []) in
    let made = c.as_str.ensures.value ∙ c.in_ok-characters.ensures ∙ ap (λ xs. encode_utf8_all (utf16_lossy_chars xs)) (c.as_slice.ensures.value ∙ c.in_ok-units.ensures) in
    c.in_ok-push.ensures.bytes ∙ ap (λ xs. string_bytes c.push_str.new.self ++ xs) (sym (append-nil (encode_utf8 replacement)))
    ∙ ap (λ xs. xs ++ cut) (c.in_ok-push_str.ensures.bytes ∙ ap (λ xs. string_bytes c.args.text.now ++ xs) made)
    ∙ append_assoc (string_bytes c.args.text.now) chars cut
    ∙ ap (λ xs. string_bytes c.args.text.now ++ xs) (letters_cut c.args.letters.now (sym c.if-ends_whole.ensures))
