use Rattle.std.proofs.Common.{ℕ, Vec, sym, ap, ◌∙◌}
use Rattle.std.specs.Option.{option_map}
use Rattle.std.specs.Global.{Global}
use Rattle.mailparse.proofs.lemmas.EncodedWord.{word_unmarked, word_half, word_no_charset, word_no_bytes, word_whole}
use Rattle.mailparse.proofs.header.encoded_word.decode_word.Goals as goal

pub returns-in_default : goal.returns-in_default
returns-in_default g c = word_unmarked (g.K.KnownCharsets.known c.args.known.now) c.args.inside.now c.in_default.ensures

pub returns-in_default-cut_at_question_mark : goal.returns-in_default-cut_at_question_mark
returns-in_default-cut_at_question_mark g c =
    word_half (g.K.KnownCharsets.known c.args.known.now) c.args.inside.now c.in-Some.label.now c.in-Some.rest.now c.in-Some.ensures c.in_default-cut_at_question_mark.ensures

pub returns-in_default-for_label : goal.returns-in_default-for_label
returns-in_default-for_label g c =
    word_no_charset (g.K.KnownCharsets.known c.args.known.now) c.args.inside.now c.in-Some.label.now _ _ _ c.in-Some.ensures c.in-Some-cut_at_question_mark.ensures (ap (g.K.KnownCharsets.known c.args.known.now) (sym c.as_bytes.ensures.value) ∙ sym c.for_label.ensures ∙ ap (option_map g.K.Decoder.Decode.text) c.in_default-for_label.is)

pub returns-in_default-2 : goal.returns-in_default-2
returns-in_default-2 g c =
    word_no_bytes (g.K.KnownCharsets.known c.args.known.now) c.args.inside.now c.in-Some.label.now _ _ _ (g.K.Decoder.Decode.text c.in-Some-for_label.charset) c.in-Some.ensures c.in-Some-cut_at_question_mark.ensures (ap (g.K.KnownCharsets.known c.args.known.now) (sym c.as_bytes.ensures.value) ∙ sym c.for_label.ensures ∙ ap (option_map g.K.Decoder.Decode.text) c.in-Some-for_label.is)
    (sym c.in_ok-bytes.ensures ∙ ap (option_map (λ (b : Vec ℕ Global). b.items)) c.in_default-2.is)

pub returns : goal.returns
returns g c =
    word_whole (g.K.KnownCharsets.known c.args.known.now) c.args.inside.now c.in-Some.label.now _ _ _ c.in-Some-2.bytes.items _ (g.K.Decoder.Decode.text c.in-Some-for_label.charset) c.in-Some.ensures c.in-Some-cut_at_question_mark.ensures (ap (g.K.KnownCharsets.known c.args.known.now) (sym c.as_bytes.ensures.value) ∙ sym c.for_label.ensures ∙ ap (option_map g.K.Decoder.Decode.text) c.in-Some-for_label.is)
    (sym c.in_ok-bytes.ensures ∙ ap (option_map (λ (b : Vec ℕ Global). b.items)) c.in-Some-2.is)
    c.in_ok-text.ensures
