use Rattle.std.proofs.Common.{◌≡◌, ◌++◌, String, Some, map, sym, ap, ◌∙◌}
use Rattle.std.specs.Borrow.{Bor}
use Rattle.std.specs.Global.{Global}
use Rattle.std.specs.String.{string_bytes}
use Rattle.mailparse.specs.Pairs.{text_at}
use Rattle.mailparse.specs.private.ExtendedValues.{star_taken, extended_view}
use Rattle.mailparse.proofs.lemmas.ExtendedValues.{shown_view, is_some_map, found_key, found_name, found_more, found_push, found_same}
use Rattle.mailparse.proofs.parameters.extended_values.names.extended_names.Goals as goal

pub loop-key-preserved-in-Continue-1 : goal.loop-key-preserved-in-Continue-1
loop-key-preserved-in-Continue-1 g c =
    let keys = text_at c.args.pairs.now in
    let e : Bor (String Global) × Bor (String Global) = (c.in-Some.key, c.in-Some.value) in
    let taken : star_taken (string_bytes c.in-Some.key.now) ≡ Some c.in-Some-without_star.name.now = ap star_taken (sym c.as_str.ensures.value) ∙ sym c.in-Some-without_star.ensures in
    let none = is_some_map string_bytes _ ∙ sym c.if-not-contains_key.ensures in
    let found = found_name (g.K.KnownCharsets.known c.args.known.now) keys (shown_view e) c.in-Some-without_star.name.now taken none in
    found_more (g.K.KnownCharsets.known c.args.known.now) keys c.loop-key.yielded e _ _ c.loop-key.invariant
    (found_push (g.K.KnownCharsets.known c.args.known.now) g.K.Decoder.Decode.text c.loop-key.found.items c.push.new.self.items _ (string_bytes c.in-Some.value.now) c.as_str-then-not-contains_key.result.now
    c.in_ok-push.ensures.items c.as_str-then-not-contains_key-2.ensures.value c.as_str-then-not-contains_key.ensures.value c.charset_in-charset.ensures
    ∙ ap (λ r. map (extended_view g.K.Decoder.Decode.text) c.loop-key.found.items ++ r) (sym found))

pub loop-key-preserved-else-not-contains_key : goal.loop-key-preserved-else-not-contains_key
loop-key-preserved-else-not-contains_key g c =
    let keys = text_at c.args.pairs.now in
    let e : Bor (String Global) × Bor (String Global) = (c.in-Some.key, c.in-Some.value) in
    let taken : star_taken (string_bytes c.in-Some.key.now) ≡ Some c.in-Some-without_star.name.now = ap star_taken (sym c.as_str.ensures.value) ∙ sym c.in-Some-without_star.ensures in
    let some = is_some_map string_bytes _ ∙ sym c.if-not-contains_key.ensures in
    found_same (g.K.KnownCharsets.known c.args.known.now) keys c.loop-key.yielded e _ c.loop-key.invariant (found_key (g.K.KnownCharsets.known c.args.known.now) keys (shown_view e) c.in-Some-without_star.name.now taken some)
