use Rattle.std.proofs.Common.{◌≡◌, ◌<◌, ℕ, Bool, List, length, map, option_map, is_some, sym, ap, subst, ◌∙◌, arith}
use Rattle.std.proofs.lemmas.List.{map_push}
use Rattle.std.proofs.lemmas.List.Elements.{All-push}
use Rattle.std.specs.List.{All}
use Rattle.std.specs.String.{string_bytes}
use Rattle.mailparse.specs.Pairs.{text_at}
use Rattle.mailparse.specs.ExtendedValues.{reading_of}
use Rattle.mailparse.specs.private.ExtendedValues.{IsReading, names_of, names_read, reading_by, reading_view, extended_view}
use Rattle.mailparse.specs.private.Pairs.{pair_view}
use Rattle.mailparse.specs.private.Filled.{holds_name}
use Rattle.mailparse.specs.declared.parameters.extended_values.Reading.{Reading}
use Rattle.mailparse.proofs.lemmas.CharsetSourcesRanges.{long_names}
use Rattle.mailparse.proofs.lemmas.ExtendedValuesSections.{names_all, names_more, names_passed, place_read, place_within, reading_known, reading_made, extended_found}
use Rattle.mailparse.proofs.lemmas.ExtendedValuesNames.{map_of_texts}
use Rattle.mailparse.proofs.parameters.extended_values.readings.Goals as goal
use Rattle.mailparse.proofs.parameters.extended_values.readings.Goals.{in-Some+in_ok-push, in_default}

pub reading_at-requires-clause-source : goal.reading_at-requires-clause-source
reading_at-requires-clause-source g c =
    let extended = c.in_ok-extended.extended.items in
    let map_of = map_of_texts c.args.pairs.now c.in_ok-extended.ensures.ordered in
    let all = extended_found (g.K.KnownCharsets.known c.args.known.now) g.K.Decoder.Decode.text _ _ extended map_of c.in_ok-extended.ensures.read in
    let below = c.loop-place-test.true in
    let at = place_read extended c.as_slice.result.now c.in_ok-sources.sources.items c.loop-place.place c.index.result.now c.as_slice.ensures.value all.order
    c.in_ok-sources.ensures.len c.in_ok-sources.ensures.sources (omega (arith, below, c.len.ensures)) c.index.ensures in
    let within = place_within extended c.loop-place.place (omega (arith, below, c.len.ensures)) in
    omega (arith, at, within, ap length c.as_slice-in-loop-place.ensures.value)

pub loop-place-preserved : goal.loop-place-preserved
loop-place-preserved g c =
    let extended = c.in_ok-extended.extended.items in
    let names = names_of extended in
    let place = c.loop-place.place in
    let last = c.index.result.now in
    let keys = text_at c.args.pairs.now in
    let known : List ℕ → Bool = λ q. is_some (reading_of (g.K.KnownCharsets.known c.args.known.now) keys q) in
    let entries = map pair_view c.args.pairs.now.entries in
    let map_of = map_of_texts c.args.pairs.now c.in_ok-extended.ensures.ordered in
    let found = c.in_ok-extended.ensures.read in
    let all = extended_found (g.K.KnownCharsets.known c.args.known.now) g.K.Decoder.Decode.text keys entries extended map_of found in
    let below : place < length extended = omega (arith, c.loop-place-test.true, c.len.ensures) in
    let long = long_names extended in
    let within : place < length names = omega (arith, below, long) in
    let at = place_read extended c.as_slice.result.now c.in_ok-sources.sources.items place last c.as_slice.ensures.value all.order
    c.in_ok-sources.ensures.len c.in_ok-sources.ensures.sources below c.index.ensures in
    let given : option_map (reading_view g.K.Decoder.Decode.text) c.in_ok-reading.field-0 ≡ reading_by (map (extended_view g.K.Decoder.Decode.text) extended) place last =
    c.in_ok-reading.ensures ∙ ap (λ ws. reading_by (map (extended_view g.K.Decoder.Decode.text) ws) place last) c.as_slice-in-loop-place.ensures.value in
    record {
      bound = omega (arith, below);
      each = elim c.match-branch-4.branch [
        | in-Some+in_ok-push w ↦
            let r = w.in-Some.reading in
            let made = reading_made (g.K.KnownCharsets.known c.args.known.now) g.K.Decoder.Decode.text keys entries extended place last (reading_view g.K.Decoder.Decode.text r) map_of found below at (sym (ap (option_map (reading_view g.K.Decoder.Decode.text)) w.in-Some.is) ∙ given) in
            subst (All (IsReading (g.K.KnownCharsets.known c.args.known.now) keys)) (sym (ap (λ (v : List (Reading g.row.K-Decoder.Denot)). map (reading_view g.K.Decoder.Decode.text) v) (ap (λ v. v.items) w.found-is ∙ w.in_ok-push.ensures.items) ∙ map_push (reading_view g.K.Decoder.Decode.text) c.loop-place.found.items r))
            (All-push (IsReading (g.K.KnownCharsets.known c.args.known.now) keys) (map (reading_view g.K.Decoder.Decode.text) c.loop-place.found.items) (reading_view g.K.Decoder.Decode.text r) c.loop-place.invariant.each made.0)
        | in_default w ↦ subst (λ v. All (IsReading (g.K.KnownCharsets.known c.args.known.now) keys) (map (reading_view g.K.Decoder.Decode.text) v.items)) (sym w.found-is) c.loop-place.invariant.each
      ];
      names = elim c.match-branch-4.branch [
        | in-Some+in_ok-push w ↦ λ q.
            let r = w.in-Some.reading in
            let some = sym (ap (option_map (reading_view g.K.Decoder.Decode.text)) w.in-Some.is) ∙ given in
            let made = reading_made (g.K.KnownCharsets.known c.args.known.now) g.K.Decoder.Decode.text keys entries extended place last (reading_view g.K.Decoder.Decode.text r) map_of found below at some in
            ap (λ (v : List (Reading g.row.K-Decoder.Denot)). holds_name (names_read v) q) (ap (λ v. v.items) w.found-is ∙ w.in_ok-push.ensures.items)
            ∙ ap (λ ns. holds_name ns q) (map_push (λ (x : Reading g.row.K-Decoder.Denot). string_bytes x.name) c.loop-place.found.items r)
            ∙ names_more names known place (names_read c.loop-place.found.items) (string_bytes r.name) q within made.1
            (reading_known (g.K.KnownCharsets.known c.args.known.now) g.K.Decoder.Decode.text keys entries extended place last map_of found below at ∙ ap is_some (sym some)) (c.loop-place.invariant.names q)
        | in_default w ↦ λ q.
            ap (λ v. holds_name (names_read v.items) q) w.found-is
            ∙ names_passed names known place (names_read c.loop-place.found.items) q within
            (reading_known (g.K.KnownCharsets.known c.args.known.now) g.K.Decoder.Decode.text keys entries extended place last map_of found below at ∙ ap is_some (sym given ∙ ap (option_map (reading_view g.K.Decoder.Decode.text)) w.in_default.is)) (c.loop-place.invariant.names q)
      ];
    }

pub returns-clause-names : goal.returns-clause-names
returns-clause-names g c = λ q.
    let extended = c.in_ok-extended.extended.items in
    let keys = text_at c.args.pairs.now in
    let map_of = map_of_texts c.args.pairs.now c.in_ok-extended.ensures.ordered in
    let all = extended_found (g.K.KnownCharsets.known c.args.known.now) g.K.Decoder.Decode.text keys (map pair_view c.args.pairs.now.entries) extended map_of c.in_ok-extended.ensures.read in
    let long = long_names extended in
    names_all (g.K.KnownCharsets.known c.args.known.now) keys (names_of extended) c.loop-place.place all (omega (arith, long, c.loop-place-test.false, c.len.ensures)) q (names_read c.loop-place.found.items) (c.loop-place.invariant.names q)
