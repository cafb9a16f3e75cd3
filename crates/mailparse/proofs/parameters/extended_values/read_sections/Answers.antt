use Rattle.std.proofs.Common.{◌≡◌, Some, None, cond, length, option_map, rules, sym, ap, ◌∙◌}
use Rattle.std.proofs.lemmas.Iterator.Adapters.{YieldsList-from_vec}
use Rattle.std.proofs.lemmas.Iterator.Consumers.{YieldsList-end, YieldsList-turn}
use Rattle.std.proofs.lemmas.List.{map_push}
use Rattle.std.specs.Str.{bytes_eq}
use Rattle.std.specs.String.{string_bytes}
use Rattle.mailparse.specs.ExtendedValues.{extended_at, starred}
use Rattle.mailparse.specs.private.ExtendedValues.{IsReading, names_read, read_section, reading_view}
use Rattle.mailparse.specs.private.Sections.{section_view, sections_at}
use Rattle.mailparse.specs.Pairs.{text_at}
use Rattle.mailparse.specs.private.Filled.{filled, holds_name}
use Rattle.mailparse.specs.declared.parameters.extended_values.Reading.{Reading}
use Rattle.mailparse.proofs.lemmas.ExtendedValuesSections.{names_of_all, reading_turn}
use Rattle.mailparse.proofs.lemmas.Filled.{filled_again, filled_push, removed, stored}
use Rattle.mailparse.proofs.lemmas.Sections.{sections_read, starred_leaves, value_gone, value_there, without_starred}
use Rattle.mailparse.proofs.parameters.extended_values.read_sections.Goals as goal

pub loop-reading-preserved-in-Some-remove : goal.loop-reading-preserved-in-Some-remove
loop-reading-preserved-in-Some-remove g c =
    let keys = text_at c.args.pairs in
    let r = c.in-Some.reading in
    let name = string_bytes r.name in
    let names = names_read c.loop-reading.yielded in
    let pushed = sym (map_push (λ (x : Reading g.row.K-Decoder.Denot). string_bytes x.name) c.loop-reading.yielded r) in
    let gives = c.into_iter-reading-iterator.ensures.into_iter_gives in
    let turn = YieldsList-turn (YieldsList-from_vec c.in_ok-readings.readings.items gives.0 (search rules)) c.loop-reading.yielded c.loop-reading.reading-iterator c.loop-reading.yielded_by _ c.next.new.self _ c.in-Some.is c.next.ensures.steps in
    let is : IsReading (g.K.KnownCharsets.known c.args.known.now) keys (reading_view g.K.Decoder.Decode.text r) = reading_turn (g.K.KnownCharsets.known c.args.known.now) g.K.Decoder.Decode.text keys c.in_ok-readings.readings.items (length c.loop-reading.yielded) r c.in_ok-readings.ensures.each turn.0 turn.1 in
    let key : c.as_str.result.now ≡ starred name = c.as_str.ensures.value ∙ c.in_ok-key.ensures.ok in
    let value = string_bytes c.in-Some-remove.value in
    let there : Some value ≡ without_starred keys names (starred name) =
    ap (option_map string_bytes) c.in-Some-remove.ensures.value ∙ ap (text_at c.loop-reading.texts) key ∙ c.loop-reading.invariant.texts (starred name) in
    let section : section_view g.K.Decoder.Decode.text c.in_ok-section.section ≡ read_section (reading_view g.K.Decoder.Decode.text r) value =
    c.in_ok-section.ensures ∙ ap (λ n. read_section (n, g.K.Decoder.Decode.text r.charset, r.is_own_source) c.as_str-in-Some-remove-2.result.now) c.as_str-in-Some-remove.ensures.value
    ∙ ap (read_section (reading_view g.K.Decoder.Decode.text r)) c.as_str-in-Some-remove-2.ensures.value in
    let some : extended_at (g.K.KnownCharsets.known c.args.known.now) keys name ≡ Some (section_view g.K.Decoder.Decode.text c.in_ok-section.section) =
    is.gives ∙ ap (λ v. Some (read_section (reading_view g.K.Decoder.Decode.text r) v)) (value_there keys names name value there) ∙ ap Some (sym section) in
    record {
      extended = λ q.
          filled_push (extended_at (g.K.KnownCharsets.known c.args.known.now) keys) (λ _. None) names name q (sections_at g.K.Decoder.Decode.text c.loop-reading.extended q) _ (c.loop-reading.invariant.extended q)
          (stored (section_view g.K.Decoder.Decode.text) name c.loop-reading.extended c.insert.new.self c.in_ok-section.section c.in_ok-insert.ensures.updates q
          ∙ ap (λ o. cond (bytes_eq name q) o (sections_at g.K.Decoder.Decode.text c.loop-reading.extended q)) (sym some))
          ∙ ap (λ ns. filled (extended_at (g.K.KnownCharsets.known c.args.known.now) keys) (λ _. None) ns q) pushed;
      texts = λ q.
          starred_leaves keys names name q (text_at c.loop-reading.texts q) _ (c.loop-reading.invariant.texts q)
          (removed string_bytes c.as_str.result.now c.loop-reading.texts c.remove.new.self c.remove.ensures.updates q
          ∙ ap (λ n. cond (bytes_eq n q) None (text_at c.loop-reading.texts q)) key)
          ∙ ap (λ ns. without_starred keys ns q) pushed;
    }

pub loop-reading-preserved : goal.loop-reading-preserved
loop-reading-preserved g c =
    let keys = text_at c.args.pairs in
    let r = c.in-Some.reading in
    let name = string_bytes r.name in
    let names = names_read c.loop-reading.yielded in
    let pushed = sym (map_push (λ (x : Reading g.row.K-Decoder.Denot). string_bytes x.name) c.loop-reading.yielded r) in
    let gives = c.into_iter-reading-iterator.ensures.into_iter_gives in
    let turn = YieldsList-turn (YieldsList-from_vec c.in_ok-readings.readings.items gives.0 (search rules)) c.loop-reading.yielded c.loop-reading.reading-iterator c.loop-reading.yielded_by _ c.next.new.self _ c.in-Some.is c.next.ensures.steps in
    let is : IsReading (g.K.KnownCharsets.known c.args.known.now) keys (reading_view g.K.Decoder.Decode.text r) = reading_turn (g.K.KnownCharsets.known c.args.known.now) g.K.Decoder.Decode.text keys c.in_ok-readings.readings.items (length c.loop-reading.yielded) r c.in_ok-readings.ensures.each turn.0 turn.1 in
    let key : c.as_str.result.now ≡ starred name = c.as_str.ensures.value ∙ c.in_ok-key.ensures.ok in
    let gone : None ≡ without_starred keys names (starred name) =
    ap (option_map string_bytes) c.in_default.ensures.value ∙ ap (text_at c.loop-reading.texts) key ∙ c.loop-reading.invariant.texts (starred name) in
    record {
      extended = λ q.
          filled_again (extended_at (g.K.KnownCharsets.known c.args.known.now) keys) (λ _. None) names name q (sections_at g.K.Decoder.Decode.text c.loop-reading.extended q) (c.loop-reading.invariant.extended q)
          (value_gone keys names name is.valued gone)
          ∙ ap (λ ns. filled (extended_at (g.K.KnownCharsets.known c.args.known.now) keys) (λ _. None) ns q) pushed;
      texts = λ q.
          starred_leaves keys names name q (text_at c.loop-reading.texts q) _ (c.loop-reading.invariant.texts q)
          (removed string_bytes c.as_str.result.now c.loop-reading.texts c.remove.new.self c.remove.ensures.updates q
          ∙ ap (λ n. cond (bytes_eq n q) None (text_at c.loop-reading.texts q)) key)
          ∙ ap (λ ns. without_starred keys ns q) pushed;
    }

pub returns : goal.returns
returns g c = λ q.
    let keys = text_at c.args.pairs in
    let gives = c.into_iter-reading-iterator.ensures.into_iter_gives in
    let all = YieldsList-end (YieldsList-from_vec c.in_ok-readings.readings.items gives.0 (search rules)) c.loop-reading.yielded c.loop-reading.reading-iterator c.loop-reading.yielded_by _ c.next.new.self c.in-None.is c.next.ensures.steps in
    sections_read (g.K.KnownCharsets.known c.args.known.now) keys (names_read c.loop-reading.yielded) q (sections_at g.K.Decoder.Decode.text c.loop-reading.extended q) (text_at c.loop-reading.texts q)
    (λ z. ap (λ ns. holds_name ns z) (names_of_all c.loop-reading.yielded c.in_ok-readings.readings.items all.0) ∙ c.in_ok-readings.ensures.names z)
    (c.loop-reading.invariant.extended q) (c.loop-reading.invariant.texts q)
