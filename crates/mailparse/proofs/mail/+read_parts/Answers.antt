use Rattle.std.proofs.Common.{◌≡◌, ℕ, Bool, ◌+◌, ◌-◌, [], List, Option, length, map, drop, slice_range, refl, sym, ap, ◌∙◌, subst}
use Rattle.std.proofs.lemmas.Option.{IfSome_then}
use Rattle.mailparse.specs.Delimiters.{end_from_as, next_part_as}
use Rattle.mailparse.specs.Mail.{Tree, whole_lines_for}
use Rattle.mailparse.specs.Views.{in_digest, tree_of}
use Rattle.mailparse.specs.declared.mail.Split.{Split}
use Rattle.mailparse.specs.declared.mail.message.ParsedMail.{ParsedMail}
use Rattle.mailparse.specs.private.Parts.{IsBegun, IsPushed, IsRead}
use Rattle.mailparse.specs.Limit.{items_met}
use Rattle.mailparse.proofs.lemmas.Limit.{Leaves, met_from}
use Rattle.mailparse.proofs.lemmas.Mail.{with_trees, with_trees-none, parts_from}
use Rattle.mailparse.proofs.lemmas.Parts.{part_all, part_met, part_placed, split_met, split_refused, split_whole}
use Rattle.mailparse.proofs.lemmas.Placement.{ArePlaced}
use Rattle.mailparse.proofs.mail.+read_parts.Goals as goal

pub loop-next-init : goal.loop-next-init
loop-next-init g t c =
    let manner = g.M.ReadingManner.manner c.args.manner.now in
    let raw = c.args.source.now.raw.now in
    let split = c.args.split.now in
    let dash_boundary = drop 1 split.line_delimiter.items in
    let none : map tree_of c.new-parts.result.items ≡ [] = ap (map tree_of) c.new-parts.ensures.items in
    let parts = parts_from manner (c.args.levels - 1) (in_digest split.inner) dash_boundary raw in
    record {
      within = c.requires.first;
      all = ap (λ (ts : List Tree). with_trees ts (parts split.first)) none ∙ with_trees-none (parts split.first);
      counted = λ limit all h. h;
      placed = subst (λ (ms : List ParsedMail). ArePlaced manner.whole_lines c.args.source.now.offset dash_boundary raw split.first split.first ms) (sym c.new-parts.ensures.items) (λ rest. refl);
    }

pub cut_part-end-requires-clause-line_delimiter : goal.cut_part-end-requires-clause-line_delimiter
cut_part-end-requires-clause-line_delimiter g t c = rw c.as_slice-delimiter.ensures.value c.requires.line_delimiter

pub returns-clause-read : goal.returns-clause-read
returns-clause-read g t c = λ limit mail is.
    let manner = g.M.ReadingManner.manner c.args.manner.now in
    let raw = c.args.source.now.raw.now in
    let offset = c.args.source.now.offset in
    let split = c.args.split.now in
    let digest = in_digest c.args.source.now.default in
    let dash_boundary = drop 1 split.line_delimiter.items in
    let levels = c.args.levels - 1 in
    let parts = c.loop-next.parts.items in
    let all = parts_from manner levels (in_digest split.inner) dash_boundary raw split.first in
    let done = subst (λ (o : Option ℕ). with_trees (map tree_of parts) (parts_from manner levels (in_digest split.inner) dash_boundary raw o) ≡ all) c.in_default.is c.loop-next.invariant.all in
    let all_met = items_met manner c.args.levels digest raw in
    let met = c.loop-next.invariant.counted limit all_met (split_met manner limit c.args.left.now c.args.levels digest raw offset split mail is) in
    let counted = subst (λ (o : Option ℕ). Leaves limit all_met c.loop-next.left (met_from manner levels (in_digest split.inner) dash_boundary raw o)) c.in_default.is met in
    let placed = subst (λ (o : Option ℕ). ArePlaced manner.whole_lines offset dash_boundary raw split.first o parts) c.in_default.is c.loop-next.invariant.placed in
    split_whole manner limit c.args.left.now c.args.levels digest raw offset split mail is c.loop-next.left parts done counted placed

-- a part that is refused by itself
pub returns-in-Err-clause-refused : goal.returns-in-Err-clause-refused
returns-in-Err-clause-refused g t c = λ limit mail is.
    let manner = g.M.ReadingManner.manner c.args.manner.now in
    let raw = c.args.source.now.raw.now in
    let offset = c.args.source.now.offset in
    let split = c.args.split.now in
    let dash_boundary = drop 1 split.line_delimiter.items in
    let lines = whole_lines_for manner.whole_lines dash_boundary in
    let levels = c.args.levels - 1 in
    let start = c.in-Some.start in
    let part_end = c.cut_part-end.result.0 in
    let after = c.cut_part-end.result.1 in
    let bytes = slice_range raw start part_end in
    let ends : part_end ≡ end_from_as lines dash_boundary raw start (length raw) = c.cut_part-end.ensures.end ∙ ap (λ (t : Bool). end_from_as t (drop 1 c.as_slice-delimiter.result.now) raw start (length raw)) c.requires.lines ∙ ap (λ (l : List ℕ). end_from_as lines (drop 1 l) raw start (length raw)) c.as_slice-delimiter.ensures.value in
    let next : after ≡ next_part_as lines dash_boundary raw start = c.cut_part-end.ensures.next ∙ ap (λ (t : Bool). next_part_as t (drop 1 c.as_slice-delimiter.result.now) raw start) c.requires.lines ∙ ap (λ (l : List ℕ). next_part_as lines (drop 1 l) raw start) c.as_slice-delimiter.ensures.value in
    let all = parts_from manner levels (in_digest split.inner) dash_boundary raw split.first in
    let before = subst (λ (o : Option ℕ). with_trees (map tree_of c.loop-next.parts.items) (parts_from manner levels (in_digest split.inner) dash_boundary raw o) ≡ all) c.in-Some.is c.loop-next.invariant.all in
    let digest = in_digest c.args.source.now.default in
    let all_met = items_met manner c.args.levels digest raw in
    let met = c.loop-next.invariant.counted limit all_met (split_met manner limit c.args.left.now c.args.levels digest raw offset split mail is) in
    let counted = subst (λ (o : Option ℕ). Leaves limit all_met c.loop-next.left (met_from manner levels (in_digest split.inner) dash_boundary raw o)) c.in-Some.is met in
    split_refused manner limit c.args.left.now c.args.levels digest raw offset split mail is c.loop-next.left (map tree_of c.loop-next.parts.items) start part_end after ends next before counted
    c.in-Err.refusal c.in-Err.ensures.refused

-- one that is refused for its parts
pub returns-in-Err-read_parts-clause-refused : goal.returns-in-Err-read_parts-clause-refused
returns-in-Err-read_parts-clause-refused g t c = λ limit mail is.
    let manner = g.M.ReadingManner.manner c.args.manner.now in
    let raw = c.args.source.now.raw.now in
    let offset = c.args.source.now.offset in
    let split = c.args.split.now in
    let dash_boundary = drop 1 split.line_delimiter.items in
    let lines = whole_lines_for manner.whole_lines dash_boundary in
    let levels = c.args.levels - 1 in
    let start = c.in-Some.start in
    let part_end = c.cut_part-end.result.0 in
    let after = c.cut_part-end.result.1 in
    let bytes = slice_range raw start part_end in
    let ends : part_end ≡ end_from_as lines dash_boundary raw start (length raw) = c.cut_part-end.ensures.end ∙ ap (λ (t : Bool). end_from_as t (drop 1 c.as_slice-delimiter.result.now) raw start (length raw)) c.requires.lines ∙ ap (λ (l : List ℕ). end_from_as lines (drop 1 l) raw start (length raw)) c.as_slice-delimiter.ensures.value in
    let next : after ≡ next_part_as lines dash_boundary raw start = c.cut_part-end.ensures.next ∙ ap (λ (t : Bool). next_part_as t (drop 1 c.as_slice-delimiter.result.now) raw start) c.requires.lines ∙ ap (λ (l : List ℕ). next_part_as lines (drop 1 l) raw start) c.as_slice-delimiter.ensures.value in
    let all = parts_from manner levels (in_digest split.inner) dash_boundary raw split.first in
    let before = subst (λ (o : Option ℕ). with_trees (map tree_of c.loop-next.parts.items) (parts_from manner levels (in_digest split.inner) dash_boundary raw o) ≡ all) c.in-Some.is c.loop-next.invariant.all in
    let begun = subst (λ (o : Option Split). IsPushed c.loop-next.parts.items c.push_message.new.found.items (IsBegun manner c.loop-next.left c.push_message.new.left levels (in_digest split.inner) bytes (offset + start) o)) c.in-Some-inner.is c.in-Ok.ensures.pushed in
    let digest = in_digest c.args.source.now.default in
    let all_met = items_met manner c.args.levels digest raw in
    let met = c.loop-next.invariant.counted limit all_met (split_met manner limit c.args.left.now c.args.levels digest raw offset split mail is) in
    let counted = subst (λ (o : Option ℕ). Leaves limit all_met c.loop-next.left (met_from manner levels (in_digest split.inner) dash_boundary raw o)) c.in-Some.is met in
    split_refused manner limit c.args.left.now c.args.levels digest raw offset split mail is c.loop-next.left (map tree_of c.loop-next.parts.items) start part_end after ends next before counted
    c.in-Err-read_parts.refusal (c.in-Err-read_parts.ensures.refused c.loop-next.left begun.0 begun.2)

-- a part that was read by itself
pub loop-next-preserved : goal.loop-next-preserved
loop-next-preserved g t c =
    let manner = g.M.ReadingManner.manner c.args.manner.now in
    let raw = c.args.source.now.raw.now in
    let offset = c.args.source.now.offset in
    let split = c.args.split.now in
    let dash_boundary = drop 1 split.line_delimiter.items in
    let lines = whole_lines_for manner.whole_lines dash_boundary in
    let levels = c.args.levels - 1 in
    let start = c.in-Some.start in
    let part_end = c.cut_part-end.result.0 in
    let after = c.cut_part-end.result.1 in
    let bytes = slice_range raw start part_end in
    let ends : part_end ≡ end_from_as lines dash_boundary raw start (length raw) = c.cut_part-end.ensures.end ∙ ap (λ (t : Bool). end_from_as t (drop 1 c.as_slice-delimiter.result.now) raw start (length raw)) c.requires.lines ∙ ap (λ (l : List ℕ). end_from_as lines (drop 1 l) raw start (length raw)) c.as_slice-delimiter.ensures.value in
    let next : after ≡ next_part_as lines dash_boundary raw start = c.cut_part-end.ensures.next ∙ ap (λ (t : Bool). next_part_as t (drop 1 c.as_slice-delimiter.result.now) raw start) c.requires.lines ∙ ap (λ (l : List ℕ). next_part_as lines (drop 1 l) raw start) c.as_slice-delimiter.ensures.value in
    let all = parts_from manner levels (in_digest split.inner) dash_boundary raw split.first in
    let before = subst (λ (o : Option ℕ). with_trees (map tree_of c.loop-next.parts.items) (parts_from manner levels (in_digest split.inner) dash_boundary raw o) ≡ all) c.in-Some.is c.loop-next.invariant.all in
    let begun = subst (λ (o : Option Split). IsPushed c.loop-next.parts.items c.push_message.new.found.items (IsBegun manner c.loop-next.left c.push_message.new.left levels (in_digest split.inner) bytes (offset + start) o)) c.in_default-inner.is c.in-Ok.ensures.pushed in
    let part = begun in
    let now = c.push_message.new.left in
    let parts = c.push_message.new.found.items in
    let placed = subst (λ (o : Option ℕ). ArePlaced manner.whole_lines offset dash_boundary raw split.first o c.loop-next.parts.items) c.in-Some.is c.loop-next.invariant.placed in
    record {
      within = IfSome_then after c.cut_part-end.ensures.bounds.2 (λ x bounds. bounds.1);
      all = part_all manner levels (in_digest split.inner) dash_boundary raw start part_end after c.loop-next.left now offset part.0 ends next part.2 c.loop-next.parts.items parts part.1 all before;
      counted = λ limit all h. part_met manner levels (in_digest split.inner) dash_boundary raw start part_end after c.loop-next.left now offset part.0 ends next part.2 limit all
          (subst (λ (o : Option ℕ). Leaves limit all c.loop-next.left (met_from manner levels (in_digest split.inner) dash_boundary raw o)) c.in-Some.is (c.loop-next.invariant.counted limit all h));
      placed = part_placed manner levels (in_digest split.inner) dash_boundary raw start part_end after c.loop-next.left now offset part.0 ends next part.2 c.loop-next.parts.items parts part.1 split.first placed;
    }

-- one that was read with its parts
pub loop-next-preserved-in-Ok-read_parts : goal.loop-next-preserved-in-Ok-read_parts
loop-next-preserved-in-Ok-read_parts g t c =
    let manner = g.M.ReadingManner.manner c.args.manner.now in
    let raw = c.args.source.now.raw.now in
    let offset = c.args.source.now.offset in
    let split = c.args.split.now in
    let dash_boundary = drop 1 split.line_delimiter.items in
    let lines = whole_lines_for manner.whole_lines dash_boundary in
    let levels = c.args.levels - 1 in
    let start = c.in-Some.start in
    let part_end = c.cut_part-end.result.0 in
    let after = c.cut_part-end.result.1 in
    let bytes = slice_range raw start part_end in
    let ends : part_end ≡ end_from_as lines dash_boundary raw start (length raw) = c.cut_part-end.ensures.end ∙ ap (λ (t : Bool). end_from_as t (drop 1 c.as_slice-delimiter.result.now) raw start (length raw)) c.requires.lines ∙ ap (λ (l : List ℕ). end_from_as lines (drop 1 l) raw start (length raw)) c.as_slice-delimiter.ensures.value in
    let next : after ≡ next_part_as lines dash_boundary raw start = c.cut_part-end.ensures.next ∙ ap (λ (t : Bool). next_part_as t (drop 1 c.as_slice-delimiter.result.now) raw start) c.requires.lines ∙ ap (λ (l : List ℕ). next_part_as lines (drop 1 l) raw start) c.as_slice-delimiter.ensures.value in
    let all = parts_from manner levels (in_digest split.inner) dash_boundary raw split.first in
    let before = subst (λ (o : Option ℕ). with_trees (map tree_of c.loop-next.parts.items) (parts_from manner levels (in_digest split.inner) dash_boundary raw o) ≡ all) c.in-Some.is c.loop-next.invariant.all in
    let begun = subst (λ (o : Option Split). IsPushed c.loop-next.parts.items c.push_message.new.found.items (IsBegun manner c.loop-next.left c.push_message.new.left levels (in_digest split.inner) bytes (offset + start) o)) c.in-Some-inner.is c.in-Ok.ensures.pushed in
    let with = c.set_last_parts.ensures c.loop-next.parts.items begun.0 begun.1 in
    let now = c.read_parts.new.left in
    let parts = c.set_last_parts.new.found.items in
    let part : IsPushed c.loop-next.parts.items parts (IsRead manner c.loop-next.left now levels (in_digest split.inner) bytes (offset + start)) =
    (with.0, with.1, c.in-Ok-read_parts.ensures.read c.loop-next.left begun.0 begun.2 with.0 with.2) in
    let placed = subst (λ (o : Option ℕ). ArePlaced manner.whole_lines offset dash_boundary raw split.first o c.loop-next.parts.items) c.in-Some.is c.loop-next.invariant.placed in
    record {
      within = IfSome_then after c.cut_part-end.ensures.bounds.2 (λ x bounds. bounds.1);
      all = part_all manner levels (in_digest split.inner) dash_boundary raw start part_end after c.loop-next.left now offset part.0 ends next part.2 c.loop-next.parts.items parts part.1 all before;
      counted = λ limit all h. part_met manner levels (in_digest split.inner) dash_boundary raw start part_end after c.loop-next.left now offset part.0 ends next part.2 limit all
          (subst (λ (o : Option ℕ). Leaves limit all c.loop-next.left (met_from manner levels (in_digest split.inner) dash_boundary raw o)) c.in-Some.is (c.loop-next.invariant.counted limit all h));
      placed = part_placed manner levels (in_digest split.inner) dash_boundary raw start part_end after c.loop-next.left now offset part.0 ends next part.2 c.loop-next.parts.items parts part.1 split.first placed;
    }
