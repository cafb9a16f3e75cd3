use Rattle.std.proofs.Common.{◌≡◌, ℕ, ◌+◌, ◌<◌, ◌≤◌, ◌∷◌, [], List, Option, Some, None, option_map, length, take, drop, slice_range, IfOk, Ok, Err, Result, refl, sym, ap, ◌∙◌, subst, arith}
use Rattle.std.specs.Global.{Vec}
use Rattle.std.specs.Vec.{vec_len}
use Rattle.std.proofs.lemmas.Option.{IfSome_then}
use Rattle.std.proofs.lemmas.Result.{err_from_is_err_and}
use Rattle.mailparse.specs.Delimiters.{first_part_as, preamble_end_as}
use Rattle.mailparse.specs.Block.{HeaderList, read_block}
use Rattle.mailparse.specs.Mail.{Tree, tree, no_parts, dash_boundary_of, or_kept, read_levels}
use Rattle.mailparse.specs.Outcome.{Answers, AnswersOrMemory, IsRefusalOrMemory}
use Rattle.mailparse.specs.Refusal.{recursion_limit, Reads}
use Rattle.mailparse.specs.Views.{content_type, header_list, in_digest}
use Rattle.mailparse.specs.declared.error.MailParseError.{MailParseError}
use Rattle.mailparse.specs.Header.{Header}
use Rattle.mailparse.proofs.lemmas.Outcome.{IsRefusal-along, IsRefusalOrMemory-from}
use Rattle.mailparse.specs.Limit.{headers_met, items_met, limited}
use Rattle.mailparse.specs.private.Limit.{less}
use Rattle.mailparse.proofs.lemmas.Limit.{leaves_all, leaves_spent, leaves_two, leaves_end, leaves_read, leaves_refused, items_met-none, items_met-own, met_after_own, items_met-headers, items_met-refused, items_met-leaf, answer_given, answer_refused, ok_given}
use Rattle.mailparse.proofs.lemmas.Mail.{reading, reading-refused, read_levels-none, read_levels-step, read_levels-leaf, line_delimiter_none, IsLineDelimiter-of}
use Rattle.mailparse.specs.Placement.{Placement, placements_as}
use Rattle.mailparse.proofs.lemmas.Parts.{placement_first}
use Rattle.mailparse.proofs.lemmas.Placement.{placed_leaf}
use Rattle.mailparse.proofs.mail.read_message.Goals as goal

-- the line delimiter that was made
made : (o : Option (Vec ℕ)) (line_delimiter : Vec ℕ) (r : Option (List ℕ)) → o ≡ Some line_delimiter → option_map (λ l. l.items) o ≡ r → Some line_delimiter.items ≡ r
made o line_delimiter r e h = sym (ap (option_map (λ (l : Vec ℕ). l.items)) e) ∙ h

-- a message with no levels left
pub returns-in_err-whole-clause-refused : goal.returns-in_err-whole-clause-refused
returns-in_err-whole-clause-refused g c =
    let manner = g.M.ReadingManner.manner c.args.manner.now in
    let limit = c.args.left.now in
    let digest = in_digest c.args.source.now.default in
    let raw = c.args.source.now.raw.now in
    let all = items_met manner c.args.levels digest raw in
    let p = err_from_is_err_and c.from_residual-in_err-whole.result c.from_residual-in_err-whole.ensures.1 in
    let left = leaves_spent limit all limit c.in_ok-left.field-0 1 0 (leaves_all limit all 1 (items_met-none manner c.args.levels digest raw c.if-levels-eq0.true)) c.in_ok-left.ensures in
    rw (p.1, p.2) (subst (λ (r : Reads Tree). IsRefusalOrMemory c.in_err-whole.field-0.0 r) (sym (leaves_read limit all c.in_ok-left.field-0 (read_levels manner c.args.levels digest raw) left ∙ read_levels-none manner c.args.levels digest raw c.if-levels-eq0.true))
    (c.in_err-whole.ensures.read (Err recursion_limit) refl))

pub returns-then-levels-eq0-clause-read : goal.returns-then-levels-eq0-clause-read
returns-then-levels-eq0-clause-read g c =
    let manner = g.M.ReadingManner.manner c.args.manner.now in
    let limit = c.args.left.now in
    let digest = in_digest c.args.source.now.default in
    let raw = c.args.source.now.raw.now in
    let all = items_met manner c.args.levels digest raw in
    let left = leaves_spent limit all limit c.in_ok-left.field-0 1 0 (leaves_all limit all 1 (items_met-none manner c.args.levels digest raw c.if-levels-eq0.true)) c.in_ok-left.ensures in
    record {
      read = leaves_read limit all c.in_ok-left.field-0 (read_levels manner c.args.levels digest raw) left
          ∙ read_levels-none manner c.args.levels digest raw c.if-levels-eq0.true
          ∙ c.in_ok-whole.ensures.read (Err recursion_limit) refl;
      spent = leaves_end limit all c.in_ok-left.field-0 left;
      places = c.in_ok-whole.ensures.places manner.whole_lines;
    }

-- the message itself is one too many
pub returns-in_err-left-clause-refused : goal.returns-in_err-left-clause-refused
returns-in_err-left-clause-refused g c =
    let manner = g.M.ReadingManner.manner c.args.manner.now in
    let p = err_from_is_err_and c.from_residual.result c.from_residual.ensures.1 in
    let reading = read_levels manner c.args.levels (in_digest c.args.source.now.default) c.args.source.now.raw.now in
    let own = items_met-own manner c.args.levels (in_digest c.args.source.now.default) c.args.source.now.raw.now in
    let all = items_met manner c.args.levels (in_digest c.args.source.now.default) c.args.source.now.raw.now in
    rw (p.1, p.2) (IsRefusalOrMemory-from c.in_err-left.field-0.0 (limited c.args.left.now all reading)
    (leaves_refused c.args.left.now all c.args.left.now 1 own.0 (less c.args.left.now 1) reading c.in_err-left.field-0.0 (leaves_all c.args.left.now all (1 + own.0) own.1) c.in_err-left.ensures))

pub returns-in_err-left-clause-no_alloc : goal.returns-in_err-left-clause-no_alloc
returns-in_err-left-clause-no_alloc g c = λ refuses some none refused.
    let manner = g.M.ReadingManner.manner c.args.manner.now in
    let p = err_from_is_err_and c.from_residual.result c.from_residual.ensures.1 in
    let reading = read_levels manner c.args.levels (in_digest c.args.source.now.default) c.args.source.now.raw.now in
    let own = items_met-own manner c.args.levels (in_digest c.args.source.now.default) c.args.source.now.raw.now in
    let all = items_met manner c.args.levels (in_digest c.args.source.now.default) c.args.source.now.raw.now in
    rw (p.1, p.2) (leaves_refused c.args.left.now all c.args.left.now 1 own.0 (less c.args.left.now 1) reading c.in_err-left.field-0.0 (leaves_all c.args.left.now all (1 + own.0) own.1) c.in_err-left.ensures)

-- its headers are too many
pub returns-in_err-check_headers-clause-refused : goal.returns-in_err-check_headers-clause-refused
returns-in_err-check_headers-clause-refused g c =
    let manner = g.M.ReadingManner.manner c.args.manner.now in
    let raw = c.args.source.now.raw.now in
    let p = err_from_is_err_and c.from_residual-in_err-check_headers.result c.from_residual-in_err-check_headers.ensures.1 in
    let some : 0 < c.args.levels = omega (arith, c.if-levels-eq0.false) in
    let reading = read_levels manner c.args.levels (in_digest c.args.source.now.default) raw in
    let all = items_met manner c.args.levels (in_digest c.args.source.now.default) raw in
    let headers = headers_met (read_block manner.lenient_headers raw) in
    let after = met_after_own manner c.args.levels (in_digest c.args.source.now.default) raw in
    let left = leaves_spent c.args.left.now all c.args.left.now c.in_ok-left.field-0 1 (headers + after) (leaves_all c.args.left.now all (1 + (headers + after)) (items_met-headers manner c.args.levels (in_digest c.args.source.now.default) raw some)) c.in_ok-left.ensures in
    rw (p.1, p.2) (IsRefusalOrMemory-from c.in_err-check_headers.field-0.0 (limited c.args.left.now all reading)
    (leaves_refused c.args.left.now all c.in_ok-left.field-0 headers after (tt {0}) reading c.in_err-check_headers.field-0.0 left c.in_err-check_headers.ensures))

pub returns-in_err-check_headers-clause-no_alloc : goal.returns-in_err-check_headers-clause-no_alloc
returns-in_err-check_headers-clause-no_alloc g c = λ refuses levels none refused.
    let manner = g.M.ReadingManner.manner c.args.manner.now in
    let raw = c.args.source.now.raw.now in
    let p = err_from_is_err_and c.from_residual-in_err-check_headers.result c.from_residual-in_err-check_headers.ensures.1 in
    let some : 0 < c.args.levels = omega (arith, c.if-levels-eq0.false) in
    let reading = read_levels manner c.args.levels (in_digest c.args.source.now.default) raw in
    let all = items_met manner c.args.levels (in_digest c.args.source.now.default) raw in
    let headers = headers_met (read_block manner.lenient_headers raw) in
    let after = met_after_own manner c.args.levels (in_digest c.args.source.now.default) raw in
    let left = leaves_spent c.args.left.now all c.args.left.now c.in_ok-left.field-0 1 (headers + after) (leaves_all c.args.left.now all (1 + (headers + after)) (items_met-headers manner c.args.levels (in_digest c.args.source.now.default) raw some)) c.in_ok-left.ensures in
    rw (p.1, p.2) (leaves_refused c.args.left.now all c.in_ok-left.field-0 headers after (tt {0}) reading c.in_err-check_headers.field-0.0 left c.in_err-check_headers.ensures)

-- one that is refused for its own headers
pub returns-in_err-whole-in-Err-clause-refused : goal.returns-in_err-whole-in-Err-clause-refused
returns-in_err-whole-in-Err-clause-refused g c =
    let manner = g.M.ReadingManner.manner c.args.manner.now in
    let raw = c.args.source.now.raw.now in
    let digest = in_digest c.args.source.now.default in
    let p = err_from_is_err_and c.from_residual-in_err-whole-in-Err.result c.from_residual-in_err-whole-in-Err.ensures.1 in
    let some : 0 < c.args.levels = omega (arith, c.if-levels-eq0.false) in
    let h : AnswersOrMemory header_list (Err c.in-Err.refusal) (read_block manner.lenient_headers raw) = subst (λ r. AnswersOrMemory header_list r (read_block manner.lenient_headers raw)) c.in-Err.is c.parse_block.ensures.read in
    let limit = c.args.left.now in
    let all = items_met manner c.args.levels digest raw in
    let whole = read_levels manner c.args.levels digest raw in
    rw (p.1, p.2) (answer_given manner raw (Err c.in_err-whole-in-Err.field-0.0) c.in-Err.refusal (read_block manner.lenient_headers raw) (limited limit all whole) h c.in_err-whole-in-Err.ensures.read
    (λ r refused. leaves_read limit all c.in_ok-left.field-0 whole (leaves_spent limit all limit c.in_ok-left.field-0 1 0 (leaves_all limit all 1 (items_met-refused manner c.args.levels digest raw r some refused)) c.in_ok-left.ensures)
    ∙ read_levels-step manner c.args.levels digest raw some
    ∙ ap (or_kept manner raw) (reading-refused manner c.args.levels digest raw r refused)))

pub returns-in_err-whole-in-Err-clause-no_alloc : goal.returns-in_err-whole-in-Err-clause-no_alloc
returns-in_err-whole-in-Err-clause-no_alloc g c = λ refuses some none refused.
    let manner = g.M.ReadingManner.manner c.args.manner.now in
    let raw = c.args.source.now.raw.now in
    let digest = in_digest c.args.source.now.default in
    let p = err_from_is_err_and c.from_residual-in_err-whole-in-Err.result c.from_residual-in_err-whole-in-Err.ensures.1 in
    let own = reading manner c.args.levels digest raw in
    let h : Answers header_list (Err c.in-Err.refusal) (read_block manner.lenient_headers raw) = subst (λ r. Answers header_list r (read_block manner.lenient_headers raw)) c.in-Err.is (c.parse_block.ensures.no_alloc none) in
    let limit = c.args.left.now in
    let all = items_met manner c.args.levels digest raw in
    let whole = read_levels manner c.args.levels digest raw in
    rw (p.1, p.2) (answer_refused (Err c.in_err-whole-in-Err.field-0.0) c.in-Err.refusal (read_block manner.lenient_headers raw) h
    (λ r refused. leaves_read limit all c.in_ok-left.field-0 whole (leaves_spent limit all limit c.in_ok-left.field-0 1 0 (leaves_all limit all 1 (items_met-refused manner c.args.levels digest raw r some refused)) c.in_ok-left.ensures)
    ∙ read_levels-step manner c.args.levels digest raw some)
    (c.in_err-whole-in-Err.ensures.no_alloc refuses own (IsRefusal-along c.in-Err.refusal (read_block manner.lenient_headers raw) own (reading-refused manner c.args.levels digest raw) h)))

pub returns-in-Err-clause-read : goal.returns-in-Err-clause-read
returns-in-Err-clause-read g c =
    let manner = g.M.ReadingManner.manner c.args.manner.now in
    let raw = c.args.source.now.raw.now in
    let digest = in_digest c.args.source.now.default in
    let some : 0 < c.args.levels = omega (arith, c.if-levels-eq0.false) in
    let h : AnswersOrMemory header_list (Err c.in-Err.refusal) (read_block manner.lenient_headers raw) = subst (λ r. AnswersOrMemory header_list r (read_block manner.lenient_headers raw)) c.in-Err.is c.parse_block.ensures.read in
    let limit = c.args.left.now in
    let all = items_met manner c.args.levels digest raw in
    let whole = read_levels manner c.args.levels digest raw in
    record {
      read = answer_given manner raw (Ok c.in_ok-whole-in-Err.whole) c.in-Err.refusal (read_block manner.lenient_headers raw) (limited limit all whole) h c.in_ok-whole-in-Err.ensures.read
          (λ r refused. leaves_read limit all c.in_ok-left.field-0 whole (leaves_spent limit all limit c.in_ok-left.field-0 1 0 (leaves_all limit all 1 (items_met-refused manner c.args.levels digest raw r some refused)) c.in_ok-left.ensures)
          ∙ read_levels-step manner c.args.levels digest raw some
          ∙ ap (or_kept manner raw) (reading-refused manner c.args.levels digest raw r refused));
      spent = ok_given manner raw (Ok c.in_ok-whole-in-Err.whole) c.in-Err.refusal (read_block manner.lenient_headers raw) h c.in_ok-whole-in-Err.ensures.read
          (λ r refused. leaves_end limit all c.in_ok-left.field-0 (leaves_spent limit all limit c.in_ok-left.field-0 1 0 (leaves_all limit all 1 (items_met-refused manner c.args.levels digest raw r some refused)) c.in_ok-left.ensures));
      places = c.in_ok-whole-in-Err.ensures.places manner.whole_lines;
    }

-- the headers that were read
block_read : (result : Result (Vec Header × ℕ) MailParseError) (found : Vec Header × ℕ) (given : Reads HeaderList) → result ≡ Ok found → AnswersOrMemory header_list result given
    → given ≡ Ok (record { headers = found.0.items; index = found.1 })
block_read result found given is h = subst (λ r. AnswersOrMemory header_list r given) is h

-- the headers are too many after all
pub returns-in_err-left-2-clause-refused : goal.returns-in_err-left-2-clause-refused
returns-in_err-left-2-clause-refused g c =
    let manner = g.M.ReadingManner.manner c.args.manner.now in
    let raw = c.args.source.now.raw.now in
    let p = err_from_is_err_and c.from_residual-in_err-left-2.result c.from_residual-in_err-left-2.ensures.1 in
    let some : 0 < c.args.levels = omega (arith, c.if-levels-eq0.false) in
    let reading = read_levels manner c.args.levels (in_digest c.args.source.now.default) raw in
    let all = items_met manner c.args.levels (in_digest c.args.source.now.default) raw in
    let headers = c.in-Ok.block.0.items in
    let many : c.len.result ≡ length headers = omega (arith, c.len.ensures, c.in-Ok.block.0.ok.0) in
    let after = met_after_own manner c.args.levels (in_digest c.args.source.now.default) raw in
    let read = block_read c.parse_block.result c.in-Ok.block (read_block manner.lenient_headers raw) c.in-Ok.is c.parse_block.ensures.read in
    let same : headers_met (read_block manner.lenient_headers raw) ≡ c.len.result = ap headers_met read ∙ sym many in
    let left = leaves_spent c.args.left.now all c.args.left.now c.in_ok-left.field-0 1 (c.len.result + after)
    (leaves_all c.args.left.now all (1 + (c.len.result + after)) (items_met-headers manner c.args.levels (in_digest c.args.source.now.default) raw some ∙ ap (λ n. 1 + (n + after)) same)) c.in_ok-left.ensures in
    rw (p.1, p.2) (IsRefusalOrMemory-from c.in_err-left-2.field-0.0 (limited c.args.left.now all reading)
    (leaves_refused c.args.left.now all c.in_ok-left.field-0 c.len.result after (less c.in_ok-left.field-0 c.len.result) reading c.in_err-left-2.field-0.0 left c.in_err-left-2.ensures))

-- one that has no parts
pub returns-in_default-clause-read : goal.returns-in_default-clause-read
returns-in_default-clause-read g c =
    let manner = g.M.ReadingManner.manner c.args.manner.now in
    let raw = c.args.source.now.raw.now in
    let digest = in_digest c.args.source.now.default in
    let headers = c.in-Ok.block.0.items in
    let body_offset = c.in-Ok.block.1 in
    let ctype = content_type c.in_ok-ctype.ctype in
    let some : 0 < c.args.levels = omega (arith, c.if-levels-eq0.false) in
    let type = sym c.in_ok-ctype.ensures in
    let nothing : None ≡ option_map (λ dash_boundary. 10 ∷ dash_boundary) (dash_boundary_of ctype) = sym (ap (option_map (λ (l : Vec ℕ). l.items)) c.in_default.is) ∙ c.in_ok-line_delimiter.ensures in
    let none = line_delimiter_none (dash_boundary_of ctype) nothing in
    let read = block_read c.parse_block.result c.in-Ok.block (read_block manner.lenient_headers raw) c.in-Ok.is c.parse_block.ensures.read in
    let many : c.len.result ≡ length headers = omega (arith, c.len.ensures, c.in-Ok.block.0.ok.0) in
    let limit = c.args.left.now in
    let all = items_met manner c.args.levels digest raw in
    let met : all ≡ 1 + (c.len.result + 0) = items_met-leaf manner c.args.levels digest raw headers body_offset ctype some read type none ∙ ap (λ n. 1 + (n + 0)) (sym many) in
    let left = leaves_two limit all c.in_ok-left.field-0 c.in_ok-left-2.field-0 c.len.result 0 met c.in_ok-left.ensures c.in_ok-left-2.ensures in
    let bounds = subst (λ r. IfOk r (λ found. (vec_len found.0 ≤ found.1) × (found.1 ≤ length raw))) c.in-Ok.is c.parse_block.ensures.bounds in
    let within : body_offset ≤ length raw = bounds.1 in
    record {
      read = leaves_read limit all c.in_ok-left-2.field-0 (read_levels manner c.args.levels digest raw) left
          ∙ read_levels-leaf manner c.args.levels digest raw headers body_offset ctype some read type none
          ∙ ap Ok (sym c.message_of-whole.ensures.read);
      spent = leaves_end limit all c.in_ok-left-2.field-0 left;
      places = c.message_of-whole.ensures.places
          ∙ placed_leaf manner.whole_lines c.args.source.now.offset raw headers body_offset ctype (slice_range raw body_offset (length raw)) within none
          ∙ ap (placements_as manner.whole_lines c.args.source.now.offset) (sym c.message_of-whole.ensures.read);
    }

pub cut_preamble-end-requires-clause-line_delimiter : goal.cut_preamble-end-requires-clause-line_delimiter
cut_preamble-end-requires-clause-line_delimiter g c =
    rw c.as_slice.ensures.value (IsLineDelimiter-of c.in-Some.line_delimiter.items (content_type c.in_ok-ctype.ctype) (made c.in_ok-line_delimiter.field-0 c.in-Some.line_delimiter _ c.in-Some.is c.in_ok-line_delimiter.ensures))

-- one that is split into parts
pub returns-clause-read : goal.returns-clause-read
returns-clause-read g c =
    let manner = g.M.ReadingManner.manner c.args.manner.now in
    let raw = c.args.source.now.raw.now in
    let headers = c.in-Ok.block.0.items in
    let body_offset = c.in-Ok.block.1 in
    let ctype = content_type c.in_ok-ctype.ctype in
    let line_delimiter = c.in-Some.line_delimiter.items in
    let whole = c.has_whole_lines-whole.result in
    let many : c.len.result ≡ length headers = omega (arith, c.len.ensures, c.in-Ok.block.0.ok.0) in
    let bounds = subst (λ r. IfOk r (λ found. (vec_len found.0 ≤ found.1) × (found.1 ≤ length raw))) c.in-Ok.is c.parse_block.ensures.bounds in
    let own : ℕ → Placement = λ end. record { whole = record { start = c.args.source.now.offset; end = c.args.source.now.offset + length raw }; body = record { start = c.args.source.now.offset + body_offset; end = c.args.source.now.offset + end } } in
    let ends : c.cut_preamble-end.result.0 ≡ preamble_end_as whole (drop 1 line_delimiter) raw body_offset = c.cut_preamble-end.ensures.end ∙ ap (λ (l : List ℕ). preamble_end_as whole (drop 1 l) raw body_offset) c.as_slice.ensures.value in
    record {
      headers = headers;
      index = body_offset;
      ctype = ctype;
      own = c.in_ok-left.field-0;
      some = omega (arith, c.if-levels-eq0.false);
      read = block_read c.parse_block.result c.in-Ok.block (read_block manner.lenient_headers raw) c.in-Ok.is c.parse_block.ensures.read;
      within = bounds.1;
      type = sym c.in_ok-ctype.ensures;
      delimiter = made c.in_ok-line_delimiter.field-0 c.in-Some.line_delimiter _ c.in-Some.is c.in_ok-line_delimiter.ensures;
      lines = c.has_whole_lines-whole.ensures;
      inner = c.parts_default-inner.ensures;
      first = c.cut_preamble-end.ensures.first ∙ ap (λ (l : List ℕ). first_part_as whole (drop 1 l) raw body_offset) c.as_slice.ensures.value;
      bounds = IfSome_then c.cut_preamble-end.result.1 c.cut_preamble-end.ensures.bounds.2 (λ x bounds. bounds.1);
      one = c.in_ok-left.ensures;
      more = subst (λ n. limited c.in_ok-left.field-0 n (Ok (less c.in_ok-left.field-0 n)) ≡ Ok c.in_ok-left-2.field-0) many c.in_ok-left-2.ensures;
      message = c.message_of-mail.ensures.read ∙ ap (λ n. tree (record { bytes = raw; block = take body_offset raw; headers = headers; ctype = ctype; body = slice_range raw body_offset n }) no_parts) ends;
      placement = placement_first c.message_of-mail.result (own c.cut_preamble-end.result.0) [] c.message_of-mail.ensures.places ∙ ap own ends;
    }
