use Rattle.std.proofs.Common.{◌∙◌, ◌++◌, ap, arith, sym, eqb-true, string_bytes}
use Rattle.std.proofs.lemmas.List.{take_rest}
use Rattle.std.proofs.lemmas.Str.{IsUtf8-from_ascii}
use Rattle.mail_codec.specs.Front.{text_by}
use Rattle.mail_charsets.specs.Front.{front_by}
use Rattle.mail_codec.proofs.lemmas.Front.{some_left, text_done}
use Rattle.mail_charsets.proofs.lemmas.Front.{ascii_pushed, fewer_left, fronts_pushed}
use Rattle.mail_charsets.proofs.encoded.decode.Goals as goal

pub push_utf8-requires : goal.push_utf8-requires
push_utf8-requires g c = IsUtf8-from_ascii _ c.ascii_blocks_length-run.ensures.ascii

pub rest-preserved-then-run-gt0 : goal.rest-preserved-then-run-gt0
rest-preserved-then-run-gt0 g c =
    ap (λ xs. string_bytes c.push_utf8.new.text ++ text_by (front_by (g.E.Encoded.long c.args.encoding.now) (g.E.Encoded.single c.args.encoding.now) (g.E.Encoded.pairs c.args.encoding.now)) xs)
    (take_rest c.rest.rest.now c.ascii_blocks_length-run.result)
    ∙ ascii_pushed (g.E.Encoded.long c.args.encoding.now) (g.E.Encoded.single c.args.encoding.now) (g.E.Encoded.pairs c.args.encoding.now) c.ascii_blocks_length-run.result c.rest.rest.now _ _
    c.ascii_blocks_length-run.ensures.ascii c.in_ok-push_utf8.ensures
    ∙ c.rest.invariant

pub push_utf8-requires-else-run-gt0 : goal.push_utf8-requires-else-run-gt0
push_utf8-requires-else-run-gt0 g c = c.encode_fronts-taken.ensures.utf8

pub rest-preserved : goal.rest-preserved
rest-preserved g c =
    ap (λ xs. string_bytes c.push_utf8-else-run-gt0.new.text ++ text_by (front_by (g.E.Encoded.long c.args.encoding.now) (g.E.Encoded.single c.args.encoding.now) (g.E.Encoded.pairs c.args.encoding.now)) xs)
    (take_rest c.rest.rest.now c.encode_fronts-taken.result.0)
    ∙ fronts_pushed (front_by (g.E.Encoded.long c.args.encoding.now) (g.E.Encoded.single c.args.encoding.now) (g.E.Encoded.pairs c.args.encoding.now)) c.rest.rest.now _ _ _ c.encode_fronts-taken.result.0
    c.encode_fronts-taken.ensures.written c.in_ok-push_utf8-2.ensures
    ∙ c.rest.invariant

pub returns : goal.returns
returns g c =
    text_done (front_by (g.E.Encoded.long c.args.encoding.now) (g.E.Encoded.single c.args.encoding.now) (g.E.Encoded.pairs c.args.encoding.now)) _ c.rest.rest.now _ (eqb-true _ _ (sym c.rest-test.ensures)) c.rest.invariant

pub rest-init : goal.rest-init
rest-init g c =
    ap (λ made. made ++ text_by (front_by (g.E.Encoded.long c.args.encoding.now) (g.E.Encoded.single c.args.encoding.now) (g.E.Encoded.pairs c.args.encoding.now)) c.args.bytes.now) c.in_ok-text.ensures.bytes

pub rest-smaller-then-run-gt0 : goal.rest-smaller-then-run-gt0
rest-smaller-then-run-gt0 g c = fewer_left c.rest.rest.now c.ascii_blocks_length-run.result c.if-run-gt0.true (some_left _ (sym c.rest-test.ensures))

pub rest-smaller : goal.rest-smaller
rest-smaller g c = fewer_left c.rest.rest.now c.encode_fronts-taken.result.0 c.encode_fronts-taken.ensures.takes_some (some_left _ (sym c.rest-test.ensures))

pub encode_fronts-taken-requires-clause-capacity : goal.encode_fronts-taken-requires-clause-capacity
encode_fronts-taken-requires-clause-capacity g c = omega (arith, c.if-run-gt0.array_long)

pub encode_fronts-taken-requires-clause-some : goal.encode_fronts-taken-requires-clause-some
encode_fronts-taken-requires-clause-some g c = some_left _ (sym c.rest-test.ensures)
