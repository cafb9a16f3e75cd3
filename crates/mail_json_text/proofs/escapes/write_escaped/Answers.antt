use Rattle.std.proofs.Common.{ℕ, ◌<◌, ◌+◌, ◌-◌, ◌∙◌, length, take, drop, sym, ap, arith}
use Rattle.std.proofs.lemmas.List.{length-drop, take_rest}
use Rattle.mail_codec.specs.Places.{begins, place}
use Rattle.mail_codec.proofs.lemmas.PlacesSearches.{place_none, place_some}
use Rattle.mail_codec.specs.Escapes.{may_need_escape}
use Rattle.mail_json_text.specs.JsonText.{first_text, more_bytes}
use Rattle.mail_json_text.proofs.lemmas.Escaped.{wrote_first, writes_last}
use Rattle.mail_json_text.proofs.escapes.write_escaped.Goals as goal

pub runs-preserved : goal.runs-preserved
runs-preserved g c =
    let bytes = c.args.bytes.now in
    let at = c.runs.at in
    let p = c.in-Some.passed in
    let found = place_some (begins may_need_escape) (drop at bytes) p (c.in-Some.ensures ∙ ap (place (begins may_need_escape)) (take_rest bytes at)) in
    let below : at + p < length bytes = omega (arith, found.0, found.1, length-drop at bytes) in
    let rest = take_rest bytes (at + p) in
    record {
      within = omega (arith, c.more_bytes.ensures.bounds, ap length rest, length-drop (at + p) bytes, below);
      wrote = wrote_first _ _ _ _ bytes at p c.more_bytes.result _ _ below found.0 (ap (λ (k : ℕ). take k (drop at bytes)) {x = at + p - at} {y = p} (omega arith))
          (ap first_text rest) (c.more_bytes.ensures.value ∙ ap more_bytes rest) c.runs.invariant.wrote c.in_ok-write_bytes.ensures c.in_ok-write_first.ensures;
    }

pub returns : goal.returns
returns g c =
    let bytes = c.args.bytes.now in
    let at = c.runs.at in
    let none = place_none (begins may_need_escape) (drop at bytes) (c.in_default.ensures ∙ ap (place (begins may_need_escape)) (take_rest bytes at)) in
    writes_last _ _ _ c.write_bytes-2.result bytes at _ (sym none) (take_rest bytes at) c.runs.invariant.wrote c.write_bytes-2.ensures
