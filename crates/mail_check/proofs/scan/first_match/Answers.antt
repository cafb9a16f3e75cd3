use Rattle.std.proofs.Common.{◌≡◌, ◌∙◌, ◌+◌, ℕ, List, Option, Some, None, sym, ap, arith}
use Rattle.mail_codec.specs.Places.{byte_place}
use Rattle.mail_check.specs.private.Patterns.{matches_at}
use Rattle.mail_check.proofs.lemmas.Bytes.{next_found, next_none, offset-found, offset-none, one_more}
use Rattle.mail_check.proofs.scan.first_match.Goals as goal

-- the result of the search for the byte
fed : (bytes : List ℕ) (a x : ℕ) (r s : Option ℕ) → r ≡ byte_place bytes a → r ≡ s → a ≡ x → s ≡ byte_place bytes x
fed bytes a x r s e is byte = sym is ∙ e ∙ ap (byte_place bytes) byte

pub returns-then-matches_at : goal.returns-then-matches_at
returns-then-matches_at c =
    let found = fed _ _ _ c.find_byte.result (Some c.in-Some.next) c.find_byte.ensures c.in-Some.is c.lead.ensures in
    let next = next_found c.args.pattern c.args.bytes.now c.places.from c.places.invariant.within c.places.invariant.none c.in-Some.next found in
    record { value = offset-found (matches_at c.args.pattern c.args.bytes.now) c.args.bytes.now (c.places.from + c.in-Some.next) next.0 next.1 (sym c.matches_at.ensures ∙ c.if-matches_at.true) }

pub places-preserved : goal.places-preserved
places-preserved c =
    let found = fed _ _ _ c.find_byte.result (Some c.in-Some.next) c.find_byte.ensures c.in-Some.is c.lead.ensures in
    let next = next_found c.args.pattern c.args.bytes.now c.places.from c.places.invariant.within c.places.invariant.none c.in-Some.next found in
    let low = next.0 in
    record {
      within = omega arith;
      none = one_more (matches_at c.args.pattern c.args.bytes.now) (c.places.from + c.in-Some.next) next.1 (sym c.matches_at.ensures ∙ c.if-matches_at.false);
    }

pub returns : goal.returns
returns c =
    let none = fed _ _ _ c.find_byte.result None c.find_byte.ensures c.in_default.is c.lead.ensures in
    record { value = offset-none (matches_at c.args.pattern c.args.bytes.now) c.args.bytes.now (next_none c.args.pattern c.args.bytes.now c.places.from c.places.invariant.within c.places.invariant.none none) }
