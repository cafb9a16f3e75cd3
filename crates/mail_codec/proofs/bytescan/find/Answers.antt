use Rattle.std.proofs.Common.{refl, sym, ◌∙◌, arith}
use Rattle.std.proofs.lemmas.List.{take_rest}
use Rattle.mail_codec.specs.Places.{has_prefix}
use Rattle.mail_codec.proofs.lemmas.Places.{PassedTo-more}
use Rattle.mail_codec.proofs.lemmas.PlacesSearches.{candidate, no_candidate, text_absent, text_found}
use Rattle.mail_codec.proofs.bytescan.find.Goals as goal

pub prove-unreachable-requires : goal.prove-unreachable-requires
prove-unreachable-requires c =
    let at = candidate c.args.needle.now c.args.haystack.now _ _ _ c.candidates.at c.in_ok-first.ensures.value c.candidates.invariant (take_rest c.args.haystack.now c.candidates.at) _ c.in-Some.ensures in
    omega (arith, at.1, c.if-prove.true)

pub returns-then-starts_with : goal.returns-then-starts_with
returns-then-starts_with c =
    let at = candidate c.args.needle.now c.args.haystack.now _ _ _ c.candidates.at c.in_ok-first.ensures.value c.candidates.invariant (take_rest c.args.haystack.now c.candidates.at) _ c.in-Some.ensures in
    text_found c.args.needle.now c.args.haystack.now _ _ c.in_ok-first.ensures.value at.0 at.1 (rw take_rest at (sym c.starts_with.ensures.value ∙ c.if-starts_with.true))

pub candidates-preserved : goal.candidates-preserved
candidates-preserved c =
    let at = candidate c.args.needle.now c.args.haystack.now _ _ _ c.candidates.at c.in_ok-first.ensures.value c.candidates.invariant (take_rest c.args.haystack.now c.candidates.at) _ c.in-Some.ensures in
    PassedTo-more (has_prefix c.args.needle.now) c.args.haystack.now _ _ at.0 at.1 (rw take_rest at (sym c.starts_with.ensures.value ∙ c.if-starts_with.false))

pub returns : goal.returns
returns c =
    text_absent c.args.needle.now c.args.haystack.now _ c.in_ok-first.ensures.value
    (no_candidate c.args.needle.now c.args.haystack.now _ _ _ c.candidates.at c.in_ok-first.ensures.value c.candidates.invariant (take_rest c.args.haystack.now c.candidates.at) refl c.in_default.ensures)
