-- What was found is what the entries so far hold.
use Rattle.std.proofs.Common.{◌≡◌, map}
use Rattle.mailparse.specs.Pairs.{text_at}
use Rattle.mailparse.specs.private.ExtendedValues.{extended_entries, extended_view}
use Rattle.mailparse.proofs.lemmas.ExtendedValues.{shown_view}
use Rattle.mailparse.proofs.parameters.extended_values.names.extended_names.Given as goal

abbrev pub invariant-loop-key : goal.invariant-loop-key
invariant-loop-key g l = map (extended_view g.K.Decoder.Decode.text) l.found.items ≡ extended_entries (g.K.KnownCharsets.known l.known) (text_at l.pairs) (map shown_view l.yielded)
