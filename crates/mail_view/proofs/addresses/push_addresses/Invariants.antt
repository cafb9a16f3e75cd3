-- The lines of the elements so far.
use Rattle.std.proofs.Common.{◌≡◌, ◌++◌, map, take}
use Rattle.std.specs.List.{flat_map}
use Rattle.std.specs.String.{string_bytes}
use Rattle.mail_address.specs.AddressViews.{element_view}
use Rattle.mail_view.specs.Addresses.{element_lines}
use Rattle.mail_view.specs.Line.{lines_text}
use Rattle.mail_view.proofs.addresses.push_addresses.Given as goal

abbrev pub invariant-loop-element : goal.invariant-loop-element
invariant-loop-element g l =
    string_bytes l.shown ≡ string_bytes l.fn.shown
    ++ lines_text (flat_map (element_lines (g.K.KnownCharsets.known l.known) l.prefix) (map element_view (take l.element-index l.element-items)))
