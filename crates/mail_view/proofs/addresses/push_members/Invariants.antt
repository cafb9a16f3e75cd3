-- The lines of the members so far.
use Rattle.std.proofs.Common.{◌≡◌, ◌++◌, map, take}
use Rattle.std.specs.String.{string_bytes}
use Rattle.mail_address.specs.AddressViews.{member_view}
use Rattle.mail_view.specs.Addresses.{single_text}
use Rattle.mail_view.specs.Line.{line, lines_text}
use Rattle.mail_view.proofs.addresses.push_members.Given as goal

abbrev pub invariant-loop-member : goal.invariant-loop-member
invariant-loop-member g l =
    string_bytes l.shown ≡ string_bytes l.fn.shown
    ++ lines_text (map (line l.prefix) (map (single_text (g.K.KnownCharsets.known l.known)) (map member_view (take l.member-index l.members))))
