-- The list so far, followed by the parts that are left, is the old list followed by the whole message.
use Rattle.std.proofs.Common.{◌≡◌, ◌++◌, map, drop}
use Rattle.mailparse.specs.Mail.{forest, trees_within, trees_in}
use Rattle.mailparse.specs.Views.{tree_of}
use Rattle.mailparse.proofs.mail.message.+push_parts.Given as goal

abbrev pub invariant-loop-part : goal.invariant-loop-part
invariant-loop-part l =
    map (λ m. tree_of m.now) l.found.items ++ trees_in (forest (map tree_of (drop l.part-index l.part-items)))
    ≡ map (λ m. tree_of m.now) l.fn.found.items ++ trees_within (tree_of l.mail)
