-- After the parts that are left, the same remains as after the whole message.
use Rattle.std.proofs.Common.{◌≡◌, drop, length, map}
use Rattle.mailparse.specs.Mail.{forest, trees_in, trees_within}
use Rattle.mailparse.specs.Views.{tree_of}
use Rattle.mail_json.proofs.bounced.«+after_part».Given as goal

abbrev pub invariant-loop-own : goal.invariant-loop-own
invariant-loop-own l =
    drop (length (trees_in (forest (map tree_of (drop l.own-index l.own-items))))) l.rest ≡ drop (length (trees_within (tree_of l.part))) l.parts
