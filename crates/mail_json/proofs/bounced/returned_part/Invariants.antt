-- The first such part of those that are left is the first of all, and what is left begins with the next one.
use Rattle.std.proofs.Common.{◌≡◌, Bool, drop, map}
use Rattle.std.specs.List.{AllByRecursion}
use Rattle.mailparse.specs.Mail.{forest, trees_in}
use Rattle.mailparse.specs.Views.{tree_of}
use Rattle.mail_data.specs.Bounce.{first_part, has_original, report_part}
use Rattle.mail_parts.specs.DecodedViews.{IsDecoded, decoded_tree}
use Rattle.mail_json.proofs.bounced.returned_part.Given as goal

abbrev pub invariant-loop-part : goal.invariant-loop-part
invariant-loop-part l = record {
  left : map decoded_tree l.rest ≡ trees_in (forest (map tree_of (drop l.part-index l.part-items)));
  found : first_part has_original (forest (map tree_of (drop l.part-index l.part-items))) ≡ report_part has_original (tree_of l.mail);
  decoded : (decodes : Bool) → AllByRecursion (IsDecoded decodes) l.parts → AllByRecursion (IsDecoded decodes) l.rest;
}
