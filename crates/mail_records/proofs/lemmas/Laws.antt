-- The records of a mail and its line of JSON are of the same messages.
use Rattle.std.proofs.Common.{◌≡◌, ℕ, suc, ◌+◌, Bool, Some, Ok, List, [], ◌∷◌, ◌++◌, length, map, refl, sym, ap, ◌∙◌, arith, length-append}
use Rattle.std.proofs.lemmas.List.{length-map, map-append}
use Rattle.std.specs.Prelude.{codes}
use Rattle.mail_codec.specs.Charset.{Charsets}
use Rattle.mailparse.specs.Header.{Header}
use Rattle.mailparse.specs.Map.{first_with_key}
use Rattle.mailparse.specs.Mail.{Forest, Node, Tree, no_parts, part_and, tree, trees_in, trees_within}
use Rattle.mailparse.specs.Placement.{Placement}
use Rattle.mail_read.specs.lenient.FileNames.{lenient_file_name, lenient_name_in}
use Rattle.mail_read.specs.Files.{parts_with_paths, path_under, whole_path, with_paths}
use Rattle.mail_read.specs.PartPlaces.{placed, places}
use Rattle.mail_read.specs.Reading.{mail_placements}
use Rattle.mail_read.specs.lenient.Manner.{lenient_type_of}
use Rattle.mail_records.specs.Laws.{of_item, of_place}
use Rattle.mail_records.specs.Ranges as read
use Rattle.mail_records.specs.Records.{Family, families, families_in, items_of, none}

-- the messages with paths are those of the tree
mutual
  paths-trees : (path : List ℕ) (t : Tree) → map (λ p. p.1) (with_paths path t) ≡ trees_within t
  paths-trees path (tree node parts) = ap (λ (ts : List Tree). tree node parts ∷ ts) (paths-trees_in path 1 parts)

  paths-trees_in : (path : List ℕ) (number : ℕ) (parts : Forest) → map (λ p. p.1) (parts_with_paths path number parts) ≡ trees_in parts
  paths-trees_in path number no_parts = refl
  paths-trees_in path number (part_and t ts) =
      map-append (λ (p : List ℕ × Tree). p.1) (with_paths (path_under path number) t) (parts_with_paths path (suc number) ts)
      ∙ ap (λ (xs : List Tree). xs ++ map (λ p. p.1) (parts_with_paths path (suc number) ts)) (paths-trees (path_under path number) t)
      ∙ ap (λ (xs : List Tree). trees_within t ++ xs) (paths-trees_in path (suc number) ts)

-- each has a family
mutual
  length-families : (index parent level : ℕ) (t : Tree) → length (families index parent level t) ≡ length (trees_within t)
  length-families index parent level (tree node parts) = ap suc (length-families_in (suc index) index (suc level) parts)

  length-families_in : (index parent level : ℕ) (parts : Forest) → length (families_in index parent level parts) ≡ length (trees_in parts)
  length-families_in index parent level no_parts = refl
  length-families_in index parent level (part_and t ts) =
      length-append (families index parent level t) (families_in (index + length (trees_within t)) parent level ts)
      ∙ ap (λ n. n + length (families_in (index + length (trees_within t)) parent level ts)) (length-families index parent level t)
      ∙ ap (λ n. length (trees_within t) + n) (length-families_in (index + length (trees_within t)) parent level ts)
      ∙ sym (length-append (trees_within t) (trees_in ts))

-- messages with ranges, with or without families and paths
same-messages : (messages : List (List ℕ × Tree)) (ranges : List Placement) (have : List Family) → length have ≡ length messages
    → map of_item (items_of (map (λ p. p.1) messages) ranges have) ≡ map of_place (placed messages ranges)
same-messages [] ranges have same = refl
same-messages (m ∷ messages) [] have same = refl
same-messages (m ∷ messages) (range ∷ ranges) [] same = absurd (omega (arith, same))
same-messages (m ∷ messages) (range ∷ ranges) (family ∷ have) same =
    ap (λ (xs : List (Tree × Placement)). (m.1, range) ∷ xs) (same-messages messages ranges have (omega (arith, same)))

pub items_places : (mail : Tree) → map of_item (items_of (trees_within mail) (mail_placements mail) (families 0 none 0 mail)) ≡ map of_place (places mail (mail_placements mail))
items_places mail =
    let messages = with_paths (whole_path mail) mail in
    let trees = paths-trees (whole_path mail) mail in
    let size : length (families 0 none 0 mail) ≡ length messages = length-families 0 none 0 mail ∙ ap (λ (ts : List Tree). length ts) (sym trees) ∙ length-map messages (λ (p : List ℕ × Tree). p.1) in
    ap (λ (ts : List Tree). map of_item (items_of ts (mail_placements mail) (families 0 none 0 mail))) (sym trees)
    ∙ same-messages messages (mail_placements mail) (families 0 none 0 mail) size

-- the file name that is read of the first headers of a message is that of the message
pub names_agree : (known : Charsets) (node : Node) (d t : Header) → first_with_key (codes "Content-Disposition") node.headers ≡ Some d
    → first_with_key (codes "Content-Type") node.headers ≡ Some t → read.file_name known d.value t.value ≡ Ok (lenient_file_name known node)
unfolding read.file_name lenient_name_in lenient_file_name
names_agree known node d t disposed typed = rw (disposed, typed) refl

-- the type that is read of its first `Content-Type` is that which the message is read by
pub types_agree : (known : Charsets) (in_digest : Bool) (headers : List Header) (t : Header) → first_with_key (codes "Content-Type") headers ≡ Some t
    → read.type_of known t.value ≡ lenient_type_of known in_digest headers
unfolding lenient_type_of
types_agree known in_digest headers t typed = rw typed refl

-- records and JSON
pub ruleset json_agrees = (items_places, names_agree, types_agree)
