-- The findings of the bytes of a mail, by their names.
use Rattle.std.proofs.Common.{◌≡◌, ◌+◌, false, ℕ, suc, List, [], ◌∷◌, length, refl, None, inl, inr}
use Rattle.std.specs.Prelude.{◌↔◌, ◌⊎◌, Bool}
use Rattle.std.specs.List.{AllByRecursion}
use Rattle.mail_codec.specs.Charset.{Charsets}
use Rattle.mailparse.specs.Mail.{Forest, Node, Tree, tree, cut_of_as, root}
use Rattle.mailparse.specs.Placement.{placements, placements_in_as}
use Rattle.mailparse.specs.Ranges.{moved}
use Rattle.mail_read.specs.Files.{parts_with_paths, whole_path}
use Rattle.mail_read.specs.PartPlaces.{Place, placed}
use Rattle.mail_check.specs.Bytes.{first_offset, is_bare_line_feed, is_lone_return, is_nul, is_return_feed, mixed_line_end}
use Rattle.mail_check.specs.Findings.{Spot, byte_findings, findings, first_findings, message_findings, spot_in}
use Rattle.mail_check.specs.LineTests.{first_line, is_long_line}
use Rattle.mail_check.specs.Lines.{header_lines}
use Rattle.mail_check.specs.declared.names.Name.{Name}
use Rattle.mail_check.specs.declared.names.Name.TheVariants as name
use Rattle.mail_grammar.specs.LineEnds.{HasNoLoneReturn, HasNoNul, HasOneLineEnd, IsText}
use Rattle.mail_check_laws.specs.Named.{Lacks, is_line_name, is_lone_cr_name, is_mixed_name, is_nul_name}
use Rattle.mail_check.proofs.lemmas.Clean.{found_nowhere, not_both, not_later, nowhere_found}
use Rattle.mail_check_laws.proofs.lemmas.LineEnds.{bare_named, feed_named, lone_named, nul_named, text_is_plain}
use Rattle.mail_check_laws.proofs.lemmas.Lists.{asked, both_say, chain, first_says, free, lacks_both, second_says}
use Rattle.mail_check_laws.proofs.lemmas.Pieces.{block_free, block_names, first_place_says, frees, later_free, later_names, no_bytes}

-- ---- what each name says of the bytes

nul_none : (bytes : List ℕ) → first_offset (is_nul bytes) bytes ≡ None → HasNoNul bytes
nul_none bytes h = (nul_named bytes).0 (nowhere_found (is_nul bytes) bytes h)

none_nul : (bytes : List ℕ) → HasNoNul bytes → first_offset (is_nul bytes) bytes ≡ None
none_nul bytes h = found_nowhere (is_nul bytes) bytes ((nul_named bytes).1 h)

lone_none : (bytes : List ℕ) → first_offset (is_lone_return bytes) bytes ≡ None → HasNoLoneReturn bytes
lone_none bytes h = (lone_named bytes).0 (nowhere_found (is_lone_return bytes) bytes h)

none_lone : (bytes : List ℕ) → HasNoLoneReturn bytes → first_offset (is_lone_return bytes) bytes ≡ None
none_lone bytes h = found_nowhere (is_lone_return bytes) bytes ((lone_named bytes).1 h)

mixed_none : (bytes : List ℕ) → mixed_line_end bytes ≡ None → HasOneLineEnd bytes
mixed_none bytes h = elim (not_both (first_offset (is_return_feed bytes) bytes) (first_offset (is_bare_line_feed bytes) bytes) h) [
  | inl e ↦ inl ((feed_named bytes).0 (nowhere_found (is_return_feed bytes) bytes e))
  | inr e ↦ inr ((bare_named bytes).0 (nowhere_found (is_bare_line_feed bytes) bytes e))
]

none_mixed : (bytes : List ℕ) → HasOneLineEnd bytes → mixed_line_end bytes ≡ None
none_mixed bytes h =
    let either : (first_offset (is_return_feed bytes) bytes ≡ None) ⊎ (first_offset (is_bare_line_feed bytes) bytes ≡ None) = elim h [
      | inl e ↦ inl (found_nowhere (is_return_feed bytes) bytes ((feed_named bytes).1 e))
      | inr e ↦ inr (found_nowhere (is_bare_line_feed bytes) bytes ((bare_named bytes).1 e))
    ] in
    not_later (first_offset (is_return_feed bytes) bytes) (first_offset (is_bare_line_feed bytes) bytes) either

-- ---- what a message has of these names

-- some names of bytes, and no others
module _ (known : Charsets) (test : Name → Bool) (others : AllByRecursion (λ n. test n ≡ false) (name.LongLine ∷ name.Many ∷ []))
    (block : AllByRecursion (λ n. test n ≡ false) block_names) (later : AllByRecursion (λ n. test n ≡ false) later_names)
    (S : List ℕ → Type 0) (says : (spot : Spot) (bytes : List ℕ) → Lacks test (byte_findings spot bytes) ↔ S bytes) where
  first_named : (place : Place) → Lacks test (message_findings known 0 place) ↔ S (root place.part).bytes
  first_named place =
      let spot = spot_in place 0 1 in
      let bytes = (root place.part).bytes in
      first_says test _ _ (first_says test _ _ (says spot bytes) (free test spot name.LongLine (first_line is_long_line bytes) others.0))
      (later_free known test later 0 place (block_free known test block 0 place (header_lines (root place.part))) others.1.0)

  not_first : (number : ℕ) (place : Place) → Lacks test (message_findings known (suc number) place)
  not_first number place =
      lacks_both test _ _ (no_bytes known test number (first_findings (spot_in place 0 1) (root place.part).bytes))
      (later_free known test later (suc number) place (block_free known test block (suc number) place (header_lines (root place.part)))
      others.1.0)

  named : (t : Tree) → Lacks test (findings known t (placements 0 t)) ↔ S (root t).bytes
  unfolding findings
  named (tree node parts) =
      first_place_says known test (first_place_of node parts) (later_places node parts) (first_named (first_place_of node parts)) not_first
    where
      -- the place of a mail itself, and those after it
      first_place_of : Node → Forest → Place
      first_place_of node parts = record {
        path = whole_path (tree node parts);
        part = tree node parts;
        placement = record {
          whole = record { start = 0; end = 0 + length node.bytes };
          body = moved 0 (cut_of_as false node.ctype node.bytes (length node.block)).body;
        };
      }

      later_places : Node → Forest → List Place
      later_places node parts =
          placed (parts_with_paths (whole_path (tree node parts)) 1 parts)
          (placements_in_as false 0 (cut_of_as false node.ctype node.bytes (length node.block)).parts parts)

nul_says : (spot : Spot) (bytes : List ℕ) → Lacks is_nul_name (byte_findings spot bytes) ↔ HasNoNul bytes
nul_says spot bytes =
    let T = is_nul_name in
    chain (first_says T _ _ (asked T spot name.Nul (first_offset (is_nul bytes) bytes) refl)
    (lacks_both T _ _ (free T spot name.LoneCr (first_offset (is_lone_return bytes) bytes) refl)
    (free T spot name.MixedLineEnds (mixed_line_end bytes) refl))) (nul_none bytes, none_nul bytes)

lone_says : (spot : Spot) (bytes : List ℕ) → Lacks is_lone_cr_name (byte_findings spot bytes) ↔ HasNoLoneReturn bytes
lone_says spot bytes =
    let T = is_lone_cr_name in
    chain (second_says T _ _ (free T spot name.Nul (first_offset (is_nul bytes) bytes) refl)
    (first_says T _ _ (asked T spot name.LoneCr (first_offset (is_lone_return bytes) bytes) refl)
    (free T spot name.MixedLineEnds (mixed_line_end bytes) refl))) (lone_none bytes, none_lone bytes)

mixed_says : (spot : Spot) (bytes : List ℕ) → Lacks is_mixed_name (byte_findings spot bytes) ↔ HasOneLineEnd bytes
mixed_says spot bytes =
    let T = is_mixed_name in
    chain (second_says T _ _ (free T spot name.Nul (first_offset (is_nul bytes) bytes) refl)
    (second_says T _ _ (free T spot name.LoneCr (first_offset (is_lone_return bytes) bytes) refl)
    (asked T spot name.MixedLineEnds (mixed_line_end bytes) refl))) (mixed_none bytes, none_mixed bytes)

-- all three
text_says : (spot : Spot) (bytes : List ℕ) → Lacks is_line_name (byte_findings spot bytes) ↔ IsText bytes
text_says spot bytes =
    let T = is_line_name in
    chain (both_say T _ _ (asked T spot name.Nul (first_offset (is_nul bytes) bytes) refl)
    (both_say T _ _ (asked T spot name.LoneCr (first_offset (is_lone_return bytes) bytes) refl)
    (asked T spot name.MixedLineEnds (mixed_line_end bytes) refl))) (
      λ h. (text_is_plain bytes).0 (record {
        no_nul = nowhere_found (is_nul bytes) bytes h.0;
        no_lone_return = nowhere_found (is_lone_return bytes) bytes h.1.0;
        alike = elim (not_both (first_offset (is_return_feed bytes) bytes) (first_offset (is_bare_line_feed bytes) bytes) h.1.1) [
          | inl e ↦ inl (nowhere_found (is_return_feed bytes) bytes e)
          | inr e ↦ inr (nowhere_found (is_bare_line_feed bytes) bytes e)
        ];
      }),
      λ is.
          let plain = (text_is_plain bytes).1 is in
          let either : (first_offset (is_return_feed bytes) bytes ≡ None) ⊎ (first_offset (is_bare_line_feed bytes) bytes ≡ None) = elim plain.alike [
            | inl e ↦ inl (found_nowhere (is_return_feed bytes) bytes e)
            | inr e ↦ inr (found_nowhere (is_bare_line_feed bytes) bytes e)
          ] in (
            found_nowhere (is_nul bytes) bytes plain.no_nul,
            (
              found_nowhere (is_lone_return bytes) bytes plain.no_lone_return,
              not_later (first_offset (is_return_feed bytes) bytes) (first_offset (is_bare_line_feed bytes) bytes) either,
            ),
          ),
    )

-- ---- of a mail

pub nul_strict : (known : Charsets) (t : Tree) → Lacks is_nul_name (findings known t (placements 0 t)) ↔ HasNoNul (root t).bytes
nul_strict known =
    let T = is_nul_name in
    named known T (frees known T (name.LongLine ∷ name.Many ∷ []) refl) (frees known T block_names refl)
    (frees known T later_names refl) HasNoNul nul_says

pub lone_cr_strict : (known : Charsets) (t : Tree) → Lacks is_lone_cr_name (findings known t (placements 0 t)) ↔ HasNoLoneReturn (root t).bytes
lone_cr_strict known =
    let T = is_lone_cr_name in
    named known T (frees known T (name.LongLine ∷ name.Many ∷ []) refl) (frees known T block_names refl)
    (frees known T later_names refl) HasNoLoneReturn lone_says

pub mixed_strict : (known : Charsets) (t : Tree) → Lacks is_mixed_name (findings known t (placements 0 t)) ↔ HasOneLineEnd (root t).bytes
mixed_strict known =
    let T = is_mixed_name in
    named known T (frees known T (name.LongLine ∷ name.Many ∷ []) refl) (frees known T block_names refl)
    (frees known T later_names refl) HasOneLineEnd mixed_says

module _ (known : Charsets) where
  abbrev T : Name → Bool
  T = is_line_name

  pub text_named : (place : Place) → Lacks is_line_name (message_findings known 0 place) ↔ IsText (root place.part).bytes
  text_named =
      first_named known T (frees known T (name.LongLine ∷ name.Many ∷ []) refl) (frees known T block_names refl)
      (frees known T later_names refl) IsText text_says

  pub no_text_named : (number : ℕ) (place : Place) → Lacks is_line_name (message_findings known (suc number) place)
  no_text_named =
      not_first known T (frees known T (name.LongLine ∷ name.Many ∷ []) refl) (frees known T block_names refl)
      (frees known T later_names refl) IsText text_says

  pub lines_strict : (t : Tree) → Lacks is_line_name (findings known t (placements 0 t)) ↔ IsText (root t).bytes
  lines_strict =
      named known T (frees known T (name.LongLine ∷ name.Many ∷ []) refl) (frees known T block_names refl)
      (frees known T later_names refl) IsText text_says

-- what each of these names says, and all of them
pub ruleset line_names = (nul_strict, lone_cr_strict, mixed_strict, lines_strict)
