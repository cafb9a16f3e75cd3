-- Lemmas on findings.
use Rattle.std.proofs.Common.{◌≡◌, ℕ, false, true, List, [], ◌++◌, Option, Some, None, refl}
use Rattle.std.specs.Prelude.{is_some}
use Rattle.mail_codec.specs.Ascii.{carriage_return}
use Rattle.mail_codec.specs.Places.{either_place}
use Rattle.mail_check.specs.Bytes.{first_offset, is_bare_line_feed, is_lone_return, is_nul, is_return_feed, later, mixed_line_end}
use Rattle.mail_check.specs.Findings.{Spot, byte_findings, listed}
use Rattle.mail_check.specs.declared.names.Name.TheVariants as name
use Rattle.mail_check.specs.private.Patterns.{has_even_ends}
use Rattle.mail_check.proofs.lemmas.LineEnds.{even_feeds, even_returns}
use Rattle.mail_check.proofs.lemmas.Patterns.{no_ends}

-- bytes without a NUL and a CR have none of the findings of line ends
pub no_byte_findings : (spot : Spot) (bytes : List ℕ) → is_some (either_place bytes 0 carriage_return) ≡ false → [] ≡ byte_findings spot bytes
no_byte_findings spot bytes h =
    let none = no_ends bytes h in
    by_offsets (first_offset (is_nul bytes) bytes) (first_offset (is_lone_return bytes) bytes) (first_offset (is_return_feed bytes) bytes) none.0 none.1 none.2
  where
    by_offsets : (nul lone returned : Option ℕ) → None ≡ nul → None ≡ lone → None ≡ returned
        → [] ≡ listed spot name.Nul nul ++ (listed spot name.LoneCr lone ++ listed spot name.MixedLineEnds (later returned (first_offset (is_bare_line_feed bytes) bytes)))
    by_offsets None None None a b c = refl
    by_offsets (Some p) cr returned a b c = absurd (cc)
    by_offsets None (Some p) returned a b c = absurd (cc)
    by_offsets None None (Some p) a b c = absurd (cc)

-- bytes whose line ends are all a CR and a LF have none of the findings after the first
pub no_end_findings : (spot : Spot) (bytes : List ℕ) → has_even_ends bytes ≡ true
    → [] ≡ listed spot name.LoneCr (first_offset (is_lone_return bytes) bytes) ++ listed spot name.MixedLineEnds (mixed_line_end bytes)
no_end_findings spot bytes h =
    by_offsets (first_offset (is_lone_return bytes) bytes) (first_offset (is_return_feed bytes) bytes) (first_offset (is_bare_line_feed bytes) bytes) (even_returns bytes h) (even_feeds bytes h)
  where
    by_offsets : (lone returned bare : Option ℕ) → None ≡ lone → None ≡ bare → [] ≡ listed spot name.LoneCr lone ++ listed spot name.MixedLineEnds (later returned bare)
    by_offsets None None None a b = refl
    by_offsets None (Some p) None a b = refl
    by_offsets (Some p) returned bare a b = absurd (cc)
    by_offsets None returned (Some p) a b = absurd (cc)
